-- Rows that give entries, the first that gives none, and the faults of the entries.
use Rattle.std.proofs.Common.{◌≡◌, ◌<◌, ◌≤◌, ◌+◌, ◌∙◌, ◌==◌, ℕ, List, [], ◌∷◌, ◌++◌, length, map, take, drop, get_or, refl, sym, ap, ap₂, subst, arith, not, inr, Bool, true, Option, Some, None}
use Rattle.std.specs.Prelude.{Result, Ok, Err, position, nat_lt, if◌then◌else◌}
use Rattle.std.specs.List.{position_or_len}
use Rattle.std.specs.Option.{option_map, option_or}
use Rattle.std.proofs.lemmas.List.{get_or-map, map_more, map-append, take_all, length-map}
use Rattle.std.proofs.lemmas.Option.{slice_get-get_or}
use Rattle.s2ix_bag_lists.specs.declared.errors.ChangeError.TheVariants.{Unsorted, NoDifference}
use Rattle.s2ix_bag_lists.specs.Entries.{first_unsorted, first_without_difference}
use Rattle.s2ix_bag_lists.proofs.Unsorted.{RiseSoFar, all_rise, change_without_fault, rank_past, rise_more, stops_here}
use Rattle.s2ix_bag_pairs.specs.declared.pair.Entry.{Entry}
use Rattle.s2ix_bag_pairs.specs.declared.pair.Pair.{Pair}
use Rattle.s2ix_bag_pairs.specs.Change.{IsChangeList}
use Rattle.s2ix_bag_pairs.specs.Pair.{rank_of}
use Rattle.s2ix_c_calls.specs.declared.changes.EntryRow.{EntryRow}
use Rattle.s2ix_c_calls.specs.Asked.{pair_numbered}
use Rattle.s2ix_c_calls.specs.Recording.{AreAllEntries, AreChange, GiveEntries, IsFirstNoEntry, LacksChange, entry_asked, with_counts}
use Rattle.s2ix_c_calls.specs.Status.{no_difference}

-- ---- as far as rows give entries

module _ (rows : List EntryRow) (place : ℕ) (d : EntryRow) (within : place < length rows) where
  -- after rows that give entries, one more
  pub one_more : (entry : Entry) → AreAllEntries (take place rows) → entry_asked (get_or rows place d) ≡ Ok entry
      → AreAllEntries (take (place + 1) rows)
  one_more entry before right = (
    before.0 ++ entry ∷ [],
    map_more entry_asked rows place d within ∙ ap (λ l. l ++ entry_asked (get_or rows place d) ∷ []) before.1
        ∙ ap (λ r. map Ok before.0 ++ r ∷ []) right ∙ sym (map-append Ok before.0 (entry ∷ [])),
  )

  -- a row that gives none, after rows that do, is the first
  pub first_no_entry : (why : ℕ) → AreAllEntries (take place rows) → entry_asked (get_or rows place d) ≡ Err why
      → IsFirstNoEntry rows place why
  first_no_entry why before wrong = record {
    before = before;
    row = get_or rows place d;
    row_is = slice_get-get_or rows place d within;
    wrong = wrong;
  }

-- after the last row all give entries
pub all_taken : (rows : List EntryRow) (place : ℕ) → AreAllEntries (take place rows) → length rows ≤ place → AreAllEntries rows
all_taken rows place before long = subst (λ (l : List EntryRow). AreAllEntries l) (take_all place rows long) before

-- ---- the entry at a place

module _ (rows : List EntryRow) (entries : List Entry) (given : GiveEntries rows entries) where
  pub as_many : length entries ≡ length rows
  as_many = sym (length-map entries Ok) ∙ ap length (sym given) ∙ length-map rows entry_asked

  pub entry_at : (place : ℕ) (d : EntryRow) (entry : Entry) → place < length rows → entry_asked (get_or rows place d) ≡ Ok entry
      → entry ≡ get_or entries place entry
  entry_at place d entry within right =
      let within_entries : place < length entries = omega (arith, as_many) in
      let same : Ok entry ≡ Ok (get_or entries place entry) =
      sym right ∙ sym (get_or-map entry_asked rows place d (Ok entry) within) ∙ ap (λ l. get_or l place (Ok entry)) given
      ∙ get_or-map Ok entries place entry (Ok entry) within_entries in
      cc

not_wrong : (rows : List EntryRow) (entries : List Entry) → GiveEntries rows entries → (place : ℕ) (d : EntryRow) (why : ℕ)
    → place < length rows → entry_asked (get_or rows place d) ≡ Err why → ⊥
not_wrong rows [] given place d why within wrong = absurd (omega (arith, as_many rows [] given, within))
not_wrong rows (e ∷ es) given place d why within wrong =
    let within_entries : place < length (e ∷ es) = omega (arith, as_many rows (e ∷ es) given) in
    let clash : Err why ≡ Ok (get_or (e ∷ es) place e) =
    sym wrong ∙ sym (get_or-map entry_asked rows place d (Err why) within) ∙ ap (λ l. get_or l place (Err why)) given
    ∙ get_or-map Ok (e ∷ es) place e (Err why) within_entries in
    cc

-- no row of those that give entries has a wrong number
pub none_wrong : (rows : List EntryRow) (place : ℕ) (d : EntryRow) (why : ℕ) → AreAllEntries rows → place < length rows
    → Err why ≡ entry_asked (get_or rows place d) → ⊥
none_wrong rows place d why all within wrong = not_wrong rows all.0 all.1 place d why within (sym wrong)

-- ---- the order of the entries

-- whatever entries the rows give, the first of them rise, up to this place
abbrev pub GivenRise : List EntryRow → ℕ → Option Pair → Type 0
GivenRise rows place last = (entries : List Entry) → GiveEntries rows entries → RiseSoFar entries place last

module _ (rows : List EntryRow) (place : ℕ) (d : EntryRow) (entry : Entry) (last : Option Pair) (within : place < length rows)
    (right : entry_asked (get_or rows place d) ≡ Ok entry) (rise : GivenRise rows place last) where
  pub given_rise_more : rank_past last ≤ rank_of entry.pair → GivenRise rows (place + 1) (Some entry.pair)
  given_rise_more above entries given =
      rise_more entries place last entry (omega (arith, as_many rows entries given)) (entry_at rows entries given place d entry within right)
      (rise entries given) above

  pub given_stop : rank_of entry.pair < rank_past last → (entries : List Entry) → GiveEntries rows entries → first_unsorted entries ≡ Some place
  given_stop below entries given =
      stops_here entries place last entry (omega (arith, as_many rows entries given)) (entry_at rows entries given place d entry within right)
      (rise entries given) below

pub given_all_rise : (rows : List EntryRow) (place : ℕ) (last : Option Pair) → length rows ≤ place → GivenRise rows place last
    → (entries : List Entry) → GiveEntries rows entries → first_unsorted entries ≡ None
given_all_rise rows place last long rise entries given =
    all_rise entries place last (omega (arith, as_many rows entries given)) (rise entries given)

-- ---- equal counts

counts_of : (before after : ℕ) (pair : Result Pair ℕ) (entry : Entry) → with_counts before after pair ≡ Ok entry
    → (before == after) ≡ (entry.before == entry.after)
counts_of before after (Ok pair) entry is =
    ap (λ (r : Result Entry ℕ). elim r [ Ok e ↦ e.before == e.after | Err why ↦ true ]) is
counts_of before after (Err why) entry is = cc

equal_at : (rows : List EntryRow) (entries : List Entry) → GiveEntries rows entries
    → position_or_len (λ r. r.before == r.after) rows ≡ position_or_len (λ e. e.before == e.after) entries
equal_at [] [] given = refl
equal_at [] (e ∷ es) given = absurd (omega (arith, ap length given))
equal_at (r ∷ rows) [] given = absurd (omega (arith, ap length given))
equal_at (r ∷ rows) (e ∷ es) given =
    ap₂ (λ (same : Bool) (n : ℕ). if not same then 1 + n else 0)
    (counts_of r.before r.after (pair_numbered r.cell r.label) e (ap (λ (l : List (Result Entry ℕ)). get_or l 0 (Ok e)) given))
    (equal_at rows es (ap (λ (l : List (Result Entry ℕ)). drop 1 l) given))

pub first_equal : (rows : List EntryRow) (entries : List Entry) → GiveEntries rows entries
    → position (λ r. r.before == r.after) rows ≡ first_without_difference entries
first_equal rows entries given =
    ap₂ (λ (n long : ℕ). if nat_lt n long then Some n else None) (equal_at rows entries given) (sym (as_many rows entries given))

-- ---- faults

pub equal_lacks : (rows : List EntryRow) (place : ℕ) → AreAllEntries rows
    → ((entries : List Entry) → GiveEntries rows entries → None ≡ first_unsorted entries)
    → ((entries : List Entry) → GiveEntries rows entries → Some place ≡ first_without_difference entries) → LacksChange rows place no_difference
equal_lacks rows place all none first =
    let es = all.0 in
    inr (
      es,
      all.1,
      inr (
        refl,
        ap₂ (λ u s. option_or (option_map Unsorted u) (option_map NoDifference s)) (sym (none es all.1)) (sym (first es all.1)),
      ),
    )

pub are_change : (rows : List EntryRow) → AreAllEntries rows
    → ((entries : List Entry) → GiveEntries rows entries → None ≡ first_unsorted entries)
    → ((entries : List Entry) → GiveEntries rows entries → None ≡ first_without_difference entries) → AreChange rows
are_change rows all rise differ =
    let es = all.0 in
    let none = ap₂ (λ u s. option_or (option_map Unsorted u) (option_map NoDifference s)) (sym (rise es all.1)) (sym (differ es all.1)) in
    (es, (all.1, change_without_fault es none))

-- ---- rows give one list

one_list : (one other : List Entry) (is : map {B = Result Entry ℕ} Ok one ≡ map Ok other) → one ≡ other
one_list [] [] is = refl
one_list [] (e ∷ es) is = absurd (omega (arith, ap length is))
one_list (e ∷ es) [] is = absurd (omega (arith, ap length is))
one_list (d ∷ ds) (e ∷ es) is =
    let head = ap (λ (l : List (Result Entry ℕ)). get_or l 0 (Ok d)) is in
    let rest = one_list ds es (ap (λ (l : List (Result Entry ℕ)). drop 1 l) is) in
    cc

pub given_change : (rows : List EntryRow) (entries : List Entry) → AreChange rows → GiveEntries rows entries → IsChangeList entries
given_change rows entries change given =
    subst (λ (l : List Entry). IsChangeList l) (one_list change.0 entries (sym change.1.0 ∙ given)) change.1.1
