-- The next entry of a group, and the entries so far with one more.
use Rattle.std.proofs.Common.{◌≡◌, ◌≢◌, ◌==◌, ℕ, ◌+◌, ◌<◌, ◌≤◌, ◌^◌, Bool, true, false, not, ◌||◌, cond, Option, Some, Result, Ok, Err, List, [], ◌∷◌, ◌++◌, All, refl, ap, ◌∙◌, subst, arith, ⊎_elim}
use Rattle.std.specs.Prelude.{nat_lt}
use Rattle.std.specs.Option.{option_map}
use Rattle.std.proofs.lemmas.Bool.{both_ways, cases_lt, eq-eqb, le-ltb, lt-ltb, ltb-true, ne_eqb, or_from, or_left, or_right}
use Rattle.std.proofs.lemmas.List.Elements.{All-head, All-push, All-tail}
use Rattle.s2ix_bag_pairs.specs.Change.{IsChangeList, IsChangeListFrom}
use Rattle.s2ix_bag_pairs.specs.Limits.{count_limit}
use Rattle.s2ix_bag_pairs.specs.Pair.{rank_of}
use Rattle.s2ix_bag_pairs.specs.declared.limits.Limits.{Limits}
use Rattle.s2ix_bag_pairs.specs.declared.pair.Entry.{Entry}
use Rattle.s2ix_bag_pairs.specs.declared.pair.Pair.{Pair}
use Rattle.s2ix_text_parts.specs.Written.{comes_before, pair_written}
use Rattle.s2ix_text_parts.proofs.Rests.{last_pushed}
use Rattle.s2ix_text.specs.declared.journal_error.JournalFault.{JournalFault}
use Rattle.s2ix_text.specs.declared.journal_error.JournalFault.TheVariants.{NoDifference, TooManyCopies, Unsorted}
use Rattle.s2ix_text.specs.JournalLines.{entry_after, entry_text, entry_written, last_pair, next_entry}
use Rattle.s2ix_text.specs.Journals.{AreEntries, HasCountsWithin, HasSides}
use Rattle.s2ix_text.proofs.EntryTexts.{entry_of_text, line_from_entry, pair_from_entry}

-- ---- the tests of the next entry

pub next_by : (most : ℕ) (limits : Limits) (last : Option Pair) (line : List ℕ) (e : Entry) (same before many : Bool)
    → entry_written most line ≡ Ok e → (e.before == e.after) ≡ same → comes_before last (Some e.pair) ≡ before
    → (nat_lt (count_limit limits) e.before || nat_lt (count_limit limits) e.after) ≡ many
    → next_entry most limits last line ≡ cond same (Err NoDifference)
    (cond (not before) (Err Unsorted) (cond many (Err TooManyCopies) (Ok e)))
unfolding next_entry
next_by most limits last line e same before many is x y z = ap (entry_after limits last) is ∙ rw (x, y, z) refl

pub next_unless : (most : ℕ) (limits : Limits) (last : Option Pair) (line : List ℕ) (fault : JournalFault)
    → entry_written most line ≡ Err fault → next_entry most limits last line ≡ Err fault
unfolding next_entry
next_unless most limits last line fault is = ap (entry_after limits last) is

-- a line writes the next entry of a group
pub record IsNext (most : ℕ) (limits : Limits) (last : Option Pair) (line : List ℕ) (e : Entry) : Type 0 where
  pub text : line ≡ entry_text e
  pub sides : HasSides most e
  pub writes : pair_written line ≡ Some e.pair
  pub differs : e.before ≢ e.after
  pub after : comes_before last (Some e.pair) ≡ true
  pub small : HasCountsWithin limits e

pub within_test : (n a b : ℕ) → a ≤ n → b ≤ n → (nat_lt n a || nat_lt n b) ≡ false
within_test n a b small_a small_b = or_from _ _ (le-ltb n a small_a) (le-ltb n b small_b)

pub above_test : (n a b : ℕ) → (n < a → ⊥) → (n < b → ⊥) → (nat_lt n a || nat_lt n b) ≡ false
above_test n a b x y =
    ⊎_elim (λ more. absurd (x more))
    (λ a_small. ⊎_elim (λ more. absurd (y more)) (λ b_small. within_test n a b a_small b_small) (cases_lt n b)) (cases_lt n a)

within_from : (n a b : ℕ) → (nat_lt n a || nat_lt n b) ≡ false → (a ≤ n) × (b ≤ n)
within_from n a b none =
    ⊎_elim
    (λ more. absurd (both_ways (nat_lt n a || nat_lt n b) none (or_left _ _ (lt-ltb n a more))))
    (λ a_small. ⊎_elim
    (λ more. absurd (both_ways (nat_lt n a || nat_lt n b) none (or_right _ _ (lt-ltb n b more))))
    (λ b_small. (a_small, b_small))
    (cases_lt n b))
    (cases_lt n a)

next_tests : (most : ℕ) → most < 2 ^ 32 → (limits : Limits) (last : Option Pair) (line : List ℕ) (k e : Entry) (same before many : Bool)
    → entry_written most line ≡ Ok k → (k.before == k.after) ≡ same → comes_before last (Some k.pair) ≡ before
    → (nat_lt (count_limit limits) k.before || nat_lt (count_limit limits) k.after) ≡ many
    → ◌≡◌ {A = Result Entry JournalFault}
    (cond same (Err NoDifference) (cond (not before) (Err Unsorted) (cond many (Err TooManyCopies) (Ok k)))) (Ok e)
    → IsNext most limits last line e
next_tests most bounded limits last line k e true before many w x y z is = cc
next_tests most bounded limits last line k e false false many w x y z is = cc
next_tests most bounded limits last line k e false true true w x y z is = cc
next_tests most bounded limits last line k e false true false w x y z is =
    let equal : k ≡ e = cc in
    let own = line_from_entry most line k w in
    subst (λ (n : Entry). IsNext most limits last line n) equal
    (record {
      text = own.0;
      sides = own.1;
      writes = pair_from_entry most bounded line k w;
      differs = λ same. both_ways (k.before == k.after) x (eq-eqb k.before k.after same);
      after = y;
      small = within_from (count_limit limits) k.before k.after z;
    })

next_at : (most : ℕ) → most < 2 ^ 32
    → (limits : Limits) (last : Option Pair) (line : List ℕ) (e : Entry) (written : Result Entry JournalFault)
    → entry_written most line ≡ written → entry_after limits last written ≡ Ok e → IsNext most limits last line e
next_at most bounded limits last line e (Err fault) w is = cc
next_at most bounded limits last line e (Ok k) w is = next_tests most bounded limits last line k e _ _ _ w refl refl refl is

pub next_from : (most : ℕ) → most < 2 ^ 32 → (limits : Limits) (last : Option Pair) (line : List ℕ) (e : Entry)
    → next_entry most limits last line ≡ Ok e → IsNext most limits last line e
unfolding next_entry
next_from most bounded limits last line e is = next_at most bounded limits last line e (entry_written most line) refl is

-- ---- the entries so far

pub last_pair_pushed : (es : List Entry) (e : Entry) → last_pair (es ++ e ∷ []) ≡ Some e.pair
last_pair_pushed es e = ap (λ (o : Option Entry). option_map (λ (x : Entry). x.pair) o) (last_pushed es e)

rises_after : (n : ℕ) (g : Entry) (es : List Entry) (e : Entry) → IsChangeListFrom n (g ∷ es)
    → comes_before (last_pair (g ∷ es)) (Some e.pair) ≡ true → e.before ≢ e.after → IsChangeListFrom n (g ∷ (es ++ e ∷ []))
rises_after n g [] e is before differs =
    let less : rank_of g.pair < rank_of e.pair = ltb-true (rank_of g.pair) (rank_of e.pair) before in
    (is.0, is.1, (omega (arith, less), differs, tt))
rises_after n g (f ∷ es) e is before differs = (is.0, is.1, rises_after (rank_of g.pair + 1) f es e is.2 before differs)

rises_more : (es : List Entry) (e : Entry) → IsChangeList es → comes_before (last_pair es) (Some e.pair) ≡ true → e.before ≢ e.after
    → IsChangeList (es ++ e ∷ [])
rises_more [] e is before differs = (omega arith, differs, tt)
rises_more (g ∷ es) e is before differs = rises_after 0 g es e is before differs

pub entries_more : (most : ℕ) (limits : Limits) (es : List Entry) (line : List ℕ) (e : Entry) → AreEntries most limits es
    → IsNext most limits (last_pair es) line e → AreEntries most limits (es ++ e ∷ [])
entries_more most limits es line e are next = record {
  list = rises_more es e are.list next.after next.differs;
  sides = All-push (HasSides most) es e are.sides next.sides;
  small = All-push (HasCountsWithin limits) es e are.small next.small;
}

pub no_entries : (most : ℕ) (limits : Limits) → AreEntries most limits []
no_entries most limits = record { list = tt; sides = λ k d within. absurd (omega arith); small = λ k d within. absurd (omega arith) }

-- ---- an entry among the entries of a group

here_differs : (n : ℕ) (es : List Entry) (e : Entry) (fs : List Entry) → IsChangeListFrom n (es ++ e ∷ fs) → e.before ≢ e.after
here_differs n [] e fs is = is.1
here_differs n (g ∷ es) e fs is = here_differs (rank_of g.pair + 1) es e fs is.2

before_after : (n : ℕ) (g : Entry) (es : List Entry) (e : Entry) (fs : List Entry) → IsChangeListFrom n (g ∷ (es ++ e ∷ fs))
    → comes_before (last_pair (g ∷ es)) (Some e.pair) ≡ true
before_after n g [] e fs is = lt-ltb (rank_of g.pair) (rank_of e.pair) (omega (arith, is.2.0))
before_after n g (f ∷ es) e fs is = before_after (rank_of g.pair + 1) f es e fs is.2

here_after : (es : List Entry) (e : Entry) (fs : List Entry) → IsChangeList (es ++ e ∷ fs)
    → comes_before (last_pair es) (Some e.pair) ≡ true
here_after [] e fs is = refl
here_after (g ∷ es) e fs is = before_after 0 g es e fs is

here_has : (P : Entry → Type 0) (es : List Entry) (e : Entry) (fs : List Entry) → All P (es ++ e ∷ fs) → P e
here_has P [] e fs all = All-head P e fs all
here_has P (g ∷ es) e fs all = here_has P es e fs (All-tail P g (es ++ e ∷ fs) all)

-- the line of an entry that is after the others writes it
pub next_here : (most : ℕ) → most < 2 ^ 32 → (limits : Limits) (es : List Entry) (e : Entry) (fs : List Entry)
    → AreEntries most limits (es ++ e ∷ fs) → next_entry most limits (last_pair es) (entry_text e) ≡ Ok e
next_here most bounded limits es e fs are =
    let small = here_has (HasCountsWithin limits) es e fs are.small in
    next_by most limits (last_pair es) (entry_text e) e false true false
    (entry_of_text most bounded e (here_has (HasSides most) es e fs are.sides))
    (ne_eqb e.before e.after (here_differs 0 es e fs are.list)) (here_after es e fs are.list)
    (within_test (count_limit limits) e.before e.after small.0 small.1)
