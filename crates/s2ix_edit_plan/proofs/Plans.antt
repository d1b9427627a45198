-- Entries that carry an edit out.
use Rattle.std.proofs.Common.{◌≡◌, ◌≢◌, ℕ, ◌+◌, ◌-◌, ◌≤◌, Bool, true, false, cond, ltb, not, List, [], ◌∷◌, length, Some, None, refl, sym, ap, ◌∙◌, subst, ⊎_elim, arith, eq-eqb, ne_eqb, le-ltb, ◌==◌}
use Rattle.std.proofs.lemmas.Bool.{cond-true, cond-false, cases_eq, eqb-true}
use Rattle.std.specs.List.{position}
use Rattle.s2id_core.specs.declared.cell_id.CellId.{CellId}
use Rattle.s2ix_bag_pairs.specs.declared.label.Label.{Label}
use Rattle.s2ix_bag_pairs.specs.declared.pair.Pair.{Pair}
use Rattle.s2ix_bag_pairs.specs.declared.pair.Entry.{Entry}
use Rattle.s2ix_bag_lists.specs.Apply.{first_mismatch}
use Rattle.s2ix_bag_pairs.specs.Change.{change_between, changed, IsChangeList}
use Rattle.s2ix_bag_pairs.specs.Collection.{Collection, LimitedCollection, IsBag, IsCollection, count_in, set_count}
use Rattle.s2ix_edit_plan.specs.declared.edit.Edit.{Edit}
use Rattle.s2ix_edit_plan.specs.declared.edit.Edit.TheVariants.{Add, AddUnion, Remove}
use Rattle.s2ix_edit_plan.specs.Edit.{edited_by}
use Rattle.s2ix_edit_plan.specs.Plan.{Plans, one_entry}
use Rattle.s2ix_edit_plan.specs.Refusals.{asks_no_copies, asks_too_fine, goes_below_zero, lacks_change, lacks_label, reverts, takes_too_many}
use Rattle.s2ix_edit_plan.proofs.EachRefusal.{reads_none}
use Rattle.s2ix_bag_lists.proofs.Applied.{before_from_counts, change_between-changed}
use Rattle.s2ix_bag_pairs.proofs.Collections.{set_count_in}
use Rattle.s2ix_bag_pairs.proofs.Differences.{between_is_change, changed_between, counts_between_at}
use Rattle.s2ix_bag_lists.proofs.Refusals.{before_from_no_mismatch, no_mismatch}

-- the entries make this collection of the bag's: the counts before are the bag's, and those after the collection's
pub record Makes (bag : LimitedCollection) (new : Collection) (es : List Entry) : Type 0 where
  pub rises : IsChangeList es
  pub matches : first_mismatch bag es ≡ None
  pub result : changed bag.held es ≡ new

-- the entries of the change to a collection make it
pub makes_between : (bag : LimitedCollection) (new : Collection) (es : List Entry) → IsCollection bag.held → IsCollection new
    → es ≡ change_between bag.held new → Makes bag new es
makes_between bag new es is new_is es_is =
    let Making : List Entry → Type 0 = λ xs. Makes bag new xs in
    let change = change_between bag.held new in
    let rises = between_is_change bag.held new is in
    subst Making (sym es_is) (record {
      rises = rises;
      matches =
          no_mismatch bag.held change (before_from_counts 0 bag.held new change rises (λ k le. counts_between_at bag.held new k is new_is));
      result = changed_between bag.held new is new_is;
    })

-- the change to a changed collection is the change itself
pub between_changed : (bag : LimitedCollection) (es : List Entry) → IsCollection bag.held → IsChangeList es → first_mismatch bag es ≡ None
    → change_between bag.held (changed bag.held es) ≡ es
between_changed bag es c rises matches =
    change_between-changed bag.held es c rises (before_from_no_mismatch bag.held es matches)

-- ---- the entries of one pair

pub no_entry : (p : Pair) (m n : ℕ) → m ≡ n → one_entry p m n ≡ []
no_entry p m n e = cond-true _ _ _ (eq-eqb _ _ e)

pub an_entry : (p : Pair) (m n : ℕ) → m ≢ n → one_entry p m n ≡ record { pair = p; before = m; after = n } ∷ []
an_entry p m n ne = cond-false _ _ _ (ne_eqb _ _ ne)

one_rises : (p : Pair) (m n : ℕ) → IsChangeList (one_entry p m n)
one_rises p m n =
    let Rises : List Entry → Type 0 = λ es. IsChangeList es in
    ⊎_elim
    (λ e. subst Rises (sym (no_entry p m n e)) tt)
    (λ ne. subst Rises (sym (an_entry p m n ne)) (omega arith, ne, tt))
    (cases_eq m n)

position_of_one : {X : Type 0} (test : X → Bool) (x : X) → test x ≡ false → position test (x ∷ []) ≡ None
position_of_one test x e =
    ap (λ b. cond (ltb (cond (not b) (1 + 0) 0) 1) (Some (cond (not b) (1 + 0) 0)) None) e

one_matches : (bag : LimitedCollection) (p : Pair) (n : ℕ) → first_mismatch bag (one_entry p (count_in bag.held p) n) ≡ None
one_matches bag p n =
    let Matches : List Entry → Type 0 = λ es. first_mismatch bag es ≡ None in
    ⊎_elim
    (λ e. subst Matches (sym (no_entry p (count_in bag.held p) n e)) refl)
    (λ ne. subst Matches (sym (an_entry p (count_in bag.held p) n ne))
    (position_of_one (λ (e : Entry). not (e.before == count_in bag.held e.pair))
    (record { pair = p; before = count_in bag.held p; after = n })
    (ap not (eq-eqb (count_in bag.held p) (count_in bag.held p) refl))))
    (cases_eq (count_in bag.held p) n)

one_changes : (hs : Collection) (p : Pair) (m n : ℕ) → set_count p m hs ≡ hs → changed hs (one_entry p m n) ≡ set_count p n hs
one_changes hs p m n same =
    ⊎_elim
    (λ e. ap (λ es. changed hs es) (no_entry p m n e) ∙ sym same ∙ ap (λ k. set_count p k hs) e)
    (λ ne. ap (λ es. changed hs es) (an_entry p m n ne))
    (cases_eq m n)

-- an edit that sets one count is carried out by the entry of that pair
pub one_plans : (bag : LimitedCollection) (changes : List (List Entry)) (edit : Edit) (p : Pair) (n : ℕ) → IsBag bag
    → lacks_label edit bag.held ≡ false → takes_too_many edit bag.held ≡ false → asks_too_fine edit bag.held ≡ false
    → reverts edit ≡ false → edited_by changes edit bag.held ≡ set_count p n bag.held
    → Plans bag changes edit (one_entry p (count_in bag.held p) n)
one_plans bag changes edit p n b known allowed fits reads makes = record {
  known = known;
  allowed = allowed;
  fits = fits;
  stood = (reads_none edit changes bag.held reads).there;
  above = (reads_none edit changes bag.held reads).above;
  rises = one_rises p (count_in bag.held p) n;
  matches = one_matches bag p n;
  result = one_changes bag.held p (count_in bag.held p) n (set_count_in p bag.held b.rises) ∙ sym makes;
}

-- the entry of an addition carries it out
pub add_plans : (bag : LimitedCollection) (changes : List (List Entry)) (p : Pair) (copies before after : ℕ) (es : List Entry) → IsBag bag
    → before ≡ count_in bag.held p → before + copies ≡ after → es ≡ one_entry p before after → Plans bag changes (Add p copies) es
add_plans bag changes p copies before after es b is_before is_after is =
    let Carries : List Entry → Type 0 = λ xs. Plans bag changes (Add p copies) xs in
    let own = one_plans bag changes (Add p copies) p (count_in bag.held p + copies) b refl refl refl refl refl in
    subst Carries (sym (is ∙ ap (λ m. one_entry p m after) is_before ∙ ap (λ n. one_entry p (count_in bag.held p) n) (omega arith))) own

-- the entry of a removal carries it out
pub remove_plans : (bag : LimitedCollection) (changes : List (List Entry)) (p : Pair) (copies before after : ℕ) (es : List Entry)
    → IsBag bag
    → before ≡ count_in bag.held p → copies ≤ before → before - copies ≡ after → es ≡ one_entry p before after
    → Plans bag changes (Remove p copies) es
remove_plans bag changes p copies before after es b is_before le is_after is =
    let Carries : List Entry → Type 0 = λ xs. Plans bag changes (Remove p copies) xs in
    let own = one_plans bag changes (Remove p copies) p (count_in bag.held p - copies) b refl (le-ltb _ _ (omega arith)) refl refl refl in
    subst Carries (sym (is ∙ ap (λ m. one_entry p m after) is_before ∙ ap (λ n. one_entry p (count_in bag.held p) n) (omega arith))) own

-- entries that make the edited collection carry the edit out
pub plans_from_makes : (bag : LimitedCollection) (changes : List (List Entry)) (edit : Edit) (es : List Entry)
    → lacks_label edit bag.held ≡ false → takes_too_many edit bag.held ≡ false → asks_too_fine edit bag.held ≡ false
    → lacks_change changes edit ≡ false → goes_below_zero changes edit bag.held ≡ false → Makes bag (edited_by changes edit bag.held) es
    → Plans bag changes edit es
plans_from_makes bag changes edit es known allowed fits stood above makes = record {
  known = known;
  allowed = allowed;
  fits = fits;
  stood = stood;
  above = above;
  rises = makes.rises;
  matches = makes.matches;
  result = makes.result;
}

-- ---- edits of no copies

pub copies_added : (edit : Edit) (p : Pair) (copies : ℕ) → edit ≡ Add p copies → asks_no_copies edit ≡ true → copies ≡ 0
copies_added edit p copies is none =
    let asks : (copies == 0) ≡ true = sym (ap asks_no_copies is) ∙ none in
    eqb-true copies 0 asks

pub copies_removed : (edit : Edit) (p : Pair) (copies : ℕ) → edit ≡ Remove p copies → asks_no_copies edit ≡ true → copies ≡ 0
copies_removed edit p copies is none =
    let asks : (copies == 0) ≡ true = sym (ap asks_no_copies is) ∙ none in
    eqb-true copies 0 asks

pub cells_added : (edit : Edit) (cells : List CellId) (label : Label) → edit ≡ AddUnion cells label → asks_no_copies edit ≡ true
    → length cells ≡ 0
cells_added edit cells label is none =
    let asks : (length cells == 0) ≡ true = sym (ap asks_no_copies is) ∙ none in
    eqb-true (length cells) 0 asks

-- no other edit is one
pub asks_copies : (edit same : Edit) → edit ≡ same → asks_no_copies same ≡ false → asks_no_copies edit ≡ true → ⊥
asks_copies edit same is some none = let clash : false ≡ true = sym some ∙ sym (ap asks_no_copies is) ∙ none in cc

-- nor does another than a `Revert` take a change back
pub reads_no_change : (edit same : Edit) → edit ≡ same → reverts same ≡ false → reverts edit ≡ true → ⊥
reads_no_change edit same is reads takes = let clash : false ≡ true = sym reads ∙ sym (ap reverts is) ∙ takes in cc
