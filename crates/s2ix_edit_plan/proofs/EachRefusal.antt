-- If an edit is refused for each reason, and which refusal stands first.
use Rattle.std.proofs.Common.{◌≡◌, ◌≢◌, ◌↔◌, ℕ, ◌<◌, ◌≤◌, ◌==◌, nat_le, nat_lt, Bool, true, false, cond, List, [], ◌∷◌, length, find, is_some, Option, Some, None, ◌⊎◌, inl, inr, refl, sym, ap, ◌∙◌, ⊎_elim}
use Rattle.std.proofs.lemmas.Bool.{cases_Bool, cond-false, cond-true, le-leb, leb-false, leb-true, lt-leb, ltb-true}
use Rattle.s2ix_bag_pairs.specs.declared.pair.Entry.{Entry}
use Rattle.s2ix_bag_pairs.specs.Collection.{Collection}
use Rattle.s2ix_bag_pairs.specs.Limits.{pairs_limit, count_limit, changes_limit}
use Rattle.s2ix_bag_pairs.specs.TakenBack.{first_below_zero}
use Rattle.s2ix_edit_plan.specs.declared.errors.EditError.{EditError}
use Rattle.s2ix_edit_plan.specs.declared.errors.EditError.TheVariants.{JournalFull, NoSuchLabel, NotHeld, TooFine, NoSuchChange, BelowZero, NoChange, TooManyCopies, TooManyPairs}
use Rattle.s2ix_edit_plan.specs.declared.edit.Edit.{Edit}
use Rattle.s2ix_edit_plan.specs.declared.edit.Edit.TheVariants.{Add, AddUnion, Remove, DropLabel, Relabel, Grow, Normalise, Revert}
use Rattle.s2ix_edit_plan.specs.Edit.{edited, edited_alone, edited_by, numbered}
use Rattle.s2ix_edit_plan.specs.Refusals.{asks_too_fine, edit_refusal, goes_below_zero, has_count_above, lacks_change, lacks_label, refusals_with_room, reverts, is_due, takes_too_many}
use Rattle.s2ix_edit_plan.specs.State.{State, change_of, history_of}

-- ---- the first that is due

-- it stands
first_is_due : (test : EditError → Bool) (errors : List EditError) (e : EditError) → find test errors ≡ Some e → test e ≡ true
first_is_due test [] e found = cc
first_is_due test (x ∷ errors) e found =
    ⊎_elim
    (λ yes.
    let both : ◌≡◌ {A = Option EditError} (Some x) (Some e) = sym (cond-true (test x) (Some x) (find test errors) yes) ∙ found in
    let same : x ≡ e = cc in
    ap test (sym same) ∙ yes)
    (λ no. first_is_due test errors e (sym (cond-false (test x) (Some x) (find test errors) no) ∙ found))
    (cases_Bool (test x))

-- and one before it that is another doesn't
another_fails : (test : EditError → Bool) (x e : EditError) (errors : List EditError) → (x ≡ e → ⊥) → find test (x ∷ errors) ≡ Some e
    → (test x ≡ false) × (find test errors ≡ Some e)
another_fails test x e errors other found =
    ⊎_elim
    (λ yes.
    let both : ◌≡◌ {A = Option EditError} (Some x) (Some e) = sym (cond-true (test x) (Some x) (find test errors) yes) ∙ found in
    absurd (other cc))
    (λ no. (no, sym (cond-false (test x) (Some x) (find test errors) no) ∙ found))
    (cases_Bool (test x))

-- ---- what an edit of one kind isn't refused for

-- an edit that takes no change back reads none
pub record ReadsNone (changes : List (List Entry)) (edit : Edit) (hs : Collection) : Type 0 where
  pub same : edited_alone edit hs ≡ edited_by changes edit hs
  pub there : lacks_change changes edit ≡ false
  pub above : goes_below_zero changes edit hs ≡ false

-- an edit of one label is refused for no copies and no change
record OfLabel (changes : List (List Entry)) (edit : Edit) (hs : Collection) : Type 0 where
  held : takes_too_many edit hs ≡ false
  none : ReadsNone changes edit hs

-- one of given cells for no label and no change
record OfCells (changes : List (List Entry)) (edit : Edit) (hs : Collection) : Type 0 where
  known : lacks_label edit hs ≡ false
  fits : asks_too_fine edit hs ≡ false
  none : ReadsNone changes edit hs

-- and one of a change for no label and no copies
record OfChange (changes : List (List Entry)) (edit : Edit) (hs : Collection) : Type 0 where
  takes : reverts edit ≡ true
  known : lacks_label edit hs ≡ false
  held : takes_too_many edit hs ≡ false
  fits : asks_too_fine edit hs ≡ false
  there : goes_below_zero changes edit hs ≡ true → lacks_change changes edit ≡ false

found_below : (found : Option (List Entry)) (hs : Collection)
    → (elim found [ Some es ↦ is_some (first_below_zero hs es) | None ↦ false ]) ≡ true
    → (elim found [ Some es ↦ false | None ↦ true ]) ≡ false
found_below (Some es) hs below = refl
found_below None hs below = cc

-- each edit is of one of these kinds
kind_of : (changes : List (List Entry)) (edit : Edit) (hs : Collection)
    → OfLabel changes edit hs ⊎ (OfCells changes edit hs ⊎ OfChange changes edit hs)
kind_of changes (Add pair copies) hs =
    inr (inl (record { known = refl; fits = refl; none = record { same = refl; there = refl; above = refl } }))
kind_of changes (AddUnion cells label) hs =
    inr (inl (record { known = refl; fits = refl; none = record { same = refl; there = refl; above = refl } }))
kind_of changes (Remove pair copies) hs =
    inr (inl (record { known = refl; fits = refl; none = record { same = refl; there = refl; above = refl } }))
kind_of changes (DropLabel label) hs = inl (record { held = refl; none = record { same = refl; there = refl; above = refl } })
kind_of changes (Relabel source target) hs = inl (record { held = refl; none = record { same = refl; there = refl; above = refl } })
kind_of changes (Grow label level) hs = inl (record { held = refl; none = record { same = refl; there = refl; above = refl } })
kind_of changes (Normalise label) hs = inl (record { held = refl; none = record { same = refl; there = refl; above = refl } })
kind_of changes (Revert number) hs =
    inr (inr (record { takes = refl; known = refl; held = refl; fits = refl; there = found_below (numbered number changes) hs }))

clash : {A : Type 0} (b : Bool) → b ≡ true → b ≡ false → A
clash b holds fails = let both : true ≡ false = sym holds ∙ fails in cc

pub reads_none : (edit : Edit) (changes : List (List Entry)) (hs : Collection) → reverts edit ≡ false → ReadsNone changes edit hs
reads_none edit changes hs reads =
    ⊎_elim
    (λ label. label.none)
    (λ other. ⊎_elim (λ cells. cells.none) (λ change. clash (reverts edit) change.takes reads) other)
    (kind_of changes edit hs)

takes_only : (changes : List (List Entry)) (edit : Edit) (hs : Collection) → takes_too_many edit hs ≡ true → lacks_label edit hs ≡ false
takes_only changes edit hs takes =
    ⊎_elim
    (λ label. clash (takes_too_many edit hs) takes label.held)
    (λ other. ⊎_elim (λ cells. cells.known) (λ change. change.known) other)
    (kind_of changes edit hs)

fine_only : (changes : List (List Entry)) (edit : Edit) (hs : Collection) → asks_too_fine edit hs ≡ true → takes_too_many edit hs ≡ false
fine_only changes edit hs asks =
    ⊎_elim
    (λ label. label.held)
    (λ other. ⊎_elim (λ cells. clash (asks_too_fine edit hs) asks cells.fits) (λ change. change.held) other)
    (kind_of changes edit hs)

change_only : (changes : List (List Entry)) (edit : Edit) (hs : Collection) → lacks_change changes edit ≡ true → OfChange changes edit hs
change_only changes edit hs lacks =
    ⊎_elim
    (λ label. clash (lacks_change changes edit) lacks label.none.there)
    (λ other. ⊎_elim (λ cells. clash (lacks_change changes edit) lacks cells.none.there) (λ change. change) other)
    (kind_of changes edit hs)

below_only : (changes : List (List Entry)) (edit : Edit) (hs : Collection) → goes_below_zero changes edit hs ≡ true
    → OfChange changes edit hs
below_only changes edit hs below =
    ⊎_elim
    (λ label. clash (goes_below_zero changes edit hs) below label.none.above)
    (λ other. ⊎_elim (λ cells. clash (goes_below_zero changes edit hs) below cells.none.above) (λ change. change) other)
    (kind_of changes edit hs)

-- ---- each refusal

tests : State → Edit → EditError → Bool
tests s edit = is_due s.bag s.done edit (edited (history_of s) edit)

-- a refusal but that of a full journal comes with room
with_room_left : (s : State) (edit : Edit) (e : EditError) → (JournalFull ≡ e → ⊥) → edit_refusal s edit ≡ Some e
    → (length s.done < changes_limit s.bag.limits) × (find (tests s edit) refusals_with_room ≡ Some e)
unfolding tests
with_room_left s edit e other found =
    let past = another_fails (tests s edit) JournalFull e refusals_with_room other found in
    (leb-false _ _ past.0, past.1)

pub it_is_due : (s : State) (edit : Edit) (e : EditError) → edit_refusal s edit ≡ Some e
    → is_due s.bag s.done edit (edited (history_of s) edit) e ≡ true
it_is_due s edit e found = first_is_due (is_due s.bag s.done edit (edited (history_of s) edit)) (JournalFull ∷ refusals_with_room) e found

pub full_where : (s : State) (edit : Edit) → (edit_refusal s edit ≡ Some JournalFull) ↔ (changes_limit s.bag.limits ≤ length s.done)
full_where s edit = (λ found. leb-true _ _ (it_is_due s edit JournalFull found), λ full. cond-true _ _ _ (le-leb _ _ full))

pub label_where : (s : State) (edit : Edit)
    → (edit_refusal s edit ≡ Some NoSuchLabel) ↔ ((length s.done < changes_limit s.bag.limits) × (lacks_label edit s.bag.held ≡ true))
label_where s edit = (
  λ found. ((with_room_left s edit NoSuchLabel (λ is. cc) found).0, it_is_due s edit NoSuchLabel found),
  λ parts. cond-false _ _ _ (lt-leb _ _ parts.0) ∙ cond-true _ _ _ parts.1,
)

pub held_where : (s : State) (edit : Edit)
    → (edit_refusal s edit ≡ Some NotHeld) ↔ ((length s.done < changes_limit s.bag.limits) × (takes_too_many edit s.bag.held ≡ true))
held_where s edit = (
  λ found. ((with_room_left s edit NotHeld (λ is. cc) found).0, it_is_due s edit NotHeld found),
  λ parts. cond-false _ _ _ (lt-leb _ _ parts.0) ∙ cond-false _ _ _ (takes_only s.done edit s.bag.held parts.1) ∙ cond-true _ _ _ parts.1,
)

pub fine_where : (s : State) (edit : Edit)
    → (edit_refusal s edit ≡ Some TooFine)
    ↔ ((length s.done < changes_limit s.bag.limits) × (lacks_label edit s.bag.held ≡ false) × (asks_too_fine edit s.bag.held ≡ true))
unfolding tests
fine_where s edit = (
  λ found.
      let past = with_room_left s edit TooFine (λ is. cc) found in
      let after = NotHeld ∷ TooFine ∷ NoSuchChange ∷ BelowZero ∷ NoChange ∷ TooManyCopies ∷ TooManyPairs ∷ [] in
      (past.0, (another_fails (tests s edit) NoSuchLabel TooFine after (λ is. cc) past.1).0, it_is_due s edit TooFine found),
  λ parts.
      cond-false _ _ _ (lt-leb _ _ parts.0) ∙ cond-false _ _ _ parts.1
      ∙ cond-false _ _ _ (fine_only s.done edit s.bag.held parts.2) ∙ cond-true _ _ _ parts.2,
)

pub change_where : (s : State) (edit : Edit)
    → (edit_refusal s edit ≡ Some NoSuchChange) ↔ ((length s.done < changes_limit s.bag.limits) × (lacks_change s.done edit ≡ true))
change_where s edit = (
  λ found. ((with_room_left s edit NoSuchChange (λ is. cc) found).0, it_is_due s edit NoSuchChange found),
  λ parts.
      let others = change_only s.done edit s.bag.held parts.1 in
      cond-false _ _ _ (lt-leb _ _ parts.0) ∙ cond-false _ _ _ others.known ∙ cond-false _ _ _ others.held ∙ cond-false _ _ _ others.fits
      ∙ cond-true _ _ _ parts.1,
)

pub below_where : (s : State) (edit : Edit)
    → (edit_refusal s edit ≡ Some BelowZero)
    ↔ ((length s.done < changes_limit s.bag.limits) × (goes_below_zero s.done edit s.bag.held ≡ true))
below_where s edit = (
  λ found. ((with_room_left s edit BelowZero (λ is. cc) found).0, it_is_due s edit BelowZero found),
  λ parts.
      let others = below_only s.done edit s.bag.held parts.1 in
      cond-false _ _ _ (lt-leb _ _ parts.0) ∙ cond-false _ _ _ others.known ∙ cond-false _ _ _ others.held ∙ cond-false _ _ _ others.fits
      ∙ cond-false _ _ _ (others.there parts.1) ∙ cond-true _ _ _ parts.1,
)

-- ---- the refusals in place of which memory may be wanted

pub high_from_refusal : (s : State) (edit : Edit) → edit_refusal s edit ≡ Some TooManyCopies
    → has_count_above (count_limit s.bag.limits) (edited (history_of s) edit) ≡ true
high_from_refusal s edit found = it_is_due s edit TooManyCopies found

pub many_from_refusal : (s : State) (edit : Edit) → edit_refusal s edit ≡ Some TooManyPairs
    → pairs_limit s.bag.limits < length (edited (history_of s) edit)
many_from_refusal s edit found = ltb-true _ _ (it_is_due s edit TooManyPairs found)

-- ---- edits that take no change back

-- such an edit is not refused for a change
pub others_refused : (s : State) (edit : Edit) → reverts edit ≡ false
    → (edit_refusal s edit ≢ Some NoSuchChange) × (edit_refusal s edit ≢ Some BelowZero)
others_refused s edit reads =
    let none = reads_none edit s.done s.bag.held reads in (
      λ is. clash (lacks_change s.done edit) ((change_where s edit).0 is).1 none.there,
      λ is. clash (goes_below_zero s.done edit s.bag.held) ((below_where s edit).0 is).1 none.above,
    )

-- ---- a revert

-- the first refusal, by which of them are due
first_by : Bool → Bool → Bool → Bool → Bool → Bool → Bool → Bool → Bool → Option EditError
first_by full label copies level change below same high many =
    cond full (Some JournalFull) (cond label (Some NoSuchLabel) (cond copies (Some NotHeld) (cond level (Some TooFine)
    (cond change (Some NoSuchChange) (cond below (Some BelowZero) (cond same (Some NoChange) (cond high (Some TooManyCopies)
    (cond many (Some TooManyPairs) None))))))))

-- none of the refusals that speak of labels, copies, levels and changes to nothing
abbrev pub IsOfRevert : Option EditError → Type 0
IsOfRevert refusal = (refusal ≢ Some NoSuchLabel) × (refusal ≢ Some NotHeld) × (refusal ≢ Some TooFine) × (refusal ≢ Some NoChange)

revert_by : (full change below same high many : Bool) → (change ≡ false → below ≡ false → same ≡ false)
    → IsOfRevert (first_by full false false false change below same high many)
unfolding first_by
revert_by true change below same high many differs = (λ is. cc, λ is. cc, λ is. cc, λ is. cc)
revert_by false true below same high many differs = (λ is. cc, λ is. cc, λ is. cc, λ is. cc)
revert_by false false true same high many differs = (λ is. cc, λ is. cc, λ is. cc, λ is. cc)
revert_by false false false true high many differs = let clash = differs refl refl in cc
revert_by false false false false true many differs = (λ is. cc, λ is. cc, λ is. cc, λ is. cc)
revert_by false false false false false true differs = (λ is. cc, λ is. cc, λ is. cc, λ is. cc)
revert_by false false false false false false differs = (λ is. cc, λ is. cc, λ is. cc, λ is. cc)

-- one that changes something is refused for the journal, its change, counts or pairs alone
pub revert_refused : (s : State) (number : ℕ)
    → (lacks_change s.done (Revert number) ≡ false → goes_below_zero s.done (Revert number) s.bag.held ≡ false
    → (length (change_of s (Revert number)) == 0) ≡ false)
    → IsOfRevert (edit_refusal s (Revert number))
unfolding first_by
revert_refused s number differs =
    let new = edited (history_of s) (Revert number) in
    revert_by (nat_le (changes_limit s.bag.limits) (length s.done)) (lacks_change s.done (Revert number))
    (goes_below_zero s.done (Revert number) s.bag.held)
    (length (change_of s (Revert number)) == 0) (has_count_above (count_limit s.bag.limits) new)
    (nat_lt (pairs_limit s.bag.limits) (length new)) differs

accepted_by : (full change below same high many : Bool) → first_by full false false false change below same high many ≡ None
    → (full ≡ false) × (change ≡ false) × (below ≡ false) × (high ≡ false) × (many ≡ false)
unfolding first_by
accepted_by true change below same high many none = cc
accepted_by false true below same high many none = cc
accepted_by false false true same high many none = cc
accepted_by false false false true high many none = cc
accepted_by false false false false true many none = cc
accepted_by false false false false false true none = cc
accepted_by false false false false false false none = (refl, refl, refl, refl, refl)

-- if one is accepted, none of these is due
pub revert_accepted : (s : State) (number : ℕ) → edit_refusal s (Revert number) ≡ None
    → (nat_le (changes_limit s.bag.limits) (length s.done) ≡ false) × (lacks_change s.done (Revert number) ≡ false)
    × (goes_below_zero s.done (Revert number) s.bag.held ≡ false)
    × (has_count_above (count_limit s.bag.limits) (edited (history_of s) (Revert number)) ≡ false)
    × (nat_lt (pairs_limit s.bag.limits) (length (edited (history_of s) (Revert number))) ≡ false)
unfolding first_by
revert_accepted s number none =
    let new = edited (history_of s) (Revert number) in
    accepted_by (nat_le (changes_limit s.bag.limits) (length s.done)) (lacks_change s.done (Revert number))
    (goes_below_zero s.done (Revert number) s.bag.held)
    (length (change_of s (Revert number)) == 0) (has_count_above (count_limit s.bag.limits) new)
    (nat_lt (pairs_limit s.bag.limits) (length new)) none

-- and if none is due, and something would change, it is accepted
pub revert_taken : (s : State) (number : ℕ) → nat_le (changes_limit s.bag.limits) (length s.done) ≡ false
    → lacks_change s.done (Revert number) ≡ false → goes_below_zero s.done (Revert number) s.bag.held ≡ false
    → (length (change_of s (Revert number)) == 0) ≡ false
    → has_count_above (count_limit s.bag.limits) (edited (history_of s) (Revert number)) ≡ false
    → nat_lt (pairs_limit s.bag.limits) (length (edited (history_of s) (Revert number))) ≡ false → edit_refusal s (Revert number) ≡ None
revert_taken s number room there stays differs low within_limit =
    cond-false _ _ _ room ∙ cond-false _ _ _ there ∙ cond-false _ _ _ stays ∙ cond-false _ _ _ differs ∙ cond-false _ _ _ low
    ∙ cond-false _ _ _ within_limit
