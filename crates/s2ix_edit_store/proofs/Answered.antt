-- What a store answers to an edit, by where it refuses it.
use Rattle.std.proofs.Common.{◌≡◌, ◌≢◌, ◌↔◌, ℕ, ◌+◌, ◌-◌, ◌<◌, ◌==◌, true, false, List, [], ◌∷◌, length, Option, Some, None, ◌⊎◌, Result, Ok, Err, OnOk, IfErr, refl, sym, ap, ◌∙◌, subst, ⊎_elim, arith, eq-eqb, le-ltb}
use Rattle.std.proofs.lemmas.Bool.{cond-false, cond-true, eqb-true, lt-leb}
use Rattle.s2ix_bag_pairs.specs.declared.pair.Entry.{Entry}
use Rattle.s2ix_bag_pairs.specs.declared.pair.Pair.{Pair}
use Rattle.s2ix_bag_pairs.specs.Change.{change_between}
use Rattle.s2ix_bag_pairs.specs.Collection.{Collection, count_in, set_count}
use Rattle.s2ix_bag_pairs.specs.Limits.{changes_limit, count_limit, pairs_limit}
use Rattle.s2ix_bag_pairs.proofs.Collections.{set_count_in}
use Rattle.s2ix_edit_plan.specs.declared.errors.EditError.{EditError}
use Rattle.s2ix_edit_plan.specs.declared.errors.EditError.TheVariants.{JournalFull, NoSuchLabel, NotHeld, TooFine, NoSuchChange, BelowZero, NoChange, TooManyCopies, TooManyPairs, OutOfMemory}
use Rattle.s2ix_edit_plan.specs.Errors.{IsEditRefusal, MayWantMemory}
use Rattle.s2ix_edit_plan.specs.declared.edit.Edit.{Edit}
use Rattle.s2ix_edit_plan.specs.declared.edit.Edit.TheVariants.{Add, AddUnion, Remove, DropLabel, Relabel, Grow, Normalise, Revert}
use Rattle.s2ix_edit_plan.specs.Edit.{edited}
use Rattle.s2ix_edit_plan.specs.Plan.{Plans, entries_refusal}
use Rattle.s2ix_edit_plan.specs.Refusals.{asks_no_copies, asks_too_fine, edit_refusal, goes_below_zero, has_count_above, lacks_change, lacks_label, reverts, takes_too_many}
use Rattle.s2ix_edit_plan.specs.State.{State, change_of, history_of}
use Rattle.s2ix_edit_plan.proofs.EachRefusal.{below_where, change_where, fine_where, full_where, held_where, high_from_refusal, label_where, many_from_refusal}
use Rattle.s2ix_edit_plan.proofs.Refused.{same_from_refusal}
use Rattle.s2ix_edit_plan.proofs.Edited.{edited_held}
use Rattle.s2ix_edit_plan.proofs.Plans.{between_changed}
use Rattle.s2ix_edit_store.specs.Store.{HasRoom, IsStore}
use Rattle.s2ix_edit_store.proofs.Planned.{refusal_of_entries, stand}
use Rattle.s2ix_edit_store.proofs.RevertRefusals.{reverts_refused}

-- ---- the error and the refusal

same_error : (x e : EditError) → (MayWantMemory (Some e) → ⊥) → IsEditRefusal x (Some e) → x ≡ e
same_error JournalFull e never is = cc
same_error NoSuchLabel e never is = cc
same_error NotHeld e never is = cc
same_error TooFine e never is = cc
same_error NoSuchChange e never is = cc
same_error BelowZero e never is = cc
same_error NoChange e never is = cc
same_error TooManyCopies e never is = cc
same_error TooManyPairs e never is = cc
same_error OutOfMemory e never is = absurd (never is)

-- an error that says its own refusal is answered only if that is the edit's
pub only_where : (r : Result ℕ EditError) (refusal : Option EditError) (e : EditError)
    → ((o : Option EditError) → IsEditRefusal e o → o ≡ Some e) → OnOk r (refusal ≡ None) → IfErr r (λ error. IsEditRefusal error refusal)
    → r ≡ Err e → refusal ≡ Some e
only_where (Ok n) refusal e own accepted refused is = cc
only_where (Err x) refusal e own accepted refused is =
    let same : x ≡ e = cc in
    let Refused : EditError → Type 0 = λ error. IsEditRefusal error refusal in
    own refusal (subst Refused same refused)

-- and wherever it is, if memory may not be wanted in its place
answered_where : (r : Result ℕ EditError) (refusal : Option EditError) (e : EditError)
    → ((o : Option EditError) → IsEditRefusal e o → o ≡ Some e) → (MayWantMemory (Some e) → ⊥) → OnOk r (refusal ≡ None)
    → IfErr r (λ error. IsEditRefusal error refusal) → (r ≡ Err e) ↔ (refusal ≡ Some e)
answered_where (Ok n) refusal e own never accepted refused = (λ is. only_where (Ok n) refusal e own accepted refused is, λ is. cc)
answered_where (Err x) refusal e own never accepted refused = (
  λ is. only_where (Err x) refusal e own accepted refused is,
  λ is.
      let Refused : Option EditError → Type 0 = λ o. IsEditRefusal x o in
      let same = same_error x e never (subst Refused is refused) in
      ap (λ (error : EditError). let r : Result ℕ EditError = Err error in r) same,
)

-- ---- each answer

both_ways : {A B C : Type 0} → A ↔ B → B ↔ C → A ↔ C
both_ways first second = (λ a. second.0 (first.0 a), λ c. first.1 (second.1 c))

-- if a store answers so to an edit
pub record Answers (s : State) (edit : Edit) (r : Result ℕ EditError) : Type 0 where
  pub full : (r ≡ Err JournalFull) ↔ (length s.done ≡ changes_limit s.bag.limits)
  pub no_such_label : (r ≡ Err NoSuchLabel) ↔ (HasRoom s × (lacks_label edit s.bag.held ≡ true))
  pub not_held : (r ≡ Err NotHeld) ↔ (HasRoom s × (takes_too_many edit s.bag.held ≡ true))
  pub too_fine : (r ≡ Err TooFine) ↔ (HasRoom s × (lacks_label edit s.bag.held ≡ false) × (asks_too_fine edit s.bag.held ≡ true))
  pub no_such_change : (r ≡ Err NoSuchChange) ↔ (HasRoom s × (lacks_change s.done edit ≡ true))
  pub below_zero : (r ≡ Err BelowZero) ↔ (HasRoom s × (goes_below_zero s.done edit s.bag.held ≡ true))
  pub no_change : r ≡ Err NoChange → edited (history_of s) edit ≡ s.bag.held
  pub too_many_copies : r ≡ Err TooManyCopies → has_count_above (count_limit s.bag.limits) (edited (history_of s) edit) ≡ true
  pub too_many_pairs : r ≡ Err TooManyPairs → pairs_limit s.bag.limits < length (edited (history_of s) edit)

full_at_limit : (s : State) (edit : Edit) → IsStore s
    → (edit_refusal s edit ≡ Some JournalFull) ↔ (length s.done ≡ changes_limit s.bag.limits)
full_at_limit s edit st =
    let at = full_where s edit in
    let room = st.room in
    (λ is. let most = at.0 is in omega (arith, most, room), λ full. at.1 (omega (arith, full)))

pub answers : (s : State) (edit : Edit) (r : Result ℕ EditError) → IsStore s → OnOk r (edit_refusal s edit ≡ None)
    → IfErr r (λ error. IsEditRefusal error (edit_refusal s edit)) → Answers s edit r
answers s edit r st accepted refused =
    let refusal = edit_refusal s edit in
    record {
      full = both_ways (answered_where r refusal JournalFull (λ o is. is) (λ may. may) accepted refused) (full_at_limit s edit st);
      no_such_label = both_ways (answered_where r refusal NoSuchLabel (λ o is. is) (λ may. may) accepted refused) (label_where s edit);
      not_held = both_ways (answered_where r refusal NotHeld (λ o is. is) (λ may. may) accepted refused) (held_where s edit);
      too_fine = both_ways (answered_where r refusal TooFine (λ o is. is) (λ may. may) accepted refused) (fine_where s edit);
      no_such_change = both_ways (answered_where r refusal NoSuchChange (λ o is. is) (λ may. may) accepted refused) (change_where s edit);
      below_zero = both_ways (answered_where r refusal BelowZero (λ o is. is) (λ may. may) accepted refused) (below_where s edit);
      no_change = λ is. same_from_refusal s edit st.bag (only_where r refusal NoChange (λ o own. own) accepted refused is);
      too_many_copies = λ is. high_from_refusal s edit (only_where r refusal TooManyCopies (λ o own. own) accepted refused is);
      too_many_pairs = λ is. many_from_refusal s edit (only_where r refusal TooManyPairs (λ o own. own) accepted refused is);
    }

-- if the edit was refused before its entries were carried out
pub answers_refused : (s : State) (edit : Edit) (r : Result ℕ EditError) (error : EditError) → IsStore s → r ≡ Err error
    → IsEditRefusal error (edit_refusal s edit) → Answers s edit r
answers_refused s edit r error st is refused =
    let Told : Result ℕ EditError → Type 0 = λ x. Answers s edit x in
    subst Told (sym is) (answers s edit (Err error) st tt refused)

-- and if they were
pub answers_recorded : (s : State) (edit : Edit) (es : List Entry) (r : Result ℕ EditError) → IsStore s → HasRoom s
    → Plans s.bag s.done edit es → OnOk r (entries_refusal s.bag es ≡ None)
    → IfErr r (λ error. IsEditRefusal error (entries_refusal s.bag es)) → Answers s edit r
answers_recorded s edit es r st room plans accepted refused =
    let same = refusal_of_entries s edit es st room plans in
    let Accepted : Option EditError → Type 0 = λ o. OnOk r (o ≡ None) in
    let Refused : Option EditError → Type 0 = λ o. IfErr r (λ error. IsEditRefusal error o) in
    answers s edit r st (subst Accepted same accepted) (subst Refused same refused)

-- ---- edits of no copies

-- the change from a collection to itself is none
unchanged : (s : State) → IsStore s → (length (change_between s.bag.held s.bag.held) == 0) ≡ true
unchanged s st = eq-eqb _ _ (ap length (between_changed s.bag [] st.bag.rises tt refl))

same_count : (s : State) (p : Pair) (n : ℕ) → IsStore s → n ≡ count_in s.bag.held p → set_count p n s.bag.held ≡ s.bag.held
same_count s p n st is = ap (λ m. set_count p m s.bag.held) is ∙ set_count_in p s.bag.held st.bag.rises

same_where : (s : State) (edit : Edit) → IsStore s → edited (history_of s) edit ≡ s.bag.held → (length (change_of s edit) == 0) ≡ true
same_where s edit st same = ap (λ (new : Collection). length (change_between s.bag.held new) == 0) same ∙ unchanged s st

-- they would change nothing, and no refusal before that stands
no_copies_refused : (s : State) (edit : Edit) → IsStore s → asks_no_copies edit ≡ true → HasRoom s → edit_refusal s edit ≡ Some NoChange
no_copies_refused s (Add pair copies) st none room =
    let zero = eqb-true copies 0 none in
    let same = edited_held s (Add pair copies) (stand s st)
    ∙ same_count s pair (count_in s.bag.held pair + copies) st (omega (arith, zero)) in
    cond-false _ _ _ (lt-leb _ _ room) ∙ cond-true _ _ _ (same_where s (Add pair copies) st same)
no_copies_refused s (Remove pair copies) st none room =
    let zero = eqb-true copies 0 none in
    let same = edited_held s (Remove pair copies) (stand s st)
    ∙ same_count s pair (count_in s.bag.held pair - copies) st (omega (arith, zero)) in
    cond-false _ _ _ (lt-leb _ _ room) ∙ cond-false _ _ _ (le-ltb (count_in s.bag.held pair) copies (omega (arith, zero)))
    ∙ cond-true _ _ _ (same_where s (Remove pair copies) st same)
no_copies_refused s (AddUnion [] label) st none room =
    cond-false _ _ _ (lt-leb _ _ room)
    ∙ cond-true _ _ _ (same_where s (AddUnion [] label) st (edited_held s (AddUnion [] label) (stand s st)))
no_copies_refused s (AddUnion (cell ∷ cells) label) st none room = absurd (omega (arith, eqb-true (length (cell ∷ cells)) 0 none))
no_copies_refused s (DropLabel label) st none room = cc
no_copies_refused s (Relabel source target) st none room = cc
no_copies_refused s (Grow label level) st none room = cc
no_copies_refused s (Normalise label) st none room = cc
no_copies_refused s (Revert number) st none room = cc

pub nothing_answered : (r : Result ℕ EditError) (refusal : Option EditError) → refusal ≡ Some NoChange → OnOk r (refusal ≡ None)
    → IfErr r (λ error. IsEditRefusal error refusal) → (r ≡ Err OutOfMemory → refusal ≡ None) → r ≡ Err NoChange
nothing_answered (Ok n) refusal is accepted refused memory = cc
nothing_answered (Err JournalFull) refusal is accepted refused memory = cc
nothing_answered (Err NoSuchLabel) refusal is accepted refused memory = cc
nothing_answered (Err NotHeld) refusal is accepted refused memory = cc
nothing_answered (Err TooFine) refusal is accepted refused memory = cc
nothing_answered (Err NoSuchChange) refusal is accepted refused memory = cc
nothing_answered (Err BelowZero) refusal is accepted refused memory = cc
nothing_answered (Err NoChange) refusal is accepted refused memory = refl
nothing_answered (Err TooManyCopies) refusal is accepted refused memory = cc
nothing_answered (Err TooManyPairs) refusal is accepted refused memory = cc
nothing_answered (Err OutOfMemory) refusal is accepted refused memory = let none = memory refl in cc

-- so that is what is answered, since memory is wanted for no entries that are refused
pub no_copies_answered : (s : State) (edit : Edit) (es : List Entry) (r : Result ℕ EditError) → IsStore s → HasRoom s
    → Plans s.bag s.done edit es → OnOk r (entries_refusal s.bag es ≡ None)
    → IfErr r (λ error. IsEditRefusal error (entries_refusal s.bag es)) → (r ≡ Err OutOfMemory → entries_refusal s.bag es ≡ None)
    → asks_no_copies edit ≡ true → r ≡ Err NoChange
no_copies_answered s edit es r st room plans accepted refused memory none =
    nothing_answered r (entries_refusal s.bag es) (refusal_of_entries s edit es st room plans ∙ no_copies_refused s edit st none room)
    accepted refused memory

-- ---- a revert

-- a revert is never refused because nothing would change
never_same : (s : State) (edit : Edit) → IsStore s → reverts edit ≡ true → edit_refusal s edit ≢ Some NoChange
never_same s (Add pair copies) st takes = cc
never_same s (AddUnion cells label) st takes = cc
never_same s (Remove pair copies) st takes = cc
never_same s (DropLabel label) st takes = cc
never_same s (Relabel source target) st takes = cc
never_same s (Grow label level) st takes = cc
never_same s (Normalise label) st takes = cc
never_same s (Revert number) st takes = (reverts_refused s number st).3

pub revert_accepted_or_same : (s : State) (edit : Edit) → IsStore s → reverts edit ≡ true
    → (edit_refusal s edit ≡ None) ⊎ (edit_refusal s edit ≡ Some NoChange) → edit_refusal s edit ≡ None
revert_accepted_or_same s edit st takes either =
    ⊎_elim (λ none. none) (λ same. absurd (never_same s edit st takes same)) either
