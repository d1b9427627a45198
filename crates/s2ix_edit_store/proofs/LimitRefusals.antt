-- Edits that a store never refuses for a limit on counts or pairs, and one that always changes something.
use Rattle.std.proofs.Common.{◌≡◌, ◌≢◌, ℕ, ◌≤◌, true, false, length, Some, sym, ap, ◌∙◌, ⊎_elim, arith}
use Rattle.std.proofs.lemmas.Bool.{cases_lt}
use Rattle.s2ix_bag_pairs.specs.declared.label.Label.{Label}
use Rattle.s2ix_bag_pairs.specs.declared.pair.Pair.{Pair}
use Rattle.s2ix_bag_pairs.specs.Collection.{Collection}
use Rattle.s2ix_bag_pairs.specs.Limits.{changes_limit, count_limit}
use Rattle.s2ix_edit_plan.specs.declared.errors.EditError.{EditError}
use Rattle.s2ix_edit_plan.specs.declared.errors.EditError.TheVariants.{JournalFull, NoSuchLabel, NoChange, TooManyCopies, TooManyPairs}
use Rattle.s2ix_edit_plan.specs.declared.edit.Edit.{Edit}
use Rattle.s2ix_edit_plan.specs.declared.edit.Edit.TheVariants.{DropLabel, Grow, Normalise, Relabel, Remove}
use Rattle.s2ix_edit_plan.specs.Edit.{edited_by}
use Rattle.s2ix_edit_plan.specs.Refusals.{edit_refusal, has_count_above, lacks_label}
use Rattle.s2ix_edit_plan.specs.State.{State}
use Rattle.s2ix_edit_plan.proofs.EachRefusal.{full_where, high_from_refusal, label_where, many_from_refusal}
use Rattle.s2ix_edit_plan.proofs.Refused.{same_from_refusal}
use Rattle.s2ix_edit_plan.proofs.Edited.{edited_held}
use Rattle.s2ix_edit_plan.proofs.Lesser.{drop_changes, drop_few, drop_small, grown_small, moved_few, normal_few, normal_small, removal_few, removal_small}
use Rattle.s2ix_edit_store.specs.Store.{IsStore}
use Rattle.s2ix_edit_store.proofs.Planned.{stand}

never_high : (s : State) (edit : Edit) → IsStore s → has_count_above (count_limit s.bag.limits) (edited_by s.done edit s.bag.held) ≡ false
    → edit_refusal s edit ≢ Some TooManyCopies
never_high s edit st small = λ is.
    let high = high_from_refusal s edit is in
    let same = ap (λ (hs : Collection). has_count_above (count_limit s.bag.limits) hs) (edited_held s edit (stand s st)) in
    cc

never_many : (s : State) (edit : Edit) → IsStore s → length (edited_by s.done edit s.bag.held) ≤ length s.bag.held
    → edit_refusal s edit ≢ Some TooManyPairs
never_many s edit st within_limit = λ is.
    let most = st.bag.within_limit in
    absurd (omega (arith, within_limit, most, many_from_refusal s edit is, ap length (edited_held s edit (stand s st))))

pub remove_passes_none : (s : State) (pair : Pair) (copies : ℕ) → IsStore s
    → (edit_refusal s (Remove pair copies) ≢ Some TooManyCopies) × (edit_refusal s (Remove pair copies) ≢ Some TooManyPairs)
remove_passes_none s pair copies st = (
  never_high s (Remove pair copies) st (removal_small s.bag pair copies st.bag),
  never_many s (Remove pair copies) st (removal_few s.bag pair copies st.bag),
)

pub drop_passes_none : (s : State) (label : Label) → IsStore s
    → (edit_refusal s (DropLabel label) ≢ Some TooManyCopies) × (edit_refusal s (DropLabel label) ≢ Some TooManyPairs)
drop_passes_none s label st =
    (never_high s (DropLabel label) st (drop_small s.bag label st.bag), never_many s (DropLabel label) st (drop_few s.bag label))

pub normalise_passes_none : (s : State) (label : Label) → IsStore s
    → (edit_refusal s (Normalise label) ≢ Some TooManyCopies) × (edit_refusal s (Normalise label) ≢ Some TooManyPairs)
normalise_passes_none s label st =
    (never_high s (Normalise label) st (normal_small s.bag label st.bag), never_many s (Normalise label) st (normal_few s.bag label))

pub relabel_passes_no_pairs : (s : State) (source target : Label) → IsStore s → edit_refusal s (Relabel source target) ≢ Some TooManyPairs
relabel_passes_no_pairs s source target st = never_many s (Relabel source target) st (moved_few s.bag source target st.bag)

pub grow_passes_no_count : (s : State) (label : Label) (level : ℕ) → IsStore s → edit_refusal s (Grow label level) ≢ Some TooManyCopies
grow_passes_no_count s label level st = never_high s (Grow label level) st (grown_small s.bag label level st.bag)

-- ---- a label that is dropped is held, and its pairs go

-- a refusal but that of a full journal or of a label comes if the label is held
label_is_held : (s : State) (edit : Edit) (e : EditError) → e ≢ JournalFull → e ≢ NoSuchLabel → edit_refusal s edit ≡ Some e
    → lacks_label edit s.bag.held ≡ true → ⊥
label_is_held s edit e not_full not_label is lacks =
    ⊎_elim
    (λ room. let other = sym is ∙ (label_where s edit).1 (room, lacks) in not_label (cc))
    (λ full. let other = sym is ∙ (full_where s edit).1 full in not_full (cc))
    (cases_lt (length s.done) (changes_limit s.bag.limits))

pub drop_changes_something : (s : State) (label : Label) → IsStore s → edit_refusal s (DropLabel label) ≢ Some NoChange
drop_changes_something s label st = λ is.
    let same = sym (edited_held s (DropLabel label) (stand s st)) ∙ same_from_refusal s (DropLabel label) st.bag is in
    label_is_held s (DropLabel label) NoChange (λ e. cc) (λ e. cc) is (drop_changes label s.bag.held same)
