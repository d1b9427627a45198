-- What lines come to, by what they ask for.
use Rattle.std.proofs.Common.{◌≡◌, ℕ, ◌==◌, Bool, true, false, if◌then◌else◌, Option, Some, None, List, refl, sym, ap, ◌∙◌}
use Rattle.s2ix_bag_pairs.specs.declared.pair.Entry.{Entry}
use Rattle.s2ix_bag_pairs.specs.Collection.{LimitedCollection}
use Rattle.s2id_core.specs.CellId.{level_of, raw_of}
use Rattle.s2ix_edit_plan.specs.declared.errors.EditError.{EditError}
use Rattle.s2ix_edit_plan.specs.declared.edit.Edit.{Edit}
use Rattle.s2ix_edit_plan.specs.Refusals.{edit_refusal}
use Rattle.s2ix_edit_plan.specs.State.{State}
use Rattle.s2ix_edit_store.specs.Steps.{after_edit, after_undo, after_undo_of, last_done}
use Rattle.s2ix_edit_store.specs.Store.{IsStore}
use Rattle.s2ix_edit_store.proofs.Undone.{undo_of_edit}
use Rattle.s2ix_table_walk.specs.Contents.{contents_at}
use Rattle.s2ix_text_write.specs.Lists.{held_line, list_text}
use Rattle.s2ix_cli_script.specs.declared.instruction.Instruction.{Instruction}
use Rattle.s2ix_cli_script.specs.declared.instruction.Instruction.TheVariants as asks
use Rattle.s2ix_cli_run.specs.Asking.{AsksFor, EditsAndUndoes, is_question}
use Rattle.s2ix_cli_run.specs.Step.{Step, edit_step, edit_step_at, instruction_step, no_step, step_at, step_of, text_step, undo_step, undo_step_at}

pub step_asked : (s : State) (line : List ℕ) (instruction : Instruction) → AsksFor line instruction
    → step_of s line ≡ instruction_step s instruction
unfolding step_of
step_asked s line instruction asked = ap (step_at s) asked

-- ---- an edit that is accepted, and an undo

accepted_at : (s : State) (edit : Edit) (refusal : Option EditError) → (edit_step_at s edit refusal).is_refused ≡ false
    → (edit_step_at s edit refusal).after ≡ after_edit s edit
accepted_at s edit None accepted = refl
accepted_at s edit (Some error) accepted = cc

edit_done : (s : State) (edit : Edit) → (edit_step s edit).is_refused ≡ false → (edit_step s edit).after ≡ after_edit s edit
unfolding edit_step
edit_done s edit accepted = accepted_at s edit (edit_refusal s edit) accepted

undone_at : (s : State) (last : Option (List Entry)) → last_done s ≡ last → (undo_step_at s last).after ≡ after_undo s
undone_at s None is = sym (ap (λ (o : Option (List Entry)). elim o [ Some es ↦ after_undo_of s es | None ↦ s ]) is)
undone_at s (Some es) is = refl

undo_done : (s : State) → (undo_step s).after ≡ after_undo s
unfolding undo_step
undo_done s = undone_at s (last_done s) refl

-- the store after both lines
pub after_both : (s : State) (line undo : List ℕ) (both : EditsAndUndoes s line undo)
    → (step_of (step_of s line).after undo).after ≡ after_undo (after_edit s both.edit)
after_both s line undo both =
    let edit = both.edit in
    let asked = step_asked s line (asks.Edit edit) both.edits in
    let edited : (step_of s line).after ≡ after_edit s edit =
    ap (λ (t : Step). t.after) asked ∙ edit_done s edit (sym (ap (λ (t : Step). t.is_refused) asked) ∙ both.accepted) in
    ap (λ (t : State). (step_of t undo).after) edited
    ∙ ap (λ (t : Step). t.after) (step_asked (after_edit s edit) undo asks.Undo both.undoes)
    ∙ undo_done (after_edit s edit)

-- ---- what a question prints

-- a leaf, or a cell that is none
at_prints : (is_leaf : Bool) (s t : State) (text other name : List ℕ) → text ≡ other
    → (if is_leaf then text_step s text else no_step s name).answer ≡ (if is_leaf then text_step t other else no_step t name).answer
at_prints true s t text other name same = same
at_prints false s t text other name same = refl

-- two stores with one bag and one journal answer a question alike
pub prints_same : (s t : State) (instruction : Instruction) → is_question instruction ≡ true → s.bag ≡ t.bag → s.done ≡ t.done
    → (instruction_step s instruction).answer ≡ (instruction_step t instruction).answer
prints_same s t (asks.At cell) is bag done =
    at_prints (level_of cell == 30) s t _ _ _ (ap (λ (b : LimitedCollection). list_text held_line (contents_at (raw_of cell) b.held)) bag)
prints_same s t other is bag done = cc

-- a question after both lines
pub restored : (s : State) (line undo question : List ℕ) (instruction : Instruction) → IsStore s → EditsAndUndoes s line undo
    → AsksFor question instruction → is_question instruction ≡ true
    → (step_of (step_of (step_of s line).after undo).after question).answer ≡ (step_of s question).answer
restored s line undo question instruction st both asked is =
    let t = (step_of (step_of s line).after undo).after in
    let back = after_both s line undo both ∙ undo_of_edit s both.edit st in
    ap (λ (x : Step). x.answer) (step_asked t question instruction asked)
    ∙ prints_same t s instruction is (ap (λ (x : State). x.bag) back) (ap (λ (x : State). x.done) back)
    ∙ sym (ap (λ (x : Step). x.answer) (step_asked s question instruction asked))
