-- If reading a line or an edit wanted memory, it may want it.
use Rattle.std.proofs.Common.{◌≡◌, ℕ, true, inl, length, Result, Ok, Err, Option, Some, None, IfErr, sym, ◌∙◌, subst, ⊎_elim}
use Rattle.std.proofs.lemmas.Bool.{cases_Bool, cases_lt}
use Rattle.s2ix_bag_pairs.specs.Limits.{changes_limit}
use Rattle.s2ix_edit_plan.specs.declared.errors.EditError.{EditError}
use Rattle.s2ix_edit_plan.specs.declared.errors.EditError.TheVariants.{NoChange, OutOfMemory}
use Rattle.s2ix_edit_plan.specs.Errors.{IsEditRefusal, MayWantMemory}
use Rattle.s2ix_edit_plan.specs.declared.edit.Edit.{Edit}
use Rattle.s2ix_edit_plan.specs.Refusals.{asks_no_copies, edit_refusal, reverts}
use Rattle.s2ix_edit_plan.specs.State.{State}
use Rattle.s2ix_edit_plan.proofs.EachRefusal.{full_where}
use Rattle.s2ix_edit_store.specs.Store.{HasRoom}
use Rattle.s2ix_cli_script.specs.declared.instruction.Instruction.{Instruction}
use Rattle.s2ix_cli_script.specs.declared.line_fault.LineFault.{LineFault}
use Rattle.s2ix_cli_script.specs.Named.{is_ok_with}
use Rattle.s2ix_cli_script.specs.Meaning.{asks_on_union}
use Rattle.s2ix_cli_run.specs.LineWants.{EditWants, MeaningWants}

pub line_wants : (s : State) (meaning : Result (Option Instruction) LineFault) → is_ok_with asks_on_union meaning ≡ true
    → MeaningWants s meaning
line_wants s (Ok None) wants = cc
line_wants s (Ok (Some instruction)) wants = inl wants
line_wants s (Err fault) wants = cc

-- an edit that wanted memory is not of no copies, since with room in the journal such an edit is answered without any
pub edit_wants : (s : State) (edit : Edit) (answered : Result ℕ EditError) → IfErr answered (λ error. IsEditRefusal error (edit_refusal s edit))
    → (asks_no_copies edit ≡ true → HasRoom s → answered ≡ Err NoChange)
    → (reverts edit ≡ true → answered ≡ Err OutOfMemory → edit_refusal s edit ≡ None)
    → answered ≡ Err OutOfMemory → EditWants s edit
edit_wants s edit answered refused nothing reverting is =
    let Refused : Result ℕ EditError → Type 0 = λ r. IfErr r (λ error. IsEditRefusal error (edit_refusal s edit)) in
    let May : Option EditError → Type 0 = λ refusal. MayWantMemory refusal in
    let may : MayWantMemory (edit_refusal s edit) = subst Refused is refused in
    record {
      stage = may;
      copies = ⊎_elim
          (λ none. ⊎_elim
          (λ room. let other = sym is ∙ nothing none room in cc)
          (λ full. absurd (subst May ((full_where s edit).1 full) may))
          (cases_lt (length s.done) (changes_limit s.bag.limits)))
          (λ some. some)
          (cases_Bool (asks_no_copies edit));
      reverting = λ takes. reverting takes is;
    }
