-- The limits are those that the three numbers made, and the collection or the fault is the reader's.
use Rattle.std.proofs.Common.{◌∙◌, ℕ, ap, sym, subst, Some}
use Rattle.s2ix_bag_pairs.specs.declared.limits.Limits.{Limits}
use Rattle.s2ix_edit_plan.specs.State.{State, starting_at}
use Rattle.s2ix_text.specs.declared.dump_error.DumpError.{DumpError}
use Rattle.s2ix_text.specs.declared.dump_error.DumpError.TheVariants.{OutOfMemory}
use Rattle.s2ix_text.specs.DumpFaults.{IsDumpError, dump_fault}
use Rattle.s2ix_c.proofs.handles.s2ix_load.Goals as goal

pub returns-clause-loaded : goal.returns-clause-loaded
returns-clause-loaded c = λ is_done. (
  c.in-Ok.bag.held,
  c.in-Ok.ensures.text,
  (
    c.in-Some.limits,
    c.in-Some.ensures.pairs,
    c.in-Some.ensures.count,
    c.in-Some.ensures.changes,
    c.keep.ensures.kept is_done
        ∙ ap (λ (s : State). Some s) c.in-Ok-from_bag.ensures.state
        ∙ ap (λ (l : Limits). Some (starting_at (record { limits = l; held = c.in-Ok.bag.held }))) c.in-Ok.ensures.limits,
  ),
)

pub returns-in-Err-At-clause-fault : goal.returns-in-Err-At-clause-fault
returns-in-Err-At-clause-fault c = λ is_no_dump. (
  c.in-Some.limits,
  c.in-Some.ensures.pairs,
  c.in-Some.ensures.count,
  c.in-Some.ensures.changes,
  c.in-Err-At.field-0-1,
  subst (λ (e : DumpError). IsDumpError e (dump_fault c.in-Some.limits c.args.text.now)) c.in-Err-At.field-0-is c.in-Err-At.ensures.refused
      ∙ ap (λ (line : ℕ). Some (line, c.in-Err-At.field-0-1)) (sym c.in-Err-At.at-is),
)

-- the dump has no fault, so its reading may want memory
pub returns-clause-memory : goal.returns-clause-memory
returns-clause-memory c = λ is_want. (
  c.in-Some.limits,
  c.in-Some.ensures.pairs,
  c.in-Some.ensures.count,
  c.in-Some.ensures.changes,
  subst (λ found. IsDumpError OutOfMemory found) (sym c.in-Ok.ensures.accepted) tt,
)

pub returns-in_default-from_bag-clause-memory : goal.returns-in_default-from_bag-clause-memory
returns-in_default-from_bag-clause-memory c = λ is_want. (
  c.in-Some.limits,
  c.in-Some.ensures.pairs,
  c.in-Some.ensures.count,
  c.in-Some.ensures.changes,
  subst (λ found. IsDumpError OutOfMemory found) (sym c.in-Ok.ensures.accepted) tt,
)

pub returns-in-Err-OutOfMemory-clause-memory : goal.returns-in-Err-OutOfMemory-clause-memory
returns-in-Err-OutOfMemory-clause-memory c = λ is_want. (
  c.in-Some.limits,
  c.in-Some.ensures.pairs,
  c.in-Some.ensures.count,
  c.in-Some.ensures.changes,
  subst (λ (e : DumpError). IsDumpError e (dump_fault c.in-Some.limits c.args.text.now)) c.in-Err-OutOfMemory.field-0-is c.in-Err-OutOfMemory.ensures.refused,
)
