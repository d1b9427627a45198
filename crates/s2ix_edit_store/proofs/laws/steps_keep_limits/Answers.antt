use Rattle.s2ix_edit_store.proofs.Applied.{limits_after_apply}
use Rattle.s2ix_edit_store.proofs.Redone.{redo_keeps_limits, undo_keeps_limits}
use Rattle.s2ix_edit_store.proofs.laws.steps_keep_limits.Goals as goal

pub returns-clause-undo : goal.returns-clause-undo
returns-clause-undo c = undo_keeps_limits

pub returns-clause-redo : goal.returns-clause-redo
returns-clause-redo c = redo_keeps_limits

pub returns-clause-apply : goal.returns-clause-apply
returns-clause-apply c = limits_after_apply
