use Rattle.s2ix_edit_store.specs.Steps.{after_redo, after_undo}
use Rattle.s2ix_edit_store.proofs.Led.{same_parts}
use Rattle.s2ix_edit_store.proofs.Redone.{redo_of_undo, undo_of_redo}
use Rattle.s2ix_edit_store.proofs.laws.undo_and_redo_lead_back.Goals as goal

pub returns-clause-redo_after_undo : goal.returns-clause-redo_after_undo
returns-clause-redo_after_undo c = λ s st some. same_parts (after_redo (after_undo s)) _ (redo_of_undo s st some)

pub returns-clause-undo_after_redo : goal.returns-clause-undo_after_redo
returns-clause-undo_after_redo c = λ s st some. same_parts (after_undo (after_redo s)) _ (undo_of_redo s st some)
