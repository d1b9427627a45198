-- The list has the label, so the search finds it.
use Rattle.s2ix_edit_store.proofs.HeldLabels.{is_found, not_missing}
use Rattle.s2ix_edit_store.proofs.held_labels.place_of.Goals as goal

pub unreachable-requires : goal.unreachable-requires
unreachable-requires c = not_missing c.args.labels.now c.args.label c.requires.rise c.requires.held c.in-Err.field-0 c.in-Err.ensures.position

pub returns-clause-found : goal.returns-clause-found
returns-clause-found c = is_found c.args.labels.now c.args.label c.in-Ok.place c.in-Ok.ensures.bound c.in-Ok.ensures.ok
