-- The faces of the entries that were passed are marked.
use Rattle.std.proofs.Common.{◌≡◌, map, take}
use Rattle.s2ix_table_kept.specs.Faces.{faces, has_entry_on}
use Rattle.s2ix_table_kept.proofs.changes.faces_of.Given as goal

abbrev pub invariant-loop-entry : goal.invariant-loop-entry
invariant-loop-entry l = l.changed ≡ map (has_entry_on (take l.entry-index l.entries)) faces
