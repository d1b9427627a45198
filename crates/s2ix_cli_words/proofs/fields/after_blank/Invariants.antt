-- What is left has the fields of the whole.
use Rattle.std.proofs.Common.{◌≡◌, ◌-◌, ◌≤◌, drop, length}
use Rattle.s2ix_cli_words.specs.Fields.{fields_of}
use Rattle.s2ix_cli_words.proofs.fields.after_blank.Given as goal

abbrev pub invariant-loop-start : goal.invariant-loop-start
invariant-loop-start l = (l.start ≤ length l.text) × (fields_of (drop l.start l.text) ≡ fields_of l.text)

abbrev pub decreases-loop-start : goal.decreases-loop-start
decreases-loop-start l = length l.text - l.start
