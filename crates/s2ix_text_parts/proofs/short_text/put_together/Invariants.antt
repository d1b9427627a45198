-- The texts of the parts before this one are gathered.
use Rattle.std.proofs.Common.{◌≡◌, take}
use Rattle.s2ix_text_parts.specs.Puts.{text_of_parts}
use Rattle.s2ix_text_parts.proofs.short_text.put_together.Given as goal

abbrev pub invariant-loop-part : goal.invariant-loop-part
invariant-loop-part g l = (l.text.items ≡ text_of_parts (take l.part-index l.parts)) × (l.sink ≡ l.fn.sink)
