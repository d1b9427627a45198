use Rattle.std.proofs.Common.{◌≡◌, ◌++◌, take}
use Rattle.s2ix_bag_lists.specs.Faces.{all_of}
use Rattle.s2ix_bag_lists.proofs.held_parts.append_pairs.Given as goal

abbrev pub invariant-loop-part : goal.invariant-loop-part
invariant-loop-part l = l.all.items ≡ l.fn.all.items ++ all_of (take l.part-index l.parts)
