use Rattle.std.proofs.Common.{◌≡◌, ◌++◌, take}
use Rattle.s2ix_bag_lists.specs.Faces.{all_of}
use Rattle.s2ix_bag_lists.specs.Parts.{AreFilled}
use Rattle.s2ix_bag_lists.proofs.merged_parts.add_all.Given as goal

abbrev pub invariant-loop-part : goal.invariant-loop-part
invariant-loop-part l = (all_of l.out.items ≡ all_of l.fn.out.items ++ all_of (take l.part-index l.parts)) × AreFilled l.out.items
