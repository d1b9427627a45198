use Rattle.std.proofs.Common.{◌≡◌, ◌-◌, ◌≤◌, ◌++◌, take, drop, length}
use Rattle.s2ix_bag_lists.specs.Parts.{starts_from}
use Rattle.s2ix_bag_lists.specs.View.{lists_in}
use Rattle.s2ix_bag_lists.proofs.part_list.push_later_starts.Given as goal

abbrev pub invariant-loop-part : goal.invariant-loop-part
invariant-loop-part l =
    (l.end ≤ l.part)
    × (l.part ≤ length (lists_in l.parts))
    × (l.all.items ≡ l.fn.all.items ++ starts_from l.now (take (l.part - l.end) (drop l.end (lists_in l.parts))))

abbrev pub decreases-loop-part : goal.decreases-loop-part
decreases-loop-part l = length (lists_in l.parts) - l.part
