-- The limits under which whole texts are checked, replayed and rewound.
use Rattle.std.proofs.Common.{lit≤}
use Rattle.s2ix_bag_pairs.specs.declared.limits.Limits.{Limits}

-- the widest limits: each is the greatest of its range
abbrev pub widest : Limits
widest = record {
  pairs = 1000000;
  count = 4294967295;
  changes = 100000;
  in_range = (lit≤ tt, lit≤ tt, lit≤ tt, lit≤ tt, lit≤ tt, lit≤ tt);
}
