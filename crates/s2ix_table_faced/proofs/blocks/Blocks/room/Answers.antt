use Rattle.std.proofs.Common.{length, arith}
use Rattle.s2ix_table_faced.proofs.LeafBlocks.{all_leaves}
use Rattle.s2ix_table_faced.proofs.blocks.Blocks.room.Goals as goal

pub invariant_of-result : goal.invariant_of-result
invariant_of-result c =
    let many = c.in_ok-lasts.ensures.len in
    let own = c.in_ok-lasts.lasts.ok.0 in
    record {
      leaves = all_leaves (length c.in_ok-lasts.lasts.items) c.block_shift-shift.result c.block_shift-shift.ensures (omega arith);
    }
