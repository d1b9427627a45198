use Rattle.std.proofs.Common.{◌+◌, take, drop, length}
use Rattle.s2ix_table_spans.specs.Chains.{chain_of}
use Rattle.s2ix_table_spans.proofs.BlockChains.{LeadsAround}
use Rattle.s2ix_table_spans.proofs.splice.Before.base.Given as goal

abbrev pub invariant-loop-block : goal.invariant-loop-block
invariant-loop-block l =
    let held = l.self.held.now in
    LeadsAround l.block.cell (take l.block.start held) (take l.block.old (drop l.block.start held)) (drop (l.block.start + l.block.old) held) l.place

abbrev pub decreases-loop-block : goal.decreases-loop-block
decreases-loop-block l = length (chain_of l.self.held.now l.place)
