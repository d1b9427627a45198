use Rattle.s2ix_table_spans.proofs.Bases.{chain_shortens}
use Rattle.s2ix_table_spans.proofs.Windows.{starts_rise}
use Rattle.s2ix_table_spans.proofs.splice.Before.changed_block.Goals as goal

pub last_start-range-requires-clause-rises : goal.last_start-range-requires-clause-rises
last_start-range-requires-clause-rises c =
    starts_rise c.args.self.held.now c.args.self.from c.args.self.to c.args.self.starts.now c.requires.nodes.table

pub loop-place-smaller : goal.loop-place-smaller
loop-place-smaller c =
    let t = c.args.self in
    chain_shortens t.held.now t.outer.now c.loop-place.place 0 c.requires.nodes.size c.requires.nodes.outwards c.loop-place-test.true
