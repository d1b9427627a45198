use Rattle.s2ix_table_spans.proofs.Tables.{nodes_of_pass}
use Rattle.s2ix_table_spans.proofs.nodes.Nodes.with_room.Goals as goal

pub returns : goal.returns
returns c =
    nodes_of_pass c.args.pairs.now c.args.from c.args.to c.in_ok-pass.pass c.first_ones-starts.result.items c.first_ones-firsts.result.items c.requires.rises
    c.requires.within_limit c.requires.span c.in_ok-pass.ensures c.first_ones-starts.ensures c.first_ones-firsts.ensures
