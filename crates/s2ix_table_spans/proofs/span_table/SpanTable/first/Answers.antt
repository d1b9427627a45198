use Rattle.std.proofs.Common.{subst}
use Rattle.s2ix_table_walk.specs.Places.{LeadsTo}
use Rattle.s2ix_table_spans.specs.Chains.{chain_of}
use Rattle.s2ix_table_spans.proofs.span_table.SpanTable.first.Goals as goal

pub returns : goal.returns
returns c = subst (LeadsTo (chain_of c.args.self.now.held) c.as_place.result) c.innermost.ensures c.as_place.ensures
