-- There are as many places as next ones.
use Rattle.std.proofs.Common.{Some, None, refl, subst, arith}
use Rattle.std.proofs.lemmas.Option.{slice_get_past}
use Rattle.s2ix_table_walk.specs.Places.{LeadsTo}
use Rattle.s2ix_table_walk.proofs.Leads.{leads_some, leads_none}
use Rattle.s2ix_table_spans.specs.Chains.{chain_of}
use Rattle.s2ix_table_spans.specs.SpanTable.{SpanRanges}
use Rattle.s2ix_table_spans.proofs.Chains.{chain_none, chain_some}
use Rattle.s2ix_table_spans.proofs.span_table.SpanTable.as_place.Goals as goal

pub returns-then-number-len : goal.returns-then-number-len
returns-then-number-len c =
    let held = c.self.inside.held in
    let size = c.self.invariant.size in
    subst (λ (v : SpanRanges). LeadsTo (chain_of v.held) (Some c.args.number) (chain_of v.held c.args.number)) c.self.view_is
    (leads_some (chain_of held) c.args.number (chain_of held c.args.number) refl (chain_some held c.args.number (omega arith)))

pub returns-else-number-len : goal.returns-else-number-len
returns-else-number-len c =
    let held = c.self.inside.held in
    let size = c.self.invariant.size in
    subst (λ (v : SpanRanges). LeadsTo (chain_of v.held) None (chain_of v.held c.args.number)) c.self.view_is
    (leads_none (chain_of held) (chain_of held c.args.number) (chain_none held c.args.number (slice_get_past held c.args.number (omega arith))))
