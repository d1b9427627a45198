use Rattle.std.proofs.Common.{ℕ, List, sym, subst}
use Rattle.std.proofs.lemmas.Option.{slice_get_past}
use Rattle.s2ix_table_walk.specs.Links.{AreLinked}
use Rattle.s2ix_table_spans.specs.Chains.{chain_of}
use Rattle.s2ix_table_spans.specs.SpanTable.{SpanRanges}
use Rattle.s2ix_table_spans.proofs.Chains.{chain_none}
use Rattle.s2ix_table_spans.proofs.span_table.SpanTable.outers.Goals as goal

pub returns : goal.returns
returns c =
    let t = c.self.inside in
    let linked : AreLinked t.held t.outer.items (chain_of t.held) = record {
      size = c.self.invariant.size;
      goes_on = λ place next h there next_there. c.self.invariant.outwards place next h there next_there;
      ends = λ place past. chain_none t.held place (slice_get_past t.held place past);
    } in
    subst (λ (v : SpanRanges). AreLinked v.held c.as_slice.result.now (chain_of v.held)) c.self.view_is
    (subst (λ (xs : List ℕ). AreLinked t.held xs (chain_of t.held)) (sym c.as_slice.ensures.value) linked)
