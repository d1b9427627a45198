use Rattle.std.proofs.Common.{◌≤◌, ◌<◌, ℕ, sym, ◌∙◌, subst}
use Rattle.std.proofs.lemmas.List.{append-nil}
use Rattle.s2ix_table_walk.specs.Links.{AreLinked}
use Rattle.s2ix_table_spans.specs.Chains.{chain_of}
use Rattle.s2ix_table.proofs.chain_table.ChainTableRangeTable.contents_near.Goals as goal

pub returns-clause-contents : goal.returns-clause-contents
returns-clause-contents c =
    let t = c.args.self.now in
    record {
      listed = chain_of t.span.held;
      linked = subst (λ hs. AreLinked hs c.outers.result.now (chain_of t.span.held)) (sym c.held.ensures) c.outers.ensures;
      place = λ p is. cc;
      over = λ leaf odd from to.
          t.table.shared c.find_near-range.result leaf c.find_near-range.ensures.within odd
          (subst (λ (n : ℕ). n ≤ leaf) c.range-row.ensures.start from) (subst (λ (n : ℕ). leaf < n) c.range-row.ensures.limit to)
          ∙ sym c.innermost.ensures ∙ sym (append-nil (chain_of t.span.held c.innermost.result));
    }
