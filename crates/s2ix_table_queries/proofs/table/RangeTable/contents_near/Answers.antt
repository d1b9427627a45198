use Rattle.std.proofs.Common.{◌≡◌, ℕ, [], refl, sym, ◌∙◌, ap, arith}
use Rattle.s2id_core.specs.CellId.{raw_of}
use Rattle.s2ix_table_walk.specs.Contents.{contents_at}
use Rattle.s2ix_table_queries.proofs.table.RangeTable.contents_near.Goals as goal

pub returns-clause-contents : goal.returns-clause-contents
returns-clause-contents g c = record {
  listed = λ place. [];
  linked = record { size = refl; goes_on = λ place next h there next_there. cc; ends = λ place past. refl };
  place = c.first_over.ensures.place;
  over = λ leaf odd from to.
      let one : leaf ≡ raw_of c.args.leaf = omega (arith, c.raw.ensures, c.raw-2.ensures, from, to) in
      ap (λ (q : ℕ). contents_at q (g.Self.RangeTable.pairs c.args.self.now)) one ∙ sym c.first_over.ensures.pairs_are;
}
