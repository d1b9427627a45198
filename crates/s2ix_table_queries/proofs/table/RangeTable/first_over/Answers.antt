use Rattle.std.proofs.Common.{◌≡◌, ◌%◌, sym, arith, subst}
use Rattle.s2id_core.specs.CellId.{raw_of}
use Rattle.s2id_core.proofs.Nested.{leaf_span, span}
use Rattle.s2ix_bag_pairs.specs.Collection.{Collection}
use Rattle.s2ix_table_walk.specs.Places.{LeadsTo}
use Rattle.s2ix_table_queries.proofs.table.RangeTable.first_over.Goals as goal

pub returns : goal.returns
returns g c =
    let t = c.args.self.now in
    let leaf = c.args.leaf in
    let own = (leaf_span (raw_of leaf) leaf.valid c.requires).0 in
    let begins = (span (raw_of leaf) leaf.valid).odd in
    let odd : raw_of leaf % 2 ≡ 1 = omega arith in
    let found = c.find.ensures in
    let shared = (g.met.Self.RangeTable.is_table t).shared c.find.result (raw_of leaf) found.within odd found.start found.limit in
    subst (λ (hs : Collection). LeadsTo (g.Self.RangeTable.chain t) c.first.result hs) (sym shared) c.first.ensures
