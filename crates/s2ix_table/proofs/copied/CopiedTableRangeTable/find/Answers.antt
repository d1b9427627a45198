use Rattle.std.proofs.Common.{◌≡◌, ◌≤◌, leb, true, false, length, sym, subst, rules, arith}
use Rattle.std.proofs.lemmas.List.Sorted.{IsPartitionPoint-from_clause, IsPartitionedBy-leb}
use Rattle.std.specs.List.Sorted.{IsPartitionPoint, IsNonDecreasingBy}
use Rattle.s2id_core.specs.CellId.{raw_of}
use Rattle.s2id_core.proofs.Nested.{leaf_span, span}
use Rattle.s2ix_table.specs.declared.copied_range.CopiedRange.{CopiedRange}
use Rattle.s2ix_table.specs.Copied.{ranges_of}
use Rattle.s2ix_table_walk.specs.Table.{IsFound}
use Rattle.s2ix_table.proofs.Building.{found_range, ranges_rise}
use Rattle.s2ix_table.proofs.copied.CopiedTableRangeTable.find.Goals as goal

pub returns : goal.returns
returns c =
    let ranges = c.args.self.now.ranges.items in
    let ys = c.deref.result.now in
    let same : ys ≡ ranges = c.deref.ensures.value in
    let leaf = c.raw-leaf.result in
    let e : leaf ≡ raw_of c.args.leaf = c.raw-leaf.ensures in
    let p = c.partition_point.result in
    let held = c.args.self.now.held.value.items in
    let table = c.args.self.now.table in
    let rises : IsNonDecreasingBy (λ (r : CopiedRange). r.limit) ys = subst (λ xs. IsNonDecreasingBy (λ (r : CopiedRange). r.limit) xs)
    (sym same) (ranges_rise held ranges table) in
    let points : IsPartitionPoint (λ (r : CopiedRange). leb r.limit leaf ≡ true) (λ (r : CopiedRange). leb r.limit leaf ≡ false) ys p =
    IsPartitionPoint-from_clause (λ (r : CopiedRange). leb r.limit leaf) ys p c.partition_point.ensures.partitioned
    (IsPartitionedBy-leb (λ (r : CopiedRange). r.limit) ys leaf rises) (λ a r q k. search rules) in
    let own = leaf_span (raw_of c.args.leaf) c.args.leaf.valid c.requires in
    let s = span (raw_of c.args.leaf) c.args.leaf.valid in
    let a = s.begins in
    let b = s.ends in
    let o1 = own.0 in
    let o2 = own.1 in
    let at : IsPartitionPoint (λ (r : CopiedRange). leb r.limit leaf ≡ true) (λ (r : CopiedRange). leb r.limit leaf ≡ false) ranges p =
    subst (λ xs. IsPartitionPoint (λ (r : CopiedRange). leb r.limit leaf ≡ true) (λ (r : CopiedRange). leb r.limit leaf ≡ false) xs p)
    same points in
    let within : p ≤ length ranges = subst (λ xs. p ≤ length xs) same c.partition_point.ensures.bound in
    let got : IsFound (ranges_of ranges) p leaf = found_range held ranges p leaf table (omega arith) (omega arith) within at.0 at.1 in
    let g1 = got.start in
    let g2 = got.limit in
    record { within = got.within; start = omega arith; limit = omega arith }
