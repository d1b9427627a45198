use Rattle.std.proofs.Common.{◌≡◌, ltb, ltb-true, ltb-false, true, false, rules, arith}
use Rattle.std.proofs.lemmas.List.Sorted.{IsPartitionPoint-from_clause, IsPartitionedBy-ltb}
use Rattle.std.specs.List.Sorted.{IsPartitionPoint}
use Rattle.s2id_core.specs.CellId.{raw_of}
use Rattle.s2ix_bag_pairs.specs.declared.pair.Held.{Held}
use Rattle.s2ix_table_spans.proofs.Exchanges.{numbers_rise, all_lesser, all_rest}
use Rattle.s2ix_table_spans.proofs.block.lesser_count.Goals as goal

pub returns : goal.returns
returns c =
    let hs = c.args.pairs.now in
    let number = c.args.number in
    let place = c.partition_point.result in
    let points : IsPartitionPoint
    (λ (h : Held). ltb (raw_of h.pair.cell) number ≡ true) (λ (h : Held). ltb (raw_of h.pair.cell) number ≡ false) hs place =
    IsPartitionPoint-from_clause (λ (h : Held). ltb (raw_of h.pair.cell) number) hs place c.partition_point.ensures.partitioned
    (IsPartitionedBy-ltb (λ (h : Held). raw_of h.pair.cell) hs number (numbers_rise hs c.requires.rises)) (λ a r q k. search rules) in
    record {
      within = c.partition_point.ensures.bound;
      lesser = all_lesser hs place number (λ k d within lt. ltb-true _ _ (points.0 k d (omega arith) lt));
      rest = all_rest hs place number (λ k d within le. ltb-false _ _ (points.1 k d le within));
    }
