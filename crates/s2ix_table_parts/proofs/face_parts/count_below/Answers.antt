-- The place that the search finds cuts the list at a cell's number.
use Rattle.std.proofs.Common.{◌≡◌, ltb, ltb-true, ltb-false, true, false, ℕ, ◌*◌, rules, arith}
use Rattle.std.proofs.lemmas.List.Sorted.{IsPartitionPoint-from_clause, IsPartitionedBy-ltb}
use Rattle.std.specs.List.Sorted.{IsPartitionPoint}
use Rattle.s2ix_bag_pairs.specs.Pair.{rank_of}
use Rattle.s2ix_bag_pairs.specs.declared.pair.Held.{Held}
use Rattle.s2ix_bag_pairs.proofs.CutAtRank.{ranks_non_decreasing, below_from_places, from_place}
use Rattle.s2ix_table_parts.proofs.face_parts.count_below.Goals as goal

pub returns : goal.returns
returns c =
    let hs = c.args.held.now in
    let rank : ℕ = c.args.number * 2147483648 in
    let place = c.partition_point.result in
    let points : IsPartitionPoint
    (λ (h : Held). ltb (rank_of h.pair) rank ≡ true) (λ (h : Held). ltb (rank_of h.pair) rank ≡ false) hs place =
    IsPartitionPoint-from_clause (λ (h : Held). ltb (rank_of h.pair) rank) hs place c.partition_point.ensures.partitioned
    (IsPartitionedBy-ltb (λ (h : Held). rank_of h.pair) hs rank (ranks_non_decreasing hs c.requires)) (λ a r q k. search rules) in
    record {
      within = c.partition_point.ensures.bound;
      below = below_from_places rank place hs (λ k d lt within. ltb-true _ _ (points.0 k d (omega arith) lt));
      rest = from_place rank place 0 hs c.requires (λ d within. ltb-false _ _ (points.1 place d (omega arith) within));
    }
