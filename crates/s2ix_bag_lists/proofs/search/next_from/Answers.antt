-- Where the steps end, the pair at hand isn't before the one that is asked for, or the list ends.
use Rattle.std.proofs.Common.{◌≡◌, ◌<◌, ◌≤◌, length, drop, get_or, sym, ap, ◌∙◌, subst, arith, ℕ}
use Rattle.std.proofs.lemmas.Bool.{iff_false}
use Rattle.s2ix_bag_pairs.specs.Collection.{Collection, IsCollection, IsCollectionFrom}
use Rattle.s2ix_bag_pairs.specs.Pair.{rank_of}
use Rattle.s2ix_bag_pairs.specs.declared.pair.Held.{Held}
use Rattle.s2ix_bag_pairs.specs.declared.pair.Pair.{Pair}
use Rattle.s2ix_bag_pairs.proofs.CutAtRank.{collection_take, from_front, next_from_read}
use Rattle.s2ix_bag_lists.proofs.search.next_from.Goals as goal
use Rattle.s2ix_bag_lists.proofs.search.next_from.Goals.{then-loop-high-test+else-is_before, else-loop-high-test}

pub first_from-requires : goal.first_from-requires
first_from-requires c =
    subst IsCollection (sym c.split_at.ensures.front) (collection_take c.min.result 0 c.args.held.now c.requires)

pub returns-clause-rest : goal.returns-clause-rest
returns-clause-rest c =
    let hs = c.args.held.now in
    let rank = rank_of c.args.pair in
    let Rises : Collection → Type 0 = λ x. IsCollectionFrom rank (drop c.first_from.result x) in
    let front = subst Rises c.split_at.ensures.front c.first_from.ensures.rest in
    from_front rank c.min.result c.first_from.result 0 hs c.requires
    (omega (arith, c.first_from.ensures.within, c.split_at.ensures.front_len)) front
    (elim c.loop-high-test.branch [
      | then-loop-high-test+else-is_before w ↦
          let LastIsPast : ℕ → Type 0 = λ k. (d : Held) → k < length hs → rank ≤ rank_of (get_or hs k d).pair in
          let high_is : c.loop-high.high ≡ c.min.result = omega arith in
          let later : rank ≤ rank_of w.pair.result = omega (arith, iff_false w.is_before.ensures w.if-is_before.false) in
          let not_before = subst (λ (p : Pair). rank ≤ rank_of p) (w.pair.ensures ∙ ap (λ (h : Held). h.pair) w.index-held-high.is) later in
          subst LastIsPast high_is (next_from_read rank c.loop-high.high hs w.index-held-high.result c.requires (omega arith) not_before)
      | else-loop-high-test w ↦ λ d within. absurd (omega arith)
    ])
