-- A first pair that is another is past the one that is asked for.
use Rattle.std.proofs.Common.{◌≡◌, sym, ap, ◌∙◌}
use Rattle.std.proofs.lemmas.Bool.{iff_false}
use Rattle.std.proofs.lemmas.Option.{same_Some}
use Rattle.s2ix_bag_pairs.specs.Pair.{rank_of}
use Rattle.s2ix_bag_pairs.specs.declared.pair.Held.{Held}
use Rattle.s2ix_bag_pairs.specs.declared.pair.Pair.{Pair}
use Rattle.s2ix_bag_pairs.proofs.CutAtRank.{count_first_none}
use Rattle.s2ix_bag_lists.proofs.search.count_first.Goals as goal

pub returns-in_default : goal.returns-in_default
returns-in_default c =
    sym (count_first_none (rank_of c.args.pair) c.args.held.now c.requires
    (λ h first same.
    let is_first : c.in-Some.first.now ≡ h = same_Some _ _ (c.in-Some.ensures.value ∙ first) in
    iff_false c.is_same.ensures c.if-is_same.false
    (ap (λ (p : Pair). rank_of p) c.pair.ensures ∙ ap (λ (x : Held). rank_of x.pair) is_first ∙ same)))
