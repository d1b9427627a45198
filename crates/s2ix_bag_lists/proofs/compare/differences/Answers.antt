-- Each iteration moves past the old pairs before its own, then past its own.
use Rattle.std.proofs.Common.{◌≡◌, ◌+◌, ◌++◌, [], List, map, take, get_or, sym, ap, ◌∙◌, subst, subst₂, arith}
use Rattle.s2ix_bag_pairs.specs.Change.{entry_with, removal_of}
use Rattle.s2ix_bag_pairs.specs.Collection.{Collection, count_in, past}
use Rattle.s2ix_bag_pairs.specs.Pair.{rank_of}
use Rattle.s2ix_bag_pairs.specs.declared.pair.Entry.{Entry}
use Rattle.s2ix_bag_pairs.specs.declared.pair.Held.{Held}
use Rattle.s2ix_bag_lists.proofs.Comparing.{Comparing, comparing_step, comparing_end}
use Rattle.s2ix_bag_lists.proofs.compare.differences.Goals as goal

pub loop-flat-preserved : goal.loop-flat-preserved
loop-flat-preserved c =
    let k = c.held-held.result in
    let is : k ≡ get_or c.args.new.now c.loop-flat.flat-index k =
    subst (λ (h : Held). h ≡ get_or c.args.new.now c.loop-flat.flat-index h) (sym c.held-held.ensures) c.flat-item.is in
    let Next : List Entry → Collection → Type 0 =
    λ out rest. Comparing c.args.old.now c.args.new.now out rest (c.loop-flat.flat-index + 1) in
    let next =
    comparing_step c.args.old.now c.args.new.now c.loop-flat.out.items c.loop-flat.rest.now c.loop-flat.flat-index c.next_from.result k
    (omega arith) is c.requires.new_rise c.loop-flat.invariant c.next_from.ensures.below c.next_from.ensures.rest in
    let counted = c.count_first.ensures ∙ ap (λ hs. count_in hs k.pair) c.split_at.ensures.back in
    let passed = c.in_ok-push_removals.ensures ∙ ap (λ hs. c.loop-flat.out.items ++ map removal_of hs) c.split_at.ensures.front in
    let out_is = c.in_ok-push_difference.ensures ∙ ap (λ x. x ++ entry_with k.pair c.count_first.result k.count []) passed
    ∙ ap (λ n. (c.loop-flat.out.items ++ map removal_of (take c.next_from.result c.loop-flat.rest.now)) ++ entry_with k.pair n k.count [])
    counted in
    let rest_is = c.past_pair-rest.ensures ∙ ap (λ hs. past hs (rank_of k.pair)) c.split_at.ensures.back in
    subst₂ Next (sym out_is) (sym rest_is) next

pub returns : goal.returns
returns c =
    c.in_ok-push_removals-2.ensures
    ∙ comparing_end c.args.old.now c.args.new.now c.loop-flat.out.items c.loop-flat.rest.now c.loop-flat.flat-index (omega arith)
    c.loop-flat.invariant
