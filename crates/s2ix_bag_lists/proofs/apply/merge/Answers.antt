-- Each iteration moves the pairs before its entry's, then the entry's own.
use Rattle.std.proofs.Common.{◌+◌, ◌++◌, [], sym, ap, ◌∙◌, subst₂, arith}
use Rattle.s2ix_bag_pairs.specs.Collection.{Collection, held_with, past}
use Rattle.s2ix_bag_pairs.specs.Pair.{rank_of}
use Rattle.s2ix_bag_lists.proofs.Walks.{Merging, merging_step}
use Rattle.s2ix_bag_lists.proofs.apply.merge.Goals as goal

pub loop-entry-preserved : goal.loop-entry-preserved
loop-entry-preserved c =
    let e = c.entry-item.result in
    let hs = c.args.held.now in
    let es = c.args.entries.now in
    let Front : Collection → Collection → Type 0 = λ out rest. Merging hs es out rest (c.loop-entry.entry-index + 1) in
    let next =
    merging_step hs es c.loop-entry.out.items c.loop-entry.rest.now c.loop-entry.entry-index c.next_from.result e (omega arith)
    c.entry-item.is c.requires.entries_rise c.loop-entry.invariant c.next_from.ensures.below c.next_from.ensures.rest in
    let extended = c.in_ok-extend_from_slice.ensures.items ∙ ap (λ x. c.loop-entry.out.items ++ x) c.split_at.ensures.front in
    let out_is = c.in_ok-push_held.ensures ∙ ap (λ x. x ++ held_with e.pair e.after []) extended in
    let rest_is = c.past_pair-rest.ensures ∙ ap (λ x. past x (rank_of e.pair)) c.split_at.ensures.back in
    subst₂ Front (sym out_is) (sym rest_is) next
