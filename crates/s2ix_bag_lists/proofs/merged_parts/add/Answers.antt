-- The part is joined with the last one, or follows it.
use Rattle.std.proofs.Common.{◌-◌, [], List, ◌∙◌, subst, sym, arith, rules}
use Rattle.std.proofs.lemmas.List.{get_or_default}
use Rattle.s2ix_bag_pairs.specs.Collection.{Collection}
use Rattle.s2ix_bag_lists.specs.Parts.{AreFilled}
use Rattle.s2ix_bag_lists.proofs.Joins.{joined_last, filled_joined, filled_push}
use Rattle.s2ix_bag_lists.proofs.merged_parts.add.Goals as goal

pub returns-in_ok-both-clause-made : goal.returns-in_ok-both-clause-made
returns-in_ok-both-clause-made c =
    let ps = c.args.out.now.items in
    let i = c.len-len.result - 1 in
    let last = c.index-then-is_joined.result.now in
    let own = c.index-then-is_joined.ensures ∙ get_or_default ps i last [] (omega arith) in
    joined_last ps i last c.in_ok-both.both c.args.part.now (omega arith) own c.in_ok-both.ensures

pub returns-in_ok-both-clause-filled : goal.returns-in_ok-both-clause-filled
returns-in_ok-both-clause-filled c =
    filled_joined c.args.out.now.items (c.len-len.result - 1) c.index-then-is_joined.result.now c.in_ok-both.both c.args.part.now
    c.requires.filled c.in_ok-both.ensures c.requires.some

pub returns-in_ok-push-clause-filled : goal.returns-in_ok-push-clause-filled
returns-in_ok-push-clause-filled c =
    subst (λ (x : List Collection). AreFilled x) (sym c.in_ok-push.ensures.items)
    (filled_push c.args.out.now.items c.in_ok-clone.field-0 c.args.part.now c.requires.filled (search rules) c.requires.some)
