-- What is split up and what is left are all pairs.
use Rattle.std.proofs.Common.{◌++◌, take, sym, ap, ◌∙◌, subst, arith, rules, append_assoc}
use Rattle.s2ix_bag_lists.specs.Faces.{all_of}
use Rattle.s2ix_bag_lists.proofs.Joins.{back_rises}
use Rattle.s2ix_bag_pairs.specs.Collection.{Collection, IsCollection}
use Rattle.s2ix_table_heavy.specs.Chunks.{IsOfOneCell}
use Rattle.s2ix_table_parts.specs.Layers.{joined_layers}
use Rattle.s2ix_table_parts.specs.Split.{HaveLesserCells}
use Rattle.s2ix_table_parts.proofs.Runs.{run_after, run_and_later, lesser_after, none_left}
use Rattle.s2ix_table_parts.proofs.Splitting.{nothing_split, in_light, in_heavy}
use Rattle.s2ix_table_parts.proofs.split.split.Goals as goal

pub loop-rest-init : goal.loop-rest-init
loop-rest-init c =
    nothing_split c.in_ok-with_capacity.field-0.items c.args.held.now c.new.result.items c.in_ok-with_capacity.ensures.items
    c.new.ensures.items

pub run_len-requires-clause-rises : goal.run_len-requires-clause-rises
run_len-requires-clause-rises c =
    back_rises 0 (joined_layers c.loop-rest.layers.light.items (all_of c.loop-rest.layers.chunks.items)) c.loop-rest.rest.now
    (subst (λ (hs : Collection). IsCollection hs) (sym c.loop-rest.invariant.1) c.requires.rises)

pub put-requires-clause-next : goal.put-requires-clause-next
put-requires-clause-next c =
    let rest = c.loop-rest.rest.now in
    let run = c.split_at.result.0.now in
    let later = c.split_at.result.1.now in
    let some = c.run_len.ensures.some in
    let long = c.split_at.ensures.front_len in
    run_after (joined_layers c.loop-rest.layers.light.items (all_of c.loop-rest.layers.chunks.items)) rest run later c.args.held.now
    c.loop-rest.invariant.1
    (run_and_later rest run later c.run_len.result c.split_at.ensures.front c.split_at.ensures.back)
    c.requires.rises c.requires.within_limit c.loop-rest.invariant.2 (omega arith)
    (subst (λ (x : Collection). IsOfOneCell x) (sym c.split_at.ensures.front) c.run_len.ensures.one_cell)

pub loop-rest-preserved : goal.loop-rest-preserved
loop-rest-preserved c =
    let rest = c.loop-rest.rest.now in
    let run = c.split_at.result.0.now in
    let later = c.split_at.result.1.now in
    let front = joined_layers c.loop-rest.layers.light.items (all_of c.loop-rest.layers.chunks.items) in
    let parts = run_and_later rest run later c.run_len.result c.split_at.ensures.front c.split_at.ensures.back in
    let own : HaveLesserCells run later =
    subst (λ (x : Collection). HaveLesserCells x later) (sym c.split_at.ensures.front)
    (subst (λ (x : Collection). HaveLesserCells (take c.run_len.result rest) x) (sym c.split_at.ensures.back) c.run_len.ensures.lesser) in
    let put = c.in_ok-put.ensures.pairs in (
      c.in_ok-put.ensures.split,
      ap (λ (x : Collection). x ++ later) put ∙ append_assoc front run later ∙ ap (λ (x : Collection). front ++ x) (sym parts)
          ∙ c.loop-rest.invariant.1,
      subst (λ (x : Collection). HaveLesserCells x later) (sym put) (lesser_after front rest run later parts c.loop-rest.invariant.2 own),
    )

pub returns-clause-of_held : goal.returns-clause-of_held
returns-clause-of_held c =
    in_light c.loop-rest.layers.light.items c.loop-rest.layers.chunks.items c.args.held.now c.loop-rest.invariant.0
    (none_left _ c.loop-rest.rest.now c.args.held.now c.loop-rest.invariant.1 (search rules))

pub returns-clause-of_heavy : goal.returns-clause-of_heavy
returns-clause-of_heavy c =
    in_heavy c.loop-rest.layers.light.items c.loop-rest.layers.chunks.items c.args.held.now c.loop-rest.invariant.0
    (none_left _ c.loop-rest.rest.now c.args.held.now c.loop-rest.invariant.1 (search rules))
