-- One more row is out.
use Rattle.std.proofs.Common.{rules, ◌≡◌, ◌<◌, ◌≤◌, ◌+◌, ◌∙◌, ap, arith, length, map, drop, slice_set}
use Rattle.std.proofs.lemmas.Grind.{drop_more_same}
use Rattle.std.proofs.lemmas.List.{drop-set-lt}
use Rattle.s2ix_table_queries.proofs.Linking.{linked_at}
use Rattle.s2ix_c_calls.specs.Lists.{row_of}
use Rattle.s2ix_c_calls.proofs.Filling.{goes_out}
use Rattle.s2ix_c_calls.proofs.chains.write_linked.Goals as goal

pub loop-place-preserved : goal.loop-place-preserved
loop-place-preserved c =
    let l = c.loop-place in
    let h = c.index-held-place.result in
    let less : l.count < length l.out = c.if-count-out.true in
    let after : drop (l.count + 1) (slice_set l.out l.count c.row_for.result) ≡ drop (l.count + 1) c.args.out.now = search (rules, drop-set-lt, drop_more_same) in
    let long : length (slice_set l.out l.count c.row_for.result) ≡ length c.args.out.now = search rules in (
      λ chain linked.
          let next = linked_at l.place h linked c.loop-place-test.true c.index-held-place.is in
          goes_out l.out c.row_for.result (row_of h) l.count _ _ _ less (ap (map row_of) next) (c.row_for.ensures ∙ ap row_of c.held.ensures)
          (l.invariant.0 chain linked),
      omega (arith, long, less, l.invariant.3),
      after,
      long,
    )
