-- The rows that are out, and those that are counted, are the chain's.
use Rattle.std.proofs.Common.{rules, ◌≡◌, ◌<◌, ◌≤◌, ◌+◌, ◌∙◌, ◌++◌, [], length, map, take, ap, arith}
use Rattle.std.proofs.lemmas.List.{length-map}
use Rattle.s2ix_table_walk.specs.Places.{from_place}
use Rattle.s2ix_table_walk.specs.Walking.{front_from}
use Rattle.s2ix_c_calls.specs.Lists.{row_of}
use Rattle.s2ix_c_calls.proofs.Begun.{front_none, front_short}
use Rattle.s2ix_c_calls.proofs.Filling.{fills_front, whole}
use Rattle.s2ix_c_calls.proofs.chains.put_places.Goals as goal

pub overflow_add-number : goal.overflow_add-number
overflow_add-number g c =
    let chain = g.T.RangeTable.chain c.args.table.now in
    let from = c.args.from in
    let w = c.write_begun-rest in
    let all = front_from from (from_place chain c.args.first) in
    let left = front_from from (from_place chain w.result) in
    let counted = whole (map row_of all) (map row_of left) w.new.count c.args.out.now w.new.out w.ensures.rows w.ensures.after w.auto.out w.ensures.room in
    omega (
      arith,
      counted,
      length-map all row_of,
      length-map left row_of,
      c.length_begun-more.ensures,
      front_short from (from_place chain c.args.first),
      c.requires.within_limit,
    )

pub returns-then-more-gt0 : goal.returns-then-more-gt0
returns-then-more-gt0 g c =
    let chain = g.T.RangeTable.chain c.args.table.now in
    let from = c.args.from in
    let w = c.write_begun-rest in
    let all = front_from from (from_place chain c.args.first) in
    let left = front_from from (from_place chain w.result) in
    fills_front (map row_of all) (map row_of left) w.new.count c.args.out.now w.new.out w.ensures.rows w.ensures.after w.auto.out w.ensures.room
    (λ less. ap (λ p. map row_of (front_from from (from_place chain p))) (w.ensures.full less) ∙ ap (map row_of) (front_none from))
    (w.new.count + c.length_begun-more.result)
    (omega (arith, c.length_begun-more.ensures, length-map left row_of)) (omega (arith, c.length_begun-more.ensures, length-map left row_of))
