-- The chain in lists goes out, and then the one behind it.
use Rattle.std.proofs.Common.{◌≡◌, ℕ, ◌<◌, ◌≤◌, ◌+◌, ◌-◌, ◌++◌, ◌∙◌, length, map, take, drop, ap, subst, refl, arith, length-append}
use Rattle.std.proofs.lemmas.List.{length-map, length-take-le, take_rest}
use Rattle.s2id_core.specs.CellId.{raw_of}
use Rattle.s2ix_bag_pairs.specs.Collection.{Collection}
use Rattle.s2ix_table_walk.specs.Contents.{contents_at}
use Rattle.s2ix_table_walk.specs.Places.{from_place}
use Rattle.s2ix_table_queries.proofs.Linking.{over_leaf}
use Rattle.s2ix_c_calls.specs.Lists.{IsFilled, row_of}
use Rattle.s2ix_c_calls.specs.Status.{no_room}
use Rattle.s2ix_c_calls.proofs.Begun.{front_all}
use Rattle.s2ix_c_calls.proofs.Behind.{fills_both, to_the_end}
use Rattle.s2ix_c_calls.proofs.Filling.{left_short}
use Rattle.s2ix_c_calls.proofs.Linked.{both_short}
use Rattle.s2ix_c_calls.proofs.chains.put_over.Given.{Over}
use Rattle.s2ix_c_calls.proofs.chains.put_over.Goals as goal
use Rattle.s2ix_c_calls.proofs.chains.put_over.Goals.{After-put_chain-status}

pub put_chain-status-requires-clause-within_limit : goal.put_chain-status-requires-clause-within_limit
put_chain-status-requires-clause-within_limit g c =
    let over = c.contents_near-over.ensures in
    omega (arith, both_short c.args.leaf over.contents c.requires over.from over.limit (g.met.T.RangeTable.within_limit c.args.table.now))

-- both chains are within the limit
short : (g : Over) (c : After-put_chain-status g)
    → length (c.contents_near-over.ensures.contents.listed c.contents_near-over.result.innermost)
    + length (from_place (g.T.RangeTable.chain c.args.table.now) c.contents_near-over.result.rest) ≤ 1000000
short g c =
    let over = c.contents_near-over.ensures in
    both_short c.args.leaf over.contents c.requires over.from over.limit (g.met.T.RangeTable.within_limit c.args.table.now)

-- the rows that are out, with those of the pairs that have no room, are those of the chain in lists
rows : (g : Over) (c : After-put_chain-status g)
    → take c.write_linked-next.new.count c.write_linked-next.new.out
    ++ map row_of (c.contents_near-over.ensures.contents.listed c.write_linked-next.result)
    ≡ map row_of (c.contents_near-over.ensures.contents.listed c.contents_near-over.result.innermost)
rows g c =
    c.write_linked-next.ensures.rows c.contents_near-over.ensures.contents.listed c.contents_near-over.ensures.contents.linked

counted : (g : Over) (c : After-put_chain-status g)
    → c.length_linked-more.result ≡ length (c.contents_near-over.ensures.contents.listed c.write_linked-next.result)
counted g c =
    let w = c.write_linked-next in
    let are = c.contents_near-over.ensures.contents in
    let fewer =
    left_short row_of (take w.new.count w.new.out) (are.listed w.result) (are.listed c.contents_near-over.result.innermost) (rows g c) in
    c.length_linked-more.ensures.number are.listed are.linked (omega (arith, fewer, short g c))

-- what the chain behind has goes to the room that is left
behind : (g : Over) (c : After-put_chain-status g)
    → IsFilled (map row_of (from_place (g.T.RangeTable.chain c.args.table.now) c.contents_near-over.result.rest)) c.put_chain-status.result
    c.put_chain-status.new.number
    (take (length c.write_linked-next.new.out - c.write_linked-next.new.count) (drop c.write_linked-next.new.count c.write_linked-next.new.out))
    c.put_chain-status.new.out
behind g c =
    let w = c.write_linked-next in
    subst
    (λ (l : Collection). IsFilled (map row_of l) c.put_chain-status.result c.put_chain-status.new.number
    (take (length w.new.out - w.new.count) (drop w.new.count w.new.out)) c.put_chain-status.new.out)
    (front_all 0 _ (omega arith)) c.put_chain-status.ensures

pub overflow_add-number : goal.overflow_add-number
overflow_add-number g c =
    let s = (goal.at.overflow_add-number g c).After-put_chain-status in
    omega (
      arith,
      (behind g s).long,
      length-map (from_place (g.T.RangeTable.chain c.args.table.now) c.contents_near-over.result.rest) row_of,
      short g s,
      c.length_linked-more.ensures.at_most,
    )

pub overflow_add-number-2 : goal.overflow_add-number-2
overflow_add-number-2 g c =
    let s = (goal.at.overflow_add-number-2 g c).After-put_chain-status in
    let w = c.write_linked-next in
    let are = c.contents_near-over.ensures.contents in
    omega (
      arith,
      ap length (rows g s),
      length-append (take w.new.count w.new.out) (map row_of (are.listed w.result)),
      length-map (are.listed w.result) row_of,
      length-map (are.listed c.contents_near-over.result.innermost) row_of,
      length-take-le w.new.count w.new.out (omega (arith, w.ensures.room, w.auto.out)),
      counted g s,
      (behind g s).long,
      length-map (from_place (g.T.RangeTable.chain c.args.table.now) c.contents_near-over.result.rest) row_of,
      short g s,
    )

-- the pairs of both chains are put, as far as there is room
filled : (g : Over) (c : After-put_chain-status g) (told : ℕ) → (0 < c.length_linked-more.result → told ≡ no_room)
    → (c.length_linked-more.result ≡ 0 → told ≡ c.put_chain-status.result)
    → IsFilled (map row_of (contents_at (raw_of c.args.leaf) (g.T.RangeTable.pairs c.args.table.now))) told
    (c.write_linked-next.new.count + (c.length_linked-more.result + c.put_chain-status.new.number)) c.args.out.now
    (take c.write_linked-next.new.count c.write_linked-next.new.out
    ++ (c.put_chain-status.new.out
    ++ drop (length c.write_linked-next.new.out - c.write_linked-next.new.count) (drop c.write_linked-next.new.count c.write_linked-next.new.out)))
filled g c told no_more none =
    let over = c.contents_near-over.ensures in
    let are = over.contents in
    let w = c.write_linked-next in
    fills_both row_of (are.listed c.contents_near-over.result.innermost) (are.listed w.result) _ _ w.new.count c.length_linked-more.result
    c.args.out.now w.new.out _ _ c.put_chain-status.new.out c.put_chain-status.result c.put_chain-status.new.number
    (over_leaf c.args.leaf are c.requires over.from over.limit) (rows g c) w.ensures.after w.auto.out w.ensures.room
    (λ less. are.linked.ends w.result (w.ensures.full less)) (counted g c) (take_rest w.new.out w.new.count ∙ w.ensures.after) (behind g c)
    c.put_chain-status.auto.out (to_the_end w.new.count w.new.out c.put_chain-status.new.out) told no_more none

pub returns-then-more-gt0 : goal.returns-then-more-gt0
returns-then-more-gt0 g c =
    filled g (goal.at.returns-then-more-gt0 g c).After-put_chain-status no_room (λ _. refl) (λ none. absurd (omega (arith, c.if-more-gt0.true)))

pub returns-else-more-gt0 : goal.returns-else-more-gt0
returns-else-more-gt0 g c =
    filled g (goal.at.returns-else-more-gt0 g c).After-put_chain-status c.put_chain-status.result
    (λ some. absurd (omega (arith, c.if-more-gt0.false))) (λ _. refl)
