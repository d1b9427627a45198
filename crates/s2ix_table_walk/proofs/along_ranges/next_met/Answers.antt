use Rattle.std.proofs.Common.{◌≡◌, ℕ, ◌+◌, [], ◌∷◌, Option, None, ◌++◌, ◌∙◌, drop, refl, sym, ap, subst, rules, arith}
use Rattle.s2ix_bag_pairs.specs.Collection.{Collection}
use Rattle.s2ix_bag_pairs.specs.declared.pair.Held.{Held}
use Rattle.s2ix_table_walk.specs.Meeting.{meeting_from}
use Rattle.s2ix_table_walk.specs.Places.{from_place}
use Rattle.s2ix_table_walk.specs.Walking.{front_from, left_with, IsWalk, IsPaid, one_if_some}
use Rattle.s2ix_table_walk.specs.Shown.{Shown}
use Rattle.s2ix_table_walk.specs.declared.cost.Cost.{Cost}
use Rattle.s2ix_table_walk.specs.declared.walk_state.WalkState.{WalkState}
use Rattle.s2ix_table_walk.proofs.Paying.{look_pays, close_pays, open_pays}
use Rattle.s2ix_table_walk.proofs.WalkSteps.{walk_closed, walk_opened}
use Rattle.s2ix_table_walk.proofs.along_ranges.next_met.Goals as goal

-- ---- the chain at hand

pub returns-in-Some-clause-gives : goal.returns-in-Some-clause-gives
returns-in-Some-clause-gives g c =
    let walk = c.args.walk.now in
    let s = g.R.Reader.shown c.args.reader.now in
    let opened = walk_opened s c.args.cells.now walk c.next_place-walk.result c.requires.walk c.next_place-walk.ensures.leads in
    sym opened.left ∙ ap (λ (xs : Collection). xs ++ meeting_from c.args.cells.now walk.seen s.pairs) c.in-Some.ensures.gives

pub returns-in-Some-clause-walk : goal.returns-in-Some-clause-walk
returns-in-Some-clause-walk g c =
    (walk_opened (g.R.Reader.shown c.args.reader.now) c.args.cells.now c.args.walk.now c.next_place-walk.result c.requires.walk
    c.next_place-walk.ensures.leads).walks

pub returns-in-Some-clause-paid : goal.returns-in-Some-clause-paid
returns-in-Some-clause-paid g c calls within_limit paid =
    let walk = c.args.walk.now in
    let outer = c.next_place-walk.result in
    let s = g.R.Reader.shown c.args.reader.now in
    look_pays s c.args.cells.now
    (record { cell = walk.cell; range = walk.range; seen = walk.seen; from = walk.from; place = outer; known = walk.known }) outer calls _ _
    within_limit c.in-Some.ensures.some c.in-Some.ensures.counts (open_pays s c.args.cells.now walk outer calls _ c.next_place-walk.ensures.fewer paid)

pub loop-walk-init : goal.loop-walk-init
unfolding front_from
loop-walk-init g c =
    let walk = c.args.walk.now in
    let cells = c.args.cells.now in
    let outer = c.next_place-walk.result in
    let s = g.R.Reader.shown c.args.reader.now in
    let next : WalkState g.row.R-Place.Denot =
    record { cell = walk.cell; range = walk.range; seen = walk.seen; from = walk.from; place = outer; known = walk.known } in
    let opened = walk_opened s cells walk outer c.requires.walk c.next_place-walk.ensures.leads in
    let front : front_from walk.from (from_place s.chain outer) ≡ [] = c.new_pair.ensures.ends c.in_default.is in (
      walk_closed s cells next opened.walks,
      sym (ap (λ (xs : Collection). xs ++ meeting_from cells walk.seen s.pairs) front) ∙ opened.left,
      c.new_pair.ensures.same,
      λ calls within_limit paid.
          close_pays s cells next calls _ _ within_limit c.new_pair.ensures.counts
          (open_pays s cells walk outer calls _ c.next_place-walk.ensures.fewer paid),
      refl,
    )

-- ---- the ranges after it

pub advance-requires-clause-walk : goal.advance-requires-clause-walk
advance-requires-clause-walk g c =
    let i = c.loop-walk.invariant in
    subst (λ (z : Shown g.row.R-Place.Denot). IsWalk z c.args.cells.now c.loop-walk.walk) (sym i.2) i.0

pub advance-requires-clause-done : goal.advance-requires-clause-done
advance-requires-clause-done g c = c.loop-walk.invariant.4

pub returns-in_err-walk-clause-ends : goal.returns-in_err-walk-clause-ends
unfolding front_from
returns-in_err-walk-clause-ends g c e =
    let walk = c.loop-walk.walk in
    let cells = c.args.cells.now in
    let i = c.loop-walk.invariant in
    let s = g.R.Reader.shown c.args.reader.now in
    let meet : meeting_from cells walk.seen s.pairs ≡ [] =
    subst (λ (z : Shown g.row.R-Place.Denot). meeting_from cells walk.seen z.pairs ≡ []) i.2 (c.advance.ensures.ends c.in_err-walk.was) in (
      sym i.1 ∙ meet,
      ap (λ (o : Option g.row.R-Place.Denot). front_from walk.from (drop 1 (from_place s.chain o)) ++ meeting_from cells walk.seen s.pairs) i.4
          ∙ meet,
    )

pub returns-in_err-walk-clause-walk : goal.returns-in_err-walk-clause-walk
returns-in_err-walk-clause-walk g c = c.loop-walk.invariant.0

pub returns-in_err-walk-clause-same : goal.returns-in_err-walk-clause-same
returns-in_err-walk-clause-same g c = c.advance.ensures.same ∙ c.loop-walk.invariant.2

pub returns-in_err-walk-clause-paid : goal.returns-in_err-walk-clause-paid
returns-in_err-walk-clause-paid g c calls within_limit paid =
    let walk = c.loop-walk.walk in
    let s = g.R.Reader.shown c.args.reader.now in
    let none = ap (λ (o : Option Held). one_if_some o) c.from_residual.ensures in
    let same : calls ≡ calls + one_if_some c.from_residual.result = omega arith in
    subst (λ (k : ℕ). IsPaid s c.args.cells.now walk k (g.R.Reader.spent c.advance.new.reader)) same
    (subst (λ (z : Cost). IsPaid s c.args.cells.now walk calls z) (sym (c.advance.ensures.unread c.in_err-walk.was))
    (c.loop-walk.invariant.3 calls within_limit paid))

pub returns-in-Some-new_pair-clause-gives : goal.returns-in-Some-new_pair-clause-gives
returns-in-Some-new_pair-clause-gives g c =
    let walk = c.loop-walk.walk in
    let cells = c.args.cells.now in
    let next = c.in_ok-walk.field-0 in
    let i = c.loop-walk.invariant in
    let s = g.R.Reader.shown c.args.reader.now in
    let left : meeting_from cells walk.seen s.pairs ≡ left_with s cells next =
    subst (λ (z : Shown g.row.R-Place.Denot). meeting_from cells walk.seen z.pairs ≡ left_with z cells next) i.2 c.in_ok-walk.ensures.left in
    let gives =
    subst (λ (z : Shown g.row.R-Place.Denot).
    front_from next.from (from_place z.chain next.place)
    ≡ c.in-Some-new_pair.met ∷ front_from next.from (drop 1 (from_place z.chain next.place)))
    (c.advance.ensures.same ∙ i.2) c.in-Some-new_pair.ensures.gives in
    sym i.1 ∙ left ∙ ap (λ (xs : Collection). xs ++ meeting_from cells next.seen s.pairs) gives

pub returns-in-Some-new_pair-clause-walk : goal.returns-in-Some-new_pair-clause-walk
returns-in-Some-new_pair-clause-walk g c =
    subst (λ (z : Shown g.row.R-Place.Denot). IsWalk z c.args.cells.now c.in_ok-walk.field-0) c.loop-walk.invariant.2
    c.in_ok-walk.ensures.next

pub returns-in-Some-new_pair-clause-same : goal.returns-in-Some-new_pair-clause-same
returns-in-Some-new_pair-clause-same g c =
    c.new_pair-in-loop-walk.ensures.same ∙ c.advance.ensures.same ∙ c.loop-walk.invariant.2

pub returns-in-Some-new_pair-clause-paid : goal.returns-in-Some-new_pair-clause-paid
returns-in-Some-new_pair-clause-paid g c calls within_limit paid =
    let walk = c.loop-walk.walk in
    let cells = c.args.cells.now in
    let next = c.in_ok-walk.field-0 in
    let i = c.loop-walk.invariant in
    let s = g.R.Reader.shown c.args.reader.now in
    let at =
    subst (λ (z : Shown g.row.R-Place.Denot).
    IsPaid z cells walk calls (g.R.Reader.spent c.loop-walk.reader) → IsPaid z cells next calls (g.R.Reader.spent c.advance.new.reader)) i.2
    (c.in_ok-walk.ensures.paid calls) (i.3 calls within_limit paid) in
    look_pays s cells next next.place calls _ _ within_limit c.in-Some-new_pair.ensures.some c.in-Some-new_pair.ensures.counts at

pub loop-walk-preserved : goal.loop-walk-preserved
unfolding front_from
loop-walk-preserved g c =
    let walk = c.loop-walk.walk in
    let cells = c.args.cells.now in
    let next = c.in_ok-walk.field-0 in
    let i = c.loop-walk.invariant in
    let s = g.R.Reader.shown c.args.reader.now in
    let same = c.advance.ensures.same ∙ i.2 in
    let none : c.new_pair-in-loop-walk.result ≡ None = search rules in
    let front : front_from next.from (from_place s.chain next.place) ≡ [] =
    subst (λ (z : Shown g.row.R-Place.Denot). front_from next.from (from_place z.chain next.place) ≡ []) same
    (c.new_pair-in-loop-walk.ensures.ends none) in
    let left : meeting_from cells walk.seen s.pairs ≡ left_with s cells next =
    subst (λ (z : Shown g.row.R-Place.Denot). meeting_from cells walk.seen z.pairs ≡ left_with z cells next) i.2 c.in_ok-walk.ensures.left in
    let walks = subst (λ (z : Shown g.row.R-Place.Denot). IsWalk z cells next) i.2 c.in_ok-walk.ensures.next in (
      walk_closed s cells next walks,
      sym (ap (λ (xs : Collection). xs ++ meeting_from cells next.seen s.pairs) front) ∙ sym left ∙ i.1,
      c.new_pair-in-loop-walk.ensures.same ∙ same,
      λ calls within_limit paid.
          let at =
          subst (λ (z : Shown g.row.R-Place.Denot).
          IsPaid z cells walk calls (g.R.Reader.spent c.loop-walk.reader)
          → IsPaid z cells next calls (g.R.Reader.spent c.advance.new.reader))
          i.2 (c.in_ok-walk.ensures.paid calls) (i.3 calls within_limit paid) in
          close_pays s cells next calls _ _ within_limit c.new_pair-in-loop-walk.ensures.counts at,
      refl,
    )
