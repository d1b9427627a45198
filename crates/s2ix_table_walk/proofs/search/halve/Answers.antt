use Rattle.std.proofs.Common.{◌+◌, ◌-◌, ◌*◌, ◌/◌, ℕ, ◌∙◌, ap, subst, rules, arith}
use Rattle.s2ix_table_walk.specs.Table.{range_at}
use Rattle.s2ix_table_walk.proofs.WalkSteps.{range_fits}
use Rattle.s2id_core.specs.BinaryDigits.{binary_digits}
use Rattle.s2ix_table_walk.specs.Searching.{IsWindow}
use Rattle.s2ix_table_walk.specs.Shown.{Shown}
use Rattle.s2ix_table_walk.specs.declared.cost.Cost.{Cost}
use Rattle.s2id_core.proofs.BinaryDigits.{digits_below}
use Rattle.s2ix_table_walk.proofs.Windows.{IsHalved, halved}
use Rattle.s2ix_table_walk.proofs.search.halve.Given.{Over}
use Rattle.s2ix_table_walk.proofs.search.halve.Goals as goal
use Rattle.s2ix_table_walk.proofs.search.halve.Goals.{After-begun}

pub loop-half-init : goal.loop-half-init
loop-half-init g c =
    let n = c.narrow-window.ensures in
    let ranges = (g.R.Reader.shown c.args.reader.now).ranges in
    let k = n.power.0 in
    let is = n.power.1 in
    let paid = n.probes in
    let same = ap (λ (size : ℕ). binary_digits (size - 1)) is in (
      (
        k,
        ap (λ (size : ℕ). size / 2) is,
        subst (λ (size : ℕ). IsWindow ranges c.args.leaf c.narrow-window.result.first size) is n.window,
        omega (arith, digits_below k),
      ),
      n.same,
      n.looks,
      n.kept,
    )

-- the half that is left
half_is : (g : Over) (c : After-begun g)
    → IsHalved (g.R.Reader.shown c.args.reader.now).ranges c.args.leaf (c.loop-half.first + c.loop-half.half * c.begun.result)
    c.loop-half.half c.loop-half.invariant.0.0
half_is g c =
    let r = c.args.reader.now in
    let s = g.R.Reader.shown r in
    let i = c.loop-half.invariant in
    let at : ℕ = c.loop-half.first + c.loop-half.half in
    let start = c.start.ensures.start ∙ ap (λ (z : Shown g.row.R-Place.Denot). (range_at z.ranges at).start) i.1 in
    halved s.pairs s.ranges c.args.leaf c.loop-half.first c.loop-half.half c.begun.result i.0.0 (g.met.R.Reader.is_shown r).is_table i.0.2
    i.0.1 c.loop-half-test.true (λ by. c.begun.ensures.by (omega arith)) (λ lt. c.begun.ensures.after (omega arith))

pub loop-half-preserved : goal.loop-half-preserved
loop-half-preserved g c =
    let h = half_is g (goal.at.loop-half-preserved g c).After-begun in
    let i = c.loop-half.invariant in
    let counts = c.start.ensures.counts in
    let looks = ap (λ (z : Cost). z.looks) counts in
    let probes = ap (λ (z : Cost). z.probes) counts in
    let fewer = h.fewer in
    let paid = i.0.3 in (
      (h.left, ap (λ (half : ℕ). half / 2) h.is, h.window, omega arith),
      c.start.ensures.same ∙ i.1,
      looks ∙ i.2,
      let kept = i.3 in omega arith,
    )

pub overflow_add-first : goal.overflow_add-first
overflow_add-first g c =
    let r = c.args.reader.now in
    let s = g.R.Reader.shown r in
    let i = c.loop-half.invariant in
    let w = i.0.2.within in
    let is = i.0.1 in
    let some = c.loop-half-test.true in
    let fits = range_fits s.pairs s.ranges (g.met.R.Reader.is_shown r).is_table (c.loop-half.first + c.loop-half.half) (omega arith) in
    search (rules, fits)

pub overflow_add-first-in-loop-half : goal.overflow_add-first-in-loop-half
overflow_add-first-in-loop-half g c =
    let r = c.args.reader.now in
    let s = g.R.Reader.shown r in
    let h = half_is g (goal.at.overflow_add-first-in-loop-half g c).After-begun in
    let w = h.window.within in
    let some = h.window.some in
    let fits = range_fits s.pairs s.ranges (g.met.R.Reader.is_shown r).is_table (c.loop-half.first + c.loop-half.half * c.begun.result)
    (omega arith) in
    search (rules, fits)
