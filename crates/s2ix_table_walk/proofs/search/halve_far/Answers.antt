use Rattle.std.proofs.Common.{◌≡◌, ℕ, ◌+◌, ◌-◌, ◌/◌, ◌∙◌, ap, subst, sym, rules, arith}
use Rattle.s2id_core.specs.BinaryDigits.{binary_digits}
use Rattle.s2id_core.proofs.BinaryDigits.{digits_step}
use Rattle.s2ix_table_walk.specs.Searching.{IsWindow}
use Rattle.s2ix_table_walk.specs.Shown.{Shown}
use Rattle.s2ix_table_walk.specs.Table.{range_at}
use Rattle.s2ix_table_walk.specs.declared.cost.Cost.{Cost}
use Rattle.s2ix_table_walk.proofs.Windows.{lower_left, upper_left, found_alone}
use Rattle.s2ix_table_walk.proofs.WalkSteps.{range_fits}
use Rattle.s2ix_table_walk.proofs.search.halve_far.Goals.{then-start-leaf, else-start-leaf}
use Rattle.s2ix_table_walk.proofs.search.halve_far.Goals as goal

pub loop-left-preserved : goal.loop-left-preserved
loop-left-preserved g c =
    let s = g.R.Reader.shown c.args.reader.now in
    let i = c.loop-left.invariant in
    let more = c.loop-left-test.true in
    let at : ℕ = c.loop-left.first + c.loop-left.left / 2 in
    let start = c.start.ensures.start ∙ ap (λ (z : Shown g.row.R-Place.Denot). (range_at z.ranges at).start) i.1 in
    let counts = c.start.ensures.counts in
    let looks = ap (λ (z : Cost). z.looks) counts in
    let probes = ap (λ (z : Cost). z.probes) counts in
    let e : (c.loop-left.left - 1) / 2 ≡ c.loop-left.left - c.loop-left.left / 2 - 1 = omega arith in
    let digits = digits_step (c.loop-left.left - 1) (omega arith) ∙ ap (λ (n : ℕ). binary_digits n + 1) e in
    let paid = i.4 in (
      elim c.if-start-leaf.branch [
        | then-start-leaf w ↦
            (let by = w.if-start-leaf.true in
            subst (λ (k : ℕ). IsWindow s.ranges c.args.leaf k (c.loop-left.left - c.loop-left.left / 2)) (sym w.first-is)
            (upper_left s.ranges c.args.leaf c.loop-left.first c.loop-left.left i.0 more (omega arith)))
        | else-start-leaf w ↦
            (let after = w.if-start-leaf.false in
            subst (λ (k : ℕ). IsWindow s.ranges c.args.leaf k (c.loop-left.left - c.loop-left.left / 2)) (sym w.first-is)
            (lower_left s.pairs s.ranges c.args.leaf c.loop-left.first c.loop-left.left (g.met.R.Reader.is_shown c.args.reader.now).is_table
            i.0 more (omega arith)))
      ],
      c.start.ensures.same ∙ i.1,
      looks ∙ i.2,
      let kept = i.3 in omega arith,
      omega arith,
    )

pub overflow_add-first : goal.overflow_add-first
overflow_add-first g c =
    let r = c.args.reader.now in
    let s = g.R.Reader.shown r in
    let within = c.loop-left.invariant.0.within in
    let more = c.loop-left-test.true in
    let fits = range_fits s.pairs s.ranges (g.met.R.Reader.is_shown r).is_table (c.loop-left.first + c.loop-left.left / 2) (omega arith) in
    search (rules, fits)

pub overflow_add-first-then-start-leaf : goal.overflow_add-first-then-start-leaf
overflow_add-first-then-start-leaf g c =
    let r = c.args.reader.now in
    let s = g.R.Reader.shown r in
    let within = c.loop-left.invariant.0.within in
    let more = c.loop-left-test.true in
    let fits = range_fits s.pairs s.ranges (g.met.R.Reader.is_shown r).is_table (c.loop-left.first + c.loop-left.left / 2) (omega arith) in
    search (rules, fits)

pub returns-clause-found : goal.returns-clause-found
returns-clause-found g c =
    let shown = g.R.Reader.shown c.args.reader.now in
    found_alone shown.pairs shown.ranges c.args.leaf c.loop-left.first c.loop-left.left
    (g.met.R.Reader.is_shown c.args.reader.now).is_table c.loop-left.invariant.0 c.loop-left-test.false c.requires.within
