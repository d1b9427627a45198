use Rattle.std.proofs.Common.{◌≡◌, ℕ, ◌+◌, ◌-◌, ◌*◌, ◌/◌, ◌∙◌, ap, subst, sym, arith}
use Rattle.s2id_core.specs.BinaryDigits.{binary_digits}
use Rattle.s2id_core.proofs.BinaryDigits.{digits_step}
use Rattle.s2ix_table_walk.specs.Shown.{Shown}
use Rattle.s2ix_table_walk.specs.Table.{range_at}
use Rattle.s2ix_table_walk.specs.declared.cost.Cost.{Cost}
use Rattle.s2ix_table_walk.proofs.Groups.{lower_groups, upper_groups}
use Rattle.s2ix_table_walk.specs.Searching.{AreGroups}
use Rattle.s2ix_table_walk.proofs.search.halve_groups.Goals.{then-sampled_start-leaf, else-sampled_start-leaf}
use Rattle.s2ix_table_walk.proofs.search.halve_groups.Goals as goal

pub loop-left-preserved : goal.loop-left-preserved
loop-left-preserved g c =
    let s = g.R.Reader.shown c.args.reader.now in
    let i = c.loop-left.invariant in
    let more = c.loop-left-test.true in
    let at : ℕ = c.loop-left.first + c.loop-left.left / 2 * 16 in
    let start = c.sampled_start.ensures.start ∙ ap (λ (z : Shown g.row.R-Place.Denot). (range_at z.ranges at).start) i.1 in
    let counts = c.sampled_start.ensures.counts in
    let looks = ap (λ (z : Cost). z.looks) counts in
    let probes = ap (λ (z : Cost). z.probes) counts in
    let e : (c.loop-left.left - 1) / 2 ≡ c.loop-left.left - c.loop-left.left / 2 - 1 = omega arith in
    let digits = digits_step (c.loop-left.left - 1) (omega arith) ∙ ap (λ (n : ℕ). binary_digits n + 1) e in
    let paid = i.4 in (
      elim c.if-sampled_start-leaf.branch [
        | then-sampled_start-leaf w ↦
            (let by = w.if-sampled_start-leaf.true in
            subst (λ (k : ℕ). AreGroups s.ranges c.args.leaf k c.args.end (c.loop-left.left - c.loop-left.left / 2)) (sym w.first-is)
            (upper_groups s.ranges c.args.leaf c.loop-left.first c.args.end c.loop-left.left i.0 more (omega arith)))
        | else-sampled_start-leaf w ↦
            (let after = w.if-sampled_start-leaf.false in
            subst (λ (k : ℕ). AreGroups s.ranges c.args.leaf k c.args.end (c.loop-left.left - c.loop-left.left / 2)) (sym w.first-is)
            (lower_groups s.pairs s.ranges c.args.leaf c.loop-left.first c.args.end c.loop-left.left
            (g.met.R.Reader.is_shown c.args.reader.now).is_table i.0 more (omega arith)))
      ],
      c.sampled_start.ensures.same ∙ i.1,
      looks ∙ i.2,
      let kept = i.3 in omega arith,
      omega arith,
    )
