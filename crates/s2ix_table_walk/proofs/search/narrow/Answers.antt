use Rattle.std.proofs.Common.{◌≡◌, ℕ, ◌+◌, ◌-◌, ◌*◌, ap, arith, rules, subst}
use Rattle.s2id_core.specs.BinaryDigits.{binary_digits}
use Rattle.s2ix_table_walk.specs.Searching.{IsWindow}
use Rattle.s2ix_table_walk.specs.declared.cost.Cost.{Cost}
use Rattle.s2id_core.proofs.BinaryDigits.{digits_above}
use Rattle.s2ix_table_walk.proofs.WalkSteps.{range_fits}
use Rattle.s2ix_table_walk.proofs.Windows.{room_left}
use Rattle.s2ix_table_walk.proofs.search.narrow.Goals as goal

pub returns-clause-window : goal.returns-clause-window
returns-clause-window g c =
    let r = c.args.reader.now in
    let s = g.R.Reader.shown r in
    let power = c.power_within-size.ensures in
    let is = power.1 in
    let le = power.2 in
    let most = power.3 in
    let over : ℕ = c.args.among.size - c.power_within-size.result in
    let all : c.args.among.size ≡ over + c.power_within-size.result = omega arith in
    room_left s.pairs s.ranges c.args.leaf c.args.among.first c.power_within-size.result over c.begun.result
    (g.met.R.Reader.is_shown r).is_table (subst (λ (n : ℕ). IsWindow s.ranges c.args.leaf c.args.among.first n) all c.requires.among)
    (omega arith) (λ by. c.begun.ensures.by (omega arith)) (λ lt. c.begun.ensures.after (omega arith))

pub returns-clause-probes : goal.returns-clause-probes
returns-clause-probes g c =
    let within = c.requires.among.within in
    let power = c.power_within-size.ensures in
    let le = power.2 in
    let probes = ap (λ (z : Cost). z.probes) c.start.ensures.counts in
    let same = ap (λ (size : ℕ). binary_digits (size - 1)) power.1 in
    omega (arith, digits_above power.0 (c.args.among.size - 1) (omega arith))

pub overflow_add-among : goal.overflow_add-among
overflow_add-among g c =
    let r = c.args.reader.now in
    let s = g.R.Reader.shown r in
    let within = c.requires.among.within in
    let some = c.requires.among.some in
    let power = c.power_within-size.ensures in
    let is = power.1 in
    let le = power.2 in
    let most = power.3 in
    let fits = range_fits s.pairs s.ranges (g.met.R.Reader.is_shown r).is_table
    (c.args.among.first + (c.args.among.size - c.power_within-size.result)) (omega arith) in
    search (rules, fits)

pub overflow_add-first : goal.overflow_add-first
overflow_add-first g c =
    let r = c.args.reader.now in
    let s = g.R.Reader.shown r in
    let window = returns-clause-window g c in
    let within = window.within in
    let some = window.some in
    let fits = range_fits s.pairs s.ranges (g.met.R.Reader.is_shown r).is_table
    (c.args.among.first + (c.args.among.size - c.power_within-size.result) * c.begun.result) (omega arith) in
    search (rules, fits)
