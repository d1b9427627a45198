use Rattle.std.proofs.Common.{◌+◌, ◌-◌, ◌/◌, refl, rules, arith}
use Rattle.s2ix_table_walk.proofs.Groups.{all_groups, groups_pay}
use Rattle.s2ix_table_walk.proofs.WalkSteps.{range_fits}
use Rattle.s2ix_table_walk.proofs.search.in_one_group.Goals as goal

pub halve_groups-left-requires : goal.halve_groups-left-requires
halve_groups-left-requires g c =
    let s = g.R.Reader.shown c.args.reader.now in
    all_groups s.pairs s.ranges c.args.leaf c.args.among.first c.args.among.size c.sampled_by-first.result _
    (g.met.R.Reader.is_shown c.args.reader.now).is_table c.requires.among c.sampled_by-first.ensures.by refl

pub returns-clause-probes : goal.returns-clause-probes
returns-clause-probes g c =
    let power = c.power_within.ensures in
    let paid = c.halve_groups-left.ensures.probes in
    let within_limit = c.min.ensures in
    let pays = groups_pay power.0 c.power_within.result c.args.among.size
    ((c.args.among.first + c.args.among.size - c.sampled_by-first.result - 1) / 16 + 1) c.min.result power.1 power.2
    c.if-groups-power_within.false (omega arith) (omega arith) in
    omega arith

pub overflow_add-end : goal.overflow_add-end
overflow_add-end g c =
    let r = c.args.reader.now in
    let s = g.R.Reader.shown r in
    let some = c.requires.among.some in
    let within = c.requires.among.within in
    let fits = range_fits s.pairs s.ranges (g.met.R.Reader.is_shown r).is_table (c.args.among.first + c.args.among.size - 1) (omega arith) in
    search (rules, fits)
