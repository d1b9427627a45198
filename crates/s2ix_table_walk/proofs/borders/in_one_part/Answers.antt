use Rattle.std.proofs.Common.{◌+◌, ◌-◌, length, ap, rules, arith}
use Rattle.s2id_core.proofs.BinaryDigits.{digits_rise}
use Rattle.s2ix_table_walk.specs.declared.cost.Cost.{Cost}
use Rattle.s2ix_table_walk.proofs.Rooms.{left_pays, window_fits}
use Rattle.s2ix_table_walk.proofs.borders.in_one_part.Goals as goal

pub overflow_add-among : goal.overflow_add-among
overflow_add-among g c =
    let r = c.args.reader.now in
    let s = g.R.Reader.shown r in
    let among = c.args.candidates.among in
    let fits = window_fits s.pairs s.ranges c.args.leaf among.first among.size (g.met.R.Reader.is_shown r).is_table c.requires.among in
    search (rules, fits)

pub returns-then-among-known-clause-probes : goal.returns-then-among-known-clause-probes
returns-then-among-known-clause-probes g c =
    let within = c.requires.among.within in
    omega (
      arith,
      digits_rise (c.args.candidates.among.size - 1) (length (g.R.Reader.shown c.args.reader.now).ranges + 1) (omega arith),
    )

pub returns-clause-probes : goal.returns-clause-probes
returns-clause-probes g c =
    let left = c.narrow_by_borders-at.ensures.narrowing in
    let paid = c.narrow_by_borders-at.ensures.probes in
    let room = c.begin_narrowing-begun.ensures.room in
    let counts = ap (λ (z : Cost). z.probes) c.part_known-known.ensures.counts in
    omega (arith, left_pays c.narrow_by_borders-at.result.among.size c.narrow_by_borders-at.result.room left.most)
