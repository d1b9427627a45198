use Rattle.std.proofs.Common.{◌≡◌, ◌+◌, ◌-◌, ◌/◌, ◌∙◌, ℕ, ◌≤◌, length, ap, get_or, refl, rules, arith}
use Rattle.s2id_core.specs.BinaryDigits.{binary_digits}
use Rattle.s2ix_table_walk.specs.Searching.{IsNarrowing}
use Rattle.s2ix_table_walk.specs.Table.{range_at}
use Rattle.s2ix_table_walk.specs.declared.cost.Cost.{Cost}
use Rattle.s2ix_table_walk.proofs.Rooms.{after_probe, half_room, window_fits}
use Rattle.s2ix_table_walk.proofs.borders.narrowed.Given.{Over}
use Rattle.s2ix_table_walk.proofs.borders.narrowed.Goals as goal
use Rattle.s2ix_table_walk.proofs.borders.narrowed.Goals.{After-side-among, After-side-among-2}

pub overflow_add-at : goal.overflow_add-at
overflow_add-at g c =
    let r = c.args.reader.now in
    let s = g.R.Reader.shown r in
    let is = c.requires.narrowing in
    let fits = window_fits s.pairs s.ranges c.args.leaf c.args.at.among.first c.args.at.among.size (g.met.R.Reader.is_shown r).is_table is.window in
    search (rules, fits)

pub side-among-requires-clause-fits : goal.side-among-requires-clause-fits
side-among-requires-clause-fits g c =
    let r = c.args.reader.now in
    let s = g.R.Reader.shown r in
    let is = c.requires.narrowing in
    window_fits s.pairs s.ranges c.args.leaf c.args.at.among.first c.args.at.among.size (g.met.R.Reader.is_shown r).is_table is.window

pub side-among-requires-2-clause-fits : goal.side-among-requires-2-clause-fits
side-among-requires-2-clause-fits g c =
    let r = c.args.reader.now in
    let s = g.R.Reader.shown r in
    let is = c.requires.narrowing in
    window_fits s.pairs s.ranges c.args.leaf c.args.at.among.first c.args.at.among.size (g.met.R.Reader.is_shown r).is_table is.window

-- parted in the middle
in_middle : (g : Over) (c : After-side-among g)
    → IsNarrowing (g.R.Reader.shown c.args.reader.now) c.args.leaf
    (record { among = c.side-among.result; low = c.args.at.low; high = c.args.at.high; room = c.args.at.room / 2 })
    × (binary_digits (c.args.at.room / 2) + 1 ≡ binary_digits c.args.at.room)
in_middle g c =
    let s = g.R.Reader.shown c.args.reader.now in
    let is = c.requires.narrowing in
    let after = c.if-border-at.false in
    let before = c.if-before-at.false in
    let most = is.most in
    let side = c.side-among.ensures in
    let part = side.at_most in
    let twice = (half_room c.args.at.room c.args.at.among.size is.power is.most (omega arith)).twice in
    after_probe s c.args.leaf c.args.at
    (record { among = c.side-among.result; low = c.args.at.low; high = c.args.at.high; room = c.args.at.room / 2 })
    is (omega arith) (side.window s.ranges is.window c.start-begins.ensures.start) is.order is.within refl (omega arith)

pub returns-then-before-at-2-clause-narrowing : goal.returns-then-before-at-2-clause-narrowing
returns-then-before-at-2-clause-narrowing g c =
    (in_middle g (goal.at.returns-then-before-at-2-clause-narrowing g c).After-side-among).0

pub returns-then-before-at-2-clause-probes : goal.returns-then-before-at-2-clause-probes
returns-then-before-at-2-clause-probes g c =
    let digits = (in_middle g (goal.at.returns-then-before-at-2-clause-probes g c).After-side-among).1 in
    let probes = ap (λ (z : Cost). z.probes) c.start-begins.ensures.counts in
    omega arith

-- parted at the border
at_border : (g : Over) (c : After-side-among-2 g) (low high : ℕ) → low ≤ high → high ≤ length (g.R.Reader.shown c.args.reader.now).borders
    → IsNarrowing (g.R.Reader.shown c.args.reader.now) c.args.leaf
    (record { among = c.side-among-2.result; low = low; high = high; room = c.args.at.room / 2 })
    × (binary_digits (c.args.at.room / 2) + 1 ≡ binary_digits c.args.at.room)
at_border g c low high order within =
    let s = g.R.Reader.shown c.args.reader.now in
    let is = c.requires.narrowing in
    let after = c.if-border-at.false in
    let before = c.if-before-at.false in
    let front = c.if-before-at-2.false in
    let back = c.if-at-before.false in
    let side = c.side-among-2.ensures in
    let part = side.at_most in
    let place : get_or s.borders c.next_border-next.result 0
    ≡ c.args.at.among.first + (c.border-border.result - c.args.at.among.first) =
    let border = c.border-border.ensures in omega arith in
    let begins = c.border_start-begins.ensures.start ∙ ap (λ (k : ℕ). (range_at s.ranges k).start) place in
    after_probe s c.args.leaf c.args.at (record { among = c.side-among-2.result; low = low; high = high; room = c.args.at.room / 2 })
    is (omega arith) (side.window s.ranges is.window begins) order within refl (omega arith)

pub returns-then-begins-leaf-clause-narrowing : goal.returns-then-begins-leaf-clause-narrowing
returns-then-begins-leaf-clause-narrowing g c =
    let is = c.requires.narrowing in
    let some = c.requires.some in
    (at_border g (goal.at.returns-then-begins-leaf-clause-narrowing g c).After-side-among-2
    (c.next_border-next.result + 1) c.args.at.high (omega arith) is.within).0

pub returns-then-begins-leaf-clause-probes : goal.returns-then-begins-leaf-clause-probes
returns-then-begins-leaf-clause-probes g c =
    let is = c.requires.narrowing in
    let digits =
    (at_border g (goal.at.returns-then-begins-leaf-clause-probes g c).After-side-among-2 c.args.at.low c.args.at.high is.order is.within).1 in
    let probes = ap (λ (z : Cost). z.probes) c.border_start-begins.ensures.counts in
    omega arith

pub returns-else-begins-leaf-clause-narrowing : goal.returns-else-begins-leaf-clause-narrowing
returns-else-begins-leaf-clause-narrowing g c =
    let is = c.requires.narrowing in
    let within = is.within in
    let some = c.requires.some in
    (at_border g (goal.at.returns-else-begins-leaf-clause-narrowing g c).After-side-among-2 c.args.at.low
    c.next_border-next.result (omega arith) (omega arith)).0

pub returns-else-begins-leaf-clause-probes : goal.returns-else-begins-leaf-clause-probes
returns-else-begins-leaf-clause-probes g c =
    let is = c.requires.narrowing in
    let digits =
    (at_border g (goal.at.returns-else-begins-leaf-clause-probes g c).After-side-among-2 c.args.at.low c.args.at.high is.order is.within).1 in
    let probes = ap (λ (z : Cost). z.probes) c.border_start-begins.ensures.counts in
    omega arith
