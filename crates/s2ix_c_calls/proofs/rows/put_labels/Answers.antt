-- There is room for the front alone.
use Rattle.std.proofs.Common.{◌≡◌, ◌<◌, arith, length, rules}
use Rattle.s2ix_bag_pairs.specs.Label.{value_of}
use Rattle.s2ix_c_calls.proofs.Filling.{fills_part}
use Rattle.s2ix_c_calls.proofs.rows.put_labels.Goals as goal

pub returns-then-list-out : goal.returns-then-list-out
returns-then-list-out c =
    let l = c.loop-place in
    let all : l.place ≡ length c.args.out.now = search rules in
    fills_part value_of c.args.list.now l.place c.args.out.now l.out all (search rules) l.invariant.2 l.invariant.0
