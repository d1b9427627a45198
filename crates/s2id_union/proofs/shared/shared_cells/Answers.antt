use Rattle.std.proofs.Common.{◌⊎◌, inl, inr, ◌≤◌, length, arith}
use Rattle.s2id_union.proofs.Sharing.{next_shared, all_shared}
use Rattle.s2id_union.proofs.shared.shared_cells.Goals as goal
use Rattle.s2id_union.proofs.shared.shared_cells.Goals.{then-loop-i-test+else-j-second, else-loop-i-test}

pub loop-i-preserved : goal.loop-i-preserved
loop-i-preserved c =
    let first = c.args.first.now in
    let second = c.args.second.now in
    next_shared first second c.loop-i.i c.loop-i.j c.passed-i.result c.passed-j.result c.index-first-i.result c.index-second-j.result c.loop-i.cells.items c.add_shared.new.cells.items c.requires.first_normal c.requires.second_normal (omega arith) (omega arith) c.index-first-i.is c.index-second-j.is c.loop-i.invariant c.in_ok-add_shared.ensures c.passed-i.ensures.ends c.passed-i.ensures.stays c.passed-j.ensures.ends c.passed-j.ensures.stays

pub returns-clause-normal : goal.returns-clause-normal
returns-clause-normal c =
    let first = c.args.first.now in
    let second = c.args.second.now in
    let past : (length first ≤ c.loop-i.i) ⊎ (length second ≤ c.loop-i.j) = elim c.loop-i-test.branch [
      | then-loop-i-test+else-j-second w ↦ inr (omega (arith, w.if-j-second.false))
      | else-loop-i-test w ↦ inl (omega (arith, w.loop-i-test.false))
    ] in
    (all_shared first second c.loop-i.i c.loop-i.j c.loop-i.cells.items c.requires.first_normal c.requires.second_normal c.loop-i.invariant past).normal

pub returns-clause-covers : goal.returns-clause-covers
returns-clause-covers c =
    let first = c.args.first.now in
    let second = c.args.second.now in
    let past : (length first ≤ c.loop-i.i) ⊎ (length second ≤ c.loop-i.j) = elim c.loop-i-test.branch [
      | then-loop-i-test+else-j-second w ↦ inr (omega (arith, w.if-j-second.false))
      | else-loop-i-test w ↦ inl (omega (arith, w.loop-i-test.false))
    ] in
    (all_shared first second c.loop-i.i c.loop-i.j c.loop-i.cells.items c.requires.first_normal c.requires.second_normal c.loop-i.invariant past).covers
