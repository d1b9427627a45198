-- A list is put to the part of the buffer behind those that are there.
use Rattle.std.proofs.Common.{◌+◌, ◌-◌, ◌≡◌, length, take, drop, refl, arith, length-drop}
use Rattle.std.proofs.lemmas.List.{length-take}
use Rattle.s2ix_c_calls.proofs.Targets.{puts_next}
use Rattle.s2ix_c_calls.proofs.each.put_next.Goals as goal

pub returns-then-status-eq-DONE : goal.returns-then-status-eq-DONE
returns-then-status-eq-DONE g c =
    let count = c.args.count.now in
    let out = c.args.out.now in
    let long : count + length (take (length out - count) (drop count out)) ≡ length out =
    omega (arith, length-take (length out - count) (drop count out), length-drop count out) in
    puts_next count out _ c.put-status.new.out _ _ c.requires long c.put-status.auto.out refl (λ cells. g.R.OfTarget.list cells c.args.store.now)
    g.R.OfTarget.wants c.args.ids.now c.put-status.result c.put-status.new.number _ (λ _. refl) c.put-status.ensures.list c.put-status.ensures.memory

pub returns-else-status-eq-DONE : goal.returns-else-status-eq-DONE
returns-else-status-eq-DONE g c =
    let count = c.args.count.now in
    let out = c.args.out.now in
    let long : count + length (take (length out - count) (drop count out)) ≡ length out =
    omega (arith, length-take (length out - count) (drop count out), length-drop count out) in
    puts_next count out _ c.put-status.new.out _ _ c.requires long c.put-status.auto.out refl (λ cells. g.R.OfTarget.list cells c.args.store.now)
    g.R.OfTarget.wants c.args.ids.now c.put-status.result c.put-status.new.number _ (λ is_done. absurd (c.if-status-eq-DONE.false is_done)) c.put-status.ensures.list
    c.put-status.ensures.memory
