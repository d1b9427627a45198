-- Each iteration takes the change before the counter back.
use Rattle.std.proofs.Common.{◌∙◌, arith}
use Rattle.std.proofs.lemmas.Result.{err_from_is_err_and}
use Rattle.s2ix_bag.proofs.Back.{IsBefore, made_back, refused_back, taken_back}
use Rattle.s2ix_bag.proofs.replaying.rewind.Goals as goal

pub returns-in_err-reached-clause-refused : goal.returns-in_err-reached-clause-refused
returns-in_err-reached-clause-refused c =
    let p = err_from_is_err_and c.from_residual-in_err-reached.result c.from_residual-in_err-reached.ensures.1 in
    let before : IsBefore c.args.changes.now c.loop-place.place c.in_ok-inverse.inverse = record {
      change = c.index-changes-place.result;
      some = omega arith;
      within = omega arith;
      is = c.index-changes-place.is;
      inverse = c.in_ok-inverse.ensures;
    } in
    rw (p.1, p.2, c.loop-place.invariant.0)
    (refused_back c.loop-place.reached c.args.changes.now c.loop-place.place c.in_ok-inverse.inverse c.in_err-reached.field-0.0 before
    c.in_err-reached.ensures.refused)

pub loop-place-preserved : goal.loop-place-preserved
loop-place-preserved c =
    let next = c.in_ok-reached.ensures in
    let before : IsBefore c.args.changes.now c.loop-place.place c.in_ok-inverse.inverse = record {
      change = c.index-changes-place.result;
      some = omega arith;
      within = omega arith;
      is = c.index-changes-place.is;
      inverse = c.in_ok-inverse.ensures;
    } in (
      c.loop-place.invariant.0
          ∙ taken_back c.loop-place.reached c.in_ok-reached.reached c.args.changes.now c.loop-place.place c.in_ok-inverse.inverse before
          next.accepted next.bag,
      c.loop-place.invariant.1
          ∙ made_back c.loop-place.reached c.in_ok-reached.reached c.args.changes.now c.loop-place.place c.in_ok-inverse.inverse before
          next.bag,
    )
