-- Each pair is put before the rest of its chain.
use Rattle.std.proofs.Common.{rules, ◌≡◌, ◌+◌, length, refl, sym, ap, subst, map, take, ◌++◌, slice_set, slice_index_or, arith, ◌∙◌}
use Rattle.std.proofs.lemmas.List.{append-nil, take-set-le}
use Rattle.s2ix_table_queries.proofs.Linking.{linked_at, put_more, some_linked}
use Rattle.s2ix_table_queries.proofs.each.put_linked.Goals as goal

pub loop-place-init : goal.loop-place-init
loop-place-init g c = (omega arith, c.requires.room, refl, refl, λ chain linked. (refl, refl))

pub returns-then-at-out-clause-short : goal.returns-then-at-out-clause-short
returns-then-at-out-clause-short g c = λ chain linked none.
    let i = c.loop-place.invariant in
    let some = some_linked c.loop-place.place linked c.loop-place-test.true in
    omega (arith, c.if-at-out.true, some, (i.4 chain linked).0, i.2)

pub loop-place-smaller : goal.loop-place-smaller
loop-place-smaller g c =
    let same : length (slice_set c.loop-place.out c.loop-place.at c.of_held.result) ≡ length c.loop-place.out = search rules in
    omega (arith, c.if-at-out.false, same)

pub loop-place-preserved : goal.loop-place-preserved
loop-place-preserved g c =
    let i = c.loop-place.invariant in
    let at = c.loop-place.at in
    let same : length (slice_set c.loop-place.out at c.of_held.result) ≡ length c.loop-place.out = search rules in (
      omega (arith, i.0),
      omega (arith, c.if-at-out.false, same),
      same ∙ i.2,
      take-set-le c.args.from c.loop-place.out at c.of_held.result i.0 ∙ i.3,
      λ chain linked.
          let h = c.index-held-place.result in
          let next = linked_at c.loop-place.place h linked c.loop-place-test.true c.index-held-place.is in
          let put = put_more g.R.OfHeld.of c.loop-place.out at h (chain (slice_index_or c.args.outer.now c.loop-place.place 0)) (chain c.loop-place.place) _
          c.if-at-out.false next (i.4 chain linked).1 in
          let of = c.of_held.ensures ∙ ap g.R.OfHeld.of c.held.ensures in (
            omega (arith, ap length next, (i.4 chain linked).0),
            subst (λ r. take (at + 1) (slice_set c.loop-place.out at r) ++ map g.R.OfHeld.of (chain (slice_index_or c.args.outer.now c.loop-place.place 0))
                ≡ take c.args.from c.args.out.now ++ map g.R.OfHeld.of (chain c.args.first)) (sym of) put,
          ),
    )

pub returns-clause-end : goal.returns-clause-end
returns-clause-end g c = λ chain linked.
    let i = c.loop-place.invariant in
    let none = ap length (linked.ends c.loop-place.place (omega (arith, c.loop-place-test.false))) in
    omega (arith, none, (i.4 chain linked).0)

pub returns-clause-within : goal.returns-clause-within
returns-clause-within g c = let i = c.loop-place.invariant in omega (arith, i.1, i.2)

pub returns-clause-put : goal.returns-clause-put
returns-clause-put g c = λ chain linked.
    let i = c.loop-place.invariant in
    let none = linked.ends c.loop-place.place (omega (arith, c.loop-place-test.false)) in
    sym (append-nil (take c.loop-place.at c.loop-place.out))
    ∙ ap (λ l. take c.loop-place.at c.loop-place.out ++ map g.R.OfHeld.of l) (sym none) ∙ (i.4 chain linked).1
