-- One line more.
use Rattle.std.proofs.Common.{◌≡◌, ℕ, ◌+◌, ◌≤◌, ◌∷◌, [], ◌++◌, sym, ap, ◌∙◌, subst, arith}
use Rattle.std.specs.Prelude.{OnOk}
use Rattle.s2ix_bag_pairs.specs.declared.pair.Held.{Held}
use Rattle.s2ix_bag_pairs.specs.Collection.{Collection, copies_in}
use Rattle.s2ix_text_write.specs.Version.{dump_header}
use Rattle.s2ix_text.specs.PairLines.{IsNext, line_text}
use Rattle.s2ix_text.proofs.NextDumpLines.{IsReadSoFar, at_some, next_sum, read_more, wants_below}
use Rattle.s2ix_text.proofs.dump.read_below.Goals as goal

pub overflow_add-copies : goal.overflow_add-copies
overflow_add-copies c =
    let fits = at_some c.in_ok-next.field-0 _ _ c.in-Some.is c.in_ok-next.ensures.fits in
    let next =
    subst (λ (hs : Collection). IsNext c.args.limits (dump_header c.args.version) hs (line_text c.in-Some.next) c.in-Some.next)
    c.as_slice.ensures.value fits in
    let sum : copies_in c.loop-held.held.items + c.in-Some.next.count ≤ 4294967295000000 =
    next_sum c.args.limits (dump_header c.args.version) c.loop-held.held.items (line_text c.in-Some.next) c.in-Some.next next in
    let copies : c.loop-held.copies ≡ copies_in c.loop-held.held.items = c.loop-held.invariant.copies in
    omega (arith, sum, copies, c.from-copies.ensures)

pub returns-in_default-push-clause-refused : goal.returns-in_default-push-clause-refused
returns-in_default-push-clause-refused c =
    wants_below c.args.limits (dump_header c.args.version) c.args.text.now

pub loop-held-preserved : goal.loop-held-preserved
loop-held-preserved c =
    let hs = c.loop-held.held.items in
    let fits = at_some c.in_ok-next.field-0 _ _ c.in-Some.is c.in_ok-next.ensures.fits in
    let cut = at_some c.in_ok-next.field-0 _ _ c.in-Some.is c.in_ok-next.ensures.next in
    let next =
    subst (λ (xs : Collection). IsNext c.args.limits (dump_header c.args.version) xs (line_text c.in-Some.next) c.in-Some.next)
    c.as_slice.ensures.value fits in
    let more =
    read_more c.args.limits (dump_header c.args.version) c.args.text.now hs c.loop-held.copies c.loop-held.rest.now c.in-Some.below.now
    c.in-Some.next c.loop-held.invariant cut next in
    let summed =
    subst (λ (n : ℕ). IsReadSoFar c.args.limits (dump_header c.args.version) c.args.text.now (hs ++ c.in-Some.next ∷ [])
    (c.loop-held.copies + n) c.in-Some.below.now) (sym c.from-copies.ensures) more in
    let pushed : c.push.new.list.items ≡ hs ++ c.in-Some.next ∷ [] =
    subst (λ r. OnOk r (c.push.new.list.items ≡ hs ++ c.new.result ∷ [])) c.in-Ok.is c.push.ensures
    ∙ ap (λ (held : Held). hs ++ held ∷ []) c.new.ensures in
    subst (λ (held : Collection). IsReadSoFar c.args.limits (dump_header c.args.version) c.args.text.now held
    (c.loop-held.copies + c.from-copies.result) c.in-Some.below.now) (sym pushed) summed
