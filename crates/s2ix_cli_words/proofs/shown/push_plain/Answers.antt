use Rattle.std.proofs.Common.{◌≡◌, inl, inr, string_bytes, ◌∷◌, ◌++◌, All, sym, ap, subst, ◌∙◌, rules}
use Rattle.std.proofs.Math.Utf8.{encode}
use Rattle.std.proofs.lemmas.Str.{IsUtf8-string_bytes}
use Rattle.std.proofs.lemmas.List.Elements.{All-head, All-tail}
use Rattle.std.specs.Char.Iter.{escape_rest}
use Rattle.s2ix_cli_words.specs.Shown.{ArePlain, IsPlain}
use Rattle.s2ix_cli_words.proofs.Plain.{IsPrintable, escape_printable, plain-push, printable-plain, printable-scalar, pushed-plain}
use Rattle.s2ix_cli_words.proofs.shown.push_plain.Goals as goal
use Rattle.s2ix_cli_words.proofs.shown.push_plain.Goals.{then-c-eq10-via-then-c-eq10, then-c-eq10-via-else-c-eq10+then-not-is_control}

pub returns-then-c-eq10 : goal.returns-then-c-eq10
returns-then-c-eq10 c =
    let is : IsPlain c.args.c = elim c.then-c-eq10.branch [ then-c-eq10-via-then-c-eq10 w ↦ inr w.if-c-eq10.true | then-c-eq10-via-else-c-eq10+then-not-is_control w ↦ inl (search rules) ] in
    let more = plain-push (string_bytes c.args.text.now) c.args.c (IsUtf8-string_bytes c.args.text.now) c.ranges.c.0 c.requires.plain is in
    record { plain = pushed-plain c.push.result (string_bytes c.args.text.now) _ (string_bytes c.push.new.self) c.push.ensures.bytes more }

pub loop-shown-init : goal.loop-shown-init
loop-shown-init c =
    let is = ap escape_rest c.into_iter-shown-iterator.ensures.into_iter_gives ∙ c.escape_default-shown-items.ensures.rest in
    (c.requires.plain, subst (All IsPrintable) (sym is) (escape_printable c.args.c))

pub loop-shown-preserved : goal.loop-shown-preserved
loop-shown-preserved c =
    let rest = c.next.new.self in
    let next : escape_rest c.loop-shown.shown-iterator ≡ c.in-Some.shown ∷ escape_rest rest = search rules in
    let printable : All IsPrintable (c.in-Some.shown ∷ escape_rest rest) = subst (All IsPrintable) next c.loop-shown.invariant.1 in
    let shown = All-head IsPrintable c.in-Some.shown (escape_rest rest) printable in
    let more = plain-push (string_bytes c.loop-shown.text) c.in-Some.shown (IsUtf8-string_bytes c.loop-shown.text) (printable-scalar c.in-Some.shown shown) c.loop-shown.invariant.0 (printable-plain c.in-Some.shown shown) in
    let bytes : string_bytes c.push-in-loop-shown.new.self ≡ string_bytes c.loop-shown.text ++ encode c.in-Some.shown = search rules in
    (subst ArePlain (sym bytes) more, All-tail IsPrintable c.in-Some.shown (escape_rest rest) printable)
