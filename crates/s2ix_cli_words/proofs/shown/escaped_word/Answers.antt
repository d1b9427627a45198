use Rattle.std.proofs.Common.{◌≡◌, ◌∷◌, [], ◌++◌, ◌-◌, drop, string_bytes, append_assoc, sym, ap, ◌∙◌, arith, rules}
use Rattle.std.proofs.Math.Utf8.{encode}
use Rattle.std.proofs.lemmas.Str.{encode_ascii}
use Rattle.std.proofs.lemmas.List.Elements.{All-head, All-tail}
use Rattle.std.specs.Char.Iter.{escape_byte_rest}
use Rattle.std.specs.Slice.Iter.{escape_ascii_current, escape_ascii_rest}
use Rattle.s2ix_cli_words.proofs.Plain.{IsNextOf, IsPrintable, left_in, next-left, nothing-left}
use Rattle.s2ix_cli_words.proofs.shown.escaped_word.Goals as goal

pub loop-shown-preserved : goal.loop-shown-preserved
loop-shown-preserved c =
    let before = c.loop-shown.shown-iterator in
    let after = c.next.new.self in
    let x = c.in-Some.shown in
    let escape = escape_byte_rest (escape_ascii_current after) in
    let left = left_in escape (escape_ascii_rest after) in
    let current = escape_ascii_current before in
    let is : IsNextOf x (escape_byte_rest (escape_ascii_current before)) (escape_ascii_rest before) escape (escape_ascii_rest after)
    = nothing-left (current.to - current.from) (drop current.from current.bytes) c.in-Some.ensures.steps in
    let next = next-left x (escape_byte_rest (escape_ascii_current before)) (escape_ascii_rest before) escape (escape_ascii_rest after) c.loop-shown.invariant.1 is in
    let low = All-head IsPrintable x escape next.1 in
    let bytes : string_bytes c.push.new.self ≡ string_bytes c.loop-shown.text ++ encode x = search rules in
    let one : encode x ≡ x ∷ [] = encode_ascii x (omega (arith, low.1)) in (
      ap (λ text. text ++ left) (bytes ∙ ap (λ e. string_bytes c.loop-shown.text ++ e) one)
          ∙ append_assoc (string_bytes c.loop-shown.text) (x ∷ []) left
          ∙ ap (λ rest. string_bytes c.loop-shown.text ++ rest) (sym next.0)
          ∙ c.loop-shown.invariant.0,
      All-tail IsPrintable x escape next.1,
    )
