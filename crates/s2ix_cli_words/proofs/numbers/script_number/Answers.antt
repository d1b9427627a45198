use Rattle.std.proofs.Common.{◌<◌, inl, inr, sym, ◌∙◌, arith, length}
use Rattle.std.proofs.lemmas.Bool.{eqb-true}
use Rattle.s2ix_cli_words.proofs.ScriptNumbers.{script_number-none, script_number-no_digit, script_number-read, digits_more, some_from_test}
use Rattle.s2ix_cli_words.proofs.numbers.script_number.Goals.{then-is_empty-via-then-is_empty, then-is_empty-via-else-is_empty+then-text-gt-MOST_DIGITS}
use Rattle.s2ix_cli_words.proofs.numbers.script_number.Goals as goal

pub returns-then-is_empty : goal.returns-then-is_empty
returns-then-is_empty c =
    elim c.then-is_empty.branch [
      | then-is_empty-via-then-is_empty w
          ↦ sym (script_number-none c.args.text.now (inl (eqb-true _ _ (sym c.is_empty.ensures ∙ w.if-is_empty.true))))
      | then-is_empty-via-else-is_empty+then-text-gt-MOST_DIGITS w ↦ sym (script_number-none c.args.text.now (inr (omega arith)))
    ]

pub returns-then-not-is_ascii_digit : goal.returns-then-not-is_ascii_digit
returns-then-not-is_ascii_digit c =
    sym (script_number-no_digit c.args.text.now c.loop-byte.byte-index c.loop-byte-test.true
    (sym c.is_ascii_digit.ensures.value ∙ c.if-not-is_ascii_digit.true))

pub loop-byte-preserved : goal.loop-byte-preserved
loop-byte-preserved c =
    digits_more c.args.text.now c.loop-byte.byte-index c.loop-byte.value c.from.result c.loop-byte-test.true c.loop-byte.invariant
    (sym c.is_ascii_digit.ensures.value ∙ c.if-not-is_ascii_digit.false) c.from.ensures

pub returns : goal.returns
returns c =
    let some : 0 < length c.args.text.now = some_from_test c.args.text.now (sym c.is_empty.ensures ∙ c.if-is_empty.false) in
    sym (script_number-read c.args.text.now c.loop-byte.byte-index c.loop-byte.value some (omega arith) c.loop-byte-test.false
    c.loop-byte.invariant)
