use Rattle.std.proofs.Common.{◌≡◌, ◌++◌, All, string_bytes}
use Rattle.std.specs.Char.Iter.{escape_byte_rest}
use Rattle.std.specs.Slice.Iter.{escape_ascii_current, escape_ascii_rest}
use Rattle.s2ix_cli_words.specs.Shown.{escaped}
use Rattle.s2ix_cli_words.proofs.Plain.{IsPrintable, left_in}
use Rattle.s2ix_cli_words.proofs.shown.escaped_word.Given as goal

-- the text and what is left of the word are the whole
abbrev pub invariant-loop-shown : goal.invariant-loop-shown
invariant-loop-shown l = (string_bytes l.text ++ left_in (escape_byte_rest (escape_ascii_current l.shown-iterator)) (escape_ascii_rest l.shown-iterator) ≡ escaped l.word)
    × All IsPrintable (escape_byte_rest (escape_ascii_current l.shown-iterator))
