use Rattle.std.proofs.Common.{All, string_bytes}
use Rattle.std.specs.Char.Iter.{escape_rest}
use Rattle.s2ix_cli_words.specs.Shown.{ArePlain}
use Rattle.s2ix_cli_words.proofs.Plain.{IsPrintable}
use Rattle.s2ix_cli_words.proofs.shown.push_plain.Given as goal

-- the text is plain, and what is left of the escape prints
abbrev pub invariant-loop-shown : goal.invariant-loop-shown
invariant-loop-shown l = ArePlain (string_bytes l.text) × All IsPrintable (escape_rest l.shown-iterator)
