use Rattle.std.proofs.Common.{string_bytes}
use Rattle.s2ix_cli_words.specs.Shown.{ArePlain}
use Rattle.s2ix_cli_words.proofs.shown.plain_text.Given as goal

abbrev pub invariant-loop-c : goal.invariant-loop-c
invariant-loop-c l = ArePlain (string_bytes l.plain)
