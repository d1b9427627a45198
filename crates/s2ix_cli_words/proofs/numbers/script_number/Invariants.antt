use Rattle.s2ix_cli_words.proofs.ScriptNumbers.{AreRead}
use Rattle.s2ix_cli_words.proofs.numbers.script_number.Given as goal

abbrev pub invariant-loop-byte : goal.invariant-loop-byte
invariant-loop-byte l = AreRead l.text l.byte-index l.value
