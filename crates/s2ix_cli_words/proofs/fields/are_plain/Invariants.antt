-- If all looked at so far passed, they are plain.
use Rattle.std.proofs.Common.{◌≡◌, take, true}
use Rattle.std.specs.List.{list_all}
use Rattle.s2ix_cli_words.specs.Fields.{is_plain}
use Rattle.s2ix_cli_words.proofs.fields.are_plain.Given as goal

abbrev pub invariant-loop-byte : goal.invariant-loop-byte
invariant-loop-byte l = l.all ≡ true → list_all is_plain (take l.byte-index l.block) ≡ true
