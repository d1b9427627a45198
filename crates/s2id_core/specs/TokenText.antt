-- The text of a `Token`.
use Rattle.std.specs.Prelude.{ℕ, List, take}
use Rattle.s2id_core.specs.declared.token.Token.{Token}

-- the bytes that `as_bytes()` gives
abbrev pub text_of_token : Token → List ℕ
text_of_token t = take t.len t.bytes
