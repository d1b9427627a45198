-- The text of a `PathText`.
use Rattle.std.specs.Prelude.{ℕ, List, take}
use Rattle.s2id_core.specs.declared.path.PathText.{PathText}

-- the bytes that `as_bytes()` gives
abbrev pub text_of_path : PathText → List ℕ
text_of_path t = take t.len t.bytes
