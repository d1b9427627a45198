-- What is printed of words.
use Rattle.std.specs.Prelude.{◌≡◌, ◌⊎◌, ◌++◌, ℕ, false, List, Result, Ok, Err, All, ⊤, String, codes, flat_map, string_bytes}
use Rattle.std.specs.Char.{is_control}
use Rattle.std.specs.Char.Escape.{escape_ascii}
use Rattle.std.specs.Str.{chars}
use Rattle.std.specs.declared.alloc.AllocError.{AllocError}
use Rattle.std.specs.declared.alloc.Global.{Global}
use Rattle.clap.specs.Words.{Text}
use Rattle.s2ix_cli_words.specs.declared.words_fault.WordsFault.{WordsFault}
use Rattle.s2ix_cli_words.specs.declared.words_fault.WordsFault.TheVariants.{Usage, HelpAsked, VersionAsked, OutOfMemory}

-- a line feed, or no control character
abbrev pub IsPlain : ℕ → Type 0
IsPlain c = (is_control c ≡ false) ⊎ (c ≡ 10)

-- a text without control characters but line feeds
abbrev pub ArePlain : Text → Type 0
ArePlain text = All IsPlain (chars text)

-- bytes, with an escape for each that doesn't print as ASCII
abbrev pub escaped : List ℕ → Text
escaped bytes = flat_map escape_ascii bytes

-- what is printed for a word that is no UTF-8
abbrev pub not_utf8_text : List ℕ → Text
not_utf8_text word = codes "error: the word '" ++ (escaped word ++ codes "' is no UTF-8\n\nFor more information, try '--help'.\n")

-- usage with a text, if there was room for it
abbrev pub as_usage : Result (String Global) AllocError → WordsFault
as_usage (Ok text) = Usage text
as_usage (Err error) = OutOfMemory

-- P holds of the text that is printed for a fault, if there is one
abbrev pub Says : (Text → Type 0) → WordsFault → Type 0
Says P (Usage text) = P (string_bytes text)
Says P (HelpAsked text) = P (string_bytes text)
Says P (VersionAsked text) = P (string_bytes text)
Says P OutOfMemory = ⊤
