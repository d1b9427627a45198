-- The fields of a line, and what they write.
use Rattle.std.specs.Prelude.{◌≡◌, ◌≤◌, ℕ, Bool, not, true, false, All, ◌&&◌, nat_lt, nat_le, if◌then◌else◌, Option, Some, None, List, [], ◌∷◌, ◌++◌, length}
use Rattle.std.specs.Char.{is_whitespace, is_ascii_digit}
use Rattle.std.specs.List.{list_all}
use Rattle.std.specs.Option.{option_and_then}
use Rattle.std.specs.Str.Parse.{digits_value}
use Rattle.bstr.specs.Fields.{fields_acc}
use Rattle.bstr.specs.Utf8.{lossy_chars, pieces, spans_from}
use Rattle.s2ix_bag_pairs.specs.declared.label.Label.{Label}
use Rattle.s2ix_bag_pairs.specs.Label.{label_numbered}

-- the fields of a line: what stands between white space; bytes that are no UTF-8 separate nothing
unfoldable pub fields_of : List ℕ → List (List ℕ)
fields_of line = fields_acc is_whitespace line None (spans_from 0 (pieces line))

-- the fields that are left: those of a text, or what is left of those of another
abbrev pub fields_left : List ℕ → Option (List (List ℕ)) → List (List ℕ)
fields_left text None = fields_of text
fields_left text (Some fields) = fields

-- a byte that separates fields alone: white space below 128
abbrev pub is_blank : ℕ → Bool
is_blank byte = nat_lt byte 128 && is_whitespace byte

-- a byte that belongs to a field, whatever stands around it: below 128, and no white space
abbrev pub is_plain : ℕ → Bool
is_plain byte = nat_lt byte 128 && not (is_whitespace byte)

-- a text whose characters are all white space
abbrev pub IsBlank : List ℕ → Type 0
IsBlank text = All (λ c. is_whitespace c ≡ true) (lossy_chars text)

-- a text none of whose characters is
abbrev pub HasNoWhiteSpace : List ℕ → Type 0
HasNoWhiteSpace text = All (λ c. is_whitespace c ≡ false) (lossy_chars text)

-- fields stand in a line in their order: before the first are `least` bytes of white space or more, before each other one some, and
-- after the last is nothing else
abbrev pub StandApart : ℕ → List (List ℕ) → List ℕ → Type 0
StandApart least [] line = IsBlank line
StandApart least (field ∷ fields) line =
    (before : List ℕ) × (after : List ℕ) × (line ≡ before ++ (field ++ after)) × IsBlank before × (least ≤ length before)
    × StandApart 1 fields after

-- the same, with white space before the first or none
abbrev pub AreInLineOrder : List (List ℕ) → List ℕ → Type 0
AreInLineOrder fields line = StandApart 0 fields line

-- the number that 1 to 10 decimal digits write; leading zeros are accepted
unfoldable pub script_number : List ℕ → Option ℕ
script_number text =
    if nat_lt 0 (length text) && nat_le (length text) 10 && list_all is_ascii_digit text then Some (digits_value 10 text) else None

-- the label that a field names
abbrev pub label_spelled : List ℕ → Option Label
label_spelled text = option_and_then label_numbered (script_number text)

-- a number of copies: from 1 to 4294967295
abbrev pub copies_from : ℕ → Option ℕ
copies_from n = if nat_le 1 n && nat_le n 4294967295 then Some n else None

-- the number of copies that a field names
abbrev pub copies_spelled : List ℕ → Option ℕ
copies_spelled text = option_and_then copies_from (script_number text)

-- a level: from 0 to 30
abbrev pub level_from : ℕ → Option ℕ
level_from n = if nat_le n 30 then Some n else None

-- the level that a field names
abbrev pub level_spelled : List ℕ → Option ℕ
level_spelled text = option_and_then level_from (script_number text)

-- a number of a change: from 1 to 100000
abbrev pub change_number_from : ℕ → Option ℕ
change_number_from n = if nat_le 1 n && nat_le n 100000 then Some n else None

-- the number of a change that a field names
abbrev pub change_number_spelled : List ℕ → Option ℕ
change_number_spelled text = option_and_then change_number_from (script_number text)
