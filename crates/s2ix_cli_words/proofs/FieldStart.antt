-- The first field of a line that begins with a plain byte.
use Rattle.std.proofs.Common.{◌≡◌, ℕ, ◌+◌, ◌-◌, ◌<◌, Bool, true, false, Some, None, List, [], ◌∷◌, refl, ap, ◌∙◌, arith}
use Rattle.std.specs.Prelude.{slice_index}
use Rattle.std.specs.Char.{is_whitespace}
use Rattle.std.proofs.lemmas.List.{get_or-take}
use Rattle.bstr.specs.Fields.{fields_acc}
use Rattle.bstr.specs.Text.{part}
use Rattle.bstr.specs.Utf8.{Decoded, or_replacement, pieces, spans_from}
use Rattle.bstr.proofs.lemmas.FieldLemmas.{fields-start, fields-stop, fields-more, fields-last}
use Rattle.s2ix_cli_words.specs.Fields.{fields_of, is_plain}
use Rattle.s2ix_cli_words.proofs.PlainFields.{plain_is, spans-low}

-- there is a first field, which begins with the first byte of a line
pub record BeginsWith (line : List ℕ) (fields : List (List ℕ)) : Type 0 where
  pub field : List ℕ
  pub rest : List (List ℕ)
  pub are : fields ≡ field ∷ rest
  pub begins : slice_index field 0 ≡ slice_index line 0

part_begins : (b : ℕ) (hay : List ℕ) → 0 < b → slice_index (part 0 b hay) 0 ≡ slice_index hay 0
part_begins b hay some = get_or-take (b - 0) hay 0 0 (omega arith)

-- a field that goes on, or ends
begun_step : (hay : List ℕ) (v : Bool) (off end c b : ℕ) (spans : List (ℕ × ℕ × ℕ)) → is_whitespace c ≡ v → 0 < b
    → BeginsWith hay (fields_acc is_whitespace hay (Some (0, end)) spans)
    → BeginsWith hay (fields_acc is_whitespace hay (Some (0, b)) ((off, end, c) ∷ spans))
begun_step hay true off end c b spans is some later =
    record {
      field = part 0 b hay;
      rest = fields_acc is_whitespace hay None spans;
      are = fields-stop is_whitespace hay (off, end, c) spans 0 b is;
      begins = part_begins b hay some;
    }
begun_step hay false off end c b spans is some later =
    record {
      field = later.field;
      rest = later.rest;
      are = fields-more is_whitespace hay (off, end, c) spans 0 b is
          ∙ later.are;
      begins = later.begins;
    }

begun_all : (hay : List ℕ) (ps : List Decoded) (off b : ℕ) → 0 < off → 0 < b
    → BeginsWith hay (fields_acc is_whitespace hay (Some (0, b)) (spans_from off ps))
unfolding spans_from
begun_all hay [] off b some some_b =
    record { field = part 0 b hay; rest = []; are = fields-last is_whitespace hay 0 b; begins = part_begins b hay some_b }
begun_all hay (p ∷ ps) off b some some_b =
    begun_step hay (is_whitespace (or_replacement p.char)) off (off + p.size) (or_replacement p.char) b (spans_from (off + p.size) ps) refl
    some_b
    (begun_all hay ps (off + p.size) (off + p.size) (omega arith) (omega arith))

pub fields_of-begins : (byte : ℕ) (line : List ℕ) → is_plain byte ≡ true → BeginsWith (byte ∷ line) (fields_of (byte ∷ line))
unfolding fields_of
fields_of-begins byte line is =
    let facts = plain_is byte is in
    let later = begun_all (byte ∷ line) (pieces line) 1 1 (omega arith) (omega arith) in
    record {
      field = later.field;
      rest = later.rest;
      are = ap (fields_acc is_whitespace (byte ∷ line) None) (spans-low byte line 0 facts.0)
          ∙ fields-start is_whitespace (byte ∷ line) (0, 1, byte) (spans_from 1 (pieces line)) facts.1
          ∙ later.are;
      begins = later.begins;
    }
