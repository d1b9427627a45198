-- What the parts of a line write.
use Rattle.std.specs.Prelude.{ℕ, ◌&&◌, nat_lt, nat_le, Bool, true, if◌then◌else◌, decimal, Option, Some, None, List}
use Rattle.std.specs.Option.{option_and_then, unwrap_or}
use Rattle.std.specs.Str.{bytes_eq}
use Rattle.std.specs.Str.Parse.{digits_value}
use Rattle.s2id_core.specs.declared.cell_id.CellId.{CellId}
use Rattle.s2id_core.specs.CellId.{raw_of}
use Rattle.s2id_core.specs.Spelled.{cell_spelled}
use Rattle.s2id_core.specs.Token.{canonical_token}
use Rattle.s2ix_bag_pairs.specs.declared.label.Label.{Label}
use Rattle.s2ix_bag_pairs.specs.declared.pair.Pair.{Pair}
use Rattle.s2ix_bag_pairs.specs.Label.{label_numbered}
use Rattle.s2ix_bag_pairs.specs.Pair.{rank_of}
use Rattle.s2ix_text_parts.specs.Lines.{part}

-- a cell, if the text is its canonical token
abbrev pub cell_if_canonical : List ℕ → CellId → Option CellId
cell_if_canonical text cell = if bytes_eq text (canonical_token (raw_of cell)) then Some cell else None

-- the cell whose canonical token a text is, if it is any cell's
unfoldable pub cell_written : List ℕ → Option CellId
cell_written text = option_and_then (cell_if_canonical text) (cell_spelled text)

-- the number whose canonical digits a text is, if it is any number's: decimal digits without a leading zero; zero is `0`
unfoldable pub number_written : List ℕ → Option ℕ
number_written text = if bytes_eq text (decimal (digits_value 10 text)) then Some (digits_value 10 text) else None

-- the label whose number a text writes
unfoldable pub label_written : List ℕ → Option Label
label_written text = option_and_then label_numbered (number_written text)

-- a count of a pair that is held: from 1 to the greatest that may be written
abbrev pub count_from : ℕ → ℕ → Option ℕ
count_from most n = if nat_le 1 n && nat_le n most then Some n else None

-- the count of a held pair that a text writes
unfoldable pub count_written : ℕ → List ℕ → Option ℕ
count_written most text = option_and_then (count_from most) (number_written text)

-- the pair of a cell and a label, if there are both
abbrev pub pair_of_both : Option CellId → Option Label → Option Pair
pair_of_both (Some cell) (Some label) = Some (record { cell = cell; label = label })
pair_of_both (Some cell) None = None
pair_of_both None label = None

-- the pair that the first two parts of a line write
unfoldable pub pair_written : List ℕ → Option Pair
pair_written line = pair_of_both (cell_written (part 0 line)) (label_written (part 1 line))

-- the count that the third part of a line writes; 0 if it writes none
unfoldable pub count_of_line : ℕ → List ℕ → ℕ
count_of_line most line = unwrap_or (count_written most (part 2 line)) 0

-- a pair comes before another, if there are both
abbrev pub comes_before : Option Pair → Option Pair → Bool
comes_before (Some p) (Some q) = nat_lt (rank_of p) (rank_of q)
comes_before (Some p) None = true
comes_before None q = true
