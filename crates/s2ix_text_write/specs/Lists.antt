-- Lists as they are printed: an item on each line, and an end line.
use Rattle.std.specs.Prelude.{ℕ, codes, decimal, List, [], ◌∷◌, ◌++◌, length, flat_map}
use Rattle.std.specs.List.{concat}
use Rattle.s2id_core.specs.declared.cell_id.CellId.{CellId}
use Rattle.s2id_core.specs.CellId.{raw_of}
use Rattle.s2id_core.specs.Token.{canonical_token}
use Rattle.s2ix_bag_pairs.specs.Label.{value_of}
use Rattle.s2ix_bag_pairs.specs.declared.label.Label.{Label}
use Rattle.s2ix_bag_pairs.specs.declared.pair.Held.{Held}

-- the last line of a list: end N
unfoldable pub end_of_list : ℕ → List ℕ
end_of_list n = concat (codes "end " ∷ decimal n ∷ codes "\n" ∷ [])

-- a list: each item's line, and the end line
unfoldable pub list_text : {A : Type 0} → (A → List ℕ) → List A → List ℕ
list_text line items = flat_map line items ++ end_of_list (length items)

-- a held pair: TOKEN:LABEL:COUNT
unfoldable pub pair_text : Held → List ℕ
pair_text h = concat (canonical_token (raw_of h.pair.cell) ∷ codes ":" ∷ decimal (value_of h.pair.label) ∷ codes ":" ∷ decimal h.count ∷ [])

-- a held pair on a line of its own
unfoldable pub held_line : Held → List ℕ
held_line h = pair_text h ++ codes "\n"

-- a held pair on a line of its own, with a byte between its parts
unfoldable pub line_between : ℕ → Held → List ℕ
line_between between h =
    concat
    (canonical_token (raw_of h.pair.cell) ∷ (between ∷ []) ∷ decimal (value_of h.pair.label) ∷ (between ∷ []) ∷ decimal h.count ∷ codes "\n" ∷ [])

-- a label on a line of its own
unfoldable pub label_line : Label → List ℕ
label_line label = decimal (value_of label) ++ codes "\n"

-- a cell's token on a line of its own
unfoldable pub token_line : CellId → List ℕ
token_line cell = canonical_token (raw_of cell) ++ codes "\n"
