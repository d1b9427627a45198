-- The export of a collection.
use Rattle.std.specs.Prelude.{ℕ, codes, decimal, List, [], ◌∷◌, ◌++◌}
use Rattle.std.specs.List.{concat, join_by}
use Rattle.s2id_core.specs.CellId.{raw_of}
use Rattle.s2id_core.specs.Token.{canonical_token}
use Rattle.s2ix_bag_pairs.specs.declared.pair.Held.{Held}
use Rattle.s2ix_bag_pairs.specs.Label.{value_of}
use Rattle.s2ix_bag_pairs.specs.Collection.{Collection}

-- a held pair: ["TOKEN",LABEL,COUNT]
unfoldable pub pair_json : Held → List ℕ
pair_json h =
    concat
    (codes "[\"" ∷ canonical_token (raw_of h.pair.cell) ∷ codes "\"," ∷ decimal (value_of h.pair.label) ∷ codes "," ∷ decimal h.count
    ∷ codes "]" ∷ [])

-- the one export of a collection: {"pairs":[..],"version":1}, with a comma between two pairs
unfoldable pub export_text : Collection → List ℕ
export_text hs = codes "{\"pairs\":[" ++ (join_by pair_json (codes ",") hs ++ codes "],\"version\":1}")

-- the export on a line of its own
abbrev pub export_line : Collection → List ℕ
export_line hs = export_text hs ++ codes "\n"
