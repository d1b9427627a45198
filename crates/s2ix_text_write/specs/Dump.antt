-- The dump of a collection.
use Rattle.std.specs.Prelude.{◌≡◌, ℕ, ◌≤◌, codes, decimal, List, [], ◌∷◌, ◌++◌, length, flat_map, All}
use Rattle.std.specs.List.{concat}
use Rattle.s2id_core.specs.CellId.{raw_of}
use Rattle.s2id_core.specs.Token.{canonical_token}
use Rattle.s2ix_bag_pairs.specs.declared.pair.Held.{Held}
use Rattle.s2ix_bag_pairs.specs.Label.{value_of}
use Rattle.s2ix_bag_pairs.specs.Collection.{Collection, copies_in}
use Rattle.s2ix_text_write.specs.declared.version.Version.{Version}
use Rattle.s2ix_text_write.specs.declared.version.Version.TheVariants.{Second}
use Rattle.s2ix_text_write.specs.Version.{dump_header, greatest_in}

-- the line of a held pair: TOKEN LABEL COUNT
unfoldable pub pair_line : Held → List ℕ
pair_line h =
    concat
    (canonical_token (raw_of h.pair.cell) ∷ codes " " ∷ decimal (value_of h.pair.label) ∷ codes " " ∷ decimal h.count ∷ codes "\n" ∷ [])

-- the last line: end PAIRS COPIES
unfoldable pub end_line : Collection → List ℕ
end_line hs = concat (codes "end " ∷ decimal (length hs) ∷ codes " " ∷ decimal (copies_in hs) ∷ codes "\n" ∷ [])

-- the dump of a collection in a version: the header, a line for each held pair, and the end line
unfoldable pub dump_in : Version → Collection → List ℕ
dump_in version hs = dump_header version ++ 10 ∷ (flat_map pair_line hs ++ end_line hs)

-- the dump that is written: in the second version
abbrev pub dump_text : Collection → List ℕ
dump_text hs = dump_in Second hs

-- a version writes each count of a collection
abbrev pub CanHold : Version → Collection → Type 0
CanHold version hs = All (λ h. h.count ≤ greatest_in version) hs

-- a text is a dump of a collection, in a version that can hold it
abbrev pub IsDump : List ℕ → Collection → Type 0
IsDump text hs = (version : Version) × CanHold version hs × (text ≡ dump_in version hs)
