-- What a collection is as JSON, before its text. For private clauses.
use Rattle.std.specs.Prelude.{codes, [], ◌∷◌}
use Rattle.serde_json.specs.Data.{Data, Items, array, member, no_members, number, object, string, unsigned}
use Rattle.serde_json.specs.View.{items_of}
use Rattle.s2id_core.specs.CellId.{raw_of}
use Rattle.s2id_core.specs.Token.{canonical_token}
use Rattle.s2ix_bag_pairs.specs.declared.pair.Held.{Held}
use Rattle.s2ix_bag_pairs.specs.Label.{value_of}

-- a held pair: a list of its token, its label and its count
abbrev pub pair_value : Held → Data
pair_value h =
    array
    (items_of (string (canonical_token (raw_of h.pair.cell)) ∷ number (unsigned (value_of h.pair.label)) ∷ number (unsigned h.count) ∷ []))

-- the whole: an object with these pairs and the version
abbrev pub export_value : Items → Data
export_value pairs = object (member (codes "pairs") (array pairs) (member (codes "version") (number (unsigned 1)) no_members))
