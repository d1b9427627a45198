-- Chains of held pairs: from a pair outwards.
use Rattle.std.specs.Prelude.{◌≡◌, ℕ, nat_le, ◌&&◌, Bool, false, Some, List, ◌∷◌, map, slice_get, option_map}
use Rattle.std.specs.Option.{unwrap_or}
use Rattle.s2id_core.specs.CellId.{first_of}
use Rattle.s2ix_bag_pairs.specs.Collection.{Collection}
use Rattle.s2ix_bag_pairs.specs.declared.pair.Held.{Held}
use Rattle.s2ix_table_walk.specs.InOrder.{choice}
use Rattle.s2ix_table_walk.specs.Contents.{covers, contents_at, depth_key}

-- whether a pair lies outwards of another: over its first leaf and no deeper. Each pair lies outwards of itself
abbrev pub is_outward : Held → Held → Bool
is_outward from h = covers (first_of from.pair.cell) h && nat_le (depth_key from) (depth_key h)

-- whether a pair is on the chain from a place outwards; none is, if there is no such place
abbrev pub is_on_chain : Collection → ℕ → Held → Bool
is_on_chain held place h = unwrap_or (option_map (λ from. is_outward from h) (slice_get held place)) false

-- the chain from a place outwards, innermost first
unfoldable pub chain_of : Collection → ℕ → Collection
chain_of held place = choice (is_on_chain held place) depth_key held

-- each place leads to the next one outwards
abbrev pub AreOuter : Collection → List ℕ → Type 0
AreOuter held outer =
    (place next : ℕ) (h : Held) → slice_get held place ≡ Some h → slice_get outer place ≡ Some next → chain_of held place ≡ h ∷ chain_of held next

-- the place beside each start leads to what lies over it
abbrev pub AreFirsts : Collection → List ℕ → List ℕ → Type 0
AreFirsts held starts firsts = map (chain_of held) firsts ≡ map (λ start. contents_at start held) starts
