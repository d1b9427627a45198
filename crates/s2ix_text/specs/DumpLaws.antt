-- What the definitions of dumps as they are read say, in other words: each of these is proved, by the function of `laws` of its name.
use Rattle.std.specs.Prelude.{◌≡◌, ◌↔◌, ℕ, not, None, List, ◌∷◌, ◌++◌}
use Rattle.s2ix_bag_pairs.specs.Collection.{Collection, LimitedCollection, IsBag}
use Rattle.s2ix_bag_pairs.specs.declared.limits.Limits.{Limits}
use Rattle.s2ix_text_write.specs.declared.version.Version.{Version}
use Rattle.s2ix_text_write.specs.Dump.{CanHold, IsDump, dump_in}
use Rattle.s2ix_text.specs.DumpFaults.{dump_fault, line_fault}
use Rattle.s2ix_text_parts.specs.Lines.{is_nil, lines_of}

-- a text has no fault exactly if it is a dump, in either version, of a collection within the limits
abbrev pub DumpsHaveNoFault : Type 0
DumpsHaveNoFault =
    (limits : Limits) (text : List ℕ)
    → (dump_fault limits text ≡ None) ↔ ((hs : Collection) × IsBag (record { limits = limits; held = hs }) × IsDump text hs)

-- the dump of a bag in each version that can hold it has no fault under its limits, and no other bag has that text
abbrev pub WrittenDumpsAreReadBack : Type 0
WrittenDumpsAreReadBack =
    (bag : LimitedCollection) → IsBag bag → (version : Version) → CanHold version bag.held
    → (dump_fault bag.limits (dump_in version bag.held) ≡ None)
    × ((other : LimitedCollection) → IsBag other → IsDump (dump_in version bag.held) other.held → bag.held ≡ other.held)

-- no line of a text without a fault has one
abbrev pub NoFaultyLineIsAccepted : Type 0
NoFaultyLineIsAccepted =
    (limits : Limits) (text : List ℕ) → dump_fault limits text ≡ None
    → (above : List (List ℕ)) (line : List ℕ) (below : List (List ℕ)) → lines_of text ≡ above ++ line ∷ below
    → line_fault (record { limits = limits; above = above; line = line; ended = not (is_nil below) }) ≡ None
