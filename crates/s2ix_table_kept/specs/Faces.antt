-- Pairs and entries by the face that they lie on.
use Rattle.std.specs.Prelude.{ℕ, ◌==◌, Bool, if◌then◌else◌, Option, Some, None, List, [], ◌∷◌, length, filter}
use Rattle.std.specs.List.{count_by, list_any}
use Rattle.s2id_core.specs.CellId.{face_of}
use Rattle.s2ix_bag_pairs.specs.Collection.{Collection}
use Rattle.s2ix_bag_pairs.specs.declared.pair.Entry.{Entry}

-- the six faces
abbrev pub faces : List ℕ
faces = 0 ∷ 1 ∷ 2 ∷ 3 ∷ 4 ∷ 5 ∷ []

-- the held pairs on a face, in their order
abbrev pub held_on : ℕ → Collection → Collection
held_on face held = filter (λ h. face_of h.pair.cell == face) held

-- whether a change has an entry on a face
abbrev pub has_entry_on : List Entry → ℕ → Bool
has_entry_on change face = list_any (λ e. face_of e.pair.cell == face) change

-- how many faces a change has an entry on
abbrev pub faces_of : List Entry → ℕ
faces_of change = count_by (has_entry_on change) faces

-- the entries of a change on a face, in their order
abbrev pub entries_on : ℕ → List Entry → List Entry
entries_on face change = filter (λ e. face_of e.pair.cell == face) change

-- the held pairs on a face, if a change has an entry on it
abbrev pub changed_on : List Entry → Collection → ℕ → Option Collection
changed_on change held face = if has_entry_on change face then Some (held_on face held) else None

-- how many pairs are held on the faces that a change has entries on
abbrev pub changed_count : List Entry → Collection → ℕ
changed_count change held = length (filter (λ h. has_entry_on change (face_of h.pair.cell)) held)
