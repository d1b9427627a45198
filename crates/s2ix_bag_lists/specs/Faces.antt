-- The pairs of a collection, face by face.
use Rattle.std.specs.Prelude.{◌≡◌, ℕ, ◌+◌, ◌*◌, ◌<◌, ◌≤◌, List, [], ◌∷◌, take, drop, length, flat_map}
use Rattle.s2ix_bag_pairs.specs.Pair.{rank_of}
use Rattle.s2ix_bag_pairs.specs.declared.pair.Entry.{Entry}
use Rattle.s2ix_bag_pairs.specs.Collection.{Collection, IsCollectionFrom, AreBelow}

-- the rank from which on the pairs of a face lie: its number times 2 ^ 61 cells times 2 ^ 31 labels
abbrev pub face_start : ℕ → ℕ
face_start face = face * 4951760157141521099596496896

-- what some lists hold, one after the other
abbrev pub all_of : List Collection → Collection
all_of lists = flat_map (λ list. list) lists

-- entries with pairs all before the rank n
abbrev pub AreEntriesBelow : ℕ → List Entry → Type 0
AreEntriesBelow n [] = Unit {0}
AreEntriesBelow n (e ∷ es) = (rank_of e.pair < n) × AreEntriesBelow n es

-- one list for each face from this one on, rising, with the pairs of that face alone
abbrev pub AreFacesFrom : ℕ → List Collection → Type 0
AreFacesFrom face [] = Unit {0}
AreFacesFrom face (list ∷ lists) =
    IsCollectionFrom (face_start face) list × AreBelow (face_start (face + 1)) list × AreFacesFrom (face + 1) lists

-- what one face holds
abbrev pub IsOnFace : ℕ → Collection → Type 0
IsOnFace face held = IsCollectionFrom (face_start face) held × AreBelow (face_start (face + 1)) held

-- all that is held on the face of the pair at a place, and how many pairs stand before it
pub record IsFaceAt (place : ℕ) (held : Collection) (before : ℕ) (own : Collection) : Type 0 where
  pub face : ℕ
  pub on_face : IsOnFace face own
  pub begins : before ≤ place
  pub ends : place < before + length own
  pub part : take (length own) (drop before held) ≡ own
  pub below : AreBelow (face_start face) (take before held)
  pub rest : IsCollectionFrom (face_start (face + 1)) (drop (before + length own) held)

-- one list for each of the six faces, with so many pairs in all
pub record AreFaces (lists : List Collection) (len : ℕ) : Type 0 where
  pub six : length lists ≡ 6
  pub apart : AreFacesFrom 0 lists
  pub counted : len ≡ length (all_of lists)
  pub within_limit : len ≤ 1000000
