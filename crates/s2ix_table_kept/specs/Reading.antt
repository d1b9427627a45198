-- Reading held pairs one by one, and what it costs.
use Rattle.std.specs.Prelude.{ℕ, zero, suc, ◌≡◌, ◌+◌, ◌*◌, ◌≤◌, List, length, min}
use Rattle.s2ix_bag_pairs.specs.Collection.{Collection, IsCollection}
use Rattle.s2ix_bag_pairs.specs.declared.pair.Entry.{Entry}
use Rattle.s2id_core.specs.BinaryDigits.{binary_digits}
use Rattle.s2ix_table_kept.specs.Faces.{held_on, changed_count, faces_of}

-- held pairs that can be read: a collection of at most as many pairs as the widest limits let a bag hold
pub record IsRead (held : Collection) : Type 0 where
  pub is_collection : IsCollection held
  pub within_limit : length held ≤ 1000000

-- one pair more was read; counts stop at 2 ^ 64 - 1
abbrev pub with_read : ℕ → ℕ
with_read reads = min (reads + 1) 18446744073709551615

-- so many pairs more were read, one after the other
abbrev pub with_reads : ℕ → ℕ → ℕ
with_reads zero reads = reads
with_reads (suc n) reads = with_read (with_reads n reads)

-- from one count of reads to another, at least and at most so many pairs were read
pub record HasRead (least most before after : ℕ) : Type 0 where
  pub made : ℕ
  pub counts : after ≡ with_reads made before
  pub some : least ≤ made
  pub within_limit : made ≤ most

-- what two searches among held pairs may read
abbrev pub two_searches : Collection → ℕ
two_searches held = 2 * binary_digits (length held + 1)

-- a face was read: each pair on it, and what two searches for it may read
abbrev pub IsFaceRead : ℕ → Collection → ℕ → ℕ → Type 0
IsFaceRead face held before after =
    HasRead (length (held_on face held)) (length (held_on face held) + two_searches held) before after

-- the faces that a change has entries on were read: each pair on them, and what two searches for each of these faces may read
abbrev pub AreChangedRead : List Entry → Collection → ℕ → ℕ → Type 0
AreChangedRead change held before after =
    HasRead (changed_count change held) (changed_count change held + faces_of change * two_searches held) before after
