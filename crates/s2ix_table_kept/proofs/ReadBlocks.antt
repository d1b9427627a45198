-- Blocks of a list, one after the other.
use Rattle.std.proofs.Common.{◌≡◌, ℕ, ◌+◌, ◌-◌, ◌<◌, ◌≤◌, ◌++◌, length, min, take, drop, sym, ap, ◌∙◌, subst, arith}
use Rattle.std.proofs.Math.Seq.{take-add}
use Rattle.std.proofs.lemmas.List.{drop-drop, drop-take, length-drop, length-take-le, take-take}
use Rattle.s2ix_bag_pairs.specs.Collection.{Collection, IsCollection}
use Rattle.s2ix_bag_pairs.proofs.CutAtRank.{collection_drop, collection_take}

-- a block of a part of a list is a block of the list
of_part : (hs part : Collection) (before a k : ℕ) → a + k ≤ length part → take (length part) (drop before hs) ≡ part
    → take k (drop a part) ≡ take k (drop (before + a) hs)
of_part hs part before a k within is =
    let rest : ℕ = length part - a in
    let split : length part ≡ a + rest = omega arith in
    ap (λ (xs : Collection). take k (drop a xs)) (sym is)
    ∙ ap (λ (n : ℕ). take k (drop a (take n (drop before hs)))) split
    ∙ ap (λ (xs : Collection). take k xs) (drop-take a rest (drop before hs))
    ∙ take-take k rest (drop a (drop before hs)) (omega arith)
    ∙ ap (λ (xs : Collection). take k xs) (drop-drop a before hs)

-- what was taken, and after it a block of the part that goes on there
pub with_block : (hs part : Collection) (from m before a k : ℕ) → before + a ≡ from + m → a + k ≤ length part
    → take (length part) (drop before hs) ≡ part → take m (drop from hs) ++ take k (drop a part) ≡ take (m + k) (drop from hs)
with_block hs part from m before a k here within is =
    let after : take k (drop a part) ≡ take k (drop m (drop from hs)) =
    of_part hs part before a k within is ∙ ap (λ (n : ℕ). take k (drop n hs)) here
    ∙ ap (λ (xs : Collection). take k xs) (sym (drop-drop m from hs)) in
    ap (λ (xs : Collection). take m (drop from hs) ++ xs) after ∙ sym (take-add m k (drop from hs))

-- the pairs from one place up to another were copied, of those that end before a third
pub record HasCopied (hs : Collection) (from to place : ℕ) (held : Collection) : Type 0 where
  pub begins : from ≤ place
  pub ends : place ≤ to
  pub pairs : held ≡ take (place - from) (drop from hs)

-- one block more was copied, up to an end, of the part that begins before the place
pub copied_more : (hs part held more : Collection) (from to place before end : ℕ) → HasCopied hs from to place held → place < to
    → before ≤ place → place < before + length part → end ≡ min (length part) (to - before) → take (length part) (drop before hs) ≡ part
    → more ≡ held ++ take (end - (place - before)) (drop (place - before) part)
    → HasCopied hs from to (place + length (take (end - (place - before)) (drop (place - before) part))) more
copied_more hs part held more from to place before end was short first last is own made =
    let a : ℕ = place - before in
    let k : ℕ = end - a in
    let m : ℕ = place - from in
    let low = was.begins in
    let high = was.ends in
    let within : a + k ≤ length part = omega arith in
    let left : length (drop a part) ≡ length part - a = length-drop a part in
    let count : length (take k (drop a part)) ≡ k = length-take-le k (drop a part) (omega arith) in
    let number : m + k ≡ place + length (take k (drop a part)) - from = omega arith in
    record {
      begins = omega arith;
      ends = omega arith;
      pairs = made ∙ ap (λ (xs : Collection). xs ++ take k (drop a part)) was.pairs
          ∙ with_block hs part from m before a k (omega arith) within own
          ∙ ap (λ (n : ℕ). take n (drop from hs)) number;
    }

-- ---- pairs between two places

pub between_rises : (hs held : Collection) (from n : ℕ) → IsCollection hs → held ≡ take n (drop from hs) → IsCollection held
between_rises hs held from n rises is =
    subst (λ (xs : Collection). IsCollection xs) (sym is) (collection_take n 0 (drop from hs) (collection_drop from 0 hs rises))

pub between_few : (hs held : Collection) (from to : ℕ) → length hs ≤ 1000000 → from ≤ to → to ≤ length hs
    → held ≡ take (to - from) (drop from hs) → length held ≤ 1000000
between_few hs held from to within_limit rises within is =
    let left = length-drop from hs in
    let count : length (take (to - from) (drop from hs)) ≡ to - from = length-take-le (to - from) (drop from hs) (omega arith) in
    let long = ap (λ (xs : Collection). length xs) is in
    omega arith
