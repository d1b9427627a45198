-- The pairs of the face of a pair, as a bag knows where they lie.
use Rattle.std.proofs.Common.{◌≡◌, ℕ, zero, suc, ◌+◌, ◌-◌, ◌<◌, ◌≤◌, [], ◌∷◌, take, drop, get_or, length, sym, ap, ◌∙◌, arith, ⊎_elim}
use Rattle.std.proofs.lemmas.Bool.{cases_lt}
use Rattle.std.proofs.lemmas.List.{get_or-drop, get_or-take, length-take, length-drop}
use Rattle.s2ix_bag_lists.specs.Faces.{face_start, IsFaceAt}
use Rattle.s2ix_bag_pairs.specs.Collection.{Collection, IsCollection, IsCollectionFrom, AreBelow}
use Rattle.s2ix_bag_pairs.specs.Pair.{rank_of}
use Rattle.s2ix_bag_pairs.specs.declared.pair.Held.{Held}
use Rattle.s2ix_bag_pairs.proofs.CutAtRank.{below_from_places, from_place}

below_at : (n : ℕ) (hs : Collection) (i : ℕ) (d : Held) → AreBelow n hs → i < length hs → rank_of (get_or hs i d).pair < n
below_at n [] i d below lt = absurd (omega arith)
below_at n (h ∷ hs) zero d below lt = below.0
below_at n (h ∷ hs) (suc i) d below lt = below_at n hs i d below.1 (omega arith)

from_at : (n : ℕ) (hs : Collection) (i : ℕ) (d : Held) → IsCollectionFrom n hs → i < length hs → n ≤ rank_of (get_or hs i d).pair
from_at n [] i d is lt = absurd (omega arith)
from_at n (h ∷ hs) zero d is lt = is.0
from_at n (h ∷ hs) (suc i) d is lt =
    let later = from_at (rank_of h.pair + 1) hs i d is.2 (omega arith) in
    let first = is.0 in
    omega (arith, later, first)

-- a pair of a part, among all
at_own : (hs own : Collection) (before i : ℕ) (d : Held) → take (length own) (drop before hs) ≡ own → i < length own
    → get_or hs (before + i) d ≡ get_or own i d
at_own hs own before i d part lt =
    sym (get_or-drop before hs i d) ∙ sym (get_or-take (length own) (drop before hs) i d lt) ∙ ap (λ (xs : Collection). get_or xs i d) part

rank_at_own : (hs own : Collection) (before k : ℕ) (d : Held) → take (length own) (drop before hs) ≡ own → before ≤ k → k < before + length own
    → rank_of (get_or hs k d).pair ≡ rank_of (get_or own (k - before) d).pair
rank_at_own hs own before k d part from to =
    let at : before + (k - before) ≡ k = omega arith in
    ap (λ (j : ℕ). rank_of (get_or hs j d).pair) (sym at) ∙ ap (λ (h : Held). rank_of h.pair) (at_own hs own before (k - before) d part (omega arith))

pub around_within : (hs own : Collection) (k before : ℕ) → k < length hs → IsFaceAt k hs before own → before + length own ≤ length hs
around_within hs own k before within at =
    let len = length-take (length own) (drop before hs) in
    let left = length-drop before hs in
    let same = ap (λ (xs : Collection). length xs) at.part in
    let begins = at.begins in
    omega (arith, len, left, same, begins)

-- if a pair comes before a face, so do all pairs of its own face
pub below_around : (hs own : Collection) (k before face : ℕ) → k < length hs → IsFaceAt k hs before own → AreBelow (face_start face) (take (k + 1) hs)
    → AreBelow (face_start face) (take (before + length own) hs)
below_around hs own k before face within at below =
    let own_face : ℕ = at.face in
    let begins = at.begins in
    let ends = at.ends in
    below_from_places (face_start face) (before + length own) hs
    (λ j d lt short.
    let here = rank_at_own hs own before k d at.part begins ends in
    let from = from_at (face_start own_face) own (k - before) d at.on_face.0 (omega arith) in
    let first = get_or-take (k + 1) hs k d (omega arith) in
    let under = below_at (face_start face) (take (k + 1) hs) k d below
    (let len = length-take (k + 1) hs in omega (arith, len)) in
    let same = ap (λ (h : Held). rank_of h.pair) first in
    let earlier : own_face < face = omega (arith, here, from, same, under) in
    ⊎_elim
    (λ (front : j < before).
    let there = ap (λ (h : Held). rank_of h.pair) (get_or-take before hs j d front) in
    let low = below_at (face_start own_face) (take before hs) j d at.below (let len = length-take before hs in omega (arith, len)) in
    omega (arith, there, low, earlier))
    (λ back.
    let there = rank_at_own hs own before j d at.part back lt in
    let low = below_at (face_start (own_face + 1)) own (j - before) d at.on_face.1 (omega arith) in
    omega (arith, there, low, earlier))
    (cases_lt j before))

-- and if it does not, neither does one of them
pub from_around : (hs own : Collection) (k before face : ℕ) → IsCollection hs → k < length hs → IsFaceAt k hs before own
    → IsCollectionFrom (face_start face) (drop k hs) → IsCollectionFrom (face_start face) (drop before hs)
from_around hs own k before face rises within at from =
    let own_face : ℕ = at.face in
    let begins = at.begins in
    let ends = at.ends in
    from_place (face_start face) before 0 hs rises
    (λ d short.
    let here = rank_at_own hs own before k d at.part begins ends in
    let low = below_at (face_start (own_face + 1)) own (k - before) d at.on_face.1 (omega arith) in
    let first = ap (λ (h : Held). rank_of h.pair) (get_or-drop k hs 0 d) in
    let left = length-drop k hs in
    let high = from_at (face_start face) (drop k hs) 0 d from (omega (arith, left)) in
    let place : k + 0 ≡ k = omega arith in
    let moved = ap (λ (i : ℕ). rank_of (get_or hs i d).pair) place in
    let later : face ≤ own_face = omega (arith, here, low, first, high, moved) in
    let begin = rank_at_own hs own before before d at.part (omega arith) (omega arith) in
    let zero_is : before - before ≡ 0 = omega arith in
    let own_first = from_at (face_start own_face) own (before - before) d at.on_face.0 (omega arith) in
    omega (arith, begin, own_first, later))

-- ---- what lies before a place, or from it on, with fewer pairs

pub below_up_to : (n a b : ℕ) (hs : Collection) → b ≤ a → AreBelow n (take a hs) → AreBelow n (take b hs)
below_up_to n a zero hs le below = record {}
below_up_to n zero (suc b) hs le below = absurd (omega arith)
below_up_to n (suc a) (suc b) [] le below = record {}
below_up_to n (suc a) (suc b) (h ∷ hs) le below = (below.0, below_up_to n a b hs (omega arith) below.1)

pub from_later : (n a b : ℕ) (hs : Collection) → IsCollection hs → a ≤ b → IsCollectionFrom n (drop a hs) → IsCollectionFrom n (drop b hs)
from_later n a b hs rises le from =
    from_place n b 0 hs rises
    (λ d within.
    let left = length-drop a hs in
    let high = from_at n (drop a hs) (b - a) d from (omega (arith, left)) in
    let there = ap (λ (h : Held). rank_of h.pair) (get_or-drop a hs (b - a) d) in
    let place : a + (b - a) ≡ b = omega arith in
    let moved = ap (λ (i : ℕ). rank_of (get_or hs i d).pair) place in
    omega (arith, high, there, moved))
