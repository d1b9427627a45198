-- Where the pairs of a face lie among all.
use Rattle.std.proofs.Common.{◌≡◌, ℕ, zero, suc, ◌+◌, ◌-◌, ◌*◌, ◌/◌, ◌<◌, ◌≤◌, ◌↔◌, [], ◌∷◌, take, drop, get_or, length, slice_get, Some, refl, sym, ap, ◌∙◌, subst, arith, ⊎_elim}
use Rattle.std.proofs.lemmas.Bool.{cases_eq, cases_lt}
use Rattle.std.proofs.lemmas.List.{length-take-le, length-drop}
use Rattle.std.proofs.lemmas.Option.{get_or_from_slice_get}
use Rattle.s2id_core.specs.Span.{face_numbers}
use Rattle.s2id_core.proofs.Bits.{face_by_bits}
use Rattle.s2id_core.specs.CellId.{face_of, raw_of}
use Rattle.s2ix_bag_lists.specs.Faces.{face_start}
use Rattle.s2ix_bag_lists.proofs.Ends.{rank_by_face}
use Rattle.s2ix_bag_pairs.specs.Collection.{Collection, IsCollection, IsCollectionFrom, AreBelow}
use Rattle.s2ix_bag_pairs.specs.Label.{value_of}
use Rattle.s2ix_bag_pairs.specs.Pair.{rank_of}
use Rattle.s2ix_bag_pairs.specs.declared.pair.Held.{Held}
use Rattle.s2ix_bag_pairs.specs.declared.pair.Pair.{Pair}
use Rattle.s2ix_bag_pairs.proofs.CutAtRank.{below_from_places, from_place, ranks_rise}
use Rattle.s2ix_table_kept.specs.Faces.{held_on}
use Rattle.s2ix_table_faced.proofs.Unchanged.{on_face, off_face}

by_rank : (raw label face q : ℕ) → label < 2147483648 → q ≡ raw / face_numbers
    → (q < face) ↔ (raw * 2147483648 + label < face_start face)
by_rank raw label zero q small is = (λ lt. absurd (omega arith), λ lt. absurd (omega arith))
by_rank raw label (suc face) q small is =
    let split = rank_by_face raw label face q small is in
    (λ lt. let low = split.0 (omega arith) in omega arith, λ lt. let low = split.1 (omega arith) in omega arith)

-- a pair is of a face before one exactly if its rank is below that face
pub before_by_rank : (p : Pair) (face q : ℕ) → q ≡ face_of p.cell → (q < face) ↔ (rank_of p < face_start face)
before_by_rank p face q is =
    let small = p.label.in_range in
    by_rank (raw_of p.cell) (value_of p.label) face q (omega arith) (is ∙ sym (face_by_bits (raw_of p.cell)))

-- ---- what one read tells of a rising list

pub below_read : (rank n : ℕ) (hs : Collection) (h : Held) → IsCollection hs → n < length hs → slice_get hs n ≡ Some h
    → rank_of h.pair < rank → AreBelow rank (take (n + 1) hs)
below_read rank n hs h hs_is within is lt =
    let here : (d : Held) → rank_of (get_or hs n d).pair ≡ rank_of h.pair = λ d.
    ap (λ (x : Held). rank_of x.pair) (get_or_from_slice_get hs n h d is) in
    below_from_places rank (n + 1) hs
    (λ k d before short. ⊎_elim
    (λ (same : k ≡ n). let e = ap (λ (j : ℕ). rank_of (get_or hs j d).pair) same in omega (arith, e, here d, lt))
    (λ ne. let less : k < n = omega (arith, ne, before) in omega (arith, ranks_rise 0 hs k n d hs_is less within, here d, lt))
    (cases_eq k n))

pub from_read : (rank n : ℕ) (hs : Collection) (h : Held) → IsCollection hs → slice_get hs n ≡ Some h → rank ≤ rank_of h.pair
    → IsCollectionFrom rank (drop n hs)
from_read rank n hs h hs_is is le =
    from_place rank n 0 hs hs_is
    (λ d within. let here = ap (λ (x : Held). rank_of x.pair) (get_or_from_slice_get hs n h d is) in omega (arith, here, le))

-- ---- the pairs of a face

on_after : (face m : ℕ) (hs : Collection) → face_start (face + 1) ≤ m → IsCollectionFrom m hs → held_on face hs ≡ []
on_after face m [] le hs_is = refl
on_after face m (h ∷ hs) le hs_is =
    let split = before_by_rank h.pair (face + 1) (face_of h.pair.cell) refl in
    let first = hs_is.0 in
    off_face face h hs (λ same. let lt : rank_of h.pair < face_start (face + 1) = split.0 (omega arith) in omega (arith, lt, first, le))
    ∙ on_after face (rank_of h.pair + 1) hs (omega arith) hs_is.2

-- a pair from a face on and below the next one is of that face
of_face : (face : ℕ) (h : Held) → face_start face ≤ rank_of h.pair → rank_of h.pair < face_start (face + 1) → face_of h.pair.cell ≡ face
of_face face h from below =
    let q : ℕ = face_of h.pair.cell in
    let next = (before_by_rank h.pair (face + 1) q refl).1 below in
    let here = before_by_rank h.pair face q refl in
    ⊎_elim
    (λ (less : q < face). let lt : rank_of h.pair < face_start face = here.0 less in absurd (omega (arith, lt, from)))
    (λ le. omega (arith, le, next))
    (cases_lt q face)

on_from : (face n m : ℕ) (hs : Collection) → face_start face ≤ m → IsCollectionFrom m hs → AreBelow (face_start (face + 1)) (take n hs)
    → IsCollectionFrom (face_start (face + 1)) (drop n hs) → take n hs ≡ held_on face hs
on_from face zero m hs le hs_is below rest = sym (on_after face (face_start (face + 1)) hs (omega arith) rest)
on_from face (suc n) m [] le hs_is below rest = refl
on_from face (suc n) m (h ∷ hs) le hs_is below rest =
    let first = hs_is.0 in
    let is = of_face face h (omega (arith, first, le)) below.0 in
    ap (λ (x : Collection). h ∷ x) (on_from face n (rank_of h.pair + 1) hs (omega (arith, first, le)) hs_is.2 below.1 rest)
    ∙ sym (on_face face h hs is)

none_of : (n : ℕ) → take n (let none : Collection = [] in none) ≡ []
none_of zero = refl
none_of (suc n) = refl

-- the pairs of a face are those after what is before it, and before what is after it
pub held_between : (face a b c : ℕ) (hs : Collection) → b ≡ a + c → AreBelow (face_start face) (take a hs)
    → IsCollectionFrom (face_start face) (drop a hs) → AreBelow (face_start (face + 1)) (take b hs)
    → IsCollectionFrom (face_start (face + 1)) (drop b hs) → take c (drop a hs) ≡ held_on face hs
held_between face zero b c hs is below from next after =
    let same : b ≡ c = omega arith in
    on_from face c (face_start face) hs (omega arith) from (subst (λ (n : ℕ). AreBelow (face_start (face + 1)) (take n hs)) same next)
    (subst (λ (n : ℕ). IsCollectionFrom (face_start (face + 1)) (drop n hs)) same after)
held_between face (suc a) zero c hs is below from next after = absurd (omega arith)
held_between face (suc a) (suc b) c [] is below from next after = none_of c
held_between face (suc a) (suc b) c (h ∷ hs) is below from next after =
    let less = (before_by_rank h.pair face (face_of h.pair.cell) refl).1 below.0 in
    held_between face a b c hs (omega arith) below.1 from next.1 after ∙ sym (off_face face h hs (λ same. omega (arith, same, less)))

-- what is before a face ends no later than what is before the next
pub cuts_rise : (face a b : ℕ) (hs : Collection) → a ≤ length hs → AreBelow (face_start face) (take a hs)
    → IsCollectionFrom (face_start (face + 1)) (drop b hs) → a ≤ b
cuts_rise face zero b hs within below after = omega arith
cuts_rise face (suc a) b [] within below after = absurd (omega arith)
cuts_rise face (suc a) zero (h ∷ hs) within below after =
    let lt = below.0 in let le = after.0 in absurd (omega arith)
cuts_rise face (suc a) (suc b) (h ∷ hs) within below after =
    let le = cuts_rise face a b hs (omega arith) below.1 after in omega arith

-- the pairs of a face between two cuts, that before it and that before the next one
pub record IsFaceCut (face a b : ℕ) (hs : Collection) : Type 0 where
  pub rises : a ≤ b
  pub pairs : take (b - a) (drop a hs) ≡ held_on face hs
  pub count : b - a ≡ length (held_on face hs)

pub face_cut : (face a b : ℕ) (hs xs : Collection) → xs ≡ hs → a ≤ length hs → b ≤ length xs → AreBelow (face_start face) (take a hs)
    → IsCollectionFrom (face_start face) (drop a hs) → AreBelow (face_start (face + 1)) (take b xs)
    → IsCollectionFrom (face_start (face + 1)) (drop b xs) → IsFaceCut face a b hs
face_cut face a b hs xs same a_within b_within below from next after =
    let short : b ≤ length hs = omega (arith, b_within, ap (λ (zs : Collection). length zs) same) in
    let next_is = subst (λ (zs : Collection). AreBelow (face_start (face + 1)) (take b zs)) same next in
    let after_is = subst (λ (zs : Collection). IsCollectionFrom (face_start (face + 1)) (drop b zs)) same after in
    let rises = cuts_rise face a b hs a_within below after_is in
    let sum : b ≡ a + (b - a) = omega arith in
    let pairs = held_between face a b (b - a) hs sum below from next_is after_is in
    let left : length (drop a hs) ≡ length hs - a = length-drop a hs in
    record {
      rises = rises;
      pairs = pairs;
      count = sym (length-take-le (b - a) (drop a hs) (omega arith)) ∙ ap (λ (zs : Collection). length zs) pairs;
    }
