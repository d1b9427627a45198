-- A pair has one place.
use Rattle.std.proofs.Common.{◌≡◌, ℕ, zero, suc, ◌<◌, inl, inr, Some, List, ◌∷◌, drop, length, get_or, slice_get, slice_index_or, refl, sym, ◌∙◌, ap, arith, Contains, subst}
use Rattle.std.proofs.lemmas.Option.{slice_get-get_or, slice_get_cases}
use Rattle.s2ix_bag_pairs.specs.Collection.{Collection, IsCollection}
use Rattle.s2ix_bag_pairs.specs.declared.pair.Held.{Held}
use Rattle.s2ix_table_spans.specs.Chains.{chain_of, AreOuter}
use Rattle.s2ix_table_spans.specs.Once.{IsHeldAt}
use Rattle.s2ix_table_spans.proofs.Chains.{chain_none}
use Rattle.s2ix_table_spans.proofs.Passing.{same_place}
use Rattle.s2ix_table_spans.proofs.Tables.{headed}

pub heads_agree : (x y : Held) (xs ys : Collection) → x ∷ xs ≡ y ∷ ys → x ≡ y
heads_agree x y xs ys e = cc

-- the pair that a place's chain begins with is that of the place
pair_of_place : (held : Collection) (outer : List ℕ) (place : ℕ) (h : Held) (rest : Collection) → length outer ≡ length held
    → AreOuter held outer → chain_of held place ≡ h ∷ rest → slice_get held place ≡ Some h
pair_of_place held outer place h rest size are is =
    elim ((slice_get_cases held place).1) [
      | inl (x, lt, at, got) ↦
          at ∙ ap (λ y. Some y) (heads_agree x h (drop 1 (chain_of held place)) rest (sym (headed held outer place x size are at) ∙ is))
      | inr past ↦ absurd (let e = ap length (sym (chain_none held place past.1) ∙ is) in omega arith)
    ]

pub one_place : (held : Collection) (outer : List ℕ) (start other p q : ℕ) (h : Held) → IsCollection held → length outer ≡ length held
    → AreOuter held outer → IsHeldAt (chain_of held) start h p → IsHeldAt (chain_of held) other h q → p ≡ q
one_place held outer start other p q h c size are one two =
    same_place held p q h c (pair_of_place held outer p h (drop 1 (chain_of held p)) size are one.pair) (pair_of_place held outer q h (drop 1 (chain_of held q)) size are two.pair)

-- the k-th pair of a chain has a place
place_at : (k : ℕ) (held : Collection) (outer : List ℕ) (start : ℕ) (h : Held) → length outer ≡ length held → AreOuter held outer
    → k < length (chain_of held start) → slice_index_or (chain_of held start) k h ≡ h → (p : ℕ) × IsHeldAt (chain_of held) start h p
place_at zero held outer start h size are within is =
    elim ((slice_get_cases held start).1) [
      | inr past ↦ absurd (let e = ap length (chain_none held start past.1) in omega arith)
      | inl (x, lt, at, got) ↦
          (let cons = headed held outer start x size are at in
          let first : x ≡ h = sym (ap (λ (cs : Collection). slice_index_or cs 0 h) cons) ∙ is in
          (start, record { pair = subst (λ (y : Held). chain_of held start ≡ y ∷ drop 1 (chain_of held start)) first cons; rest = (0, refl) }))
    ]
place_at (suc j) held outer start h size are within is =
    elim ((slice_get_cases held start).1) [
      | inr past ↦ absurd (let e = ap length (chain_none held start past.1) in omega arith)
      | inl (x, lt, at, got) ↦
          (let next = get_or outer start 0 in
          let cons = are start next x at (slice_get-get_or outer start 0 (omega arith)) in
          let shorter : j < length (chain_of held next) = let len = ap length cons in omega arith in
          let there = place_at j held outer next h size are shorter (sym (ap (λ (cs : Collection). slice_index_or cs (suc j) h) cons) ∙ is) in
          (there.0, record { pair = there.1.pair; rest = (suc there.1.rest.0, ap (drop (suc there.1.rest.0)) cons ∙ there.1.rest.1) }))
    ]

pub has_place : (held : Collection) (outer : List ℕ) (start : ℕ) (h : Held) → length outer ≡ length held → AreOuter held outer
    → Contains (chain_of held start) h → (p : ℕ) × IsHeldAt (chain_of held) start h p
has_place held outer start h size are (k, within, is) = place_at k held outer start h size are within is
