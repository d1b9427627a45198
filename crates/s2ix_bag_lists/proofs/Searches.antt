-- A search among parts by their first pairs.
use Rattle.std.proofs.Common.{◌≡◌, ℕ, zero, suc, ◌+◌, ◌<◌, ◌≤◌, List, [], ◌∷◌, ◌++◌, take, drop, get_or, length, slice_get, Some, sym, ap, ◌∙◌, subst, arith}
use Rattle.std.proofs.lemmas.List.{get_or-take, get_or-drop, drop_all}
use Rattle.s2ix_bag_pairs.specs.Collection.{Collection, IsCollection, IsCollectionFrom, AreBelow}
use Rattle.s2ix_bag_pairs.specs.Pair.{rank_of}
use Rattle.s2ix_bag_pairs.specs.declared.pair.Held.{Held}
use Rattle.s2ix_bag_lists.specs.Faces.{all_of}
use Rattle.s2ix_bag_lists.specs.Parts.{AreAround}
use Rattle.s2ix_bag_lists.proofs.Joined.{below_more}
use Rattle.s2ix_bag_lists.proofs.Joins.{all_split, front_below, back_rises}

-- where the first pair of a part is, the part's later pairs follow
pub begins_with : (ps : List Collection) (i : ℕ) (h : Held) → i < length ps → slice_get (get_or ps i []) 0 ≡ Some h
    → (rest : Collection) × (all_of (drop i ps) ≡ h ∷ rest)
begins_with [] i h within is = absurd (omega arith)
begins_with ([] ∷ ps) zero h within is = cc
begins_with ((x ∷ xs) ∷ ps) zero h within is =
    let same : x ≡ h = cc in (xs ++ all_of ps, ap (λ (y : Held). y ∷ (xs ++ all_of ps)) same)
begins_with (p ∷ ps) (suc i) h within is = begins_with ps i h (omega arith) is

-- the pair lies in the parts from low on, and before those from high on
pub record Narrowed (ps : List Collection) (rank low high : ℕ) : Type 0 where
  pub some : low < high
  pub within : high ≤ length ps
  pub below : AreBelow rank (all_of (take low ps))
  pub rest : IsCollectionFrom (rank + 1) (all_of (drop high ps))

-- all parts
pub narrowed_start : (ps : List Collection) (rank low high : ℕ) → low ≡ 0 → high ≡ length ps → 0 < high → Narrowed ps rank low high
narrowed_start ps rank zero high none all some = record {
  some = some;
  within = omega (arith, all);
  below = tt;
  rest = subst (λ (x : List Collection). IsCollectionFrom (rank + 1) (all_of x)) (sym (drop_all high ps (omega (arith, all)))) tt;
}
narrowed_start ps rank (suc low) high none all some = absurd (omega (arith, none))

pub narrowed_low : (ps : List Collection) (rank low high middle : ℕ) (h : Held) → IsCollection (all_of ps) → Narrowed ps rank low high
    → middle < high → slice_get (get_or ps middle []) 0 ≡ Some h → rank_of h.pair ≤ rank → Narrowed ps rank middle high
narrowed_low ps rank low high middle h rises was lt is le =
    let begins = begins_with ps middle h (omega (arith, was.within)) is in
    let all = all_split middle ps ∙ ap (λ x. all_of (take middle ps) ++ x) begins.1 in
    let parted = subst (λ (x : Collection). IsCollection x) all rises in
    record {
      some = lt;
      within = was.within;
      below = below_more (rank_of h.pair) rank (all_of (take middle ps)) le (front_below 0 (all_of (take middle ps)) h begins.0 parted);
      rest = was.rest;
    }

pub narrowed_high : (ps : List Collection) (rank low high middle : ℕ) (h : Held) → IsCollection (all_of ps) → Narrowed ps rank low high
    → low < middle → middle < high → slice_get (get_or ps middle []) 0 ≡ Some h → rank < rank_of h.pair → Narrowed ps rank low middle
narrowed_high ps rank low high middle h rises was low_lt lt is after =
    let begins = begins_with ps middle h (omega (arith, was.within)) is in
    let all = all_split middle ps ∙ ap (λ x. all_of (take middle ps) ++ x) begins.1 in
    let parted = subst (λ (x : Collection). IsCollection x) all rises in
    let back = back_rises 0 (all_of (take middle ps)) (h ∷ begins.0) parted in
    record {
      some = low_lt;
      within = omega (arith, was.within);
      below = was.below;
      rest = subst (λ (x : Collection). IsCollectionFrom (rank + 1) x) (sym begins.1) (omega (arith, after), back.1, back.2);
    }

-- a part is read among those that follow the first ones
pub read_around : (ps own : List Collection) (rank before place i : ℕ) → AreAround ps rank before own → place ≡ before + i → i < length own
    → get_or own i [] ≡ get_or ps place []
read_around ps own rank before place i around is within =
    ap (λ (x : List Collection). get_or x i []) around.follow
    ∙ get_or-take (length own) (drop before ps) i [] within
    ∙ get_or-drop before ps i []
    ∙ ap (λ (k : ℕ). get_or ps k []) (sym is)
