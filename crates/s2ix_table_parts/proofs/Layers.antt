-- What two layers hold together: their pairs, their counts and how many they are.
use Rattle.std.proofs.Common.{◌≡◌, ℕ, zero, suc, ◌+◌, ◌<◌, ◌⊎◌, inl, inr, [], ◌∷◌, length, refl, sym, ◌∙◌, ap, arith, Contains, subst}
use Rattle.std.proofs.lemmas.Bool.{cases_eq, cases_order}
use Rattle.s2id_core.specs.CellId.{raw_of}
use Rattle.s2id_core.proofs.Lists.{in_tail, at_head}
use Rattle.s2ix_bag_pairs.specs.Collection.{Collection, IsCollection, IsCollectionFrom, count_at, count_in, held_with, set_count}
use Rattle.s2ix_bag_pairs.specs.Pair.{rank_of}
use Rattle.s2ix_bag_pairs.specs.declared.pair.Pair.{Pair}
use Rattle.s2ix_bag_pairs.specs.declared.pair.Held.{Held}
use Rattle.s2ix_bag_pairs.proofs.Collections.{same_collection, count_set_other, count_set_same, set_keeps, held_count, counted_held}
use Rattle.s2ix_bag_pairs.proofs.Counts.{count_head, count_tail, count_below, set_before, set_after}
use Rattle.s2ix_bag_pairs.proofs.Pairs.{same_held, same_pair}
use Rattle.s2ix_table_parts.specs.Layers.{joined_layers, ShareNoPair, ShareNoCell}

-- layers that share no cell share no pair
pub cells_part_pairs : (light heavy : Collection) → ShareNoCell light heavy → ShareNoPair light heavy
cells_part_pairs light heavy apart l h in_light in_heavy same =
    apart l h in_light in_heavy (ap (λ (p : Pair). raw_of p.cell) (same_pair l.pair h.pair same))

-- ---- they are a collection

-- what two layers hold together is a collection
pub joined_layers_rise : (light heavy : Collection) → IsCollection light → IsCollection (joined_layers light heavy)
unfolding joined_layers
joined_layers_rise light [] c = c
joined_layers_rise light (h ∷ hs) c = joined_layers_rise (set_count h.pair h.count light) hs (set_keeps h.pair h.count light c)

-- ---- their counts

-- a pair that isn't heavy has the count that it has among the light ones
pub count_light : (n : ℕ) (light heavy : Collection) (k : ℕ) → IsCollection light → IsCollectionFrom n heavy → count_at heavy k ≡ 0
    → count_at (joined_layers light heavy) k ≡ count_at light k
unfolding joined_layers
count_light n light [] k c d none = refl
count_light n light (h ∷ hs) k c d none =
    let other : rank_of h.pair ≡ k → ⊥ = λ e. omega (arith, count_head h hs k e, none, d.1) in
    count_light (rank_of h.pair + 1) (set_count h.pair h.count light) hs k (set_keeps h.pair h.count light c) d.2
    (sym (count_tail h hs k other) ∙ none)
    ∙ count_set_other h.pair h.count light k other

-- and a heavy pair has the count that it has among the heavy ones
pub count_heavy : (n : ℕ) (light heavy : Collection) (k : ℕ) → IsCollection light → IsCollectionFrom n heavy → 0 < count_at heavy k
    → count_at (joined_layers light heavy) k ≡ count_at heavy k
unfolding joined_layers
count_heavy n light [] k c d some = absurd (omega arith)
count_heavy n light (h ∷ hs) k c d some =
    let more : Collection = set_count h.pair h.count light in
    let more_is = set_keeps h.pair h.count light c in
    elim (cases_eq (rank_of h.pair) k) [
      | inl e ↦
          count_light (rank_of h.pair + 1) more hs k more_is d.2 (count_below (rank_of h.pair + 1) hs k d.2 (omega arith))
          ∙ ap (count_at more) (sym e) ∙ count_set_same 0 h.pair h.count light c ∙ sym (count_head h hs k e)
      | inr ne ↦
          count_heavy (rank_of h.pair + 1) more hs k more_is d.2 (omega (arith, some, count_tail h hs k ne)) ∙ sym (count_tail h hs k ne)
    ]

-- the counts of a pair in both together are the same if they are in each
pub same_joined_layers : (light heavy other_light other_heavy : Collection) (k : ℕ) → IsCollection light → IsCollection heavy
    → IsCollection other_light → IsCollection other_heavy → count_at light k ≡ count_at other_light k
    → count_at heavy k ≡ count_at other_heavy k → count_at (joined_layers light heavy) k ≡ count_at (joined_layers other_light other_heavy) k
same_joined_layers light heavy other_light other_heavy k c d e f one other =
    elim (cases_eq (count_at heavy k) 0) [
      | inl none ↦
          count_light 0 light heavy k c d none ∙ one ∙ sym (count_light 0 other_light other_heavy k e f (sym other ∙ none))
      | inr more ↦
          count_heavy 0 light heavy k c d (omega (arith, more)) ∙ other
          ∙ sym (count_heavy 0 other_light other_heavy k e f (omega (arith, more, other)))
    ]

-- the count of a pair that isn't in both layers is the sum of its counts
pub count_sum : (light heavy : Collection) (k : ℕ) → IsCollection light → IsCollection heavy
    → (0 < count_at heavy k → count_at light k ≡ 0) → count_at (joined_layers light heavy) k ≡ count_at light k + count_at heavy k
count_sum light heavy k c d apart =
    elim (cases_eq (count_at heavy k) 0) [
      | inl none ↦ omega (arith, count_light 0 light heavy k c d none, none)
      | inr more ↦
          (let some : 0 < count_at heavy k = omega (arith, more) in omega (arith, count_heavy 0 light heavy k c d some, apart some))
    ]

-- light pairs without heavy ones are themselves
pub joined_layers_none : (light : Collection) → joined_layers light [] ≡ light
unfolding joined_layers
joined_layers_none light = refl

-- and so are heavy pairs without light ones
pub joined_layers_heavy : (heavy : Collection) → IsCollection heavy → joined_layers [] heavy ≡ heavy
joined_layers_heavy heavy c =
    same_collection (joined_layers [] heavy) heavy (joined_layers_rise [] heavy tt) c (λ p.
    omega (arith, count_sum [] heavy (rank_of p) tt c (λ some. refl)))

-- ---- how many they are

length_more : (p : Pair) (n : ℕ) (hs : Collection) → 0 < n → length (held_with p n hs) ≡ length hs + 1
length_more p zero hs some = absurd (omega arith)
length_more p (suc n) hs some = omega arith

-- a pair that isn't held is one more
length_new : (m : ℕ) (p : Pair) (n : ℕ) (hs : Collection) → IsCollectionFrom m hs → count_at hs (rank_of p) ≡ 0 → 0 < n
    → length (set_count p n hs) ≡ length hs + 1
length_new m p n [] c none some = length_more p n [] some
length_new m p n (h ∷ hs) c none some =
    elim (cases_order (rank_of p) (rank_of h.pair)) [
      | inl e ↦ absurd (omega (arith, count_head h hs (rank_of p) (sym e), none, c.1))
      | inr order ↦
          elim order [
            | inl lt ↦ ap length (set_before p n h hs lt) ∙ length_more p n (h ∷ hs) some
            | inr lt ↦
                (let tail = count_tail h hs (rank_of p) (λ e. omega (arith, e, lt)) in
                omega (arith, ap length (set_after p n h hs lt), length_new (rank_of h.pair + 1) p n hs c.2 (sym tail ∙ none) some))
          ]
    ]

length_from : (n : ℕ) (light heavy : Collection) → IsCollection light → IsCollectionFrom n heavy
    → ((k : ℕ) → 0 < count_at heavy k → count_at light k ≡ 0) → length (joined_layers light heavy) ≡ length light + length heavy
unfolding joined_layers
length_from n light [] c d apart = omega arith
length_from n light (h ∷ hs) c d apart =
    let own = rank_of h.pair in
    let none = apart own (omega (arith, count_head h hs own refl, d.1)) in
    let rest = length_from (own + 1) (set_count h.pair h.count light) hs (set_keeps h.pair h.count light c) d.2 (λ k some.
    let other : own ≡ k → ⊥ = λ e. omega (arith, count_below (own + 1) hs k d.2 (omega arith), some) in
    count_set_other h.pair h.count light k other ∙ apart k (omega (arith, some, count_tail h hs k other))) in
    omega (arith, rest, length_new 0 h.pair h.count light c none d.1)

-- ---- their pairs

held_by_count : (hs : Collection) (x : Held) → 0 < x.count → count_in hs x.pair ≡ x.count → Contains hs x
held_by_count hs x some is =
    let held = counted_held hs x.pair (omega arith) in
    subst (Contains hs) (same_held (record { pair = x.pair; count = count_in hs x.pair }) x refl is) held

count_some : (n : ℕ) (hs : Collection) (x : Held) → IsCollectionFrom n hs → Contains hs x → 0 < x.count
count_some n [] x c (k, lt, e) = absurd (omega arith)
count_some n (h ∷ hs) x c (zero, lt, e) = let same = ap (λ (y : Held). y.count) e in let some = c.1 in omega arith
count_some n (h ∷ hs) x c (suc k, lt, e) = count_some (rank_of h.pair + 1) hs x c.2 (k, omega arith, e)

-- a rank with a count above 0 is that of a held pair
held_at_rank : (hs : Collection) (k : ℕ) → 0 < count_at hs k → (h : Held) × Contains hs h × (rank_of h.pair ≡ k)
held_at_rank [] k some = absurd (omega arith)
held_at_rank (h ∷ hs) k some =
    elim (cases_eq (rank_of h.pair) k) [
      | inl e ↦ (h, at_head h hs, e)
      | inr ne ↦
          (let rest = held_at_rank hs k (omega (arith, some, count_tail h hs k ne)) in (rest.0, in_tail h hs rest.0 rest.1, rest.2))
    ]

-- a pair of both together is of one
pub in_joined_layers : (light heavy : Collection) (x : Held) → IsCollection light → IsCollection heavy → Contains (joined_layers light heavy) x
    → Contains light x ⊎ Contains heavy x
in_joined_layers light heavy x c d held =
    let all = joined_layers_rise light heavy c in
    let some = count_some 0 (joined_layers light heavy) x all held in
    let is = held_count (joined_layers light heavy) x all held in
    elim (cases_eq (count_in heavy x.pair) 0) [
      | inl none ↦ inl (held_by_count light x some (sym (count_light 0 light heavy (rank_of x.pair) c d none) ∙ is))
      | inr more ↦
          inr (held_by_count heavy x some (sym (count_heavy 0 light heavy (rank_of x.pair) c d (omega (arith, more))) ∙ is))
    ]

-- a heavy pair is one of both together
pub heavy_in_joined_layers : (light heavy : Collection) (x : Held) → IsCollection light → IsCollection heavy → Contains heavy x
    → Contains (joined_layers light heavy) x
heavy_in_joined_layers light heavy x c d held =
    let some = count_some 0 heavy x d held in
    let is = held_count heavy x d held in
    held_by_count (joined_layers light heavy) x some (count_heavy 0 light heavy (rank_of x.pair) c d (omega arith) ∙ is)

-- a light pair isn't heavy
pub light_not_heavy : (light heavy : Collection) (x : Held) → ShareNoPair light heavy → Contains light x → count_in heavy x.pair ≡ 0
light_not_heavy light heavy x apart held =
    elim (cases_eq (count_in heavy x.pair) 0) [
      | inl none ↦ none
      | inr more ↦
          absurd (apart x (record { pair = x.pair; count = count_in heavy x.pair }) held
          (counted_held heavy x.pair (omega (arith, more))) refl)
    ]

-- so its rank has no heavy pair
none_at : (light heavy : Collection) (k : ℕ) → IsCollection light → ShareNoPair light heavy → 0 < count_at heavy k → count_at light k ≡ 0
none_at light heavy k c apart some =
    let one = held_at_rank heavy k some in
    elim (cases_eq (count_at light k) 0) [
      | inl none ↦ none
      | inr more ↦
          (let other = held_at_rank light k (omega (arith, more)) in
          absurd (apart other.0 one.0 other.1 one.1 (other.2 ∙ sym one.2)))
    ]

-- the count of a pair in layers that share none is the sum of its counts
pub count_joined_layers : (light heavy : Collection) (p : Pair) → IsCollection light → IsCollection heavy → ShareNoPair light heavy
    → count_in (joined_layers light heavy) p ≡ count_in light p + count_in heavy p
count_joined_layers light heavy p c d apart = count_sum light heavy (rank_of p) c d (none_at light heavy (rank_of p) c apart)

-- layers that share no pair hold as many as both
pub length_joined_layers : (light heavy : Collection) → IsCollection light → IsCollection heavy → ShareNoPair light heavy
    → length (joined_layers light heavy) ≡ length light + length heavy
length_joined_layers light heavy c d apart = length_from 0 light heavy c d (λ k some. none_at light heavy k c apart some)

-- a light pair is one of both together
pub light_in_joined_layers : (light heavy : Collection) (x : Held) → IsCollection light → IsCollection heavy → ShareNoPair light heavy
    → Contains light x → Contains (joined_layers light heavy) x
light_in_joined_layers light heavy x c d apart held =
    held_by_count (joined_layers light heavy) x (count_some 0 light x c held)
    (count_light 0 light heavy (rank_of x.pair) c d (light_not_heavy light heavy x apart held) ∙ held_count light x c held)
