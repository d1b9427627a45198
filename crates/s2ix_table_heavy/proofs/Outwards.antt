-- Lists of held pairs that rise by depth: what is in them decides them.
use Rattle.std.proofs.Common.{◌≡◌, ℕ, zero, suc, ◌+◌, ◌<◌, ◌≤◌, inl, inr, Bool, true, Some, [], ◌∷◌, ◌++◌, drop, slice_get, ap, arith, Contains, AllPairs, All}
use Rattle.std.proofs.lemmas.List.Kept.{AllPairs-cons}
use Rattle.std.proofs.lemmas.List.Elements.{All-nil, All-cons, Contains-append_cases}
use Rattle.s2id_core.proofs.Lists.{head_pairs, tail_pairs, cons_cases, in_tail, at_head, none_in_nil}
use Rattle.s2ix_bag_pairs.specs.Collection.{Collection, IsCollection, IsCollectionFrom}
use Rattle.s2ix_bag_pairs.specs.Pair.{rank_of}
use Rattle.s2ix_bag_pairs.specs.declared.pair.Held.{Held}
use Rattle.s2ix_table_walk.specs.Contents.{covers, contents_at, depth_key}
use Rattle.s2ix_table_walk.specs.InOrder.{choice}
use Rattle.s2ix_table_walk.proofs.Lists.{same_pair_over, later_rank}
use Rattle.s2ix_table_walk.proofs.Over.{IsOver, over-true}
use Rattle.s2ix_table_walk.proofs.Rising.{AreApart, same_rising, strictly_choice, strict_pairs}
use Rattle.s2ix_table_spans.proofs.Passing.{contains_at}

-- one pair is no deeper than another, nor as deep
abbrev pub IsBelow : Held → Held → Type 0
IsBelow a b = depth_key a < depth_key b

-- each pair lies below all later ones
abbrev pub Outwards : Collection → Type 0
Outwards xs = AllPairs IsBelow xs

pub same_members : (xs ys : Collection) → Outwards xs → Outwards ys → ((c : Held) → Contains xs c → Contains ys c)
    → ((c : Held) → Contains ys c → Contains xs c) → xs ≡ ys
same_members xs ys xs_rise ys_rise to back = same_rising IsBelow xs ys (λ a b _ _ lt gt. omega arith) xs_rise ys_rise to back

-- ---- chosen pairs over one leaf

apart_over_leaf : (q n : ℕ) (test : Held → Bool) (hs : Collection) → IsCollectionFrom n hs
    → ((h : Held) → Contains hs h → test h ≡ true → IsOver h q) → AreApart test depth_key hs
apart_over_leaf q n test [] c over = tt
apart_over_leaf q n test (h ∷ hs) c over = (
  λ x held t u e.
      let ranks = same_pair_over q h x (over h (at_head h hs) t) (over x (in_tail h hs x held) u) e in
      let later = later_rank (rank_of h.pair + 1) hs x c.2 held in
      omega arith,
  apart_over_leaf q (rank_of h.pair + 1) test hs c.2 (λ x held t. over x (in_tail h hs x held) t),
)

pub choice_outwards : (q : ℕ) (test : Held → Bool) (hs : Collection) → IsCollection hs
    → ((h : Held) → Contains hs h → test h ≡ true → IsOver h q) → Outwards (choice test depth_key hs)
choice_outwards q test hs c over =
    strict_pairs depth_key (choice test depth_key hs) (strictly_choice test depth_key hs (apart_over_leaf q 0 test hs c over))

pub contents_outwards : (q : ℕ) (hs : Collection) → IsCollection hs → Outwards (contents_at q hs)
unfolding contents_at
contents_outwards q hs c = choice_outwards q (covers q) hs c (λ h held t. over-true q h t)

-- ---- first pairs and ends

-- the pair that is below all others comes first
pub least_first : (xs : Collection) (x : Held) → Outwards xs → Contains xs x → ((y : Held) → Contains xs y → depth_key x ≤ depth_key y)
    → xs ≡ x ∷ drop 1 xs
least_first [] x rise i least = absurd (none_in_nil x i)
least_first (y ∷ ys) x rise i least =
    elim (cons_cases y ys x i) [
      | inl e ↦ ap (λ (z : Held). z ∷ ys) e
      | inr j ↦
          absurd (let lt = head_pairs IsBelow y ys rise x j in let le = least y (at_head y ys) in omega arith)
    ]

pub drop_outwards : (n : ℕ) (xs : Collection) → Outwards xs → Outwards (drop n xs)
drop_outwards zero xs rise = rise
drop_outwards (suc n) [] rise = rise
drop_outwards (suc n) (x ∷ xs) rise = drop_outwards n xs (tail_pairs IsBelow x xs rise)

pub same_some : (x y : Held) → Some x ≡ Some y → x ≡ y
same_some x y e = cc

-- an end of such a list has the pairs that are not below its first one
pub in_drop : (n : ℕ) (xs : Collection) (x c : Held) → Outwards xs → slice_get xs n ≡ Some x → Contains (drop n xs) c
    → Contains xs c × (depth_key x ≤ depth_key c)
in_drop n [] x c rise is i = absurd (cc)
in_drop zero (y ∷ ys) x c rise is i =
    let first = ap depth_key (same_some y x is) in (
      i,
      elim (cons_cases y ys c i) [
        | inl e ↦ (let same = ap depth_key e in omega arith)
        | inr j ↦ (let lt = head_pairs IsBelow y ys rise c j in omega arith)
      ],
    )
in_drop (suc n) (y ∷ ys) x c rise is i =
    let rest = in_drop n ys x c (tail_pairs IsBelow y ys rise) is i in (in_tail y ys c rest.0, rest.1)

pub drop_has : (n : ℕ) (xs : Collection) (x c : Held) → Outwards xs → slice_get xs n ≡ Some x → Contains xs c
    → depth_key x ≤ depth_key c → Contains (drop n xs) c
drop_has n [] x c rise is i le = absurd (cc)
drop_has zero (y ∷ ys) x c rise is i le = i
drop_has (suc n) (y ∷ ys) x c rise is i le =
    elim (cons_cases y ys c i) [
      | inl e ↦
          absurd
          (let lt = head_pairs IsBelow y ys rise x (contains_at ys n x is) in
          let same = ap depth_key e in
          omega arith)
      | inr j ↦ drop_has n ys x c (tail_pairs IsBelow y ys rise) is j le
    ]

-- ---- lists one after the other

pub each_to_all : (P : Held → Type 0) (xs : Collection) → ((y : Held) → Contains xs y → P y) → All P xs
each_to_all P [] each = All-nil P
each_to_all P (x ∷ xs) each = All-cons P x xs (each x (at_head x xs)) (each_to_all P xs (λ y i. each y (in_tail x xs y i)))

pub cons_outwards : (x : Held) (xs : Collection) → ((y : Held) → Contains xs y → depth_key x < depth_key y) → Outwards xs
    → Outwards (x ∷ xs)
cons_outwards x xs below rise = AllPairs-cons IsBelow x xs (each_to_all (IsBelow x) xs below) rise

pub append_outwards : (xs ys : Collection) → Outwards xs → Outwards ys
    → ((a b : Held) → Contains xs a → Contains ys b → depth_key a < depth_key b) → Outwards (xs ++ ys)
append_outwards [] ys xs_rise ys_rise across = ys_rise
append_outwards (x ∷ xs) ys xs_rise ys_rise across =
    cons_outwards x (xs ++ ys)
    (λ y i.
    elim (Contains-append_cases xs ys y i) [
      | inl j ↦ head_pairs IsBelow x xs xs_rise y j
      | inr j ↦ across x y (at_head x xs) j
    ])
    (append_outwards xs ys (tail_pairs IsBelow x xs xs_rise) ys_rise (λ a b i j. across a b (in_tail x xs a i) j))
