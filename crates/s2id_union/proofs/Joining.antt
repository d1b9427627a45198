-- Cells in the order of their first leaves, joined to spans.
use Rattle.std.proofs.Common.{◌≡◌, ◌↔◌, ℕ, ◌+◌, ◌-◌, ◌%◌, ◌<◌, ◌≤◌, ◌⊎◌, inl, inr, List, [], ◌∷◌, ◌++◌, length, get_or, take, sym, ◌∙◌, ap, arith, subst}
use Rattle.std.specs.List.Sorted.{IsNonDecreasingBy, IsPermutation}
use Rattle.std.proofs.lemmas.Bool.{cases_lt}
use Rattle.std.proofs.lemmas.List.{get_or_default, take_more, take_all}
use Rattle.std.proofs.lemmas.List.Sorted.{Contains-permutation, IsPermutation-sym}
use Rattle.s2id_core.specs.declared.cell_id.CellId.{CellId}
use Rattle.s2id_core.specs.CellId.{raw_of, first_of, end_of}
use Rattle.s2id_core.specs.Span.{leaf_end}
use Rattle.s2id_core.proofs.Nested.{span}
use Rattle.s2id_union.specs.Region.{IsNormal}
use Rattle.s2id_union.specs.Covers.{Covers}
use Rattle.s2id_union.specs.Loops.{InSpan, AreMaximalBelow, IsAdded}
use Rattle.s2id_union.proofs.Covering.{covers_nil, covers_push_left, covers_push_right, covers_push_cases}
use Rattle.s2id_union.proofs.Adding.{maximal_nil, maximal_later}
use Rattle.s2id_union.proofs.Normal.{normal_from_maximal}

-- what the first k cells of a list cover, as the cells so far and the open span from `start` to `at`
pub record IsJoined (sorted cells : List CellId) (k start at : ℕ) : Type 0 where
  pub maximal : AreMaximalBelow cells start
  pub covers : (q : ℕ) → (Covers cells q ⊎ InSpan start at q) ↔ Covers (take k sorted) q
  pub ahead : (j : ℕ) (d : CellId) → k ≤ j → j < length sorted → start ≤ first_of (get_or sorted j d)

-- one more cell of the list
more : (sorted : List CellId) (k : ℕ) (x : CellId) → k < length sorted → x ≡ get_or sorted k x → (q : ℕ)
    → Covers (take (k + 1) sorted) q ↔ (Covers (take k sorted) q ⊎ InSpan (first_of x) (end_of x) q)
more sorted k x l is q =
    let e : take (k + 1) sorted ≡ take k sorted ++ x ∷ [] = take_more sorted k x l ∙ ap (λ y. take k sorted ++ y ∷ []) (sym is) in
    subst (λ xs. Covers xs q ↔ (Covers (take k sorted) q ⊎ InSpan (first_of x) (end_of x) q)) (sym e) (
      λ v. covers_push_cases (take k sorted) x q v,
      λ v. elim v [ inl c ↦ covers_push_left (take k sorted) x q c | inr r ↦ covers_push_right (take k sorted) x q r.from r.to ],
    )

pub joined_start : (sorted cells : List CellId) → cells ≡ [] → IsJoined sorted cells 0 1 1
joined_start sorted cells e = subst (λ xs. IsJoined sorted xs 0 1 1) (sym e) (record {
  maximal = maximal_nil 1;
  covers = λ q. (
    λ v. elim v [ inl c ↦ absurd (covers_nil q c) | inr r ↦ absurd (let a = r.from in let b = r.to in omega arith) ],
    λ c. absurd (covers_nil q c),
  );
  ahead = λ j d le l. (span (raw_of (get_or sorted j d)) (get_or sorted j d).valid).begins;
})

pub joined_gap : (sorted old cells : List CellId) (k start at : ℕ) → IsNonDecreasingBy (λ c. first_of c) sorted
    → IsJoined sorted old k start at → IsAdded old cells start at → (x : CellId) → k < length sorted → x ≡ get_or sorted k x
    → at < first_of x → IsJoined sorted cells (k + 1) (first_of x) (end_of x)
joined_gap sorted old cells k start at rises h added x l is gap = record {
  maximal = maximal_later cells (at + 1) (first_of x) added.maximal (omega arith);
  covers = λ q. (
    λ v. elim v [
      | inl c ↦ (more sorted k x l is q).1 (inl ((h.covers q).0 ((added.covers q).0 c)))
      | inr r ↦ (more sorted k x l is q).1 (inr r)
    ],
    λ v. elim ((more sorted k x l is q).0 v) [
      | inl c ↦ inl ((added.covers q).1 ((h.covers q).1 c))
      | inr r ↦ inr r
    ],
  );
  ahead = λ j d le within.
      let e = ap (λ (c : CellId). first_of c) (is ∙ get_or_default sorted k x d l) in
      let r = rises k j d (omega arith) within in
      omega arith;
}

pub joined_no_gap : (sorted cells : List CellId) (k start at after : ℕ) → IsJoined sorted cells k start at → start ≤ at → (x : CellId)
    → k < length sorted → x ≡ get_or sorted k x → first_of x ≤ at → at ≤ after → end_of x ≤ after → ((at ≡ after) ⊎ (end_of x ≡ after))
    → IsJoined sorted cells (k + 1) start after
joined_no_gap sorted cells k start at after h rise x l is near longer whole which =
    let begins = h.ahead k x (omega arith) l in
    let first = ap (λ (c : CellId). first_of c) is in
    record {
      maximal = h.maximal;
      covers = λ q. (
        λ v. elim v [
          | inl c ↦ (more sorted k x l is q).1 (inl ((h.covers q).0 (inl c)))
          | inr r ↦
              (let a = r.from in let b = r.to in
              elim (cases_lt q at) [
                | inl before ↦
                    (more sorted k x l is q).1 (inl ((h.covers q).0 (inr (record { from = a; to = before }))))
                | inr past ↦
                    elim which [
                      | inl e ↦ absurd (omega arith)
                      | inr e ↦ (more sorted k x l is q).1 (inr (record { from = omega arith; to = omega arith }))
                    ]
              ])
        ],
        λ v. elim ((more sorted k x l is q).0 v) [
          | inl c ↦
              elim ((h.covers q).1 c) [
                | inl o ↦ inl o
                | inr r ↦ (let a = r.from in let b = r.to in inr (record { from = a; to = omega arith }))
              ]
          | inr r ↦ (let a = r.from in let b = r.to in inr (record { from = omega arith; to = omega arith }))
        ],
      );
      ahead = λ j d le within. h.ahead j d (omega arith) within;
    }

-- the joined list
pub record IsJoinedWhole (sorted cells : List CellId) : Type 0 where
  pub normal : IsNormal cells
  pub covers : (q : ℕ) → Covers cells q ↔ Covers sorted q

pub joined_end : (sorted old cells : List CellId) (k start at : ℕ) → length sorted ≤ k → IsJoined sorted old k start at
    → IsAdded old cells start at → IsJoinedWhole sorted cells
joined_end sorted old cells k start at done h added = record {
  normal = normal_from_maximal cells (at + 1) added.maximal;
  covers = λ q.
      let all : Covers (take k sorted) q ↔ Covers sorted q = subst (λ xs. Covers (take k sorted) q ↔ Covers xs q) (take_all k sorted done) ((λ v. v), (λ v. v)) in (
        λ v. all.0 ((h.covers q).0 ((added.covers q).0 v)),
        λ v. (added.covers q).1 ((h.covers q).1 (all.1 v)),
      );
}

-- another order
pub covers_permutation : (xs ys : List CellId) → IsPermutation xs ys → (q : ℕ) → Covers ys q ↔ Covers xs q
covers_permutation xs ys p q = (
  λ v. record { cell = v.cell; held = Contains-permutation ys xs v.cell (IsPermutation-sym xs ys p) v.held; from = v.from; to = v.to },
  λ v. record { cell = v.cell; held = Contains-permutation xs ys v.cell p v.held; from = v.from; to = v.to },
)

-- ---- the loop's invariant as a whole

pub joined_next_gap : (sorted old cells next : List CellId) (k start at start_next at_next : ℕ) → IsNonDecreasingBy (λ c. first_of c) sorted
    → IsJoined sorted old k start at → IsAdded old cells start at → (x : CellId) → k < length sorted → x ≡ get_or sorted k x
    → at < first_of x → next ≡ cells → start_next ≡ first_of x → at_next ≡ end_of x
    → IsJoined sorted next (k + 1) start_next at_next × (start_next ≤ at_next) × (at_next ≤ leaf_end) × (at_next % 2 ≡ 1) × (start_next % 2 ≡ 1)
joined_next_gap sorted old cells next k start at start_next at_next rises h added x l is gap e f g =
    let s = span (raw_of x) x.valid in
    let s1 = s.from in
    let s2 = s.to in
    let s3 = s.ends in
    let s4 = s.odd in
    let s5 = s.odd_end in
    let j = joined_gap sorted old cells k start at rises h added x l is gap in (
      subst (λ z. IsJoined sorted next (k + 1) start_next z) (sym g) (subst (λ z. IsJoined sorted next (k + 1) z (end_of x)) (sym f) (subst (λ zs. IsJoined sorted zs (k + 1) (first_of x) (end_of x)) (sym e) j)),
      omega arith,
      omega arith,
      omega arith,
      omega arith,
    )

pub joined_next_no_gap : (sorted cells next : List CellId) (k start at start_next at_next : ℕ) → IsJoined sorted cells k start at
    → start ≤ at → at ≤ leaf_end → at % 2 ≡ 1 → start % 2 ≡ 1 → (x : CellId) → k < length sorted → x ≡ get_or sorted k x → first_of x ≤ at
    → at ≤ at_next → end_of x ≤ at_next → ((at ≡ at_next) ⊎ (end_of x ≡ at_next)) → next ≡ cells → start_next ≡ start
    → IsJoined sorted next (k + 1) start_next at_next × (start_next ≤ at_next) × (at_next ≤ leaf_end) × (at_next % 2 ≡ 1) × (start_next % 2 ≡ 1)
joined_next_no_gap sorted cells next k start at start_next at_next h rise most odd odd_start x l is near longer whole which e f =
    let s = span (raw_of x) x.valid in
    let s3 = s.ends in
    let s5 = s.odd_end in
    let j = joined_no_gap sorted cells k start at at_next h rise x l is near longer whole which in (
      subst (λ z. IsJoined sorted next (k + 1) z at_next) (sym f) (subst (λ zs. IsJoined sorted zs (k + 1) start at_next) (sym e) j),
      omega arith,
      elim which [ inl a ↦ omega arith | inr a ↦ omega arith ],
      elim which [ inl a ↦ omega arith | inr a ↦ omega arith ],
      omega arith,
    )

-- ---- whether cells are in order

-- the first k cells are in the order of their first leaves, and `before` is where the last of them begins, or 0
abbrev pub AreInOrderTo : List CellId → ℕ → ℕ → Type 0
AreInOrderTo cells k before =
    ((i j : ℕ) (d : CellId) → i ≤ j → j < k → first_of (get_or cells i d) ≤ first_of (get_or cells j d))
    × (k ≡ 0 → before ≡ 0)
    × ((d : CellId) → 0 < k → before ≡ first_of (get_or cells (k - 1) d))

-- one more cell of the list, which begins no earlier
pub in_order_next : (cells : List CellId) (k before first : ℕ) (x : CellId) → AreInOrderTo cells k before → k < length cells
    → x ≡ get_or cells k x → first ≡ first_of x → before ≤ first → AreInOrderTo cells (k + 1) first
in_order_next cells k before first x h l is begins later = (whole, (λ none. absurd (omega arith)), λ d _. subst (λ n. first ≡ first_of (get_or cells n d)) (let e : k ≡ k + 1 - 1 = omega arith in e) (begins ∙ read d))
  where
    read : (d : CellId) → first_of x ≡ first_of (get_or cells k d)
    read d = ap (λ (c : CellId). first_of c) (is ∙ get_or_default cells k x d l)

    last : (i : ℕ) (d : CellId) → i ≤ k → first_of (get_or cells i d) ≤ first_of (get_or cells k d)
    last i d le =
        let e = read d in
        elim (cases_lt i k) [
          | inl below ↦
              let a = h.0 i (k - 1) d (omega arith) (omega arith) in
              let b = h.2 d (omega arith) in
              omega arith
          | inr past ↦
              let same : k ≡ i = omega arith in
              subst (λ n. first_of (get_or cells n d) ≤ first_of (get_or cells k d)) same (omega arith)
        ]

    whole : (i j : ℕ) (d : CellId) → i ≤ j → j < k + 1 → first_of (get_or cells i d) ≤ first_of (get_or cells j d)
    whole i j d le within =
        elim (cases_lt j k) [
          | inl below ↦ h.0 i j d le below
          | inr past ↦
              let same : k ≡ j = omega arith in
              subst (λ n. first_of (get_or cells i d) ≤ first_of (get_or cells n d)) same (last i d (omega arith))
        ]
