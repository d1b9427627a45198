-- Two lists of cells that follow one another, gone along together for what they share.
use Rattle.std.proofs.Common.{◌≡◌, ◌↔◌, ℕ, ◌+◌, ◌<◌, ◌≤◌, ◌⊎◌, inl, inr, List, [], ◌∷◌, ◌++◌, length, drop, get_or, sym, refl, ◌∙◌, ap, arith, subst, Contains}
use Rattle.std.proofs.lemmas.Bool.{cases_lt}
use Rattle.std.proofs.lemmas.List.{drop_more, get_or-drop, length-drop}
use Rattle.std.proofs.lemmas.List.Elements.{Contains-get_or, Contains-push_cases}
use Rattle.std.proofs.lemmas.List.Quantifiers.{all_pairs_push}
use Rattle.s2id_core.specs.declared.cell_id.CellId.{CellId}
use Rattle.s2id_core.specs.CellId.{raw_of, level_of, first_of, end_of}
use Rattle.s2id_core.specs.Cell.{IsCellNumber}
use Rattle.s2id_core.specs.Path.{path_at, number_of}
use Rattle.s2id_core.specs.Span.{first_at, end_at, leaf_end, IsNested}
use Rattle.s2id_core.proofs.Lists.{head_pairs, cons_cases, at_head}
use Rattle.s2id_core.proofs.Nested.{span, same_span, span_from_leaf, nested_by_level, nested_from_within, within_from_nested}
use Rattle.s2id_core.proofs.Numbers.{path_of_cell}
use Rattle.s2id_union.specs.Covers.{Covers, FollowOneAnother}
use Rattle.s2id_union.specs.Loops.{InSpan, IsShared, AreShared}
use Rattle.s2id_union.specs.Region.{IsNormal}
use Rattle.s2id_union.proofs.Covering.{region_from_covers, covers_tail, covers_push_left, covers_push_right, covers_push_cases}
use Rattle.s2id_union.proofs.Normal.{normal_from_maximal}
use Rattle.s2id_union.proofs.Searching.{follow_from_normal}
use Rattle.s2id_union.proofs.Unique.{around_from_all}

-- ---- a list by its first cell

abbrev InCell : CellId → ℕ → Type 0
InCell cell q = InSpan (first_of cell) (end_of cell) q

covers_cases : (x : CellId) (xs : List CellId) (q : ℕ) → Covers (x ∷ xs) q → InCell x q ⊎ Covers xs q
covers_cases x xs q h =
    elim (cons_cases x xs h.cell h.held) [
      | inl e ↦
          inl (record {
            from = subst (λ (c : CellId). first_of c ≤ q) (sym e) h.from;
            to = subst (λ (c : CellId). q < end_of c) (sym e) h.to;
          })
      | inr later ↦ inr (record { cell = h.cell; held = later; from = h.from; to = h.to })
    ]

covers_head : (x : CellId) (xs : List CellId) (q : ℕ) → InCell x q → Covers (x ∷ xs) q
covers_head x xs q h = record { cell = x; held = at_head x xs; from = h.from; to = h.to }

after : (x : CellId) (xs : List CellId) → FollowOneAnother (x ∷ xs) → (q : ℕ) → Covers xs q → end_of x ≤ q
after x xs follow q h =
    let f = head_pairs (λ a b. end_of a ≤ first_of b) x xs follow h.cell h.held in
    let from = h.from in
    omega arith

-- what lies in a first cell that ends by the limit of another lies in that one, if it lies in its list at all
in_first : (x : CellId) (xs : List CellId) → FollowOneAnother (x ∷ xs) → (q end : ℕ) → q < end → end ≤ end_of x → Covers (x ∷ xs) q
    → InCell x q
in_first x xs follow q end lt le h =
    elim (covers_cases x xs q h) [ inl here ↦ here | inr later ↦ absurd (let b = after x xs follow q later in omega arith) ]

-- ---- what is left of a list once its first cell is passed where it ends by a limit

record IsLeft (x : CellId) (xs left : List CellId) (limit : ℕ) : Type 0 where
  within : (q : ℕ) → Covers left q → Covers (x ∷ xs) q
  rest : (q : ℕ) → Covers (x ∷ xs) q → Covers left q ⊎ (InCell x q × (end_of x ≤ limit))
  past : end_of x ≤ limit → (q : ℕ) → Covers left q → end_of x ≤ q

all_passed : (x : CellId) (xs : List CellId) (limit : ℕ) → FollowOneAnother (x ∷ xs) → end_of x ≤ limit → IsLeft x xs xs limit
all_passed x xs limit follow le = record {
  within = covers_tail x xs;
  rest = λ q h. elim (covers_cases x xs q h) [ inl here ↦ inr (here, le) | inr later ↦ inl later ];
  past = λ _. after x xs follow;
}

none_passed : (x : CellId) (xs : List CellId) (limit : ℕ) → limit < end_of x → IsLeft x xs (x ∷ xs) limit
none_passed x xs limit lt = record { within = λ q h. h; rest = λ q h. inl h; past = λ le. absurd (omega arith) }

follow_drop : (cells : List CellId) → FollowOneAnother cells → (k : ℕ) → FollowOneAnother (drop k cells)
follow_drop cells follow k i j d lt within =
    let n = length-drop k cells in
    let a = ap (λ (c : CellId). end_of c) (get_or-drop k cells i d) in
    let b = ap (λ (c : CellId). first_of c) (get_or-drop k cells j d) in
    let f = follow (k + i) (k + j) d (omega arith) (omega arith) in
    omega arith

first_left : (cells : List CellId) (k : ℕ) (x : CellId) → k < length cells → x ≡ get_or cells k x → drop k cells ≡ x ∷ drop (k + 1) cells
first_left cells k x lt is = drop_more cells k x lt ∙ ap (λ y. y ∷ drop (k + 1) cells) (sym is)

follow_first : (cells : List CellId) → FollowOneAnother cells → (k : ℕ) (x : CellId) → k < length cells → x ≡ get_or cells k x
    → FollowOneAnother (x ∷ drop (k + 1) cells)
follow_first cells follow k x lt is = subst FollowOneAnother (first_left cells k x lt is) (follow_drop cells follow k)

left_at : (cells : List CellId) → FollowOneAnother cells → (k : ℕ) (x : CellId) → k < length cells → x ≡ get_or cells k x → (next limit : ℕ)
    → (end_of x ≤ limit → next ≡ k + 1) → (limit < end_of x → next ≡ k) → IsLeft x (drop (k + 1) cells) (drop next cells) limit
left_at cells follow k x lt is next limit passes stays =
    elim (cases_lt limit (end_of x)) [
      | inl less ↦
          subst (λ l. IsLeft x (drop (k + 1) cells) l limit) (sym (ap (λ n. drop n cells) (stays less) ∙ first_left cells k x lt is)) (none_passed x (drop (k + 1) cells) limit less)
      | inr le ↦
          subst (λ n. IsLeft x (drop (k + 1) cells) (drop n cells) limit) (sym (passes le)) (all_passed x (drop (k + 1) cells) limit (follow_first cells follow k x lt is) le)
    ]

-- ---- the cells that are shared, while something is left of either list

pub record IsSharing (xs ys left_x left_y cells : List CellId) : Type 0 where
  pub follow : FollowOneAnother cells
  pub of : (c : CellId) → Contains cells c → Contains xs c ⊎ Contains ys c
  pub below : (c : CellId) → Contains cells c → (q : ℕ) → Covers left_x q → Covers left_y q → end_of c ≤ q
  pub covers : (q : ℕ) → (Covers cells q ⊎ (Covers left_x q × Covers left_y q)) ↔ (Covers xs q × Covers ys q)

-- the same if what the two first cells share is added, and neither is passed yet
record IsJoined (xs ys : List CellId) (x y : CellId) (left_x left_y cells : List CellId) : Type 0 where
  follow : FollowOneAnother cells
  of : (c : CellId) → Contains cells c → Contains xs c ⊎ Contains ys c
  below : (c : CellId) → Contains cells c
      → ((q : ℕ) → Covers left_x q → Covers left_y q → end_of c ≤ q) ⊎ ((end_of c ≤ end_of x) × (end_of c ≤ end_of y))
  covers : (q : ℕ) → (Covers cells q ⊎ (Covers left_x q × Covers left_y q)) ↔ (Covers xs q × Covers ys q)
  done : (q : ℕ) → InCell x q → InCell y q → Covers cells q

in_outer : (cell x : CellId) → IsNested (raw_of cell) (raw_of x) → (q : ℕ) → InCell cell q → InCell x q
in_outer cell x nest q h =
    let n1 = nest.from in
    let n2 = nest.to in
    let a = h.from in
    let b = h.to in
    record { from = omega arith; to = omega arith }

one_joined : (xs ys : List CellId) (x y : CellId) (more_x more_y old : List CellId) (cell : CellId)
    → IsSharing xs ys (x ∷ more_x) (y ∷ more_y) old → Contains xs x → Contains ys y → IsShared x y cell
    → IsJoined xs ys x y (x ∷ more_x) (y ∷ more_y) (old ++ cell ∷ [])
one_joined xs ys x y more_x more_y old cell h held_x held_y s =
    let both : (q : ℕ) → InCell cell q → Covers (x ∷ more_x) q × Covers (y ∷ more_y) q = λ q i. (covers_head x more_x q (in_outer cell x s.in_one q i), covers_head y more_y q (in_outer cell y s.in_other q i)) in
    let begins : InCell cell (first_of cell) = (let p = span (raw_of cell) cell.valid in let a = p.from in let b = p.to in record { from = omega arith; to = omega arith }) in
    record {
      follow = all_pairs_push (λ a b. end_of a ≤ first_of b) old cell h.follow (λ k d within.
          let at = both (first_of cell) begins in h.below (get_or old k d) (Contains-get_or old k d within) (first_of cell) at.0 at.1);
      of = λ c i.
          elim (Contains-push_cases old cell c i) [
            | inl before ↦ h.of c before
            | inr e ↦
                elim s.either [
                  | inl is ↦ inl (subst (Contains xs) (sym is ∙ e) held_x)
                  | inr is ↦ inr (subst (Contains ys) (sym is ∙ e) held_y)
                ]
          ];
      below = λ c i.
          elim (Contains-push_cases old cell c i) [
            | inl before ↦ inl (h.below c before)
            | inr e ↦
                (let n1 = s.in_one.to in
                let n2 = s.in_other.to in
                let same = ap (λ (d : CellId). end_of d) e in
                inr (omega arith, omega arith))
          ];
      covers = λ q. (
        λ v. elim v [
          | inl c ↦
              elim (covers_push_cases old cell q c) [ inl before ↦ (h.covers q).0 (inl before) | inr here ↦ (h.covers q).0 (inr (both q here)) ]
          | inr left ↦ (h.covers q).0 (inr left)
        ],
        λ w. elim ((h.covers q).1 w) [ inl before ↦ inl (covers_push_left old cell q before) | inr left ↦ inr left ],
      );
      done = λ q in_x in_y.
          elim s.either [
            | inl is ↦
                covers_push_right old cell q (subst (λ (c : CellId). first_of c ≤ q) (sym is) in_x.from) (subst (λ (c : CellId). q < end_of c) (sym is) in_x.to)
            | inr is ↦
                covers_push_right old cell q (subst (λ (c : CellId). first_of c ≤ q) (sym is) in_y.from) (subst (λ (c : CellId). q < end_of c) (sym is) in_y.to)
          ];
    }

joined : (xs ys : List CellId) (x y : CellId) (more_x more_y old cells : List CellId) → IsSharing xs ys (x ∷ more_x) (y ∷ more_y) old
    → Contains xs x → Contains ys y → AreShared x y old cells → IsJoined xs ys x y (x ∷ more_x) (y ∷ more_y) cells
joined xs ys x y more_x more_y old cells h held_x held_y shared =
    let J : List CellId → Type 0 = λ cs. IsJoined xs ys x y (x ∷ more_x) (y ∷ more_y) cs in
    elim shared [
      | inl none ↦
          subst J (sym none.0) (record {
            follow = h.follow;
            of = h.of;
            below = λ c i. inl (h.below c i);
            covers = h.covers;
            done = λ q in_x in_y. absurd (none.1 q in_x in_y);
          })
      | inr one ↦ subst J (sym one.1) (one_joined xs ys x y more_x more_y old one.0 h held_x held_y one.2)
    ]

itself : (n : ℕ) → IsNested n n
itself n = record { from = omega arith; to = omega arith }

-- of two cells that share a leaf, the finer one lies within both
pub finer_shared : (one other finer : CellId) → first_of one < end_of other → first_of other < end_of one
    → ((level_of one < level_of other) × (finer ≡ other)) ⊎ ((level_of other ≤ level_of one) × (finer ≡ one)) → IsShared one other finer
finer_shared one other finer low high is =
    elim is [
      | inl second ↦
          (let level = second.0 in
          let within = nested_by_level (raw_of other) (raw_of one) other.valid one.valid high low (omega arith) in
          subst (IsShared one other) (sym second.1) (record { either = inr refl; in_one = within; in_other = itself (raw_of other) }))
      | inr first ↦
          (let within = nested_by_level (raw_of one) (raw_of other) one.valid other.valid low high first.0 in
          subst (IsShared one other) (sym first.1) (record { either = inl refl; in_one = itself (raw_of one); in_other = within }))
    ]

stepped : (xs ys : List CellId) (x y : CellId) (more_x more_y left_x left_y cells : List CellId)
    → IsJoined xs ys x y (x ∷ more_x) (y ∷ more_y) cells → FollowOneAnother (x ∷ more_x) → FollowOneAnother (y ∷ more_y)
    → IsLeft x more_x left_x (end_of y) → IsLeft y more_y left_y (end_of x) → IsSharing xs ys left_x left_y cells
stepped xs ys x y more_x more_y left_x left_y cells h follow_x follow_y lx ly = record {
  follow = h.follow;
  of = h.of;
  below = λ c i q in_x in_y.
      elim (h.below c i) [
        | inl before ↦ before q (lx.within q in_x) (ly.within q in_y)
        | inr ends ↦
            (let end_x = ends.0 in
            let end_y = ends.1 in
            elim (cases_lt (end_of y) (end_of x)) [
              | inl lt ↦ let p = ly.past (omega arith) q in_y in omega arith
              | inr le ↦ let p = lx.past le q in_x in omega arith
            ])
      ];
  covers = λ q. (
    λ v. elim v [
      | inl c ↦ (h.covers q).0 (inl c)
      | inr left ↦ (h.covers q).0 (inr (lx.within q left.0, ly.within q left.1))
    ],
    λ w. elim ((h.covers q).1 w) [
      | inl c ↦ inl c
      | inr both ↦
          elim (lx.rest q both.0) [
            | inr past ↦ inl (h.done q past.0 (in_first y more_y follow_y q (end_of x) past.0.to past.1 both.1))
            | inl more ↦
                elim (ly.rest q both.1) [
                  | inr past ↦ inl (h.done q (in_first x more_x follow_x q (end_of y) past.0.to past.1 both.0) past.0)
                  | inl others ↦ inr (more, others)
                ]
          ]
    ],
  );
}

pub next_shared : (xs ys : List CellId) (i j next_i next_j : ℕ) (x y : CellId) (old cells : List CellId) → IsNormal xs → IsNormal ys
    → i < length xs → j < length ys → x ≡ get_or xs i x → y ≡ get_or ys j y → IsSharing xs ys (drop i xs) (drop j ys) old
    → AreShared x y old cells → (end_of x ≤ end_of y → next_i ≡ i + 1) → (end_of y < end_of x → next_i ≡ i)
    → (end_of y ≤ end_of x → next_j ≡ j + 1) → (end_of x < end_of y → next_j ≡ j) → IsSharing xs ys (drop next_i xs) (drop next_j ys) cells
next_shared xs ys i j next_i next_j x y old cells normal_x normal_y within_x within_y is_x is_y h shared passes_x stays_x passes_y stays_y =
    let fx = follow_from_normal xs normal_x in
    let fy = follow_from_normal ys normal_y in
    let first_at_hand = subst (λ l. IsSharing xs ys l (drop j ys) old) (first_left xs i x within_x is_x) h in
    let at_hand = subst (λ l. IsSharing xs ys (x ∷ drop (i + 1) xs) l old) (first_left ys j y within_y is_y) first_at_hand in
    let both = joined xs ys x y (drop (i + 1) xs) (drop (j + 1) ys) old cells at_hand (i, within_x, sym is_x) (j, within_y, sym is_y) shared in
    stepped xs ys x y (drop (i + 1) xs) (drop (j + 1) ys) (drop next_i xs) (drop next_j ys) cells both (follow_first xs fx i x within_x is_x) (follow_first ys fy j y within_y is_y) (left_at xs fx i x within_x is_x next_i (end_of y) passes_x stays_x) (left_at ys fy j y within_y is_y next_j (end_of x) passes_y stays_y)

-- ---- the end

none_left : (cells : List CellId) (k q : ℕ) → length cells ≤ k → Covers (drop k cells) q → ⊥
none_left cells k q le h =
    let n = length-drop k cells in
    let l = h.held.1 in
    omega arith

-- a cell of a normal list is the greatest one that is covered around it
greatest_in : (cells : List CellId) → IsNormal cells → (c : CellId) → Contains cells c → (b : ℕ) → IsCellNumber b → IsNested (raw_of c) b
    → ((q : ℕ) → first_at b ≤ q → q < end_at b → Covers cells q) → b ≡ raw_of c
greatest_in cells normal c held b cell nest all =
    let around = around_from_all cells normal (path_at b) (path_of_cell b cell) (λ leaf i.
    let s = span_from_leaf leaf b cell i in region_from_covers cells leaf i.deep (all (number_of leaf) s.0 s.1)) in
    let a = around.1 in
    let b_a = nested_from_within b (raw_of a) cell a.valid around.4 in
    let n1 = nest.from in
    let n2 = nest.to in
    let m1 = b_a.from in
    let m2 = b_a.to in
    let c_a : IsNested (raw_of c) (raw_of a) = record { from = omega arith; to = omega arith } in
    let same : c ≡ a = normal.apart c a held (around.0, around.2, around.3) (within_from_nested (raw_of c) (raw_of a) c.valid a.valid c_a) in
    let f = ap (λ (d : CellId). first_of d) same in
    let e = ap (λ (d : CellId). end_of d) same in
    same_span b (raw_of c) cell c.valid (omega arith) (omega arith)

pub record AreAllShared (xs ys cells : List CellId) : Type 0 where
  pub normal : IsNormal cells
  pub covers : (q : ℕ) → Covers cells q ↔ (Covers xs q × Covers ys q)

pub all_shared : (xs ys : List CellId) (i j : ℕ) (cells : List CellId) → IsNormal xs → IsNormal ys
    → IsSharing xs ys (drop i xs) (drop j ys) cells → (length xs ≤ i) ⊎ (length ys ≤ j) → AreAllShared xs ys cells
all_shared xs ys i j cells normal_x normal_y h past =
    let none : (q : ℕ) → Covers (drop i xs) q × Covers (drop j ys) q → ⊥ = λ q left. elim past [ inl le ↦ none_left xs i q le left.0 | inr le ↦ none_left ys j q le left.1 ] in
    let covers : (q : ℕ) → Covers cells q ↔ (Covers xs q × Covers ys q) = λ q. (
      λ c. (h.covers q).0 (inl c),
      λ both. elim ((h.covers q).1 both) [ inl c ↦ c | inr left ↦ absurd (none q left) ],
    ) in
    record {
      normal = normal_from_maximal cells leaf_end (record {
        follow = h.follow;
        below = λ c held. let s = span (raw_of c) c.valid in let e = s.ends in e;
        maximal = λ c held b cell nest all.
            let e = (span b cell).ends in
            elim (h.of c held) [
              | inl of_x ↦ greatest_in xs normal_x c of_x b cell nest (λ q from to. ((covers q).0 (all q from to (omega arith))).0)
              | inr of_y ↦ greatest_in ys normal_y c of_y b cell nest (λ q from to. ((covers q).0 (all q from to (omega arith))).1)
            ];
      });
      covers = covers;
    }
