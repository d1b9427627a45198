-- A span of leaves is covered by few cells: of each level at most three at either end, and whole faces between.
use Rattle.std.proofs.Common.{◌≡◌, ◌↔◌, ℕ, zero, suc, ◌+◌, ◌-◌, ◌*◌, ◌/◌, ◌^◌, ◌<◌, ◌≤◌, ◌⊎◌, inl, inr, Bool, List, [], ◌∷◌, ◌++◌, length, sym, ◌∙◌, ap, refl, arith, subst}
use Rattle.std.specs.Prelude.{◌&&◌, nat_le, nat_lt, min}
use Rattle.std.proofs.Math.Nat.{mod-lt, mul-le-mul_right}
use Rattle.std.proofs.lemmas.Bool.{and_parts, and_from, cases_eq, cases_lt, leb-true, ltb-true, le-leb, lt-ltb}
use Rattle.std.proofs.lemmas.List.{length-append}
use Rattle.std.proofs.lemmas.List.Elements.{Contains-append_left, Contains-append_right, Contains-append_cases}
use Rattle.std.proofs.lemmas.Nat.{div-add-mod'}
use Rattle.s2id_core.specs.declared.cell_id.CellId.{CellId}
use Rattle.s2id_core.specs.CellId.{first_of, end_of}
use Rattle.s2id_core.specs.Path.{number_of}
use Rattle.s2id_core.proofs.Lists.{at_head, cons_cases, none_in_nil}
use Rattle.s2id_core.proofs.Powers.{four_pos, four_step, lt_of_mul}
use Rattle.s2id_core.proofs.Spans.{number_of_leaf}
use Rattle.s2id_union.specs.Covers.{Covers}
use Rattle.s2id_union.specs.Loops.{InSpan, IsAdded}
use Rattle.s2id_union.specs.NormalForm.{cells_where}
use Rattle.s2id_union.specs.Range.{IsLeafRange}
use Rattle.s2id_union.specs.Region.{HaveSameRegion}
use Rattle.s2id_union.proofs.Covering.{covers_nil, covers_from_region, region_from_covers}
use Rattle.s2id_union.proofs.Greatest.{placed}
use Rattle.s2id_union.proofs.Largest.{where_normal, where_region}
use Rattle.s2id_union.proofs.Made.{normal_from_added, same_leaves}
use Rattle.s2id_union.proofs.Shortest.{shortest}

-- how many leaves the curve has
abbrev leaves : ℕ
leaves = 6917529027641081856

-- at most n cells that have the leaves from place a along the curve up to and without place b
record HasFew (a b n : ℕ) : Type 0 where
  cells : List CellId
  few : length cells ≤ n
  covers : (q : ℕ) → Covers cells q ↔ InSpan (2 * a + 1) (2 * b + 1) q

few_none : (a n : ℕ) → HasFew a a n
few_none a n = record {
  cells = [];
  few = omega arith;
  covers = λ q. (λ v. absurd (covers_nil q v), λ r. absurd (let f = r.from in let t = r.to in omega arith));
}

few_moved : (a b n c d m : ℕ) → HasFew a b n → a ≡ c → b ≡ d → n ≤ m → HasFew c d m
few_moved a b n c d m h e f le = record {
  cells = h.cells;
  few = let few = h.few in omega arith;
  covers = subst (λ x. (q : ℕ) → Covers h.cells q ↔ InSpan (2 * x + 1) (2 * d + 1) q) e (subst (λ x. (q : ℕ) → Covers h.cells q ↔ InSpan (2 * a + 1) (2 * x + 1) q) f h.covers);
}

in_joined : (xs ys : List CellId) (q : ℕ) → Covers (xs ++ ys) q → Covers xs q ⊎ Covers ys q
in_joined xs ys q v = elim (Contains-append_cases xs ys v.cell v.held) [
  | inl c ↦ inl (record { cell = v.cell; held = c; from = v.from; to = v.to })
  | inr c ↦ inr (record { cell = v.cell; held = c; from = v.from; to = v.to })
]

few_joined : (a b c m n : ℕ) → a ≤ b → b ≤ c → HasFew a b m → HasFew b c n → HasFew a c (m + n)
few_joined a b c m n low high h k = record {
  cells = h.cells ++ k.cells;
  few = let x = h.few in let y = k.few in let l = length-append h.cells k.cells in omega arith;
  covers = λ q. (
    λ v. elim (in_joined h.cells k.cells q v) [
      | inl w ↦ (let r = (h.covers q).0 w in let f = r.from in let t = r.to in record { from = f; to = omega arith })
      | inr w ↦ (let r = (k.covers q).0 w in let f = r.from in let t = r.to in record { from = omega arith; to = t })
    ],
    λ r.
        let f = r.from in
        let t = r.to in
        elim (cases_lt q (2 * b + 1)) [
          | inl before ↦
              (let v = (h.covers q).1 (record { from = f; to = before }) in
              record { cell = v.cell; held = Contains-append_left h.cells k.cells v.cell v.held; from = v.from; to = v.to })
          | inr after ↦
              (let v = (k.covers q).1 (record { from = after; to = t }) in
              record { cell = v.cell; held = Contains-append_right h.cells k.cells v.cell v.held; from = v.from; to = v.to })
        ],
  );
}

-- ---- cells of one size, 4 ^ h leaves

next_place : (m w : ℕ) → (m + 1) * w ≡ m * w + w
next_place m w = omega arith

middle_number : (m w : ℕ) → (2 * m + 1) * w ≡ 2 * (m * w) + w
middle_number m w = omega arith

-- the cell of such a size at a place
few_one : (h m a b : ℕ) → h ≤ 30 → a ≡ m * 4 ^ h → b ≡ (m + 1) * 4 ^ h → b ≤ leaves → HasFew a b 1
few_one h m a b le ea eb most =
    let pos = four_pos h in
    let number = middle_number m (4 ^ h) in
    let next = next_place m (4 ^ h) in
    let p = placed m h ((2 * m + 1) * 4 ^ h) le (omega arith) refl in
    let first = p.first in
    let last = p.last in
    let cell : CellId = record { raw = (2 * m + 1) * 4 ^ h; valid = p.cell } in
    record {
      cells = cell ∷ [];
      few = omega arith;
      covers = λ q. (
        λ v.
            let f = v.from in
            let t = v.to in
            elim (cons_cases cell [] v.cell v.held) [
              | inl e ↦
                  (let ef = ap (λ (c : CellId). first_of c) e in let et = ap (λ (c : CellId). end_of c) e in
                  record { from = omega arith; to = omega arith })
              | inr none ↦ absurd (none_in_nil v.cell none)
            ],
        λ r.
            let f = r.from in
            let t = r.to in
            record { cell = cell; held = at_head cell []; from = omega arith; to = omega arith },
      );
    }

-- k of them in a row
few_row : (h m k a b : ℕ) → h ≤ 30 → a ≡ m * 4 ^ h → b ≡ (m + k) * 4 ^ h → b ≤ leaves → HasFew a b k
few_row h m zero a b le ea eb most =
    let same : a ≡ b = ea ∙ sym (eb ∙ ap (λ x. x * 4 ^ h) (let e : m + 0 ≡ m = omega arith in e)) in
    few_moved a a 0 a b 0 (few_none a 0) refl same (omega arith)
few_row h m (suc k) a b le ea eb most =
    let c = (m + k) * 4 ^ h in
    let next = next_place (m + k) (4 ^ h) in
    let end : b ≡ (m + k + 1) * 4 ^ h = eb ∙ ap (λ x. x * 4 ^ h) (let e : m + suc k ≡ m + k + 1 = omega arith in e) in
    let rises = mul-le-mul_right (4 ^ h) (let e : m ≤ m + k = omega arith in e) in
    few_moved a b (k + 1) a b (suc k) (few_joined a c b k 1 (omega arith) (omega arith) (few_row h m k a c le ea refl (omega arith)) (few_one h (m + k) c b le refl end most)) refl refl (omega arith)

-- ---- the last border at or before a place, and the first at or after it

record IsFloor (w a q : ℕ) : Type 0 where
  from : q * w ≤ a
  to : a < q * w + w

floor_at : (w a : ℕ) → 0 < w → IsFloor w a (a / w)
floor_at w a pos = let e = div-add-mod' a w in let r = mod-lt a pos in record { from = omega arith; to = omega arith }

record HasCeiling (w a : ℕ) : Type 0 where
  place : ℕ
  from : a ≤ place * w
  to : place * w < a + w

ceiling_at : (w a : ℕ) → 0 < w → HasCeiling w a
ceiling_at w a pos =
    let f = floor_at w a pos in
    let from = f.from in
    let to = f.to in
    let next = next_place (a / w) w in
    elim (cases_eq (a / w * w) a) [
      | inl e ↦ record { place = a / w; from = omega arith; to = omega arith }
      | inr ne ↦ record { place = a / w + 1; from = omega arith; to = omega arith }
    ]

-- a product by a quarter of the width
quarters : (m w : ℕ) → m * (4 * w) ≡ 4 * m * w
quarters m w = omega arith

plus_four : (k w : ℕ) → (k + 4) * w ≡ k * w + 4 * w
plus_four k w = omega arith

-- ---- up to a border, and on from one: at most three cells of each smaller size

few_up : (h m a b : ℕ) → h ≤ 30 → b ≡ m * 4 ^ h → a ≤ b → b < a + 4 ^ h → b ≤ leaves → HasFew a b (3 * h)
few_up zero m a b le eb low near most =
    few_moved a a 0 a b (3 * 0) (few_none a 0) refl (let e : a ≡ b = omega arith in e) (omega arith)
few_up (suc h) m a b le eb low near most =
    let pos = four_pos h in
    let wide = four_step h in
    let c = ceiling_at (4 ^ h) a pos in
    let k = c.place in
    let from = c.from in
    let to = c.to in
    let end : b ≡ 4 * m * 4 ^ h = eb ∙ ap (λ x. m * x) wide ∙ quarters m (4 ^ h) in
    let next = next_place (4 * m) (4 ^ h) in
    let four = plus_four k (4 ^ h) in
    let below : k < 4 * m + 1 = lt_of_mul k (4 * m + 1) (4 ^ h) (omega arith) in
    let above : 4 * m < k + 4 = lt_of_mul (4 * m) (k + 4) (4 ^ h) (omega arith) in
    let rises = mul-le-mul_right (4 ^ h) (let e : k ≤ 4 * m = omega arith in e) in
    let row_end : b ≡ (k + (4 * m - k)) * 4 ^ h = end ∙ ap (λ x. x * 4 ^ h) (let e : 4 * m ≡ k + (4 * m - k) = omega arith in e) in
    let first = few_up h k a (k * 4 ^ h) (omega arith) refl from to (omega arith) in
    let row = few_row h k (4 * m - k) (k * 4 ^ h) b (omega arith) refl row_end most in
    few_moved a b (3 * h + (4 * m - k)) a b (3 * suc h) (few_joined a (k * 4 ^ h) b (3 * h) (4 * m - k) from (omega arith) first row) refl refl (omega arith)

few_down : (h m a b : ℕ) → h ≤ 30 → a ≡ m * 4 ^ h → a ≤ b → b < a + 4 ^ h → b ≤ leaves → HasFew a b (3 * h)
few_down zero m a b le ea low near most =
    few_moved a a 0 a b (3 * 0) (few_none a 0) refl (let e : a ≡ b = omega arith in e) (omega arith)
few_down (suc h) m a b le ea low near most =
    let pos = four_pos h in
    let wide = four_step h in
    let f = floor_at (4 ^ h) b pos in
    let k = b / 4 ^ h in
    let from = f.from in
    let to = f.to in
    let begin : a ≡ 4 * m * 4 ^ h = ea ∙ ap (λ x. m * x) wide ∙ quarters m (4 ^ h) in
    let next = next_place k (4 ^ h) in
    let four = plus_four (4 * m) (4 ^ h) in
    let above : 4 * m < k + 1 = lt_of_mul (4 * m) (k + 1) (4 ^ h) (omega arith) in
    let below : k < 4 * m + 4 = lt_of_mul k (4 * m + 4) (4 ^ h) (omega arith) in
    let rises = mul-le-mul_right (4 ^ h) (let e : 4 * m ≤ k = omega arith in e) in
    let row_end : k * 4 ^ h ≡ (4 * m + (k - 4 * m)) * 4 ^ h = ap (λ x. x * 4 ^ h) (let e : k ≡ 4 * m + (k - 4 * m) = omega arith in e) in
    let row = few_row h (4 * m) (k - 4 * m) a (k * 4 ^ h) (omega arith) begin row_end (omega arith) in
    let last = few_down h k (k * 4 ^ h) b (omega arith) refl from to most in
    few_moved a b (k - 4 * m + 3 * h) a b (3 * suc h) (few_joined a (k * 4 ^ h) b (k - 4 * m) (3 * h) (omega arith) from row last) refl refl (omega arith)

-- ---- both, and a row of cells between

few_parts : (h i j a b m n : ℕ) → h ≤ 30 → a ≤ i * 4 ^ h → i ≤ j → j * 4 ^ h ≤ b → b ≤ leaves → HasFew a (i * 4 ^ h) m
    → HasFew (j * 4 ^ h) b n → HasFew a b (m + (j - i) + n)
few_parts h i j a b m n le low rise high most first last =
    let rises = mul-le-mul_right (4 ^ h) rise in
    let row_end : j * 4 ^ h ≡ (i + (j - i)) * 4 ^ h = ap (λ x. x * 4 ^ h) (let e : j ≡ i + (j - i) = omega arith in e) in
    let row = few_row h i (j - i) (i * 4 ^ h) (j * 4 ^ h) le refl row_end (omega arith) in
    few_joined a (j * 4 ^ h) b (m + (j - i)) n (omega arith) high (few_joined a (i * 4 ^ h) (j * 4 ^ h) m (j - i) low rises first row) last

-- between two neighbouring borders
few_within : (h m a b : ℕ) → h ≤ 30 → m * 4 ^ h ≤ a → a ≤ b → b ≤ m * 4 ^ h + 4 ^ h → b ≤ leaves → HasFew a b (6 * h + 1)
few_within zero m a b le low rise high most =
    elim (cases_eq a b) [
      | inl e ↦ few_moved a a 0 a b (6 * 0 + 1) (few_none a 0) refl e (omega arith)
      | inr ne ↦
          few_row 0 m 1 a b le (let e : a ≡ m * 4 ^ 0 = omega arith in e) (let e : b ≡ (m + 1) * 4 ^ 0 = omega arith in e) most
    ]
few_within (suc h) m a b le low rise high most =
    let pos = four_pos h in
    let wide = four_step h in
    let split : m * 4 ^ suc h ≡ 4 * m * 4 ^ h = ap (λ x. m * x) wide ∙ quarters m (4 ^ h) in
    let c = ceiling_at (4 ^ h) a pos in
    let f = floor_at (4 ^ h) b pos in
    let i = c.place in
    let j = b / 4 ^ h in
    let c1 = c.from in
    let c2 = c.to in
    let f1 = f.from in
    let f2 = f.to in
    let next_i = next_place i (4 ^ h) in
    let next_j = next_place j (4 ^ h) in
    let four = plus_four (4 * m) (4 ^ h) in
    let next = next_place (4 * m + 4) (4 ^ h) in
    elim (cases_lt j i) [
      | inl less ↦
          (let step = mul-le-mul_right (4 ^ h) (let e : j + 1 ≤ i = omega arith in e) in
          few_moved a b (6 * h + 1) a b (6 * suc h + 1) (few_within h j a b (omega arith) (omega arith) rise (omega arith) most) refl refl (omega arith))
      | inr between ↦
          (let above : 4 * m < i + 1 = lt_of_mul (4 * m) (i + 1) (4 ^ h) (omega arith) in
          let below : j < 4 * m + 4 + 1 = lt_of_mul j (4 * m + 4 + 1) (4 ^ h) (omega arith) in
          few_moved a b (3 * h + (j - i) + 3 * h) a b (6 * suc h + 1) (few_parts h i j a b (3 * h) (3 * h) (omega arith) c1 between f1 most (few_up h i a (i * 4 ^ h) (omega arith) refl c1 c2 (let s = mul-le-mul_right (4 ^ h) between in omega arith)) (few_down h j (j * 4 ^ h) b (omega arith) refl f1 f2 most)) refl refl (omega arith))
    ]

-- ---- any span

few_first : (i a : ℕ) → a ≤ i * 4 ^ 30 → i * 4 ^ 30 < a + 4 ^ 30 → i * 4 ^ 30 ≤ leaves → HasFew a (i * 4 ^ 30) (90 * min i 1)
few_first zero a low near most = few_moved 0 0 0 a 0 0 (few_none 0 0) (let e : 0 ≡ a = omega arith in e) refl (omega arith)
few_first (suc i) a low near most =
    few_moved a (suc i * 4 ^ 30) (3 * 30) a (suc i * 4 ^ 30) (90 * min (suc i) 1) (few_up 30 (suc i) a (suc i * 4 ^ 30) (omega arith) refl low near most) refl refl (omega arith)

few_last : (j b : ℕ) → j * 4 ^ 30 ≤ b → b < j * 4 ^ 30 + 4 ^ 30 → b ≤ leaves → HasFew (j * 4 ^ 30) b (90 * min (6 - j) 1)
few_last j b low near most =
    elim (cases_lt j 6) [
      | inl less ↦
          few_moved (j * 4 ^ 30) b (3 * 30) (j * 4 ^ 30) b (90 * min (6 - j) 1) (few_down 30 j (j * 4 ^ 30) b (omega arith) refl low near most) refl refl (omega arith)
      | inr all ↦
          few_moved b b 0 (j * 4 ^ 30) b (90 * min (6 - j) 1) (few_none b 0) (let e : b ≡ j * 4 ^ 30 = omega arith in e) refl (omega arith)
    ]

few_span : (a b : ℕ) → a ≤ b → b ≤ leaves → HasFew a b 184
few_span a b rise most =
    let pos = four_pos 30 in
    let c = ceiling_at (4 ^ 30) a pos in
    let f = floor_at (4 ^ 30) b pos in
    let i = c.place in
    let j = b / 4 ^ 30 in
    let c1 = c.from in
    let c2 = c.to in
    let f1 = f.from in
    let f2 = f.to in
    elim (cases_lt j i) [
      | inl less ↦
          few_moved a b (6 * 30 + 1) a b 184 (few_within 30 j a b (omega arith) (omega arith) rise (omega arith) most) refl refl (omega arith)
      | inr between ↦
          few_moved a b (90 * min i 1 + (j - i) + 90 * min (6 - j) 1) a b 184 (few_parts 30 i j a b (90 * min i 1) (90 * min (6 - j) 1) (omega arith) c1 between f1 most (few_first i a c1 c2 (omega arith)) (few_last j b f1 f2 most)) refl refl (omega arith)
    ]

-- at most 184 cells that have the leaves with numbers from `start` up to and without `limit`
record HasRangeFew (start limit : ℕ) : Type 0 where
  cells : List CellId
  few : length cells ≤ 184
  covers : (q : ℕ) → Covers cells q ↔ InSpan start limit q

-- the same by the bounds of a range of leaf numbers
few_between : (start limit : ℕ) → IsLeafRange start limit → HasRangeFew start limit
few_between start limit range =
    let r1 = range.odd_start in
    let r2 = range.odd_limit in
    let r3 = range.rises in
    let r4 = range.on_curve in
    let s = few_span (start / 2) (limit / 2) (omega arith) (omega arith) in
    let at_start : 2 * (start / 2) + 1 ≡ start = omega arith in
    let at_limit : 2 * (limit / 2) + 1 ≡ limit = omega arith in
    record {
      cells = s.cells;
      few = s.few;
      covers = subst (λ x. (q : ℕ) → Covers s.cells q ↔ InSpan x limit q) at_start (subst (λ x. (q : ℕ) → Covers s.cells q ↔ InSpan (2 * (start / 2) + 1) x q) at_limit s.covers);
    }

-- the normal list of a span has no more
pub few_added : (old cells : List CellId) (start limit : ℕ) → old ≡ [] → IsLeafRange start limit → IsAdded old cells start limit
    → length cells ≤ 184
few_added old cells start limit none range h =
    let s = few_between start limit range in
    let few = s.few in
    let same : (q : ℕ) → Covers cells q ↔ Covers s.cells q = λ q. (
      λ v. elim ((h.covers q).0 v) [
        | inl o ↦ absurd (covers_nil q (subst (λ xs. Covers xs q) none o))
        | inr r ↦ (s.covers q).1 r
      ],
      λ v. (h.covers q).1 (inr ((s.covers q).0 v)),
    ) in
    let least = shortest cells s.cells (normal_from_added old cells start limit h) (same_leaves cells s.cells same) in
    omega arith

-- and so has the list of the largest cells in it
pub few_where : (start limit : ℕ) → IsLeafRange start limit → length (cells_where (λ q. nat_le start q && nat_lt q limit)) ≤ 184
few_where start limit range =
    let s = few_between start limit range in
    let few = s.few in
    let passes : ℕ → Bool = λ q. nat_le start q && nat_lt q limit in
    let odd = range.odd_limit in
    let same : HaveSameRegion (cells_where passes) s.cells = λ leaf deep.
    let n = number_of leaf in
    let number = number_of_leaf leaf deep in (
      λ i.
          let both = (where_region passes leaf deep).0 i in
          let first = and_parts (nat_le start n) (nat_lt n limit) both.0 in
          region_from_covers s.cells leaf deep ((s.covers n).1 (record { from = leb-true start n first.0; to = ltb-true n limit first.1 })),
      λ i.
          let r = (s.covers n).0 (covers_from_region s.cells leaf i) in
          let from = r.from in
          let to = r.to in
          (where_region passes leaf deep).1 (and_from (nat_le start n) (nat_lt n limit) (le-leb start n from) (lt-ltb n limit to), and_from (nat_le start (n + 1)) (nat_lt (n + 1) limit) (le-leb start (n + 1) (omega arith)) (lt-ltb (n + 1) limit (omega arith))),
    )
    in
    let least = shortest (cells_where passes) s.cells (where_normal passes) same in
    omega arith
