-- One sweep over two lists of cells that follow one another.
use Rattle.std.proofs.Common.{◌≡◌, ◌↔◌, ℕ, ◌+◌, ◌%◌, ◌<◌, ◌≤◌, ◌⊎◌, inl, inr, Bool, true, false, IsTrue, List, [], length, get_or, sym, ◌∙◌, ap, refl, arith, subst}
use Rattle.std.specs.Prelude.{min}
use Rattle.std.proofs.lemmas.Bool.{cases_lt, false≢true}
use Rattle.std.proofs.lemmas.List.{get_or_default}
use Rattle.s2id_core.specs.declared.cell_id.CellId.{CellId}
use Rattle.s2id_core.specs.CellId.{raw_of, first_of, end_of}
use Rattle.s2id_core.specs.Span.{leaf_end}
use Rattle.s2id_core.proofs.Nested.{span}
use Rattle.s2id_union.specs.declared.sweep.Operation.{Operation}
use Rattle.s2id_union.specs.declared.sweep.Operation.TheVariants.{Union, Difference}
use Rattle.s2id_union.specs.Operation.{Keeps}
use Rattle.s2id_union.specs.Loops.{InSpan, AreMaximalBelow, IsAdded, IsAhead, IsReached, IsConstant}
use Rattle.s2id_union.specs.Region.{IsNormal}
use Rattle.s2id_union.specs.Covers.{Covers, FollowOneAnother}
use Rattle.s2id_union.proofs.Covering.{covers_nil, covers_bounds}
use Rattle.s2id_union.proofs.Adding.{maximal_nil, maximal_later}
use Rattle.s2id_union.proofs.Normal.{normal_from_maximal}
use Rattle.s2id_union.proofs.Searching.{ends_rise, ends_from, ends_to, ahead_start}

-- what the operation keeps below `at`: the cells so far, and the open span from `start` on
pub record IsSwept (o : Operation) (xs ys cells : List CellId) (start at : ℕ) : Type 0 where
  pub maximal : AreMaximalBelow cells start
  pub covers : (q : ℕ) → (Covers cells q ⊎ InSpan start at q) ↔ ((q < at) × Keeps o (Covers xs q) (Covers ys q))

-- a covering cell, by its index
record CoversAt (cells : List CellId) (q : ℕ) : Type 0 where
  at : ℕ
  cell : CellId
  within : at < length cells
  from : first_of (get_or cells at cell) ≤ q
  to : q < end_of (get_or cells at cell)

by_index : (cells : List CellId) (q : ℕ) → Covers cells q → CoversAt cells q
by_index cells q h =
    let e = sym h.held.2 in
    record {
      at = h.held.0;
      cell = h.cell;
      within = h.held.1;
      from = subst (λ (x : CellId). first_of x ≤ q) e h.from;
      to = subst (λ (x : CellId). q < end_of x) e h.to;
    }

-- the lower of two ends
pub record IsLower (end a b : ℕ) : Type 0 where
  pub first : end ≤ a
  pub second : end ≤ b
  pub above : (x : ℕ) → x < a → x < b → x < end
  pub odd : a % 2 ≡ 1 → b % 2 ≡ 1 → end % 2 ≡ 1

pub lower_of : (a b end : ℕ) → end ≡ min a b → IsLower end a b
lower_of a b end e = record {
  first = omega arith;
  second = omega arith;
  above = λ x below_a below_b. omega arith;
  odd = λ odd_a odd_b. omega arith;
}

-- a stretch up to its end, that lies in the list's spans or outside them
pub record IsStretch (cells : List CellId) (k at end : ℕ) (inside : Bool) : Type 0 where
  pub rises : at < end
  pub on_curve : end ≤ leaf_end
  pub odd : end % 2 ≡ 1
  pub reached : IsReached cells k end
  pub constant : IsConstant cells at end inside

pub before_first : (cells : List CellId) → FollowOneAnother cells → (k at end : ℕ) → IsAhead cells k at → (x : CellId) → k < length cells
    → x ≡ get_or cells k x → end ≡ first_of x → at < end → IsStretch cells k at end false
before_first cells follow k at end h x l is here rises =
    let s = span (raw_of x) x.valid in
    let s1 = s.from in
    let s2 = s.to in
    let s3 = s.ends in
    let s4 = s.odd in
    record {
      rises = rises;
      on_curve = omega arith;
      odd = omega arith;
      reached = λ j d le within. let r = ends_from cells follow k x l is j d le within in omega arith;
      constant = λ q from to. (
        λ v.
            let w = by_index cells q v in
            let l2 = w.within in
            let f = w.from in
            let t = w.to in
            let g = ap (λ (c : CellId). first_of c) (is ∙ get_or_default cells k x w.cell l) in
            elim (cases_lt w.at k) [
              | inl before ↦ absurd (let p = h.passed w.at w.cell before l2 in omega arith)
              | inr ge ↦
                  elim (cases_lt k w.at) [
                    | inl after ↦
                        absurd (let e = ap (λ (c : CellId). end_of c) (is ∙ get_or_default cells k x w.cell l) in let c = follow k w.at w.cell after l2 in omega arith)
                    | inr le ↦
                        absurd (let m = ap (λ i. first_of (get_or cells i w.cell)) (let n : w.at ≡ k = omega arith in n) in omega arith)
                  ]
            ],
        λ no. absurd (false≢true no),
      );
    }

pub within_cell : (cells : List CellId) → FollowOneAnother cells → (k at first end : ℕ) → IsAhead cells k at → (x y : CellId)
    → k < length cells → x ≡ get_or cells k x → y ≡ get_or cells k y → first ≡ first_of x → end ≡ end_of y → first ≤ at
    → IsStretch cells k at end true
within_cell cells follow k at first end h x y l is is_y begins here le =
    let s = span (raw_of y) y.valid in
    let s3 = s.ends in
    let s5 = s.odd_end in
    let more = h.ahead k y (omega arith) l in
    let last = ap (λ (c : CellId). end_of c) is_y in
    let same = ap (λ (c : CellId). first_of c) (is ∙ get_or_default cells k x y l ∙ sym is_y) in
    record {
      rises = omega arith;
      on_curve = omega arith;
      odd = omega arith;
      reached = λ j d ge within. let r = ends_from cells follow k y l is_y j d ge within in omega arith;
      constant = λ q from to. (λ _. refl, λ _. record { cell = y; held = (k, l, sym is_y); from = omega arith; to = omega arith });
    }

-- ---- on to the end of a stretch

pub ahead_passed : (cells : List CellId) → FollowOneAnother cells → (k at end : ℕ) → IsAhead cells k at → at ≤ end → (x : CellId)
    → k < length cells → x ≡ get_or cells k x → end_of x ≤ end → IsReached cells k end → IsAhead cells (k + 1) end
ahead_passed cells follow k at end h le x l is done reached = record {
  passed = λ j d lt within. let r = ends_to cells follow k x l is j d lt within in omega arith;
  ahead = λ j d ge within.
      let c = follow k j d (omega arith) within in
      let r = reached k d (omega arith) l in
      let s = span (raw_of (get_or cells j d)) (get_or cells j d).valid in
      let a = s.from in
      let b = s.to in
      omega arith;
}

pub ahead_stays : (cells : List CellId) → FollowOneAnother cells → (k at end : ℕ) → IsAhead cells k at → at ≤ end
    → ((d : CellId) → k < length cells → end < end_of (get_or cells k d)) → IsAhead cells k end
ahead_stays cells follow k at end h le more = record {
  passed = λ j d lt within. let p = h.passed j d lt within in omega arith;
  ahead = λ j d ge within. let m = more d (omega arith) in let r = ends_rise cells follow k j d ge within in omega arith;
}

-- ---- the sweep

pub keeps_same : (o : Operation) {A B C D : Type 0} → A ↔ C → B ↔ D → Keeps o A B → Keeps o C D
keeps_same Union a b (inl x) = inl (a.0 x)
keeps_same Union a b (inr y) = inr (b.0 y)
keeps_same Difference a b (x, y) = (a.0 x, λ z. y (b.1 z))

keeps_bounds : (o : Operation) (xs ys : List CellId) (q : ℕ) → Keeps o (Covers xs q) (Covers ys q) → (1 ≤ q) × (q < leaf_end)
keeps_bounds Union xs ys q (inl x) = covers_bounds xs q x
keeps_bounds Union xs ys q (inr y) = covers_bounds ys q y
keeps_bounds Difference xs ys q (x, y) = covers_bounds xs q x

pub swept_start : (o : Operation) (xs ys : List CellId) → IsSwept o xs ys [] 1 1
swept_start o xs ys = record {
  maximal = maximal_nil 1;
  covers = λ q. (
    λ v. elim v [ inl c ↦ absurd (covers_nil q c) | inr r ↦ absurd (let a = r.from in let b = r.to in omega arith) ],
    λ v. absurd (let b = keeps_bounds o xs ys q v.1 in let lo = b.0 in let hi = v.0 in omega arith),
  );
}

flip : {A B : Type 0} → A ↔ B → B ↔ A
flip h = (h.1, h.0)

pub swept_on : (o : Operation) (xs ys cells : List CellId) (start at end : ℕ) (x y : Bool) → IsSwept o xs ys cells start at → start ≤ at
    → at < end → IsConstant xs at end x → IsConstant ys at end y → Keeps o (IsTrue x) (IsTrue y) → IsSwept o xs ys cells start end
swept_on o xs ys cells start at end x y h rises more cx cy keep = record {
  maximal = h.maximal;
  covers = λ q. (
    λ v. elim v [
      | inl c ↦ (let w = (h.covers q).0 (inl c) in let lt = w.0 in (omega arith, w.1))
      | inr r ↦
          (let a = r.from in let b = r.to in
          elim (cases_lt q at) [
            | inl before ↦ (b, ((h.covers q).0 (inr (record { from = a; to = before }))).1)
            | inr here ↦ (b, keeps_same o (flip (cx q here b)) (flip (cy q here b)) keep)
          ])
    ],
    λ v.
        let hi = v.0 in
        elim (cases_lt q at) [
          | inl before ↦
              elim ((h.covers q).1 (before, v.1)) [ inl c ↦ inl c | inr r ↦ (let a = r.from in inr (record { from = a; to = hi })) ]
          | inr here ↦ inr (record { from = omega arith; to = hi })
        ],
  );
}

pub swept_off : (o : Operation) (xs ys old cells : List CellId) (start at end : ℕ) (x y : Bool) → IsSwept o xs ys old start at
    → IsAdded old cells start at → at < end → IsConstant xs at end x → IsConstant ys at end y → (Keeps o (IsTrue x) (IsTrue y) → ⊥)
    → IsSwept o xs ys cells end end
swept_off o xs ys old cells start at end x y h added more cx cy drop = record {
  maximal = maximal_later cells (at + 1) end added.maximal (omega arith);
  covers = λ q. (
    λ v. elim v [
      | inl c ↦ (let w = (h.covers q).0 ((added.covers q).0 c) in let lt = w.0 in (omega arith, w.1))
      | inr r ↦ absurd (let a = r.from in let b = r.to in omega arith)
    ],
    λ v.
        elim (cases_lt q at) [
          | inl before ↦ inl ((added.covers q).1 ((h.covers q).1 (before, v.1)))
          | inr here ↦ absurd (drop (keeps_same o (cx q here v.0) (cy q here v.0) v.1))
        ],
  );
}

pub record IsWhole (o : Operation) (xs ys cells : List CellId) : Type 0 where
  pub normal : IsNormal cells
  pub covers : (q : ℕ) → Covers cells q ↔ Keeps o (Covers xs q) (Covers ys q)

pub swept_end : (o : Operation) (xs ys old cells : List CellId) (start at : ℕ) → IsSwept o xs ys old start at → leaf_end ≤ at
    → IsAdded old cells start at → IsWhole o xs ys cells
swept_end o xs ys old cells start at h done added = record {
  normal = normal_from_maximal cells (at + 1) added.maximal;
  covers = λ q. (
    λ v. ((h.covers q).0 ((added.covers q).0 v)).1,
    λ k. (added.covers q).1 ((h.covers q).1 ((let b = keeps_bounds o xs ys q k in let hi = b.1 in omega arith), k)),
  );
}

-- ---- the loop's invariant as a whole

pub swept_init : (o : Operation) (xs ys cells : List CellId) → cells ≡ []
    → IsSwept o xs ys cells 1 1 × IsAhead xs 0 1 × IsAhead ys 0 1 × (1 ≤ 1) × (1 ≤ leaf_end) × (1 % 2 ≡ 1) × (1 % 2 ≡ 1)
swept_init o xs ys cells e =
    let ends : (zs : List CellId) (j : ℕ) (d : CellId) → 0 ≤ j → j < length zs → 1 < end_of (get_or zs j d) = λ zs j d le l. let s = span (raw_of (get_or zs j d)) (get_or zs j d).valid in let a = s.begins in let b = s.from in let c = s.to in omega arith in (
      subst (λ zs. IsSwept o xs ys zs 1 1) (sym e) (swept_start o xs ys),
      ahead_start xs 1 (ends xs),
      ahead_start ys 1 (ends ys),
      omega arith,
      omega arith,
      refl,
      refl,
    )

pub swept_next_on : (o : Operation) (xs ys cells : List CellId) (start at end ex ey i j : ℕ) (x y : Bool) → IsSwept o xs ys cells start at
    → start ≤ at → start % 2 ≡ 1 → at < end → end ≤ ex → end ≤ ey → ex ≤ leaf_end → end % 2 ≡ 1 → IsConstant xs at ex x
    → IsConstant ys at ey y → Keeps o (IsTrue x) (IsTrue y) → IsAhead xs i end → IsAhead ys j end
    → IsSwept o xs ys cells start end × IsAhead xs i end × IsAhead ys j end × (start ≤ end) × (end ≤ leaf_end) × (end % 2 ≡ 1) × (start % 2 ≡ 1)
swept_next_on o xs ys cells start at end ex ey i j x y h rises odd_start lt lx ly most odd cx cy keep ax ay =
    (swept_on o xs ys cells start at end x y h rises lt (λ q a b. cx q a (omega arith)) (λ q a b. cy q a (omega arith)) keep, ax, ay, omega arith, omega arith, odd, odd_start)

pub swept_next_off : (o : Operation) (xs ys old cells : List CellId) (start at end ex ey i j : ℕ) (x y : Bool)
    → IsSwept o xs ys old start at → IsAdded old cells start at → at < end → end ≤ ex → end ≤ ey → ex ≤ leaf_end → end % 2 ≡ 1
    → IsConstant xs at ex x → IsConstant ys at ey y → (Keeps o (IsTrue x) (IsTrue y) → ⊥) → IsAhead xs i end → IsAhead ys j end
    → IsSwept o xs ys cells end end × IsAhead xs i end × IsAhead ys j end × (end ≤ end) × (end ≤ leaf_end) × (end % 2 ≡ 1) × (end % 2 ≡ 1)
swept_next_off o xs ys old cells start at end ex ey i j x y h added lt lx ly most odd cx cy drop ax ay =
    (swept_off o xs ys old cells start at end x y h added lt (λ q a b. cx q a (omega arith)) (λ q a b. cy q a (omega arith)) drop, ax, ay, omega arith, omega arith, odd, odd)
