-- A list to which a span of leaves is added, by the greatest cells.
use Rattle.std.proofs.Common.{◌≡◌, ◌↔◌, ℕ, ◌+◌, ◌%◌, ◌<◌, ◌≤◌, ◌⊎◌, inl, inr, List, [], ◌∷◌, ◌++◌, Contains, get_or, sym, ap, arith, subst}
use Rattle.std.proofs.lemmas.Bool.{cases_lt}
use Rattle.std.proofs.lemmas.List.Elements.{Contains-get_or, Contains-push_cases}
use Rattle.std.proofs.lemmas.List.Quantifiers.{all_pairs_push}
use Rattle.s2id_core.specs.declared.cell_id.CellId.{CellId}
use Rattle.s2id_core.specs.CellId.{raw_of, first_of, end_of}
use Rattle.s2id_core.specs.Cell.{IsCellNumber}
use Rattle.s2id_core.specs.Span.{first_at, end_at}
use Rattle.s2id_core.proofs.Nested.{span, nested_from_crossing_spans, same_span}
use Rattle.s2id_union.specs.Covers.{Covers, FollowOneAnother}
use Rattle.s2id_union.specs.Loops.{InSpan, IsMaximal, AreMaximalBelow, IsGreatest}
use Rattle.s2id_core.proofs.Lists.{none_in_nil}
use Rattle.s2id_union.proofs.Covering.{covers_push_left, covers_push_right, covers_push_cases}

-- as `AreMaximalBelow`, while the span from `start` to `limit` is being added to `old`, up to `at`
pub record IsBeingAdded (old cells : List CellId) (start limit at : ℕ) : Type 0 where
  pub follow : FollowOneAnother cells
  pub below : (c : CellId) → Contains cells c → end_of c ≤ at
  pub maximal : (c : CellId) → Contains cells c → IsMaximal (λ q. Covers old q ⊎ InSpan start limit q) (limit + 1) (raw_of c)
  pub covers : (q : ℕ) → Covers cells q ↔ (Covers old q ⊎ InSpan start at q)

pub maximal_nil : (free : ℕ) → AreMaximalBelow [] free
maximal_nil free = record {
  follow = λ i j d lt l. absurd (omega arith);
  below = λ c h. absurd (none_in_nil c h);
  maximal = λ c h. absurd (none_in_nil c h);
}

pub maximal_later : (cells : List CellId) (free more : ℕ) → AreMaximalBelow cells free → free ≤ more → AreMaximalBelow cells more
maximal_later cells free more h le = record {
  follow = h.follow;
  below = λ c held. let b = h.below c held in omega arith;
  maximal = λ c held b cell nest all. h.maximal c held b cell nest (λ q f t low. all q f t (omega arith));
}

-- it is maximal
step_maximal : (old cells : List CellId) (start limit at : ℕ) → IsBeingAdded old cells start limit at → start ≤ at → at < limit → (c : ℕ)
    → IsCellNumber c → IsGreatest c at limit → IsMaximal (λ q. Covers old q ⊎ InSpan start limit q) (limit + 1) c
step_maximal old cells start limit at h from to c cell_c g b cell_b nest all =
    let sc = span c cell_c in
    let sb = span b cell_b in
    let c1 = sc.from in
    let c2 = sc.to in
    let b1 = sb.from in
    let b2 = sb.to in
    let n1 = nest.from in
    let n2 = nest.to in
    let g1 = g.begins in
    let g2 = g.ends in
    elim (cases_lt (first_at b) at) [
      | inl early ↦
          (let here = all (first_at b) (omega arith) (omega arith) (omega arith) in
          let v : Covers cells (first_at b) = elim here [
            | inl o ↦ (h.covers (first_at b)).1 (inl o)
            | inr r ↦ (h.covers (first_at b)).1 (inr (record { from = r.from; to = early }))
          ] in
          let ends = h.below v.cell v.held in
          let v1 = v.from in
          let v2 = v.to in
          elim (nested_from_crossing_spans (raw_of v.cell) b v.cell.valid cell_b (omega arith) (omega arith)) [
            | inl inside ↦
                absurd (let e = ap end_at (h.maximal v.cell v.held b cell_b inside all) in omega arith)
            | inr outside ↦ absurd (let o = outside.to in omega arith)
          ])
      | inr late ↦
          elim (cases_lt limit (end_at b)) [
            | inl beyond ↦
                elim (all limit (omega arith) beyond (omega arith)) [
                  | inl o ↦
                      (let v = (h.covers limit).1 (inl o) in
                      absurd (let ends = h.below v.cell v.held in let v2 = v.to in omega arith))
                  | inr r ↦ absurd (let t = r.to in omega arith)
                ]
            | inr inside ↦
                (let most = g.greatest b cell_b (omega arith) inside in
                same_span b c cell_b cell_c (omega arith) (omega arith))
          ]
    ]

pub adding_step : (old cells : List CellId) (start limit at : ℕ) → IsBeingAdded old cells start limit at → start ≤ at → at < limit
    → (c : CellId) → IsGreatest (raw_of c) at limit → IsBeingAdded old (cells ++ c ∷ []) start limit (end_of c)
adding_step old cells start limit at h from to c g =
    let s = span (raw_of c) c.valid in
    let s1 = s.from in
    let s2 = s.to in
    let g1 = g.begins in
    record {
      follow = all_pairs_push (λ a b. end_of a ≤ first_of b) cells c h.follow (λ k d l. let e = h.below (get_or cells k d) (Contains-get_or cells k d l) in omega arith);
      below = λ x held. elim (Contains-push_cases cells c x held) [
        | inl old_one ↦ let e = h.below x old_one in omega arith
        | inr e ↦ let f = ap (λ (y : CellId). end_of y) e in omega arith
      ];
      maximal = λ x held. elim (Contains-push_cases cells c x held) [
        | inl old_one ↦ h.maximal x old_one
        | inr e ↦ subst (λ (y : CellId). IsMaximal (λ q. Covers old q ⊎ InSpan start limit q) (limit + 1) (raw_of y)) e (step_maximal old cells start limit at h from to (raw_of c) c.valid g)
      ];
      covers = λ q. (
        λ v. elim (covers_push_cases cells c q v) [
          | inl w ↦
              elim ((h.covers q).0 w) [
                | inl o ↦ inl o
                | inr r ↦ (let a = r.from in let b = r.to in inr (record { from = a; to = omega arith }))
              ]
          | inr r ↦ (let a = r.from in let b = r.to in inr (record { from = omega arith; to = b }))
        ],
        λ v. elim v [
          | inl o ↦ covers_push_left cells c q ((h.covers q).1 (inl o))
          | inr r ↦
              (let a = r.from in let b = r.to in
              elim (cases_lt q at) [
                | inl before ↦ covers_push_left cells c q ((h.covers q).1 (inr (record { from = a; to = before })))
                | inr after ↦ covers_push_right cells c q (omega arith) b
              ])
        ],
      );
    }

-- what the loop does with one cell
pub adding_next : (old cells next : List CellId) (start limit at after : ℕ) → IsBeingAdded old cells start limit at → start ≤ at
    → at < limit → (c : CellId) → IsGreatest (raw_of c) at limit → next ≡ cells ++ c ∷ [] → after ≡ end_of c
    → IsBeingAdded old next start limit after × (start ≤ after) × (after ≤ limit) × (after % 2 ≡ 1)
adding_next old cells next start limit at after h from to c g list place =
    let s = span (raw_of c) c.valid in
    let s1 = s.from in
    let s2 = s.to in
    let odd = s.odd_end in
    let g1 = g.begins in
    let g2 = g.ends in
    let step = adding_step old cells start limit at h from to c g in (
      subst (λ x. IsBeingAdded old next start limit x) (sym place) (subst (λ xs. IsBeingAdded old xs start limit (end_of c)) (sym list) step),
      omega arith,
      omega arith,
      omega arith,
    )
