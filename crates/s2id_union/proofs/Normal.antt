-- A list of maximal cells that follow one another is normal.
use Rattle.std.proofs.Common.{◌≡◌, ℕ, suc, ◌+◌, ◌-◌, ◌*◌, ◌^◌, ◌<◌, ◌≤◌, inl, inr, List, [], ◌∷◌, length, get_or, sym, ◌∙◌, ap, arith, subst}
use Rattle.std.proofs.lemmas.Bool.{cases_lt}
use Rattle.std.proofs.lemmas.List.{length_push, get_or_append_left}
use Rattle.s2id_core.specs.declared.cell_id.CellId.{CellId}
use Rattle.s2id_core.specs.CellId.{raw_of, path_of, first_of, end_of}
use Rattle.s2id_core.specs.Cell.{IsCellNumber}
use Rattle.s2id_core.specs.Path.{Path, IsPath, number_of, path_at, place_of, child}
use Rattle.s2id_core.specs.Leaves.{IsWithin}
use Rattle.s2id_core.specs.Span.{first_at, end_at}
use Rattle.s2id_core.proofs.Numbers.{path_of_cell, cell_of_path, path_at-number}
use Rattle.s2id_core.proofs.Powers.{four_step}
use Rattle.s2id_core.proofs.Ancestry.{place_of-child, length-child}
use Rattle.s2id_core.proofs.Spans.{width, start}
use Rattle.s2id_core.proofs.Nested.{by_width, span, nested_from_within}
use Rattle.s2id_union.specs.Region.{IsNormal}
use Rattle.s2id_union.specs.Covers.{Covers}
use Rattle.s2id_union.specs.Loops.{AreMaximalBelow}
use Rattle.s2id_core.proofs.Lists.{pair_cases}
use Rattle.s2id_union.proofs.Unique.{child_within, HasChild}

-- ---- the spans of four children

quarter : (d : ℕ) (p : Path) → length p.digits < 30 → width p ≡ 4 * width (child d p)
quarter d p h =
    let e = length-child d p in
    ap (λ x. 4 ^ x) (let f : 30 - length p.digits ≡ suc (30 - length (child d p).digits) = omega arith in f) ∙ four_step (30 - length (child d p).digits)

child_start : (d : ℕ) (p : Path) → length p.digits < 30 → start (child d p) ≡ start p + d * width (child d p)
child_start d p h =
    ap (λ x. x * width (child d p)) (place_of-child d p) ∙ turn (place_of p) d (width (child d p)) ∙ ap (λ x. place_of p * x + d * width (child d p)) (sym (quarter d p h))
  where
    turn : (m d w : ℕ) → (4 * m + d) * w ≡ m * (4 * w) + d * w
    turn m d w = omega arith

-- child d of a cell, by the number b of the parent
record IsQuarter (c b w d : ℕ) : Type 0 where
  first : first_at c ≡ first_at b + d * (2 * w)
  last : end_at c ≡ first_at c + 2 * w

quarter_span : (c b d : ℕ) → IsCellNumber c → IsCellNumber b → length (path_at b).digits < 30 → path_at c ≡ child d (path_at b)
    → IsQuarter c b (width (child 0 (path_at b))) d
quarter_span c b d cell_c cell_b level e =
    let p = path_at b in
    let rc = by_width c cell_c in
    let rb = by_width b cell_b in
    let f = rc.first in
    let l = rc.last in
    let fb = rb.first in
    let w : width (path_at c) ≡ width (child 0 p) = ap width e ∙ ap (λ x. 4 ^ (30 - x)) (length-child d p ∙ sym (length-child 0 p)) in
    let s : start (path_at c) ≡ start p + d * width (path_at c) = ap start e ∙ child_start d p level ∙ ap (λ x. start p + d * x) (sym (ap width e)) in
    let t : d * width (path_at c) ≡ d * width (child 0 p) = ap (λ x. d * x) w in
    record { first = omega arith; last = omega arith }

whole_span : (b : ℕ) → IsCellNumber b → length (path_at b).digits < 30 → end_at b ≡ first_at b + 8 * width (child 0 (path_at b))
whole_span b cell level =
    let rb = by_width b cell in
    let f = rb.first in
    let l = rb.last in
    let q = quarter 0 (path_at b) level in
    omega arith

-- ---- no four

covered_by : (cells : List CellId) (b d q : ℕ) → IsCellNumber b → length (path_at b).digits < 30 → HasChild cells d (path_at b)
    → first_at b + d * (2 * width (child 0 (path_at b))) ≤ q
    → q < first_at b + d * (2 * width (child 0 (path_at b))) + 2 * width (child 0 (path_at b)) → Covers cells q
covered_by cells b d q cell level has from to =
    let r = quarter_span (raw_of has.1) b d has.1.valid cell level has.4 in
    let f = r.first in
    let l = r.last in
    record { cell = has.1; held = (has.0, has.2, has.3); from = omega arith; to = omega arith }

all_covered : (cells : List CellId) (b : ℕ) → IsCellNumber b → length (path_at b).digits < 30
    → ((d : ℕ) → d < 4 → HasChild cells d (path_at b)) → (q : ℕ) → first_at b ≤ q → q < end_at b → Covers cells q
all_covered cells b cell level has q from to =
    let w = width (child 0 (path_at b)) in
    let e = whole_span b cell level in
    elim (cases_lt q (first_at b + 2 * w)) [
      | inl h ↦ covered_by cells b 0 q cell level (has 0 (omega arith)) (omega arith) (omega arith)
      | inr h ↦
          elim (cases_lt q (first_at b + 4 * w)) [
            | inl i ↦ covered_by cells b 1 q cell level (has 1 (omega arith)) (omega arith) (omega arith)
            | inr i ↦
                elim (cases_lt q (first_at b + 6 * w)) [
                  | inl j ↦ covered_by cells b 2 q cell level (has 2 (omega arith)) (omega arith) (omega arith)
                  | inr j ↦ covered_by cells b 3 q cell level (has 3 (omega arith)) (omega arith) (omega arith)
                ]
          ]
    ]

path_from_child : (d : ℕ) (p : Path) → IsPath (child d p) → IsPath p
unfolding child
path_from_child d p h =
    let long = length_push p.digits d in
    let most = h.at_most in
    record {
      face_below = h.face_below;
      at_most = omega arith;
      digits_below = λ k e l. subst (λ x. x < 4) (get_or_append_left p.digits (d ∷ []) e k l) (h.digits_below k e (omega arith));
    }

none_of_four : (cells : List CellId) (free b : ℕ) → AreMaximalBelow cells free → IsCellNumber b → length (path_at b).digits < 30
    → ((d : ℕ) → d < 4 → HasChild cells d (path_at b)) → ⊥
none_of_four cells free b h cell level has =
    let c = has 0 (omega arith) in
    let within : IsWithin (path_of c.1) (path_at b) = subst (λ (x : Path). IsWithin x (path_at b)) (sym c.4) (child_within 0 (path_at b)) in
    let same = h.maximal c.1 (c.0, c.2, c.3) b cell (nested_from_within (raw_of c.1) b c.1.valid cell within) (λ q f t low. all_covered cells b cell level has q f t) in
    let long = length-child 0 (path_at b) in
    let e = ap (λ x. length (path_at x).digits) same in
    let f = ap (λ (x : Path). length x.digits) c.4 in
    omega arith

pub normal_from_maximal : (cells : List CellId) (free : ℕ) → AreMaximalBelow cells free → IsNormal cells
normal_from_maximal cells free h = record {
  rises = λ i j d lt l.
      let a = get_or cells i d in
      let b = get_or cells j d in
      let le = h.follow i j d lt l in
      let sa = (span (raw_of a) a.valid).to in
      let sb = (span (raw_of b) b.valid).from in
      omega arith;
  apart = λ a b held_a held_b within.
      let nest = nested_from_within (raw_of a) (raw_of b) a.valid b.valid within in
      let n1 = nest.from in
      let n2 = nest.to in
      let sa = span (raw_of a) a.valid in
      let a1 = sa.from in
      let a2 = sa.to in
      elim (pair_cases (λ a b. end_of a ≤ first_of b) cells h.follow a b held_a held_b) [
        | inl e ↦ e
        | inr r ↦ elim r [ inl lt ↦ absurd (omega arith) | inr gt ↦ absurd (omega arith) ]
      ];
  no_four = λ p has.
      let c = has 0 (omega arith) in
      let path_c : IsPath (child 0 p) = subst IsPath c.4 (path_of_cell (raw_of c.1) c.1.valid) in
      let path = path_from_child 0 p path_c in
      let read : path_at (number_of p) ≡ p = path_at-number p path in
      let deep = path_c.at_most in
      let long = length-child 0 p in
      let lev = ap (λ (x : Path). length x.digits) read in
      none_of_four cells free (number_of p) h (cell_of_path p path) (omega arith) (subst (λ (x : Path). (d : ℕ) → d < 4 → HasChild cells d x) (sym read) has);
}
