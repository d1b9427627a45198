-- The cell over a side: its number is found by search.
use Rattle.std.proofs.Common.{◌≡◌, ◌≢◌, ℕ, zero, suc, ◌+◌, ◌*◌, ◌-◌, ◌^◌, ◌<◌, ◌⊎◌, inl, inr, Bool, true, false, cond, length, refl, sym, ap, ◌∙◌, subst, ⊎_elim, true≢false, arith}
use Rattle.std.specs.Bool.{Decides}
use Rattle.std.proofs.lemmas.Bool.{cases_eq}
use Rattle.std.proofs.lemmas.Bool.Decides.{Decides-int_eq, Decides-eqb, Decides-not, Decides-and, Decides-or, Decides-like}
use Rattle.s2id_core.specs.Path.{Path, IsPath, path_at, place_of}
use Rattle.s2id_core.specs.Cell.{IsCellNumber}
use Rattle.s2id_core.proofs.Numbers.{path_of_cell, place_below}
use Rattle.s2id_core.proofs.Places.{number_by_place}
use Rattle.s2id_core.proofs.Levels.{same_place}
use Rattle.s2id_cube.specs.declared.face_ij.FaceIj.{FaceIj}
use Rattle.s2id_cube.specs.Square.{square_of}
use Rattle.s2id_cube.specs.Point.{Point}
use Rattle.s2id_cube.specs.Edge.{side_start, side_end, AreOneSide, ShareEdge, SharesSide}
use Rattle.s2id_cube.specs.Neighbor.{is_point, are_one_side, have_one_side, is_same_side, is_side_of, share_edge, number_at, passing_below, is_over, neighbor_number}
use Rattle.s2id_cube.proofs.Cases.{four}
use Rattle.s2id_core.proofs.Bits.{cell_at_place, level_at_place, place_at_place}
use Rattle.s2id_cube.proofs.Sides.{point_is}
use Rattle.s2id_cube.proofs.Shared.{one_neighbor}

-- ---- the tests decide what they are named for

is_point-decides : (a b : Point) → Decides (is_point a b) (a ≡ b)
is_point-decides a b =
    Decides-like (is_point a b)
    (λ h. point_is h.0 h.1.0 h.1.1)
    (λ e. (ap (λ (p : Point). p.x) e, (ap (λ (p : Point). p.y) e, ap (λ (p : Point). p.z) e)))
    (Decides-and _ _ (Decides-int_eq a.x b.x) (Decides-and _ _ (Decides-int_eq a.y b.y) (Decides-int_eq a.z b.z)))

are_one_side-decides : (a b c d : Point) → Decides (are_one_side a b c d) (AreOneSide a b c d)
are_one_side-decides a b c d =
    Decides-or _ _ (Decides-and _ _ (is_point-decides a c) (is_point-decides b d)) (Decides-and _ _ (is_point-decides a d) (is_point-decides b c))

abbrev IsSameSide : ℕ → FaceIj → ℕ → FaceIj → Type 0
IsSameSide m s o t = AreOneSide (side_start m s) (side_end m s) (side_start o t) (side_end o t)

is_same_side-decides : (m : ℕ) (s : FaceIj) (o : ℕ) (t : FaceIj) → Decides (is_same_side m s o t) (IsSameSide m s o t)
unfolding is_same_side
is_same_side-decides m s o t = are_one_side-decides (side_start m s) (side_end m s) (side_start o t) (side_end o t)

abbrev IsSideOf : ℕ → FaceIj → FaceIj → Type 0
IsSideOf m s t = (o : ℕ) × (o < 4) × IsSameSide m s o t

abbrev IsOneOf : ℕ → FaceIj → FaceIj → Type 0
IsOneOf m s t = IsSameSide m s 0 t ⊎ (IsSameSide m s 1 t ⊎ (IsSameSide m s 2 t ⊎ IsSameSide m s 3 t))

is_side_of-decides : (m : ℕ) (s t : FaceIj) → Decides (is_side_of m s t) (IsSideOf m s t)
is_side_of-decides m s t =
    Decides-like (is_side_of m s t) there back
    (Decides-or _ _ (is_same_side-decides m s 0 t) (Decides-or _ _ (is_same_side-decides m s 1 t) (Decides-or _ _ (is_same_side-decides m s 2 t) (is_same_side-decides m s 3 t))))
  where
    there : IsOneOf m s t → IsSideOf m s t
    there = ⊎_elim (λ h. (0, omega arith, h)) (⊎_elim (λ h. (1, omega arith, h)) (⊎_elim (λ h. (2, omega arith, h)) (λ h. (3, omega arith, h))))

    back : IsSideOf m s t → IsOneOf m s t
    back h = four (λ o. IsSameSide m s o t → IsOneOf m s t) (inl, λ x. inr (inl x), λ x. inr (inr (inl x)), λ x. inr (inr (inr x))) h.0 h.1 h.2

-- two squares have a side in common
abbrev HaveOneSide : FaceIj → FaceIj → Type 0
HaveOneSide s t = (m : ℕ) × (m < 4) × IsSideOf m s t

have_one_side-decides : (s t : FaceIj) → Decides (have_one_side s t) (HaveOneSide s t)
have_one_side-decides s t =
    Decides-like (have_one_side s t) there back
    (Decides-or _ _ (is_side_of-decides 0 s t) (Decides-or _ _ (is_side_of-decides 1 s t) (Decides-or _ _ (is_side_of-decides 2 s t) (is_side_of-decides 3 s t))))
  where
    OneOfFour : Type 0
    OneOfFour = IsSideOf 0 s t ⊎ (IsSideOf 1 s t ⊎ (IsSideOf 2 s t ⊎ IsSideOf 3 s t))

    there : OneOfFour → HaveOneSide s t
    there = ⊎_elim (λ h. (0, omega arith, h)) (⊎_elim (λ h. (1, omega arith, h)) (⊎_elim (λ h. (2, omega arith, h)) (λ h. (3, omega arith, h))))

    back : HaveOneSide s t → OneOfFour
    back h = four (λ m. IsSideOf m s t → OneOfFour) (inl, λ x. inr (inl x), λ x. inr (inr (inl x)), λ x. inr (inr (inr x))) h.0 h.1 h.2

-- the test says whether two cells share an edge
pub share_edge-decides : (p q : Path) → IsPath p → IsPath q → Decides (share_edge p q) (ShareEdge p q)
unfolding share_edge
share_edge-decides p q hp hq =
    Decides-like (share_edge p q) there back
    (Decides-and _ _ (Decides-eqb (length p.digits) (length q.digits)) (Decides-and _ _ (Decides-not _ (Decides-eqb (place_of p) (place_of q))) (have_one_side-decides (square_of p) (square_of q))))
  where
    AreApart : Type 0
    AreApart = (length p.digits ≡ length q.digits) × ((¬ (place_of p ≡ place_of q)) × HaveOneSide (square_of p) (square_of q))

    there : AreApart → ShareEdge p q
    there h =
        let side = h.1.1 in
        record {
          side = side.0;
          is_side = side.1;
          shares = record {
            apart = λ e. h.1.0 (ap place_of e);
            one_level = h.0;
            other = side.2.0;
            is_side = side.2.1;
            one_side = side.2.2;
          };
        }

    back : ShareEdge p q → AreApart
    back h = (
      h.shares.one_level,
      ((λ e. h.shares.apart (same_place p q hp hq h.shares.one_level e)), (h.side, h.is_side, (h.shares.other, h.shares.is_side, h.shares.one_side))),
    )

-- ---- the search

-- if one number passes, it is found
pub passing_below-only : (test : ℕ → Bool) (n m : ℕ) → m < n → test m ≡ true → ((k : ℕ) → k < n → test k ≡ true → k ≡ m)
    → passing_below test n ≡ m
unfolding passing_below
passing_below-only test zero m lt passes only = absurd (omega (arith, lt))
passing_below-only test (suc n) m lt passes only =
    elim (test n) as (λ b. test n ≡ b → cond b n (passing_below test n) ≡ m) [
      | true ↦ λ e. only n (omega arith) e
      | false ↦ λ e. passing_below-only test n m (below e) passes (λ k less. only k (omega (arith, less)))
    ] refl
  where
    below : test n ≡ false → m < n
    below e = ⊎_elim (λ (same : m ≡ n). absurd (true≢false (sym passes ∙ ap test same ∙ e))) (λ (other : m ≢ n). omega (arith, lt, other)) (cases_eq m n)

-- ---- the cell over a side

abbrev IsFound : ℕ → Path → ℕ → Type 0
IsFound m p place = (¬ (place ≡ place_of p)) × IsSideOf m (square_of p) (square_of (path_at (number_at (length p.digits) place)))

over_place : (m : ℕ) (p q : Path) (place : ℕ) → IsPath p → IsPath q → q ≡ path_at (number_at (length p.digits) place) → place_of q ≡ place
    → length p.digits ≡ length q.digits → Decides (is_over m p place) (SharesSide m p q)
over_place m p q place hp hq is at long =
    Decides-like (is_over m p place) there back
    (Decides-and _ _ (Decides-not _ (Decides-eqb place (place_of p))) (is_side_of-decides m (square_of p) (square_of (path_at (number_at (length p.digits) place)))))
  where
    there : IsFound m p place → SharesSide m p q
    there h = record {
      apart = λ e. h.0 (sym at ∙ ap place_of (sym e));
      one_level = long;
      other = h.1.0;
      is_side = h.1.1;
      one_side = subst (λ x. IsSameSide m (square_of p) h.1.0 (square_of x)) (sym is) h.1.2;
    }

    back : SharesSide m p q → IsFound m p place
    back h = (λ e. h.apart (same_place p q hp hq long (sym e ∙ sym at)), (h.other, h.is_side, subst (λ x. IsSameSide m (square_of p) h.other (square_of x)) is h.one_side))

pub neighbor_number-is : (m : ℕ) (p : Path) (n : ℕ) → m < 4 → IsPath p → IsCellNumber n → SharesSide m p (path_at n)
    → n ≡ neighbor_number m p
unfolding neighbor_number
neighbor_number-is m p n hm hp cell shares =
    is ∙ ap (number_at k) (sym (passing_below-only (is_over m p) (6 * 4 ^ k) place below passes only))
  where
    q : Path
    q = path_at n

    k : ℕ
    k = length p.digits

    place : ℕ
    place = place_of q

    hq : IsPath q
    hq = path_of_cell n cell

    long : k ≡ length q.digits
    long = shares.one_level

    is : n ≡ number_at k place
    is = sym cell.2 ∙ number_by_place q hq.at_most ∙ ap (λ x. (2 * place + 1) * 4 ^ (30 - x)) (sym long)

    below : place < 6 * 4 ^ k
    below = subst (λ x. place < 6 * 4 ^ x) (sym long) (place_below q hq)

    passes : is_over m p place ≡ true
    passes = (over_place m p q place hp hq (ap path_at is) refl long).1 shares

    only : (x : ℕ) → x < 6 * 4 ^ k → is_over m p x ≡ true → x ≡ place
    only x lt e =
        let r = path_at (number_at k x) in
        let hr = path_of_cell (number_at k x) (cell_at_place k x (number_at k x) hp.at_most lt refl) in
        let level = level_at_place k x (number_at k x) hp.at_most refl in
        let at = place_at_place k x (number_at k x) hp.at_most refl in
        let over = (over_place m p r x hp hr refl at (sym level)).0 e in
        sym at ∙ ap place_of (one_neighbor m p r q hm hp hr hq over shares)
