-- Ancestors, children and digits, by places.
use Rattle.std.proofs.Common.{◌≡◌, ℕ, suc, ◌+◌, ◌-◌, ◌*◌, ◌/◌, ◌%◌, ◌^◌, ◌<◌, ◌≤◌, inl, inr, List, [], ◌∷◌, ◌++◌, All, length, take, get_or, bit_and, sym, ◌∙◌, ap, ap₂, arith, subst}
use Rattle.std.specs.Prelude.{bit_xor}
use Rattle.std.specs.Int.{w64, leading_zeros}
use Rattle.std.specs.Int.Bits.{xor_self, xor_assoc, xor_zero_l, xor_zero_r}
use Rattle.std.proofs.Math.Nat.{div-eq_of_lt}
use Rattle.std.proofs.Math.Pow.{pow_mono}
use Rattle.std.proofs.lemmas.Bool.{cases_lt}
use Rattle.std.proofs.lemmas.List.{length-append, length-take-le, take_more}
use Rattle.std.proofs.lemmas.List.Elements.{All-append, All-cons, All-nil, All-get_or}
use Rattle.std.proofs.lemmas.Nat.{and_mask, xor_shr, leading_length, le-div, pow_pos}
use Rattle.s2id_core.specs.Path.{Path, IsPath, base_four, place_of, path_at, ancestor, child}
use Rattle.s2id_core.specs.Leaves.{IsCommonLevel}
use Rattle.s2id_core.specs.Cell.{IsCellNumber}
use Rattle.s2id_core.proofs.Powers.{two_step, four_pow, four_step}
use Rattle.s2id_core.proofs.Numbers.{path_of_cell, place_below}
use Rattle.s2id_core.proofs.Bits.{places_fit}
use Rattle.s2id_core.proofs.Levels.{place_of-more, same_place, length-ancestor, IsPath-ancestor, ancestor-ancestor, ancestor_itself, place_of-ancestor}

-- ---- one more digit

one_digit : (d : ℕ) → base_four (d ∷ []) ≡ d
unfolding base_four
one_digit d = omega arith

pub place_with : (f : ℕ) (ds : List ℕ) (d : ℕ)
    → place_of (record { face = f; digits = ds ++ d ∷ [] }) ≡ 4 * place_of (record { face = f; digits = ds }) + d
place_with f ds d =
    place_of-more f ds (d ∷ []) ∙ ap (λ x. place_of (record { face = f; digits = ds }) * 4 + x) (one_digit d) ∙ turn (place_of (record { face = f; digits = ds })) d
  where
    turn : (m d : ℕ) → m * 4 + d ≡ 4 * m + d
    turn m d = omega arith

pub place_of-child : (d : ℕ) (p : Path) → place_of (child d p) ≡ 4 * place_of p + d
unfolding child
place_of-child d p = place_with p.face p.digits d

pub length-child : (d : ℕ) (p : Path) → length (child d p).digits ≡ length p.digits + 1
unfolding child
length-child d p = length-append p.digits (d ∷ [])

pub IsPath-child : (d : ℕ) (p : Path) → IsPath p → length p.digits < 30 → d < 4 → IsPath (child d p)
unfolding child
IsPath-child d p h finer small = record {
  face_below = h.face_below;
  at_most = let long = length-append p.digits (d ∷ []) in omega arith;
  digits_below = All-append (λ d. d < 4) p.digits (d ∷ []) h.digits_below (All-cons (λ d. d < 4) d [] small (All-nil (λ d. d < 4)));
}

-- ---- what the code makes of places

pub ancestor_by_place : (r n k : ℕ) → IsCellNumber r → IsCellNumber n → k ≤ length (path_at n).digits → length (path_at r).digits ≡ k
    → place_of (path_at r) ≡ place_of (ancestor k (path_at n)) → path_at r ≡ ancestor k (path_at n)
ancestor_by_place r n k cell_r cell_n h level place =
    let p = path_at n in
    same_place (path_at r) (ancestor k p) (path_of_cell r cell_r) (IsPath-ancestor k p (path_of_cell n cell_n) h) (level ∙ sym (length-ancestor k p h)) place

pub own_place : (n k m : ℕ) → k ≡ length (path_at n).digits → m ≡ place_of (ancestor k (path_at n)) → m ≡ place_of (path_at n)
own_place n k m level e = e ∙ ap (λ j. place_of (ancestor j (path_at n))) level ∙ ap place_of (ancestor_itself (path_at n))

pub child_by_place : (r n d : ℕ) → IsCellNumber r → IsCellNumber n → length (path_at n).digits < 30 → d < 4
    → length (path_at r).digits ≡ length (path_at n).digits + 1 → place_of (path_at r) ≡ 4 * place_of (path_at n) + d
    → path_at r ≡ child d (path_at n)
child_by_place r n d cell_r cell_n finer small level place =
    let p = path_at n in
    same_place (path_at r) (child d p) (path_of_cell r cell_r) (IsPath-child d p (path_of_cell n cell_n) finer small) (level ∙ sym (length-child d p)) (place ∙ sym (place_of-child d p))

pub child_place_below : (k m d : ℕ) → m < 6 * 4 ^ k → d < 4 → 4 * m + d < 6 * 4 ^ (k + 1)
child_place_below k m d h small = let step : 4 ^ (k + 1) ≡ 4 * 4 ^ k = ap (λ x. 4 ^ x) (let e : k + 1 ≡ suc k = omega arith in e) ∙ four_step k in omega arith

-- ---- a digit, and the child position

pub digit_by_place : (k : ℕ) (p : Path) → 0 < k → k ≤ length p.digits → IsPath p
    → bit_and (place_of (ancestor k p)) 3 ≡ get_or p.digits (k - 1) 0
unfolding ancestor
digit_by_place k p pos h path =
    let j = k - 1 in
    let d = get_or p.digits j 0 in
    let small : d < 4 = All-get_or (λ d. d < 4) p.digits j 0 (omega arith) path.digits_below in
    let front : take k p.digits ≡ take j p.digits ++ d ∷ [] = ap (λ x. take x p.digits) (let e : k ≡ j + 1 = omega arith in e) ∙ take_more p.digits j 0 (omega arith) in
    let place : place_of (record { face = p.face; digits = take k p.digits }) ≡ 4 * place_of (record { face = p.face; digits = take j p.digits }) + d = ap (λ x. place_of (record { face = p.face; digits = x })) front ∙ place_with p.face (take j p.digits) d in
    and_mask (place_of (record { face = p.face; digits = take k p.digits })) 2 ∙ ap (λ x. x % 4) place ∙ low (place_of (record { face = p.face; digits = take j p.digits })) d small
  where
    low : (m d : ℕ) → d < 4 → (4 * m + d) % 4 ≡ d
    low m d h = omega arith

-- ---- the level of the smallest cell that contains two

-- two numbers that xor leaves nothing of are one
pub same_from_xor : (a b : ℕ) → bit_xor a b ≡ 0 → a ≡ b
same_from_xor a b e =
    sym (xor_zero_r a) ∙ ap (bit_xor a) (sym (xor_self b)) ∙ sym (xor_assoc a b b) ∙ ap (λ x. bit_xor x b) e ∙ xor_zero_l b

-- two numbers agree in all but the last h digits of base 4, and not in one more
pub record DifferBelow (a b h : ℕ) : Type 0 where
  pub same : a / 4 ^ h ≡ b / 4 ^ h
  pub apart : (j : ℕ) → j < h → a / 4 ^ j ≡ b / 4 ^ j → ⊥

agree : (a b m h : ℕ) → bit_xor a b < 2 ^ m → m ≤ 2 * h → a / 4 ^ h ≡ b / 4 ^ h
agree a b m h small le =
    let wide : 2 ^ m ≤ 2 ^ (2 * h) = pow_mono {i = m} {j = 2 * h} le in
    let none : bit_xor a b / 2 ^ (2 * h) ≡ 0 = div-eq_of_lt (let lt : bit_xor a b < 2 ^ (2 * h) = omega arith in lt) in
    ap (λ x. a / x) (sym (four_pow h)) ∙ same_from_xor (a / 2 ^ (2 * h)) (b / 2 ^ (2 * h)) (sym (xor_shr a b (2 * h)) ∙ none) ∙ ap (λ x. b / x) (four_pow h)

disagree : (a b m j : ℕ) → 2 ^ m ≤ 2 * bit_xor a b + 1 → 2 * j < m → a / 4 ^ j ≡ b / 4 ^ j → ⊥
disagree a b m j large less same =
    let n = m - 1 in
    let double : 2 ^ m ≡ 2 * 2 ^ n = ap (λ x. 2 ^ x) (let e : m ≡ suc n = omega arith in e) ∙ two_step n in
    let wide : 2 ^ (2 * j) ≤ 2 ^ n = pow_mono {i = 2 * j} {j = n} (omega arith) in
    let some : 1 ≤ bit_xor a b / 2 ^ (2 * j) = le-div 1 (bit_xor a b) (2 ^ (2 * j)) (pow_pos (2 * j)) (omega arith) in
    let bits : a / 2 ^ (2 * j) ≡ b / 2 ^ (2 * j) = ap (λ x. a / x) (four_pow j) ∙ same ∙ ap (λ x. b / x) (sym (four_pow j)) in
    let none : bit_xor a b / 2 ^ (2 * j) ≡ 0 = xor_shr a b (2 * j) ∙ ap (λ x. bit_xor x (b / 2 ^ (2 * j))) bits ∙ xor_self (b / 2 ^ (2 * j)) in
    omega arith

pub differ_below : (a b : ℕ) → bit_xor a b < 2 ^ 64 → DifferBelow a b ((65 - leading_zeros w64 (bit_xor a b)) / 2)
differ_below a b fits =
    let long = leading_length 64 (bit_xor a b) fits in
    let sum = long.1 in
    record {
      same = agree a b long.0 ((65 - leading_zeros w64 (bit_xor a b)) / 2) long.2 (omega arith);
      apart = λ j h. disagree a b long.0 j long.3 (omega arith);
    }

place_above : (p : Path) (j k : ℕ) → IsPath p → j ≤ k → k ≤ length p.digits
    → place_of (ancestor j p) ≡ place_of (ancestor k p) / 4 ^ (k - j)
place_above p j k path h g =
    let level = length-ancestor k p g in
    ap place_of (sym (ancestor-ancestor j k p h)) ∙ place_of-ancestor j (ancestor k p) (IsPath-ancestor k p path g) (omega arith) ∙ ap (λ x. place_of (ancestor k p) / 4 ^ (x - j)) level

place_of_face : (p : Path) → place_of (ancestor 0 p) ≡ p.face
unfolding ancestor place_of base_four
place_of_face p = omega arith

-- the levels differ by no more than the code takes off
pub enough_levels : (p q : Path) (k h : ℕ) → IsPath p → IsPath q → k ≤ length p.digits → k ≤ length q.digits → p.face ≡ q.face
    → DifferBelow (place_of (ancestor k p)) (place_of (ancestor k q)) h → h ≤ k
enough_levels p q k h hp hq at_p at_q face d =
    let top_less : place_of (ancestor k p) / 4 ^ (k - 0) ≡ place_of (ancestor k q) / 4 ^ (k - 0) = sym (place_above p 0 k hp (omega arith) at_p) ∙ place_of_face p ∙ face ∙ sym (place_of_face q) ∙ place_above q 0 k hq (omega arith) at_q in
    let none : k - 0 ≡ k = omega arith in
    let top = subst (λ x. place_of (ancestor k p) / 4 ^ x ≡ place_of (ancestor k q) / 4 ^ x) none top_less in
    elim (cases_lt k h) [ inl lt ↦ absurd (d.apart k lt top) | inr le ↦ le ]

pub common_by_places : (p q : Path) (k h : ℕ) → IsPath p → IsPath q → k ≤ length p.digits → k ≤ length q.digits
    → ((j : ℕ) → j ≤ length p.digits → j ≤ length q.digits → j ≤ k) → h ≤ k
    → DifferBelow (place_of (ancestor k p)) (place_of (ancestor k q)) h → IsCommonLevel p q (k - h)
common_by_places p q k h hp hq at_p at_q most enough d =
    let j = k - h in
    let at_j : j ≤ length p.digits = omega arith in
    let at_j' : j ≤ length q.digits = omega arith in
    let off : k - j ≡ h = omega arith in
    let place : place_of (ancestor j p) ≡ place_of (ancestor j q) = place_above p j k hp (omega arith) at_p ∙ ap (λ x. place_of (ancestor k p) / 4 ^ x) off ∙ d.same ∙ ap (λ x. place_of (ancestor k q) / 4 ^ x) (sym off) ∙ sym (place_above q j k hq (omega arith) at_q) in
    record {
      of_first = at_j;
      of_second = at_j';
      shared = same_place (ancestor j p) (ancestor j q) (IsPath-ancestor j p hp at_j) (IsPath-ancestor j q hq at_j') (length-ancestor j p at_j ∙ sym (length-ancestor j q at_j')) place;
      greatest = λ i in_p in_q same.
          let top : i ≤ k = most i in_p in_q in
          elim (cases_lt j i) [ inl lt ↦ absurd (d.apart (k - i) (omega arith) (sym (place_above p i k hp top at_p) ∙ ap place_of same ∙ place_above q i k hq top at_q)) | inr le ↦ le ];
    }

-- ---- a path by its digits

pub place_of_face_alone : (f : ℕ) → f ≡ place_of (record { face = f; digits = [] })
unfolding place_of base_four
place_of_face_alone f = omega arith

pub digits_fit : (f place d i : ℕ) (ds : List ℕ) → f ≤ 5 → i < length ds → length ds ≤ 30 → All (λ d. d < 4) (take i ds)
    → place ≡ place_of (record { face = f; digits = take i ds }) → d < 4 → 4 * place + d < 2 ^ 64
digits_fit f place d i ds face within most small is digit =
    let long : length (take i ds) ≡ i = length-take-le i ds (omega arith) in
    let path : IsPath (record { face = f; digits = take i ds }) = record { face_below = omega arith; at_most = omega arith; digits_below = small } in
    let below : place < 6 * 4 ^ i = subst (λ x. place < 6 * 4 ^ x) long (subst (λ x. x < 6 * 4 ^ length (take i ds)) (sym is) (place_below (record { face = f; digits = take i ds }) path)) in
    let more = child_place_below i place d below digit in
    let fits = places_fit (i + 1) (4 * place + d) (omega arith) more in
    omega arith

pub digits_more : (f place d i : ℕ) (ds : List ℕ) → i < length ds → place ≡ place_of (record { face = f; digits = take i ds })
    → d ≡ get_or ds i 0 → 4 * place + d ≡ place_of (record { face = f; digits = take (i + 1) ds })
digits_more f place d i ds within is digit =
    ap₂ (λ x y. 4 * x + y) is digit ∙ sym (ap (λ x. place_of (record { face = f; digits = x })) (take_more ds i 0 within) ∙ place_with f (take i ds) (get_or ds i 0))

pub path_by_digits : (r f : ℕ) (ds : List ℕ) → IsCellNumber r → IsPath (record { face = f; digits = ds })
    → length (path_at r).digits ≡ length ds → place_of (path_at r) ≡ place_of (record { face = f; digits = ds })
    → path_at r ≡ record { face = f; digits = ds }
path_by_digits r f ds cell path level place = same_place (path_at r) (record { face = f; digits = ds }) (path_of_cell r cell) path level place
