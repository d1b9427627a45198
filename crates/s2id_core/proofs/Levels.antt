-- Places of ancestors, children and leaves.
use Rattle.std.proofs.Common.{◌≡◌, ℕ, zero, suc, ◌+◌, ◌-◌, ◌*◌, ◌/◌, ◌^◌, ◌<◌, ◌≤◌, inl, inr, List, [], ◌∷◌, ◌++◌, length, take, drop, replicate, sym, ◌∙◌, ap, ap₂, refl, arith, subst}
use Rattle.std.proofs.lemmas.Bool.{cases_lt}
use Rattle.std.proofs.lemmas.List.{length-append, length-take-le, length-drop, length-replicate, take-append-drop, take_all, take-take}
use Rattle.std.proofs.lemmas.List.Elements.{All-take, All-drop}
use Rattle.std.proofs.lemmas.Nat.{same_from_place, div-mul-add}
use Rattle.s2id_core.specs.Path.{Path, IsPath, base_four, place_of, ancestor}
use Rattle.s2id_core.specs.Leaves.{IsWithin}
use Rattle.s2id_core.proofs.Powers.{four_step, four_add}
use Rattle.s2id_core.proofs.Places.{base_four_below}
use Rattle.s2id_core.proofs.Numbers.{path_of_place, path_of_place-place_of}

-- ---- digits in a row

pub base_four-append : (xs ys : List ℕ) → base_four (xs ++ ys) ≡ base_four xs * 4 ^ length ys + base_four ys
unfolding base_four
base_four-append [] ys = omega arith
base_four-append (x ∷ xs) ys =
    ap₂ (λ a b. x * a + b) (ap (λ k. 4 ^ k) (length-append xs ys) ∙ four_add (length xs) (length ys)) (base_four-append xs ys) ∙ regroup x (4 ^ length xs) (4 ^ length ys) (base_four xs) (base_four ys)
  where
    regroup : (x a b v w : ℕ) → x * (a * b) + (v * b + w) ≡ (x * a + v) * b + w
    regroup x a b v w = omega arith

pub base_four-zeros : (k : ℕ) → base_four (replicate k 0) ≡ 0
unfolding base_four
base_four-zeros zero = refl
base_four-zeros (suc k) = let e = base_four-zeros k in omega arith

pub base_four-threes : (k : ℕ) → base_four (replicate k 3) + 1 ≡ 4 ^ k
unfolding base_four
base_four-threes zero = refl
base_four-threes (suc k) =
    let e = base_four-threes k in
    let long = ap (λ x. 4 ^ x) (length-replicate {A = ℕ} k 3) in
    let s = four_step k in
    omega arith

-- the place of a path with more digits after
pub place_of-more : (f : ℕ) (xs ys : List ℕ)
    → place_of (record { face = f; digits = xs ++ ys }) ≡ place_of (record { face = f; digits = xs }) * 4 ^ length ys + base_four ys
unfolding place_of
place_of-more f xs ys =
    ap₂ (λ a b. f * a + b) (ap (λ k. 4 ^ k) (length-append xs ys) ∙ four_add (length xs) (length ys)) (base_four-append xs ys) ∙ regroup f (4 ^ length xs) (4 ^ length ys) (base_four xs) (base_four ys)
  where
    regroup : (x a b v w : ℕ) → x * (a * b) + (v * b + w) ≡ (x * a + v) * b + w
    regroup x a b v w = omega arith

-- two paths of one level and one place are one
pub same_place : (p q : Path) → IsPath p → IsPath q → length p.digits ≡ length q.digits → place_of p ≡ place_of q → p ≡ q
same_place p q hp hq long place = sym (path_of_place-place_of p hp) ∙ ap₂ path_of_place long place ∙ path_of_place-place_of q hq

-- ---- ancestors

pub length-ancestor : (k : ℕ) (p : Path) → k ≤ length p.digits → length (ancestor k p).digits ≡ k
unfolding ancestor
length-ancestor k p h = length-take-le k p.digits h

pub IsPath-ancestor : (k : ℕ) (p : Path) → IsPath p → k ≤ length p.digits → IsPath (ancestor k p)
unfolding ancestor
IsPath-ancestor k p path h = record {
  face_below = path.face_below;
  at_most = let long = length-take-le k p.digits h in let m = path.at_most in omega arith;
  digits_below = All-take (λ d. d < 4) k p.digits path.digits_below;
}

-- a place by that of an ancestor
pub record Below (k : ℕ) (p : Path) : Type 0 where
  pub rest : ℕ
  pub is : place_of p ≡ place_of (ancestor k p) * 4 ^ (length p.digits - k) + rest
  pub small : rest < 4 ^ (length p.digits - k)

pub below : (k : ℕ) (p : Path) → IsPath p → k ≤ length p.digits → Below k p
unfolding ancestor
below k p path h =
    let ds = p.digits in
    let long : length (drop k ds) ≡ length ds - k = length-drop k ds in
    record {
      rest = base_four (drop k ds);
      is = ap (λ x. place_of (record { face = p.face; digits = x })) (sym (take-append-drop k ds)) ∙ place_of-more p.face (take k ds) (drop k ds) ∙ ap (λ x. place_of (record { face = p.face; digits = take k ds }) * 4 ^ x + base_four (drop k ds)) long;
      small = subst (λ x. base_four (drop k ds) < 4 ^ x) long (base_four_below (drop k ds) (All-drop (λ d. d < 4) k ds path.digits_below));
    }

pub place_of-ancestor : (k : ℕ) (p : Path) → IsPath p → k ≤ length p.digits
    → place_of (ancestor k p) ≡ place_of p / 4 ^ (length p.digits - k)
place_of-ancestor k p path h =
    let b = below k p path h in
    sym (ap (λ x. x / 4 ^ (length p.digits - k)) b.is ∙ div-mul-add (place_of (ancestor k p)) (4 ^ (length p.digits - k)) b.rest b.small)

pub ancestor-ancestor : (j k : ℕ) (p : Path) → j ≤ k → ancestor j (ancestor k p) ≡ ancestor j p
unfolding ancestor
ancestor-ancestor j k p h = ap (λ x. let q : Path = record { face = p.face; digits = x } in q) (take-take j k p.digits h)

pub ancestor_itself : (p : Path) → ancestor (length p.digits) p ≡ p
unfolding ancestor
ancestor_itself p = ap (λ x. let q : Path = record { face = p.face; digits = x } in q) (take_all (length p.digits) p.digits (omega arith))

-- ---- a cell within another, by places

pub record IsBelow (p q : Path) : Type 0 where
  pub level : length q.digits ≤ length p.digits
  pub from : place_of q * 4 ^ (length p.digits - length q.digits) ≤ place_of p
  pub to : place_of p < place_of q * 4 ^ (length p.digits - length q.digits) + 4 ^ (length p.digits - length q.digits)

shorter : (p q : Path) → IsWithin p q → length q.digits ≤ length p.digits
unfolding ancestor
shorter p q w = elim (cases_lt (length p.digits) (length q.digits)) [ inl h ↦ let same = ap (λ (x : Path). length x.digits) w in let all = ap length (take_all (length q.digits) p.digits (omega arith)) in omega arith | inr h ↦ h ]

pub below_from_within : (p q : Path) → IsPath p → IsWithin p q → IsBelow p q
below_from_within p q path w =
    let level = shorter p q w in
    let b = below (length q.digits) p path level in
    let place : place_of (ancestor (length q.digits) p) ≡ place_of q = ap place_of w in
    let is = b.is ∙ ap (λ x. x * 4 ^ (length p.digits - length q.digits) + b.rest) place in
    let small = b.small in
    record { level = level; from = omega arith; to = omega arith }

pub within_from_below : (p q : Path) → IsPath p → IsPath q → IsBelow p q → IsWithin p q
within_from_below p q path_p path_q h =
    let k = length q.digits in
    let d = 4 ^ (length p.digits - k) in
    let b = below k p path_p h.level in
    let from = h.from in
    let to = h.to in
    let r = place_of p - place_of q * d in
    let split : place_of (ancestor k p) * d + b.rest ≡ place_of q * d + r = let is = b.is in omega arith in
    let same = same_from_place (place_of (ancestor k p)) b.rest (place_of q) r d b.small (omega arith) split in
    same_place (ancestor k p) q (IsPath-ancestor k p path_p h.level) path_q (length-ancestor k p h.level) same.0
