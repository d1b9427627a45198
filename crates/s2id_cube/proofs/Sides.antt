-- A shared side by the points of the cube is a shared middle in whole numbers.
use Rattle.std.proofs.Common.{◌≡◌, ℕ, zero, suc, ◌+◌, ◌-◌, ◌*◌, ◌/◌, ◌^◌, ◌<◌, ◌≤◌, ◌⊎◌, inl, inr, sym, ◌∙◌, ap, ap₂, refl, arith, subst, ℤ, pos, ◌-ℤ◌, neg_ℤ}
use Rattle.std.proofs.lemmas.Int.{ints}
use Rattle.std.proofs.Math.Nat.{mul-div_cancel}
use Rattle.std.proofs.lemmas.Nat.{pow-add, pow_pos}
use Rattle.s2id_cube.specs.Loops.{IsSquare}
use Rattle.s2id_cube.specs.declared.face_ij.FaceIj.{FaceIj}
use Rattle.s2id_cube.specs.Point.{Point, point_of}
use Rattle.s2id_cube.specs.Edge.{corner, side_start, side_end, AreOneSide}
use Rattle.s2id_cube.specs.Grid.{Spot, spot, mid_u, mid_v, middle}
use Rattle.s2id_cube.proofs.Cases.{four, six}
use Rattle.s2id_cube.proofs.Grid.{AreOneSpot, spot_is}

-- a coordinate in squares of width w, counted from the cube's lowest corner
abbrev place : ℕ → ℕ → ℤ
place w x = pos (2 * (x * w)) -ℤ pos (2 ^ 30)

unfoldable real : ℕ → Spot → Point
real w s = record { x = place w s.x; y = place w s.y; z = place w s.z }

pub point_is : {s t : Point} → s.x ≡ t.x → s.y ≡ t.y → s.z ≡ t.z → s ≡ t
point_is p q r = λ k. record { x = p k; y = q k; z = r k }

high : (n w : ℕ) → n * w ≡ 2 ^ 30 → pos (2 ^ 30) ≡ pos (2 * (n * w)) -ℤ pos (2 ^ 30)
high n w e = high_by (n * w) e
  where
    high_by : (m : ℕ) → m ≡ 2 ^ 30 → pos (2 ^ 30) ≡ pos (2 * m) -ℤ pos (2 ^ 30)
    high_by m e = omega (arith, ints)

low : (w : ℕ) → neg_ℤ (pos (2 ^ 30)) ≡ pos (2 * (0 * w)) -ℤ pos (2 ^ 30)
low w = low_by (0 * w) (omega arith)
  where
    low_by : (m : ℕ) → m ≡ 0 → neg_ℤ (pos (2 ^ 30)) ≡ pos (2 * m) -ℤ pos (2 ^ 30)
    low_by m e = omega (arith, ints)

opposite : (n w u : ℕ) → n * w ≡ 2 ^ 30 → u ≤ n → neg_ℤ (pos (2 * (u * w)) -ℤ pos (2 ^ 30)) ≡ pos (2 * ((n - u) * w)) -ℤ pos (2 ^ 30)
opposite n w u e h = by (u * w) ((n - u) * w) (split (n - u) u w ∙ ap (λ x. x * w) (let s : n - u + u ≡ n = omega arith in s) ∙ e)
  where
    split : (a b w : ℕ) → a * w + b * w ≡ (a + b) * w
    split a b w = omega arith

    by : (a b : ℕ) → b + a ≡ 2 ^ 30 → neg_ℤ (pos (2 * a) -ℤ pos (2 ^ 30)) ≡ pos (2 * b) -ℤ pos (2 ^ 30)
    by a b e = omega (arith, ints)

real_point : (n w u v : ℕ) → n * w ≡ 2 ^ 30 → u ≤ n → v ≤ n → (f : ℕ) → f < 6 → point_of f (u * w) (v * w) ≡ real w (spot n f u v)
unfolding point_of real spot
real_point n w u v e hu hv f hf =
    six (λ f. point_of f (u * w) (v * w) ≡ real w (spot n f u v)) (
      point_is (high n w e) refl refl,
      point_is (opposite n w u e hu) (high n w e) refl,
      point_is (opposite n w u e hu) (opposite n w v e hv) (high n w e),
      point_is (low w) (opposite n w v e hv) (opposite n w u e hu),
      point_is refl (low w) (opposite n w u e hu),
      point_is refl refl (low w),
    )
    f hf

same_place : (w a b : ℕ) → 0 < w → place w a ≡ place w b → a ≡ b
same_place w a b pos_w e = sym (mul-div_cancel a {n = w} pos_w) ∙ ap (λ x. x / w) (by (a * w) (b * w) e) ∙ mul-div_cancel b {n = w} pos_w
  where
    by : (x y : ℕ) → pos (2 * x) -ℤ pos (2 ^ 30) ≡ pos (2 * y) -ℤ pos (2 ^ 30) → x ≡ y
    by x y e = omega (arith, ints)

one_real : (w : ℕ) (s t : Spot) → 0 < w → real w s ≡ real w t → s ≡ t
unfolding real
one_real w s t h e =
    spot_is (same_place w s.x t.x h (ap (λ (p : Point). p.x) e), same_place w s.y t.y h (ap (λ (p : Point). p.y) e), same_place w s.z t.z h (ap (λ (p : Point). p.z) e))

-- ---- the ends of a side

unfoldable start_u : ℕ → ℕ → ℕ
start_u zero i = i
start_u (suc zero) i = i + 1
start_u (suc (suc zero)) i = i
start_u (suc (suc (suc m))) i = i

unfoldable start_v : ℕ → ℕ → ℕ
start_v zero j = j
start_v (suc zero) j = j
start_v (suc (suc zero)) j = j + 1
start_v (suc (suc (suc m))) j = j

unfoldable end_u : ℕ → ℕ → ℕ
end_u zero i = i + 1
end_u (suc zero) i = i + 1
end_u (suc (suc zero)) i = i + 1
end_u (suc (suc (suc m))) i = i

unfoldable end_v : ℕ → ℕ → ℕ
end_v zero j = j
end_v (suc zero) j = j + 1
end_v (suc (suc zero)) j = j + 1
end_v (suc (suc (suc m))) j = j + 1

record Ends (m i j n : ℕ) : Type 0 where
  su : start_u m i ≤ n
  sv : start_v m j ≤ n
  eu : end_u m i ≤ n
  ev : end_v m j ≤ n
  mu : mid_u m i ≡ start_u m i + end_u m i
  mv : mid_v m j ≡ start_v m j + end_v m j

ends : (i j n : ℕ) → i < n → j < n → (m : ℕ) → m < 4 → Ends m i j n
unfolding start_u start_v end_u end_v mid_u mid_v
ends i j n hi hj m hm =
    four (λ m. Ends m i j n) (omega arith) m hm

start_corner : (s : FaceIj) (m : ℕ) → m < 4 → side_start m s ≡ corner s (start_u m s.i) (start_v m s.j)
unfolding side_start start_u start_v
start_corner s m h = four (λ m. side_start m s ≡ corner s (start_u m s.i) (start_v m s.j)) (refl, refl, refl, refl) m h

end_corner : (s : FaceIj) (m : ℕ) → m < 4 → side_end m s ≡ corner s (end_u m s.i) (end_v m s.j)
unfolding side_end end_u end_v
end_corner s m h = four (λ m. side_end m s ≡ corner s (end_u m s.i) (end_v m s.j)) (refl, refl, refl, refl) m h

two_split : (k : ℕ) → k ≤ 30 → 2 ^ k * 2 ^ (30 - k) ≡ 2 ^ 30
two_split k h = sym (pow-add 2 k (30 - k)) ∙ ap (λ x. 2 ^ x) (let e : k + (30 - k) ≡ 30 = omega arith in e)

real_corner : (k : ℕ) (s : FaceIj) → k ≤ 30 → IsSquare k s → (u v : ℕ) → u ≤ 2 ^ k → v ≤ 2 ^ k
    → corner s u v ≡ real (2 ^ (30 - k)) (spot (2 ^ k) s.face u v)
unfolding corner
real_corner k s h is u v hu hv =
    ap (λ x. point_of s.face (u * 2 ^ (30 - x)) (v * 2 ^ (30 - x))) is.level ∙ real_point (2 ^ k) (2 ^ (30 - k)) u v (two_split k h) hu hv s.face is.face

abbrev start_spot : ℕ → ℕ → FaceIj → Spot
start_spot k m s = spot (2 ^ k) s.face (start_u m s.i) (start_v m s.j)

abbrev end_spot : ℕ → ℕ → FaceIj → Spot
end_spot k m s = spot (2 ^ k) s.face (end_u m s.i) (end_v m s.j)

start_real : (k : ℕ) (s : FaceIj) → k ≤ 30 → IsSquare k s → (m : ℕ) → m < 4 → side_start m s ≡ real (2 ^ (30 - k)) (start_spot k m s)
start_real k s h is m hm = let e = ends s.i s.j (2 ^ k) is.i is.j m hm in start_corner s m hm ∙ real_corner k s h is (start_u m s.i) (start_v m s.j) e.su e.sv

end_real : (k : ℕ) (s : FaceIj) → k ≤ 30 → IsSquare k s → (m : ℕ) → m < 4 → side_end m s ≡ real (2 ^ (30 - k)) (end_spot k m s)
end_real k s h is m hm = let e = ends s.i s.j (2 ^ k) is.i is.j m hm in end_corner s m hm ∙ real_corner k s h is (end_u m s.i) (end_v m s.j) e.eu e.ev

-- ---- the middle of a side is the sum of its ends

unfoldable plus : Spot → Spot → Spot
plus s t = record { x = s.x + t.x; y = s.y + t.y; z = s.z + t.z }

plus_turned : (s t : Spot) → plus s t ≡ plus t s
unfolding plus
plus_turned s t = spot_is (omega arith)

middle_sum : (n a b c d : ℕ) → a ≤ n → b ≤ n → c ≤ n → d ≤ n → (f : ℕ) → f < 6
    → spot (2 * n) f (a + c) (b + d) ≡ plus (spot n f a b) (spot n f c d)
unfolding spot plus
middle_sum n a b c d ha hb hc hd f hf =
    spot_is (six (λ f. AreOneSpot (spot (2 * n) f (a + c) (b + d)) (plus (spot n f a b) (spot n f c d))) (omega arith) f hf)

middle_of_side : (k : ℕ) (s : FaceIj) → IsSquare k s → (m : ℕ) → m < 4
    → middle (2 ^ k) m s.face s.i s.j ≡ plus (start_spot k m s) (end_spot k m s)
unfolding middle
middle_of_side k s is m hm =
    let e = ends s.i s.j (2 ^ k) is.i is.j m hm in
    ap₂ (spot (2 * 2 ^ k) s.face) e.mu e.mv ∙ middle_sum (2 ^ k) (start_u m s.i) (start_v m s.j) (end_u m s.i) (end_v m s.j) e.su e.sv e.eu e.ev s.face is.face

pub middle_from_side : (k : ℕ) (s t : FaceIj) → k ≤ 30 → IsSquare k s → IsSquare k t → (m o : ℕ) → m < 4 → o < 4
    → AreOneSide (side_start m s) (side_end m s) (side_start o t) (side_end o t)
    → middle (2 ^ k) m s.face s.i s.j ≡ middle (2 ^ k) o t.face t.i t.j
middle_from_side k s t h is it m o hm ho one =
    let w = 2 ^ (30 - k) in
    let pos_w = pow_pos (30 - k) in
    let a = start_real k s h is m hm in
    let b = end_real k s h is m hm in
    let c = start_real k t h it o ho in
    let d = end_real k t h it o ho in
    middle_of_side k s is m hm ∙ elim one [
      | inl e ↦ ap₂ plus (one_real w (start_spot k m s) (start_spot k o t) pos_w (sym a ∙ e.0 ∙ c)) (one_real w (end_spot k m s) (end_spot k o t) pos_w (sym b ∙ e.1 ∙ d))
      | inr e ↦ ap₂ plus (one_real w (start_spot k m s) (end_spot k o t) pos_w (sym a ∙ e.0 ∙ d)) (one_real w (end_spot k m s) (start_spot k o t) pos_w (sym b ∙ e.1 ∙ c)) ∙ plus_turned (end_spot k o t) (start_spot k o t)
    ] ∙ sym (middle_of_side k t it o ho)

-- ---- and the middle tells the ends

unfoldable lower : Spot → Spot
lower s = record { x = s.x / 2; y = s.y / 2; z = s.z / 2 }

unfoldable upper : Spot → Spot
upper s = record { x = (s.x + 1) / 2; y = (s.y + 1) / 2; z = (s.z + 1) / 2 }

abbrev AreEnds : Spot → Spot → Spot → Type 0
AreEnds s t p = ((s ≡ lower p) × (t ≡ upper p)) ⊎ ((s ≡ upper p) × (t ≡ lower p))

ends_in_u : (n a b : ℕ) → a + 1 ≤ n → b ≤ n → (f : ℕ) → f < 6
    → AreEnds (spot n f a b) (spot n f (a + 1) b) (spot (2 * n) f (a + (a + 1)) (b + b))
unfolding spot lower upper
ends_in_u n a b ha hb f hf =
    six (λ f. AreEnds (spot n f a b) (spot n f (a + 1) b) (spot (2 * n) f (a + (a + 1)) (b + b))) (
      inl (spot_is (omega arith), spot_is (omega arith)),
      inr (spot_is (omega arith), spot_is (omega arith)),
      inr (spot_is (omega arith), spot_is (omega arith)),
      inr (spot_is (omega arith), spot_is (omega arith)),
      inr (spot_is (omega arith), spot_is (omega arith)),
      inl (spot_is (omega arith), spot_is (omega arith)),
    )
    f hf

ends_in_v : (n a b : ℕ) → a ≤ n → b + 1 ≤ n → (f : ℕ) → f < 6
    → AreEnds (spot n f a b) (spot n f a (b + 1)) (spot (2 * n) f (a + a) (b + (b + 1)))
unfolding spot lower upper
ends_in_v n a b ha hb f hf =
    six (λ f. AreEnds (spot n f a b) (spot n f a (b + 1)) (spot (2 * n) f (a + a) (b + (b + 1)))) (
      inl (spot_is (omega arith), spot_is (omega arith)),
      inl (spot_is (omega arith), spot_is (omega arith)),
      inr (spot_is (omega arith), spot_is (omega arith)),
      inr (spot_is (omega arith), spot_is (omega arith)),
      inl (spot_is (omega arith), spot_is (omega arith)),
      inl (spot_is (omega arith), spot_is (omega arith)),
    )
    f hf

unfoldable sum_spot : ℕ → ℕ → FaceIj → Spot
sum_spot k m s = spot (2 * 2 ^ k) s.face (start_u m s.i + end_u m s.i) (start_v m s.j + end_v m s.j)

to_sum : (k : ℕ) (s : FaceIj) → IsSquare k s → (m : ℕ) → m < 4 → middle (2 ^ k) m s.face s.i s.j ≡ sum_spot k m s
unfolding middle sum_spot
to_sum k s is m hm = let e = ends s.i s.j (2 ^ k) is.i is.j m hm in ap₂ (spot (2 * 2 ^ k) s.face) e.mu e.mv

ends_of_sum : (k : ℕ) (s : FaceIj) → IsSquare k s → (m : ℕ) → m < 4 → AreEnds (start_spot k m s) (end_spot k m s) (sum_spot k m s)
unfolding sum_spot start_u start_v end_u end_v
ends_of_sum k s is =
    let a = is.i in
    let b = is.j in
    four (λ m. AreEnds (start_spot k m s) (end_spot k m s) (sum_spot k m s)) (
      ends_in_u (2 ^ k) s.i s.j (omega arith) (omega arith) s.face is.face,
      ends_in_v (2 ^ k) (s.i + 1) s.j (omega arith) (omega arith) s.face is.face,
      ends_in_u (2 ^ k) s.i (s.j + 1) (omega arith) (omega arith) s.face is.face,
      ends_in_v (2 ^ k) s.i s.j (omega arith) (omega arith) s.face is.face,
    )

ends_of_side : (k : ℕ) (s : FaceIj) → IsSquare k s → (m : ℕ) → m < 4
    → AreEnds (start_spot k m s) (end_spot k m s) (middle (2 ^ k) m s.face s.i s.j)
ends_of_side k s is m hm = subst (λ p. AreEnds (start_spot k m s) (end_spot k m s) p) (sym (to_sum k s is m hm)) (ends_of_sum k s is m hm)

pub side_from_middle : (k : ℕ) (s t : FaceIj) → k ≤ 30 → IsSquare k s → IsSquare k t → (m o : ℕ) → m < 4 → o < 4
    → middle (2 ^ k) m s.face s.i s.j ≡ middle (2 ^ k) o t.face t.i t.j
    → AreOneSide (side_start m s) (side_end m s) (side_start o t) (side_end o t)
side_from_middle k s t h is it m o hm ho e =
    let r = real (2 ^ (30 - k)) in
    let a = start_real k s h is m hm in
    let b = end_real k s h is m hm in
    let c = start_real k t h it o ho in
    let d = end_real k t h it o ho in
    let p = subst (λ x. AreEnds (start_spot k m s) (end_spot k m s) x) e (ends_of_side k s is m hm) in
    elim p [
      | inl x ↦ elim (ends_of_side k t it o ho) [
        | inl y ↦ inl (a ∙ ap r (x.0 ∙ sym y.0) ∙ sym c, b ∙ ap r (x.1 ∙ sym y.1) ∙ sym d)
        | inr y ↦ inr (a ∙ ap r (x.0 ∙ sym y.1) ∙ sym d, b ∙ ap r (x.1 ∙ sym y.0) ∙ sym c)
      ]
      | inr x ↦ elim (ends_of_side k t it o ho) [
        | inl y ↦ inr (a ∙ ap r (x.0 ∙ sym y.1) ∙ sym d, b ∙ ap r (x.1 ∙ sym y.0) ∙ sym c)
        | inr y ↦ inl (a ∙ ap r (x.0 ∙ sym y.0) ∙ sym c, b ∙ ap r (x.1 ∙ sym y.1) ∙ sym d)
      ]
    ]
