-- Counts of the elements that pass a test.
use Rattle.std.proofs.Common.{◌≡◌, ℕ, zero, suc, ◌+◌, ◌<◌, ◌≤◌, Bool, true, false, true≢false, cond, inl, inr, List, [], ◌∷◌, length, get_or, refl, sym, ◌∙◌, ap, arith, Contains, count_by}
use Rattle.std.proofs.lemmas.List.Sums.{sum_by-cons}
use Rattle.s2id_core.proofs.Lists.{cons_cases, none_in_nil}

pub count_cons : {X : Type 0} (p : X → Bool) (x : X) (xs : List X) → count_by p (x ∷ xs) ≡ cond (p x) 1 0 + count_by p xs
count_cons p x xs = sum_by-cons (λ y. cond (p y) 1 0) x xs

one_grows : (a b : Bool) → (a ≡ true → b ≡ true) → cond a 1 0 ≤ cond b 1 0
one_grows false false h = omega arith
one_grows false true h = omega arith
one_grows true true h = omega arith
one_grows true false h = absurd (true≢false (sym (h refl)))

one_at_most : (a : Bool) → cond a 1 0 ≤ 1
one_at_most false = omega arith
one_at_most true = omega arith

pub none_at : (a : Bool) → (a ≡ true → ⊥) → cond a 1 0 ≤ 0
none_at false h = omega arith
none_at true h = absurd (h refl)

-- a test that is weaker at each place counts no fewer
grows_at : {X : Type 0} (d : X) (p q : X → Bool) (xs : List X)
    → ((j : ℕ) → j < length xs → p (get_or xs j d) ≡ true → q (get_or xs j d) ≡ true) → count_by p xs ≤ count_by q xs
grows_at d p q [] h = omega arith
grows_at d p q (x ∷ xs) h =
    omega (
      arith,
      count_cons p x xs,
      count_cons q x xs,
      one_grows (p x) (q x) (h 0 (omega arith)),
      grows_at d p q xs (λ j lt. h (suc j) (omega arith)),
    )

-- a weaker test counts no fewer
pub count_grows : {X : Type 0} (p q : X → Bool) (xs : List X) → ((x : X) → p x ≡ true → q x ≡ true) → count_by p xs ≤ count_by q xs
count_grows p q [] h = omega arith
count_grows p q (x ∷ xs) h = grows_at x p q (x ∷ xs) (λ j lt. h (get_or (x ∷ xs) j x))

-- and one more at most if it is weaker at one place alone
pub count_grows_once : {X : Type 0} (d : X) (p q : X → Bool) (xs : List X) (k : ℕ)
    → ((j : ℕ) → j < length xs → (j ≡ k → ⊥) → p (get_or xs j d) ≡ true → q (get_or xs j d) ≡ true) → count_by p xs ≤ count_by q xs + 1
count_grows_once d p q [] k h = omega arith
count_grows_once d p q (x ∷ xs) zero h =
    omega (
      arith,
      count_cons p x xs,
      count_cons q x xs,
      one_at_most (p x),
      grows_at d p q xs (λ j lt. h (suc j) (omega arith) (λ e. absurd (omega arith))),
    )
count_grows_once d p q (x ∷ xs) (suc k) h =
    omega (
      arith,
      count_cons p x xs,
      count_cons q x xs,
      one_grows (p x) (q x) (h 0 (omega arith) (λ e. absurd (omega arith))),
      count_grows_once d p q xs k (λ j lt other. h (suc j) (omega arith) (λ e. other (omega arith))),
    )

-- nothing is counted if nothing passes
pub count_none : {X : Type 0} (d : X) (p : X → Bool) (xs : List X) → ((j : ℕ) → j < length xs → p (get_or xs j d) ≡ true → ⊥)
    → count_by p xs ≡ 0
count_none d p [] h = refl
count_none d p (x ∷ xs) h =
    omega (arith, count_cons p x xs, none_at (p x) (h 0 (omega arith)), count_none d p xs (λ j lt. h (suc j) (omega arith)))

-- and more if an element passes it alone
pub count_gains : {X : Type 0} (p q : X → Bool) (xs : List X) (x : X) → ((y : X) → p y ≡ true → q y ≡ true) → Contains xs x → p x ≡ false
    → q x ≡ true → count_by p xs + 1 ≤ count_by q xs
count_gains p q [] x h c off on = absurd (none_in_nil x c)
count_gains {X} p q (y ∷ ys) x h c off on =
    elim (cons_cases y ys x c) [
      | inl e ↦
          (let One : Bool → ℕ = λ b. cond b 1 0 in
          let a = ap One (ap p e ∙ off) in
          let b = ap One (ap q e ∙ on) in
          omega (arith, count_cons p y ys, count_cons q y ys, a, b, count_grows p q ys h))
      | inr t ↦
          omega (arith, count_cons p y ys, count_cons q y ys, one_grows (p y) (q y) (h y), count_gains p q ys x h t off on)
    ]
