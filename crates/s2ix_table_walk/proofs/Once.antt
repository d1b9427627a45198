-- Lists that rise by a number, each number once.
use Rattle.std.proofs.Common.{◌≡◌, ℕ, zero, suc, ◌<◌, ◌⊎◌, inl, inr, true, false, cond, ltb, List, [], ◌∷◌, ◌∙◌, ap, arith, refl, Contains, AllPairs}
use Rattle.std.proofs.lemmas.Bool.{ltb-true, ltb-false}
use Rattle.std.proofs.lemmas.List.Elements.{Contains-get_or}
use Rattle.s2id_core.proofs.Lists.{cons_cases, in_tail, none_in_nil}
use Rattle.s2ix_table_walk.specs.Once.{put_once}

abbrev pub RisesOnce : {X : Type 0} → (X → ℕ) → List X → Type 0
RisesOnce key [] = Unit {0}
RisesOnce {X} key (x ∷ xs) = ((y : X) → Contains xs y → key x < key y) × RisesOnce key xs

pub in_put : {X : Type 0} (key : X → ℕ) (x : X) (xs : List X) (z : X) → Contains (put_once key x xs) z → (x ≡ z) ⊎ Contains xs z
unfolding put_once
in_put key x [] z c = cons_cases x [] z c
in_put key x (y ∷ ys) z c =
    elim (ltb (key x) (key y)) as (λ b.
    Contains (cond b (x ∷ y ∷ ys) (cond (ltb (key y) (key x)) (y ∷ put_once key x ys) (y ∷ ys))) z → (x ≡ z) ⊎ Contains (y ∷ ys) z) [
      | true ↦ λ t. cons_cases x (y ∷ ys) z t
      | false ↦
          elim (ltb (key y) (key x)) as (λ b. Contains (cond b (y ∷ put_once key x ys) (y ∷ ys)) z → (x ≡ z) ⊎ Contains (y ∷ ys) z) [
            | true ↦
                λ t.
                elim (cons_cases y (put_once key x ys) z t) [
                  | inl e ↦ inr (0, omega arith, e)
                  | inr u ↦ elim (in_put key x ys z u) [ inl e ↦ inl e | inr v ↦ inr (in_tail y ys z v) ]
                ]
            | false ↦ λ t. inr t
          ]
    ] c

-- if only one element has a key, nothing is left out
pub put_has : {X : Type 0} (key : X → ℕ) → ((a b : X) → key a ≡ key b → a ≡ b) → (x : X) (xs : List X) (z : X) → (x ≡ z) ⊎ Contains xs z
    → Contains (put_once key x xs) z
unfolding put_once
put_has key one x [] z (inl e) = (0, omega arith, e)
put_has key one x [] z (inr c) = absurd (none_in_nil z c)
put_has key one x (y ∷ ys) z h =
    elim (ltb (key x) (key y)) as (λ b.
    (ltb (key x) (key y) ≡ b) → Contains (cond b (x ∷ y ∷ ys) (cond (ltb (key y) (key x)) (y ∷ put_once key x ys) (y ∷ ys))) z) [
      | true ↦ λ _. elim h [ inl e ↦ (0, omega arith, e) | inr c ↦ in_tail x (y ∷ ys) z c ]
      | false ↦
          λ f.
          elim (ltb (key y) (key x)) as (λ b. (ltb (key y) (key x) ≡ b) → Contains (cond b (y ∷ put_once key x ys) (y ∷ ys)) z) [
            | true ↦
                λ _.
                elim h [
                  | inl e ↦ in_tail y (put_once key x ys) z (put_has key one x ys z (inl e))
                  | inr c ↦
                      elim (cons_cases y ys z c) [
                        | inl e ↦ (0, omega arith, e)
                        | inr t ↦ in_tail y (put_once key x ys) z (put_has key one x ys z (inr t))
                      ]
                ]
            | false ↦
                λ g.
                elim h [
                  | inl e ↦
                      (let le = ltb-false (key x) (key y) f in
                      let ge = ltb-false (key y) (key x) g in
                      (0, omega arith, one y x (omega arith) ∙ e))
                  | inr c ↦ c
                ]
          ] refl
    ] refl

pub rises_put : {X : Type 0} (key : X → ℕ) (x : X) (xs : List X) → RisesOnce key xs → RisesOnce key (put_once key x xs)
unfolding put_once
rises_put key x [] r = (λ y c. absurd (none_in_nil y c), tt)
rises_put key x (y ∷ ys) r =
    elim (ltb (key x) (key y)) as (λ b.
    (ltb (key x) (key y) ≡ b) → RisesOnce key (cond b (x ∷ y ∷ ys) (cond (ltb (key y) (key x)) (y ∷ put_once key x ys) (y ∷ ys)))) [
      | true ↦
          λ e.
          let lt = ltb-true (key x) (key y) e in (
            λ z c. elim (cons_cases y ys z c) [
              | inl f ↦ let same = ap key f in omega arith
              | inr t ↦ let less = r.0 z t in omega arith
            ],
            r,
          )
      | false ↦
          λ _.
          elim (ltb (key y) (key x)) as (λ b. (ltb (key y) (key x) ≡ b) → RisesOnce key (cond b (y ∷ put_once key x ys) (y ∷ ys))) [
            | true ↦
                λ e.
                let lt = ltb-true (key y) (key x) e in (
                  λ z c. elim (in_put key x ys z c) [
                    | inl f ↦ let same = ap key f in omega arith
                    | inr t ↦ r.0 z t
                  ],
                  rises_put key x ys r.1,
                )
            | false ↦ λ _. r
          ] refl
    ] refl

pub rising_pairs : {X : Type 0} (key : X → ℕ) (xs : List X) → RisesOnce key xs → AllPairs (λ a b. key a < key b) xs
rising_pairs key [] r i j d lt within = absurd (omega arith)
rising_pairs key (x ∷ xs) r zero zero d lt within = absurd (omega arith)
rising_pairs key (x ∷ xs) r zero (suc j) d lt within = r.0 _ (Contains-get_or xs j d (omega arith))
rising_pairs key (x ∷ xs) r (suc i) zero d lt within = absurd (omega arith)
rising_pairs key (x ∷ xs) r (suc i) (suc j) d lt within = rising_pairs key xs r.1 i j d (omega arith) (omega arith)
