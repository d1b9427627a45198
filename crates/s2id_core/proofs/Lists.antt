-- Pairs and members of lists.
use Rattle.std.proofs.Common.{◌≡◌, zero, suc, ◌⊎◌, inl, inr, List, [], ◌∷◌, sym, ◌∙◌, refl, arith, AllPairs, Contains, subst}

pub head_pairs : {X : Type 0} (R : X → X → Type 0) (x : X) (xs : List X) → AllPairs R (x ∷ xs) → (y : X) → Contains xs y → R x y
head_pairs R x xs h y c = subst (R x) c.2 (h 0 (suc c.0) y (omega arith) (let l = c.1 in omega arith))

pub tail_pairs : {X : Type 0} (R : X → X → Type 0) (x : X) (xs : List X) → AllPairs R (x ∷ xs) → AllPairs R xs
tail_pairs R x xs h i j d lt within = h (suc i) (suc j) d (omega arith) (omega arith)

pub cons_cases : {X : Type 0} (x : X) (xs : List X) (y : X) → Contains (x ∷ xs) y → (x ≡ y) ⊎ Contains xs y
cons_cases x xs y (zero, h, e) = inl e
cons_cases x xs y (suc k, h, e) = inr (k, omega arith, e)

pub in_tail : {X : Type 0} (x : X) (xs : List X) (y : X) → Contains xs y → Contains (x ∷ xs) y
in_tail x xs y c = (suc c.0, (let h = c.1 in omega arith), c.2)

pub at_head : {X : Type 0} (x : X) (xs : List X) → Contains (x ∷ xs) x
at_head x xs = (0, omega arith, refl)

pub none_in_nil : {X : Type 0} (y : X) → Contains [] y → ⊥
none_in_nil y c = let h = c.1 in omega arith

-- of two members the one is the other, or comes before it, or after it
pub pair_cases : {X : Type 0} (R : X → X → Type 0) (xs : List X) → AllPairs R xs → (a b : X) → Contains xs a → Contains xs b
    → (a ≡ b) ⊎ (R a b ⊎ R b a)
pair_cases R [] h a b ca cb = absurd (none_in_nil a ca)
pair_cases R (x ∷ xs) h a b ca cb =
    elim (cons_cases x xs a ca) [
      | inl e ↦
          elim (cons_cases x xs b cb) [
            | inl f ↦ inl (sym e ∙ f)
            | inr j ↦ inr (inl (subst (λ z. R z b) e (head_pairs R x xs h b j)))
          ]
      | inr i ↦
          elim (cons_cases x xs b cb) [
            | inl f ↦ inr (inr (subst (λ z. R z a) f (head_pairs R x xs h a i)))
            | inr j ↦ pair_cases R xs (tail_pairs R x xs h) a b i j
          ]
    ]
