-- Pairs that chains hold at places, and what tells two such places apart.
use Rattle.std.proofs.Common.{◌≡◌, ◌↔◌, ℕ, zero, suc, ◌<◌, Option, Some, None, [], ◌∷◌, drop, length, refl, sym, ◌∙◌, ap, arith, Contains, subst}
use Rattle.s2id_core.proofs.Lists.{in_tail, at_head, none_in_nil}
use Rattle.s2ix_bag_pairs.specs.Collection.{Collection}
use Rattle.s2ix_bag_pairs.specs.declared.pair.Held.{Held}
use Rattle.s2ix_table_walk.specs.Places.{IsPlace, LeadsTo, from_place}
use Rattle.s2ix_table_spans.specs.Once.{IsHeldAt, KeepsOnce}

after : (k : ℕ) (xs : Collection) (h : Held) → Contains (drop k xs) h → Contains xs h
after zero xs h c = c
after (suc k) [] h c = c
after (suc k) (x ∷ xs) h c = in_tail x xs h (after k xs h c)

pub has_some : (xs : Collection) (h : Held) → Contains xs h → 0 < length xs
has_some [] h c = absurd (none_in_nil h c)
has_some (x ∷ xs) h c = omega arith

first_pair : (xs : Collection) → 0 < length xs → (h : Held) × (xs ≡ h ∷ drop 1 xs)
first_pair [] some = absurd (omega arith)
first_pair (h ∷ hs) some = (h, refl)

-- a pair's place has it, and so has the chain in which it is held there
pub has_own : {P : Type 0} (chain : P → Collection) (start p : P) (h : Held) → IsHeldAt chain start h p → Contains (chain p) h
has_own chain start p h is = subst (λ cs. Contains cs h) (sym is.pair) (at_head h (drop 1 (chain p)))

pub has_start : {P : Type 0} (chain : P → Collection) (start p : P) (h : Held) → IsHeldAt chain start h p → Contains (chain start) h
has_start chain start p h is =
    after is.rest.0 (chain start) h (subst (λ cs. Contains cs h) (sym is.rest.1) (has_own chain start p h is))

-- the chain from a place holds its first pair there
pub held_first : {P : Type 0} (chain : P → Collection) (p : P) (h : Held) → chain p ≡ h ∷ drop 1 (chain p) → IsHeldAt chain p h p
held_first chain p h is = record { pair = is; rest = (0, refl) }

-- two chains that begin with one pair are from one place
pub same_first : {P : Type 0} (chain : P → Collection) (p q : P) (h : Held) → KeepsOnce chain → chain p ≡ h ∷ drop 1 (chain p)
    → chain q ≡ h ∷ drop 1 (chain q) → p ≡ q
same_first chain p q h once one other = once.same p q p q h (held_first chain p h one) (held_first chain q h other)

same_chains : {P : Type 0} (chain : P → Collection) (p q : P) → KeepsOnce chain → IsPlace chain p → chain p ≡ chain q → p ≡ q
same_chains chain p q once some same =
    let first = first_pair (chain p) some in
    same_first chain p q first.0 once first.1 (sym same ∙ first.1 ∙ ap (λ (cs : Collection). first.0 ∷ drop 1 cs) same)

-- two answers are one exactly if they lead to the same
pub same_answers : {P : Type 0} (chain : P → Collection) (a b : Option P) (xs ys : Collection) → KeepsOnce chain → LeadsTo chain a xs
    → LeadsTo chain b ys → (a ≡ b) ↔ (xs ≡ ys)
same_answers {P} chain a b xs ys once one other = (
  λ same. sym one.pairs_are ∙ ap (from_place chain) same ∙ other.pairs_are,
  λ same. back a b one other same,
)
  where
    back : (a b : Option P) → LeadsTo chain a xs → LeadsTo chain b ys → xs ≡ ys → a ≡ b
    back None None one other same = refl
    back None (Some q) one other same =
        let some = other.place q refl in
        let len = ap length (one.pairs_are ∙ same ∙ sym other.pairs_are) in
        absurd (omega arith)
    back (Some p) None one other same =
        let some = one.place p refl in
        let len = ap length (one.pairs_are ∙ same ∙ sym other.pairs_are) in
        absurd (omega arith)
    back (Some p) (Some q) one other same =
        ap (λ (x : P). Some x) (same_chains chain p q once (one.place p refl) (one.pairs_are ∙ same ∙ sym other.pairs_are))
