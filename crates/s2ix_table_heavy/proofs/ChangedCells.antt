-- What holds of all elements of a list, and of all cells that a change makes.
use Rattle.std.proofs.Common.{◌≡◌, ℕ, zero, suc, ◌+◌, ◌<◌, ◌≤◌, inl, inr, List, [], ◌∷◌, take, get_or, length, sym, subst, ⊎_elim, Contains}
use Rattle.std.proofs.lemmas.Bool.{cases_order}
use Rattle.std.proofs.lemmas.List.{take_all, take_more}
use Rattle.std.proofs.lemmas.List.Elements.{Contains-append_cases}
use Rattle.s2id_core.specs.declared.cell_id.CellId.{CellId}
use Rattle.s2id_core.proofs.Lists.{none_in_nil, at_head, in_tail, cons_cases}
use Rattle.s2ix_bag_pairs.specs.Change.{changed}
use Rattle.s2ix_bag_pairs.specs.Collection.{Collection, held_with, set_count}
use Rattle.s2ix_bag_pairs.specs.Pair.{rank_of}
use Rattle.s2ix_bag_pairs.specs.declared.pair.Entry.{Entry}
use Rattle.s2ix_bag_pairs.specs.declared.pair.Held.{Held}
use Rattle.s2ix_bag_pairs.specs.declared.pair.Pair.{Pair}
use Rattle.s2ix_bag_pairs.proofs.Counts.{set_before, set_at, set_after}

-- ---- element by element

-- what holds of the first elements and of the next one
pub all_front : {X : Type 0} (P : X → Type 0) (k : ℕ) (xs : List X) (d : X) → k < length xs → ((x : X) → Contains (take k xs) x → P x)
    → P (get_or xs k d) → (x : X) → Contains (take (k + 1) xs) x → P x
all_front P k xs d within front here x is =
    elim (Contains-append_cases (take k xs) (get_or xs k d ∷ []) x (subst (λ ys. Contains ys x) (take_more xs k d within) is)) [
      | inl early ↦ front x early
      | inr last ↦
          elim (cons_cases (get_or xs k d) [] x last) [
            | inl e ↦ subst P e here
            | inr none ↦ absurd (none_in_nil x none)
          ]
    ]

-- what holds of all first elements holds of all
pub all_of_them : {X : Type 0} (P : X → Type 0) (k : ℕ) (xs : List X) → length xs ≤ k → ((x : X) → Contains (take k xs) x → P x) → (x : X)
    → Contains xs x → P x
all_of_them P k xs long front x is = front x (subst (λ ys. Contains ys x) (sym (take_all k xs long)) is)

-- ---- what a change makes of cells

with_cells : (P : CellId → Type 0) (p : Pair) (c : ℕ) (hs : Collection) → ((h : Held) → Contains hs h → P h.pair.cell) → P p.cell → (h : Held)
    → Contains (held_with p c hs) h → P h.pair.cell
with_cells P p zero hs old new h is = old h is
with_cells P p (suc c) hs old new h is =
    elim (cons_cases (record { pair = p; count = suc c }) hs h is) [
      | inl e ↦ subst (λ (x : Held). P x.pair.cell) e new
      | inr rest ↦ old h rest
    ]

set_cells : (P : CellId → Type 0) (p : Pair) (c : ℕ) (hs : Collection) → ((h : Held) → Contains hs h → P h.pair.cell) → P p.cell → (h : Held)
    → Contains (set_count p c hs) h → P h.pair.cell
set_cells P p c [] old new h is = with_cells P p c [] old new h is
set_cells P p c (k ∷ ks) old new h is =
    let Held_in : Collection → Type 0 = λ xs. Contains xs h in
    let later : (x : Held) → Contains ks x → P x.pair.cell = λ x i. old x (in_tail k ks x i) in
    ⊎_elim
    (λ same. with_cells P p c ks later new h (subst Held_in (set_at p c k ks same) is))
    (λ order. ⊎_elim
    (λ before. with_cells P p c (k ∷ ks) old new h (subst Held_in (set_before p c k ks before) is))
    (λ past. ⊎_elim
    (λ (e : k ≡ h). subst (λ (x : Held). P x.pair.cell) e (old k (at_head k ks)))
    (λ rest. set_cells P p c ks later new h rest)
    (cons_cases k (set_count p c ks) h (subst Held_in (set_after p c k ks past) is)))
    order)
    (cases_order (rank_of p) (rank_of k.pair))

-- what holds of all held cells and of those of the entries holds of all cells afterwards
pub changed_cells : (P : CellId → Type 0) (hs : Collection) (es : List Entry) → ((h : Held) → Contains hs h → P h.pair.cell)
    → ((e : Entry) → Contains es e → P e.pair.cell) → (h : Held) → Contains (changed hs es) h → P h.pair.cell
changed_cells P hs [] old new h is = old h is
changed_cells P hs (e ∷ es) old new h is =
    changed_cells P (set_count e.pair e.after hs) es (set_cells P e.pair e.after hs old (new e (at_head e es))) (λ x i. new x (in_tail e es x i)) h is
