-- What a collection holds with one label.
use Rattle.std.proofs.Common.{◌≡◌, ℕ, ◌+◌, ◌*◌, ◌<◌, ◌≤◌, [], ◌∷◌, refl, sym, ap, ◌∙◌, subst, ⊎_elim, arith, eq-eqb, ne_eqb, All, AllPairs}
use Rattle.std.specs.Prelude.{◌==◌, if◌then◌else◌}
use Rattle.std.proofs.lemmas.Bool.{cases_eq, cond-true, cond-false}
use Rattle.std.proofs.lemmas.List.Elements.{All-nil, All-cons}
use Rattle.std.proofs.lemmas.List.Kept.{AllPairs-cons}
use Rattle.s2id_core.specs.CellId.{raw_of}
use Rattle.s2ix_bag_pairs.specs.Collection.{Collection, IsCollectionFrom, count_at, count_in}
use Rattle.s2ix_bag_pairs.specs.Label.{value_of}
use Rattle.s2ix_bag_pairs.specs.OfLabel.{held_of}
use Rattle.s2ix_bag_pairs.specs.Pair.{rank_of}
use Rattle.s2ix_bag_pairs.specs.declared.label.Label.{Label}
use Rattle.s2ix_bag_pairs.specs.declared.pair.Pair.{Pair}
use Rattle.s2ix_bag_pairs.specs.declared.pair.Held.{Held}
use Rattle.s2ix_bag_pairs.proofs.Counts.{count_head, count_tail, from_lower}
use Rattle.s2ix_bag_pairs.proofs.Pairs.{same_pair}

-- ---- one held pair before a collection

pub held_of_head : (label : Label) (h : Held) (hs : Collection) → value_of h.pair.label ≡ value_of label
    → held_of label (h ∷ hs) ≡ h ∷ held_of label hs
held_of_head label h hs e = cond-true _ _ _ (eq-eqb _ _ e)

pub held_of_tail : (label : Label) (h : Held) (hs : Collection) → (value_of h.pair.label ≡ value_of label → ⊥)
    → held_of label (h ∷ hs) ≡ held_of label hs
held_of_tail label h hs ne = cond-false _ _ _ (ne_eqb _ _ ne)

-- ---- it is a collection

pub of_label_from : (n : ℕ) (label : Label) (hs : Collection) → IsCollectionFrom n hs → IsCollectionFrom n (held_of label hs)
of_label_from n label [] c = tt
of_label_from n label (h ∷ hs) c =
    let Rises : Collection → Type 0 = λ x. IsCollectionFrom n x in
    let rest = of_label_from (rank_of h.pair + 1) label hs c.2 in
    ⊎_elim
    (λ e. subst Rises (sym (held_of_head label h hs e)) (c.0, c.1, rest))
    (λ ne. subst Rises (sym (held_of_tail label h hs ne)) (from_lower n (rank_of h.pair + 1) (held_of label hs) (omega (arith, c.0)) rest))
    (cases_eq (value_of h.pair.label) (value_of label))

-- ---- its counts

-- pairs of one rank have one label
pub same_label_at : (p q : Pair) → rank_of p ≡ rank_of q → value_of p.label ≡ value_of q.label
same_label_at p q e = ap (λ (r : Pair). value_of r.label) (same_pair p q e)

-- a pair with the label has the count that it has in all
pub count_of_own : (label : Label) (hs : Collection) (p : Pair) → value_of p.label ≡ value_of label
    → count_in (held_of label hs) p ≡ count_in hs p
count_of_own label [] p own = refl
count_of_own label (h ∷ hs) p own =
    let k = rank_of p in
    let rest = count_of_own label hs p own in
    ⊎_elim
    (λ e. ap (λ x. count_at x k) (held_of_head label h hs e)
    ∙ ⊎_elim
    (λ r. count_head h (held_of label hs) k r ∙ sym (count_head h hs k r))
    (λ no. count_tail h (held_of label hs) k no ∙ rest ∙ sym (count_tail h hs k no))
    (cases_eq (rank_of h.pair) k))
    (λ ne. ap (λ x. count_at x k) (held_of_tail label h hs ne) ∙ rest ∙ sym (count_tail h hs k (λ r. ne (same_label_at h.pair p r ∙ own))))
    (cases_eq (value_of h.pair.label) (value_of label))

-- and a pair with another label is not held
pub count_of_other : (label : Label) (hs : Collection) (p : Pair) → (value_of p.label ≡ value_of label → ⊥)
    → count_in (held_of label hs) p ≡ 0
count_of_other label [] p other = refl
count_of_other label (h ∷ hs) p other =
    let k = rank_of p in
    let rest = count_of_other label hs p other in
    ⊎_elim
    (λ e.
    ap (λ x. count_at x k) (held_of_head label h hs e)
    ∙ count_tail h (held_of label hs) k (λ r. other (sym (same_label_at h.pair p r) ∙ e))
    ∙ rest)
    (λ ne. ap (λ x. count_at x k) (held_of_tail label h hs ne) ∙ rest)
    (cases_eq (value_of h.pair.label) (value_of label))

pub count_in-held_of : (label : Label) (hs : Collection) (p : Pair)
    → count_in (held_of label hs) p ≡ (if value_of p.label == value_of label then count_in hs p else 0)
count_in-held_of label hs p =
    ⊎_elim
    (λ own. count_of_own label hs p own ∙ sym (cond-true _ _ _ (eq-eqb _ _ own)))
    (λ other. count_of_other label hs p other ∙ sym (cond-false _ _ _ (ne_eqb _ _ other)))
    (cases_eq (value_of p.label) (value_of label))

-- ---- it rises by cell

cell_above : (a b v w n : ℕ) → v ≡ w → a * 2147483648 + v < n → n ≤ b * 2147483648 + w → a < b
cell_above a b v w n e lt le = omega arith

cells_above : (label : Label) (cell n : ℕ) (hs : Collection) → cell * 2147483648 + value_of label < n → IsCollectionFrom n hs
    → All (λ (k : Held). cell < raw_of k.pair.cell) (held_of label hs)
cells_above label cell n [] lt c = All-nil (λ (k : Held). cell < raw_of k.pair.cell)
cells_above label cell n (h ∷ hs) lt c =
    let IsAbove : Held → Type 0 = λ k. cell < raw_of k.pair.cell in
    let rest = cells_above label cell (rank_of h.pair + 1) hs (omega (arith, lt, c.0)) c.2 in
    ⊎_elim
    (λ e. subst (All IsAbove) (sym (held_of_head label h hs e))
    (All-cons IsAbove h (held_of label hs) (cell_above cell (raw_of h.pair.cell) (value_of label) (value_of h.pair.label) n (sym e) lt c.0)
    rest))
    (λ ne. subst (All IsAbove) (sym (held_of_tail label h hs ne)) rest)
    (cases_eq (value_of h.pair.label) (value_of label))

pub cells_rise_from : (n : ℕ) (label : Label) (hs : Collection) → IsCollectionFrom n hs
    → AllPairs (λ (g h : Held). raw_of g.pair.cell < raw_of h.pair.cell) (held_of label hs)
cells_rise_from n label [] c = λ i j d lt within. absurd (omega arith)
cells_rise_from n label (h ∷ hs) c =
    let Rise : Held → Held → Type 0 = λ g k. raw_of g.pair.cell < raw_of k.pair.cell in
    let rest = cells_rise_from (rank_of h.pair + 1) label hs c.2 in
    ⊎_elim
    (λ e. subst (AllPairs Rise) (sym (held_of_head label h hs e))
    (AllPairs-cons Rise h (held_of label hs) (cells_above label (raw_of h.pair.cell) (rank_of h.pair + 1) hs (omega (arith, e)) c.2) rest))
    (λ ne. subst (AllPairs Rise) (sym (held_of_tail label h hs ne)) rest)
    (cases_eq (value_of h.pair.label) (value_of label))
