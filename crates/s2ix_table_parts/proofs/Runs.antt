-- Runs: the pairs of one cell, which follow one another.
use Rattle.std.proofs.Common.{◌≡◌, ℕ, ◌+◌, ◌<◌, ◌≤◌, inl, inr, true, false, nat_eq, [], ◌∷◌, ◌++◌, take, drop, get_or, length, sym, ◌∙◌, ap, ap₂, subst, arith, append_assoc, append-nil, length-append, Contains}
use Rattle.std.proofs.lemmas.Bool.{cases_eq, both_ways}
use Rattle.std.proofs.lemmas.List.{get_or_default, take-append-drop}
use Rattle.std.proofs.lemmas.List.Elements.{Contains-append_left, Contains-append_right, Contains-append_cases}
use Rattle.s2id_core.specs.CellId.{raw_of}
use Rattle.s2id_core.specs.declared.cell_id.CellId.{CellId}
use Rattle.s2id_core.proofs.Cells.{same_cell, cells_decided}
use Rattle.s2ix_bag_lists.proofs.Joins.{front_rises}
use Rattle.s2ix_bag_pairs.specs.Collection.{Collection, IsCollection}
use Rattle.s2ix_bag_pairs.specs.declared.pair.Held.{Held}
use Rattle.s2ix_table_heavy.specs.Chunks.{IsOfOneCell}
use Rattle.s2ix_table_spans.proofs.Exchanges.{numbers_rise, in_take, in_drop}
use Rattle.s2ix_table_parts.specs.Split.{HaveLesserCells, IsRunAfter}

-- ---- cells

-- a test of two cells tells whether they are one
pub cells_same : (a b : CellId) → true ≡ nat_eq (raw_of a) (raw_of b) → a ≡ b
cells_same a b is = (cells_decided a b).0 (sym is)

pub cells_differ : (a b : CellId) → false ≡ nat_eq (raw_of a) (raw_of b) → a ≡ b → ⊥
cells_differ a b differ same = both_ways (nat_eq (raw_of a) (raw_of b)) (sym differ) ((cells_decided a b).1 same)

-- ---- the first run

-- so many first pairs have the first one's cell
abbrev pub AreOfFirstCell : Collection → ℕ → Type 0
AreOfFirstCell hs n = (k : ℕ) (d : Held) → k < n → k < length hs → (get_or hs k d).pair.cell ≡ (get_or hs 0 d).pair.cell

-- and so has one more
pub first_run_more : (hs : Collection) (n : ℕ) (h first : Held) → AreOfFirstCell hs n → n < length hs → h ≡ get_or hs n h
    → first ≡ get_or hs 0 first → h.pair.cell ≡ first.pair.cell → AreOfFirstCell hs (n + 1)
first_run_more hs n h first are lt is is_first same k d less within =
    elim (cases_eq k n) [
      | inl e ↦
          (let cell : Held → CellId = λ x. x.pair.cell in
          ap (λ i. cell (get_or hs i d)) e ∙ ap cell (get_or_default hs n d h lt) ∙ ap cell (sym is) ∙ same ∙ ap cell is_first
          ∙ ap cell (get_or_default hs 0 first d (omega arith)))
      | inr ne ↦ are k d (omega (arith, ne)) within
    ]

-- if the pair behind them has another cell, all that follow have later ones
pub later_cells : (hs : Collection) (n : ℕ) (d : Held) → IsCollection hs → 0 < n → AreOfFirstCell hs n
    → (n < length hs → (get_or hs n d).pair.cell ≡ (get_or hs 0 d).pair.cell → ⊥) → HaveLesserCells (take n hs) (drop n hs)
later_cells hs n d rises some are other a b in_a in_b =
    let p = in_take n hs a in_a in
    let q = in_drop n hs b in_b in
    let raw : Held → ℕ = λ h. raw_of h.pair.cell in
    let from = q.not_before in
    let within = q.within in
    let within_limit : n < length hs = omega arith in
    let first : raw a ≡ raw (get_or hs 0 d) =
    ap raw (sym p.is) ∙ ap (λ (c : CellId). raw_of c) (are p.place a p.not_after p.within)
    ∙ ap raw (get_or_default hs 0 a d (omega arith)) in
    let last : raw (get_or hs q.place d) ≡ raw b = ap raw (get_or_default hs q.place d b within ∙ q.is) in
    let le = numbers_rise hs rises 0 n d (omega arith) within_limit in
    let le_later = numbers_rise hs rises n q.place d from within in
    let ne : raw (get_or hs n d) ≡ raw (get_or hs 0 d) → ⊥ =
    λ e. other within_limit (same_cell (get_or hs n d).pair.cell (get_or hs 0 d).pair.cell e) in
    omega (arith, first, last, le, le_later, ne)

-- ---- one run after another

-- what is left is a run and what is behind it
pub run_and_later : (rest run later : Collection) (n : ℕ) → run ≡ take n rest → later ≡ drop n rest → rest ≡ run ++ later
run_and_later rest run later n is is_later =
    sym (ap₂ (λ (xs ys : Collection). xs ++ ys) is is_later ∙ take-append-drop n rest)

-- the first run of those that are left comes after all that came before
pub run_after : (front rest run later held : Collection) → front ++ rest ≡ held → rest ≡ run ++ later → IsCollection held
    → length held ≤ 1000000 → HaveLesserCells front rest → 0 < length run → IsOfOneCell run → IsRunAfter front run
run_after front rest run later held all parts rises within_limit lesser some one =
    let whole : (front ++ run) ++ later ≡ held = append_assoc front run later ∙ ap (λ (hs : Collection). front ++ hs) (sym parts) ∙ all in
    let long = ap (λ (hs : Collection). length hs) whole in
    record {
      some = some;
      rises = front_rises 0 (front ++ run) later (subst IsCollection (sym whole) rises);
      within_limit = omega (arith, long, length-append (front ++ run) later);
      lesser = λ a b in_a in_b. lesser a b in_a (subst (λ (hs : Collection). Contains hs b) (sym parts) (Contains-append_left run later b in_b));
      one_cell = one;
    }

-- and those behind that run come after all of these
pub lesser_after : (front rest run later : Collection) → rest ≡ run ++ later → HaveLesserCells front rest → HaveLesserCells run later
    → HaveLesserCells (front ++ run) later
lesser_after front rest run later parts lesser own a b in_a in_b =
    elim (Contains-append_cases front run a in_a) [
      | inl old ↦ lesser a b old (subst (λ (hs : Collection). Contains hs b) (sym parts) (Contains-append_right run later b in_b))
      | inr new ↦ own a b new in_b
    ]

-- if none is left, all came before
pub none_left : (front rest held : Collection) → front ++ rest ≡ held → length rest ≡ 0 → front ≡ held
none_left front [] held all none = sym (append-nil front) ∙ all
none_left front (h ∷ hs) held all none = absurd (omega arith)
