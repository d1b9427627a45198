-- The cells that a label grows by, and the entries that give each its first copy.
use Rattle.std.proofs.Common.{◌≡◌, ◌≢◌, ◌↔◌, inl, inr, ℕ, ◌+◌, ◌*◌, ◌^◌, ◌<◌, ◌≤◌, Bool, true, false, not, List, [], ◌∷◌, get_or, map, All, Any, Contains, refl, sym, ap, ap₂, ◌∙◌, subst, arith, ⊎_elim, le-ltb, lt-ltb}
use Rattle.std.specs.Prelude.{◌&&◌, ◌||◌, nat_lt}
use Rattle.std.specs.Bool.{Decides, one_answer}
use Rattle.std.specs.List.{filter, list_any}
use Rattle.std.proofs.lemmas.Bool.{both_ways, cases_lt, or_left, or_right}
use Rattle.std.proofs.lemmas.Bool.Decides.{Decides-and, Decides-eqb, Decides-like, Decides-ltb, Decides-not}
use Rattle.std.proofs.lemmas.List.Elements.{All-contains, All-contains_itself, All-filter, filter_agree, filter_passes}
use Rattle.std.proofs.lemmas.List.Folds.{Any-from_list_any, list_any_at, list_any-from_Any}
use Rattle.std.proofs.lemmas.List.Kept.{AllPairs-filter}
use Rattle.s2id_core.specs.declared.cell_id.CellId.{CellId}
use Rattle.s2id_core.specs.CellId.{raw_of, path_of, level_of, first_of, end_of}
use Rattle.s2id_core.specs.Leaves.{Overlap}
use Rattle.s2id_core.specs.Path.{first_leaf}
use Rattle.s2id_core.proofs.Nested.{crossing}
use Rattle.s2id_core.proofs.Spans.{leaf_of_first}
use Rattle.s2id_cube.specs.Edge.{ShareEdge}
use Rattle.s2id_cube.proofs.OverSides.{share_edge-decides}
use Rattle.s2id_union.specs.Region.{HaveSameRegion, Meets}
use Rattle.s2id_union.proofs.Largest.{each_below, kept, rises_below}
use Rattle.s2id_core.proofs.Lists.{at_head, cons_cases, in_tail}
use Rattle.s2id_union.proofs.Unique.{Rises, same_rising}
use Rattle.s2ix_bag_pairs.specs.declared.label.Label.{Label}
use Rattle.s2ix_bag_pairs.specs.declared.pair.Entry.{Entry}
use Rattle.s2ix_bag_pairs.specs.declared.pair.Held.{Held}
use Rattle.s2ix_bag_pairs.specs.declared.pair.Pair.{Pair}
use Rattle.s2ix_bag_pairs.specs.Collection.{Collection, LimitedCollection, count_in}
use Rattle.s2ix_bag_pairs.specs.OfLabel.{held_of}
use Rattle.s2ix_bag_pairs.specs.Pair.{rank_of}
use Rattle.s2ix_bag_pairs.proofs.Counts.{count_tail}
use Rattle.s2ix_bag_pairs.proofs.OfLabel.{count_of_own}
use Rattle.s2ix_bag_pairs.proofs.Pairs.{same_pair}
use Rattle.s2ix_edit_plan.specs.Edit.{pair_of, with_each}
use Rattle.s2ix_edit_plan.specs.Grow.{IsGrown, IsNextTo, all_cells, grown_cells, is_grown, is_too_fine, leads_to, overlaps_one}
use Rattle.s2ix_edit_plan.specs.Plan.{first_copy}
use Rattle.s2ix_edit_plan.specs.Region.{cell_of, cells_of}
use Rattle.s2ix_edit_plan.proofs.AddUnion.{addition, additions_make}
use Rattle.s2ix_edit_plan.proofs.Beside.{AreNext, pathed}
use Rattle.s2ix_edit_plan.proofs.Plans.{Makes}

-- ---- the tests decide what they are named for

abbrev spans_cross : CellId → CellId → Bool
spans_cross x cell = nat_lt (first_of cell) (end_of x) && nat_lt (first_of x) (end_of cell)

spans_cross-decides : (x cell : CellId) → Decides (spans_cross x cell) (Overlap (path_of cell) (path_of x))
spans_cross-decides x cell =
    (crossing (raw_of cell) (raw_of x) (spans_cross x cell) cell.valid x.valid
    (Decides-and _ _ (Decides-ltb (first_of cell) (end_of x)) (Decides-ltb (first_of x) (end_of cell)))).leaves

pub overlaps_one-decides : (cells : List CellId) (x : CellId) → Decides (overlaps_one cells x) (Meets cells (path_of x))
unfolding overlaps_one
overlaps_one-decides cells x = (
  λ e.
      let a = Any-from_list_any (spans_cross x) cells e in
      let o = (spans_cross-decides x a.1).0 a.4 in
      (o.0, o.2, (a.0, a.1, a.2, a.3, o.1)),
  λ m.
      let at = m.2 in
      list_any-from_Any (spans_cross x) cells (at.0, at.1, at.2, at.3, (spans_cross-decides x at.1).1 (m.0, at.4, m.1)),
)

-- lists with the same leaves are overlapped alike
pub overlaps_same : (xs ys : List CellId) (x : CellId) → HaveSameRegion xs ys → overlaps_one xs x ≡ overlaps_one ys x
overlaps_same xs ys x same =
    one_answer (overlaps_one xs x) (overlaps_one ys x) (overlaps_one-decides xs x)
    (Decides-like (overlaps_one ys x) (λ m. (m.0, m.1, (same m.0 m.1.deep).1 m.2)) (λ m. (m.0, m.1, (same m.0 m.1.deep).0 m.2))
    (overlaps_one-decides ys x))

abbrev LeadsTo : ℕ → List CellId → CellId → CellId → Type 0
LeadsTo level cells x near =
    (level_of near ≡ level) × (Meets cells (path_of near) × ShareEdge (path_of near) (path_of x))

leads_to-decides : (level : ℕ) (cells : List CellId) (x near : CellId) → Decides (leads_to level cells x near) (LeadsTo level cells x near)
unfolding leads_to
leads_to-decides level cells x near =
    Decides-and _ _ (Decides-eqb (level_of near) level)
    (Decides-and _ _ (overlaps_one-decides cells near) (share_edge-decides (path_of near) (path_of x) (pathed near) (pathed x)))

-- every cell is one of all cells
in_all : (x : CellId) → Contains all_cells x
unfolding all_cells
in_all x = each_below (6 * 2 ^ 61) x x.valid.0

all_rise : Rises all_cells
unfolding all_cells
all_rise = rises_below (6 * 2 ^ 61)

abbrev Leads : ℕ → List CellId → CellId → Type 0
Leads level cells x = (near : CellId) × LeadsTo level cells x near

some_leads : (level : ℕ) (cells : List CellId) (x : CellId) → Decides (list_any (leads_to level cells x) all_cells) (Leads level cells x)
some_leads level cells x = (
  λ e. let a = Any-from_list_any (leads_to level cells x) all_cells e in (a.1, (leads_to-decides level cells x a.1).0 a.4),
  λ h.
      let at = in_all h.0 in
      list_any-from_Any (leads_to level cells x) all_cells (at.0, h.0, at.1, at.2, (leads_to-decides level cells x h.0).1 h.1),
)

pub is_grown-decides : (level : ℕ) (cells : List CellId) (x : CellId) → Decides (is_grown level cells x) (IsGrown level cells x)
unfolding is_grown
is_grown-decides level cells x =
    Decides-like (is_grown level cells x) there back
    (Decides-and _ _ (Decides-eqb (level_of x) level)
    (Decides-and _ _ (Decides-not _ (overlaps_one-decides cells x)) (some_leads level cells x)))
  where
    Parts : Type 0
    Parts = (level_of x ≡ level) × ((¬ Meets cells (path_of x)) × Leads level cells x)

    there : Parts → IsGrown level cells x
    there h =
        let near = h.1.1 in
        record { level_is = h.0; outside = h.1.0; near = near.0; near_level = near.1.0; overlaps = near.1.1.0; shares = near.1.1.1 }

    back : IsGrown level cells x → Parts
    back g = (g.level_is, (g.outside, (g.near, (g.near_level, (g.overlaps, g.shares)))))

-- ---- the cells that a label grows by

pub grown_rise : (label : Label) (level : ℕ) (hs : Collection) → Rises (grown_cells label level hs)
unfolding grown_cells
grown_rise label level hs = AllPairs-filter (λ a b. raw_of a < raw_of b) (is_grown level (cells_of label hs)) all_cells all_rise

pub in_grown : (label : Label) (level : ℕ) (hs : Collection) (x : CellId)
    → Contains (grown_cells label level hs) x ↔ IsGrown level (cells_of label hs) x
unfolding grown_cells
in_grown label level hs x =
    let test = is_grown level (cells_of label hs) in
    let decides = is_grown-decides level (cells_of label hs) x in (
      λ c. decides.0 (All-contains (λ y. test y ≡ true) (filter test all_cells) x (filter_passes test all_cells) c),
      λ g. kept test all_cells x (in_all x) (decides.1 g),
    )

-- what lies beside one of the cells and overlaps none
grown_from_next : (level : ℕ) (cells : List CellId) (x : CellId) → Any (λ cell. IsNextTo level cell x) cells → (Meets cells (path_of x) → ⊥)
    → IsGrown level cells x
grown_from_next level cells x a outside =
    let n = a.4 in
    let o = n.overlaps in
    record {
      level_is = n.level_is;
      outside = outside;
      near = n.near;
      near_level = n.near_level;
      overlaps = (o.0, o.2, (a.0, a.1, a.2, a.3, o.1));
      shares = n.shares;
    }

next_from_grown : (level : ℕ) (cells : List CellId) (x : CellId) → IsGrown level cells x → Any (λ cell. IsNextTo level cell x) cells
next_from_grown level cells x g =
    let m = g.overlaps in
    let at = m.2 in (
      at.0,
      at.1,
      at.2,
      at.3,
      record {
        level_is = g.level_is;
        outside = λ o. g.outside (o.0, o.2, (at.0, at.1, at.2, at.3, o.1));
        near = g.near;
        near_level = g.near_level;
        overlaps = (m.0, at.4, m.1);
        shares = g.shares;
      },
    )

in_filter : (test : CellId → Bool) (xs : List CellId) (x : CellId) → Contains (filter test xs) x → Contains xs x
in_filter test xs x c = All-contains (Contains xs) (filter test xs) x (All-filter test (Contains xs) xs (All-contains_itself xs)) c

-- whether a cell overlaps none of the cells
abbrev pub outside_all : List CellId → CellId → Bool
outside_all cells x = not (overlaps_one cells x)

-- what is kept of the cells beside the label's, put in order, are the cells that it grows by
pub kept_are_grown : (label : Label) (level : ℕ) (hs : Collection) (region beside once : List CellId)
    → HaveSameRegion region (cells_of label hs) → AreNext level (cells_of label hs) beside
    → ((x : CellId) → Contains beside x ↔ Contains once x) → Rises once → filter (outside_all region) once ≡ grown_cells label level hs
kept_are_grown label level hs region beside once same next members rises =
    let cells = cells_of label hs in
    let test = outside_all cells in
    let agree : filter (outside_all region) once ≡ filter test once = filter_agree (outside_all region) test
    (λ x. ap not (overlaps_same region cells x same)) once in
    agree
    ∙ same_rising (filter test once) (grown_cells label level hs)
    (AllPairs-filter (λ a b. raw_of a < raw_of b) test once rises) (grown_rise label level hs)
    (λ x c.
    let passes = All-contains (λ y. test y ≡ true) (filter test once) x (filter_passes test once) c in
    let outside = (Decides-not _ (overlaps_one-decides cells x)).0 passes in
    (in_grown label level hs x).1 (grown_from_next level cells x ((next x).0 ((members x).1 (in_filter test once x c))) outside))
    (λ x c.
    let g = (in_grown label level hs x).0 c in
    kept test once x ((members x).0 ((next x).1 (next_from_grown level cells x g)))
    ((Decides-not _ (overlaps_one-decides cells x)).1 g.outside))

-- ---- the entries

-- a pair whose cell none of the held pairs has is not held
none_held : (ks : Collection) (label : Label) (x : CellId) → ((h : Held) → Contains ks h → cell_of h ≢ x)
    → count_in ks (pair_of x label) ≡ 0
none_held [] label x none = refl
none_held (h ∷ ks) label x none =
    count_tail h ks (rank_of (pair_of x label))
    (λ e. none h (at_head h ks) (ap (λ (p : Pair). p.cell) (same_pair h.pair (pair_of x label) e)))
    ∙ none_held ks label x (λ k has. none k (in_tail h ks k has))

-- a cell of a held pair of the label is one of the label's
in_cells : (ks : Collection) (h : Held) → Contains ks h → Contains (map cell_of ks) (cell_of h)
in_cells [] h has = absurd (omega (arith, has.1))
in_cells (k ∷ ks) h has =
    elim (cons_cases k ks h has) [
      | inl e ↦ subst (λ (j : Held). Contains (map cell_of (k ∷ ks)) (cell_of j)) e (at_head (cell_of k) (map cell_of ks))
      | inr rest ↦ in_tail (cell_of k) (map cell_of ks) (cell_of h) (in_cells ks h rest)
    ]

-- a cell that the label grows by is not held with it
pub grown_is_new : (label : Label) (level : ℕ) (hs : Collection) (x : CellId) → IsGrown level (cells_of label hs) x
    → count_in hs (pair_of x label) ≡ 0
grown_is_new label level hs x g =
    sym (count_of_own label hs (pair_of x label) refl)
    ∙ none_held (held_of label hs) label x
    (λ h has e.
    let first = leaf_of_first (path_of x) (pathed x) in
    let at = subst (λ (c : CellId). Contains (cells_of label hs) c) e (in_cells (held_of label hs) h has) in
    g.outside (first_leaf (path_of x), first, (at.0, x, at.1, at.2, first)))

copies_are_additions : (label : Label) (hs : Collection) (cs : List CellId)
    → ((x : CellId) → Contains cs x → count_in hs (pair_of x label) ≡ 0) → map (addition hs label) cs ≡ map (first_copy label) cs
copies_are_additions label hs [] new = refl
copies_are_additions label hs (c ∷ cs) new =
    let none = new c (at_head c cs) in
    let entry : ℕ → Entry = λ n. record { pair = pair_of c label; before = n; after = n + 1 } in
    ap₂ (λ (e : Entry) (es : List Entry). e ∷ es) (ap entry none) (copies_are_additions label hs cs (λ x has. new x (in_tail c cs x has)))

-- the first copies of the cells that a label grows by make the collection with one copy more for each
pub first_copies_make : (bag : LimitedCollection) (label : Label) (level : ℕ)
    → Makes bag (with_each label (grown_cells label level bag.held) bag.held) (map (first_copy label) (grown_cells label level bag.held))
first_copies_make bag label level =
    let cs = grown_cells label level bag.held in
    subst (λ (es : List Entry). Makes bag (with_each label cs bag.held) es)
    (copies_are_additions label bag.held cs (λ x has. grown_is_new label level bag.held x ((in_grown label level bag.held x).0 has)))
    (additions_make bag label cs (grown_rise label level bag.held))

-- ---- a level that is too fine

any_of_cells : (test : CellId → Bool) (ks : Collection) → list_any test (map cell_of ks) ≡ list_any (λ h. test (cell_of h)) ks
any_of_cells test [] = refl
any_of_cells test (k ∷ ks) = ap (λ b. test (cell_of k) || b) (any_of_cells test ks)

-- a level up to 30 is too fine if it is more than 8 above that of a cell held with the label
pub too_fine_for_held : (level : ℕ) (label : Label) (hs : Collection) (fine : Bool) → level ≤ 30
    → fine ≡ list_any (λ h. nat_lt (level_of (cell_of h) + 8) level) (held_of label hs) → fine ≡ is_too_fine level (cells_of label hs)
too_fine_for_held level label hs fine most is =
    is
    ∙ sym (any_of_cells (λ c. nat_lt (level_of c + 8) level) (held_of label hs))
    ∙ sym (ap (λ b. b || list_any (λ c. nat_lt (level_of c + 8) level) (cells_of label hs)) (le-ltb _ _ most))

-- a level that is not too fine
pub fits_level : (level : ℕ) (cells : List CellId) → is_too_fine level cells ≡ false → level ≤ 30
fits_level level cells fits =
    ⊎_elim
    (λ above.
    absurd (both_ways (is_too_fine level cells) fits
    (or_left (nat_lt 30 level) (list_any (λ c. nat_lt (level_of c + 8) level) cells) (lt-ltb _ _ above))))
    (λ most. most)
    (cases_lt 30 level)

pub near_enough : (level : ℕ) (cells : List CellId) → is_too_fine level cells ≡ false → All (λ cell. level ≤ level_of cell + 8) cells
near_enough level cells fits k d within =
    let test : CellId → Bool = λ c. nat_lt (level_of c + 8) level in
    ⊎_elim
    (λ far.
    absurd (both_ways (is_too_fine level cells) fits
    (or_right (nat_lt 30 level) (list_any test cells) (list_any_at test cells k d within (lt-ltb _ _ far)))))
    (λ near. near)
    (cases_lt (level_of (get_or cells k d) + 8) level)
