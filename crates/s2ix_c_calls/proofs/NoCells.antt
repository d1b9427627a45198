-- No cells have no leaf and meet nothing, and some cells have a leaf.
use Rattle.std.proofs.Common.{◌≡◌, ◌≢◌, ◌∙◌, ℕ, List, [], ◌∷◌, length, map, take, drop, refl, sym, ap, subst, inl, inr, Some, arith, true, Bool, ◌&&◌}
use Rattle.std.proofs.lemmas.Bool.{cases_eq, and_parts, leb-true, ltb-true}
use Rattle.std.specs.Prelude.{nat_le, nat_lt}
use Rattle.s2id_core.proofs.Lists.{at_head}
use Rattle.s2id_core.proofs.Nested.{span}
use Rattle.s2id_core.specs.declared.cell_id.CellId.{CellId}
use Rattle.s2id_core.specs.CellId.{raw_of, first_of}
use Rattle.s2id_union.specs.Covers.{Covers}
use Rattle.s2id_union.specs.NormalForm.{cells_where, is_covered, normal_form}
use Rattle.s2id_union.proofs.Covering.{covers_nil}
use Rattle.s2id_union.proofs.Largest.{covers_where}
use Rattle.s2id_union.proofs.NormalForm.{covers_from_test, test_from_covers}
use Rattle.s2ix_bag_pairs.specs.Collection.{Collection}
use Rattle.s2ix_bag_pairs.specs.Label.{value_of}
use Rattle.s2ix_bag_pairs.specs.OfLabel.{held_of}
use Rattle.s2ix_bag_pairs.specs.declared.label.Label.{Label}
use Rattle.s2ix_table_walk.specs.LabelList.{label_list}
use Rattle.s2ix_table_walk.specs.Meeting.{first_shared, is_met_from, meeting_from, meeting_key, meeting_of}
use Rattle.s2ix_table_walk.proofs.InOrder.{choice_none}
use Rattle.s2ix_edit_plan.specs.Region.{cell_of, region_of}
use Rattle.s2ix_edit_plan.specs.State.{State}
use Rattle.s2ix_c_calls.specs.Asked.{AreAllCells, IsFirstNoCell}
use Rattle.s2ix_c_calls.specs.Lists.{FillsOf, IsFilled, IsPut, ListsOf, PutsGathered, labels_met, region_cells, row_of, rows_met, rows_met_from}
use Rattle.s2ix_c_calls.specs.Status.{done, no_cell, out_of_memory}
use Rattle.s2ix_c_calls.proofs.Paging.{nothing_of}

-- ---- no leaves

no_cells : (cells : List CellId) → ((q : ℕ) → Covers cells q → ⊥) → cells ≡ []
no_cells [] none = refl
no_cells (c ∷ cs) none =
    let ends = (span (raw_of c) c.valid).to in
    let from = (span (raw_of c) c.valid).from in
    absurd (none (first_of c) (record { cell = c; held = at_head c cs; from = omega arith; to = omega arith }))

-- a test that no number passes has no cells
pub none_where : (passes : ℕ → Bool) → ((q : ℕ) → passes q ≡ true → ⊥) → cells_where passes ≡ []
none_where passes none =
    no_cells (cells_where passes) (λ q h. let whole = (covers_where passes q).0 h in none q (whole.whole q whole.from whole.to))

pub no_span : (start : ℕ) → cells_where (λ q. nat_le start q && nat_lt q start) ≡ []
no_span start =
    none_where (λ q. nat_le start q && nat_lt q start) (λ q is.
    let both = and_parts (nat_le start q) (nat_lt q start) is in
    let from = leb-true start q both.0 in
    let to = ltb-true q start both.1 in
    omega arith)

pub no_normal : normal_form [] ≡ []
unfolding normal_form
no_normal = none_where (is_covered []) (λ q is. covers_nil q (covers_from_test [] q is))

-- ---- some leaves

pub some_normal : (c : CellId) (cs : List CellId) → normal_form (c ∷ cs) ≢ []
unfolding normal_form
some_normal c cs none =
    let ends = (span (raw_of c) c.valid).to in
    let from = (span (raw_of c) c.valid).from in
    covers_nil (first_of c)
    (subst (λ (l : List CellId). Covers l (first_of c)) none ((covers_where (is_covered (c ∷ cs)) (first_of c)).1 (record {
      cell = c;
      whole = λ q begun ended. test_from_covers (c ∷ cs) q (record { cell = c; held = at_head c cs; from = begun; to = ended });
      from = omega arith;
      to = omega arith;
    })))

-- ---- the region of a label that is not held, and of one that is

module _ (label : Label) (s : State) where
  pub no_region : held_of label s.bag.held ≡ [] → map raw_of (region_of label s.bag.held) ≡ []
  no_region none = ap (λ (hs : Collection). map raw_of (normal_form (map cell_of hs))) none ∙ ap (map raw_of) no_normal

none_mapped : (cells : List CellId) → map raw_of cells ≡ [] → cells ≡ []
none_mapped [] none = refl
none_mapped (c ∷ cs) none = absurd (let long = ap length none in omega arith)

some_numbers : (hs : Collection) → hs ≢ [] → map raw_of (normal_form (map cell_of hs)) ≢ []
some_numbers [] some none = some refl
some_numbers (h ∷ hs) some none = some_normal (cell_of h) (map cell_of hs) (none_mapped (normal_form (map cell_of (h ∷ hs))) none)

pub some_region : (label : Label) (s : State) → held_of label s.bag.held ≢ [] → map raw_of (region_of label s.bag.held) ≢ []
some_region label s some = some_numbers (held_of label s.bag.held) some

-- ---- nothing is met

no_meeting : (held : Collection) → meeting_of [] held ≡ []
unfolding meeting_from first_shared
no_meeting held = choice_none (is_met_from [] 1) (meeting_key []) held (λ h. refl)

no_target : (held : Collection) → meeting_of (normal_form []) held ≡ []
no_target held = ap (λ cells. meeting_of cells held) no_normal ∙ no_meeting held

pub no_rows_met : (s : State) → rows_met [] s ≡ []
no_rows_met s = ap (map row_of) (no_target s.bag.held)

pub no_rows_met_from : (from room : ℕ) (s : State) → rows_met_from from room [] s ≡ []
no_rows_met_from from room s =
    ap (λ meeting. map row_of (take room (drop from meeting))) (no_target s.bag.held) ∙ ap (map row_of) (nothing_of room from)

pub no_labels_met : (s : State) → labels_met [] s ≡ []
unfolding label_list
no_labels_met s = ap (λ meeting. map value_of (label_list meeting)) (no_target s.bag.held)

-- ---- nothing is put

module _ {A : Type 0} (old : List A) where
  pub put_nothing : (list : List A) → list ≡ [] → IsPut list done 0 old old
  put_nothing list none = record {
    long = sym (ap length none);
    put = λ _. sym none;
    after = λ _. refl;
    short = λ refused. absurd (refused refl);
  }

  pub fill_nothing : (list : List A) → list ≡ [] → IsFilled list done 0 old old
  fill_nothing list none =
      let put = put_nothing list none in
      record { long = put.long; put = put.put; after = put.after; short = λ refused. absurd (refused refl) }

  pub fills_nothing : (list : List CellId → List A) (ids : List ℕ) → length ids ≡ 0 → list [] ≡ [] → FillsOf list ids done 0 old old
  fills_nothing list [] none is = inl ([], refl, fill_nothing (list []) is)
  fills_nothing list (id ∷ ids) none is = absurd (omega (arith, none))

  pub lists_nothing : (list : List CellId → List A) (ids : List ℕ) → length ids ≡ 0 → list [] ≡ [] → ListsOf list ids done 0 old old
  lists_nothing list [] none is = inl ([], refl, put_nothing (list []) is)
  lists_nothing list (id ∷ ids) none is = absurd (omega (arith, none))

  -- nothing is put, once the numbers are known to be cells' or one of them not to be
  pub lists_checked : (list : List CellId → List A) (ids : List ℕ) (status number : ℕ) → (status ≡ done → (number ≡ 0) × AreAllCells ids)
      → (status ≢ done → (status ≡ no_cell) × IsFirstNoCell ids number) → ((cells : List CellId) → list cells ≡ [])
      → ListsOf list ids status number old old
  lists_checked list ids status number right wrong none =
      elim (cases_eq status done) [
        | inl is_done ↦
            let all = right is_done in
            subst (λ (s : ℕ). ListsOf list ids s number old old) (sym is_done)
            (subst (λ (n : ℕ). ListsOf list ids done n old old) (sym all.0)
            (inl (all.1.0, all.1.1, put_nothing (list all.1.0) (none all.1.0))))
        | inr not_done ↦ inr (inl (wrong not_done), refl)
      ]

module _ (label : Label) (s : State) (old : List ℕ) where
  pub puts_no_region : held_of label s.bag.held ≡ [] → PutsGathered (region_cells (Some label) s) done 0 old old
  puts_no_region none = inl (put_nothing old (map raw_of (region_of label s.bag.held)) (no_region label s none))

  pub gathers_region : held_of label s.bag.held ≢ [] → PutsGathered (region_cells (Some label) s) out_of_memory 0 old old
  gathers_region some = inr (some_region label s some, (refl, refl, refl))
