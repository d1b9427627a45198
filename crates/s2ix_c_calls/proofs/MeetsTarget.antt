-- What the cells of a target meet, put to a buffer.
use Rattle.std.proofs.Common.{◌≡◌, ◌⊎◌, ℕ, List, length, map, take, drop, sym, subst, inl, inr}
use Rattle.s2id_core.specs.declared.cell_id.CellId.{CellId}
use Rattle.s2id_union.specs.NormalForm.{normal_form}
use Rattle.s2id_union.proofs.NormalForm.{form_same_region}
use Rattle.s2ix_bag_pairs.specs.Collection.{Collection}
use Rattle.s2ix_bag_pairs.specs.Label.{value_of}
use Rattle.s2ix_edit_plan.specs.State.{State}
use Rattle.s2ix_table_walk.specs.LabelList.{label_list}
use Rattle.s2ix_table_walk.specs.Meeting.{meeting_of}
use Rattle.s2ix_table_walk.proofs.SameMeeting.{same_region_meets}
use Rattle.s2ix_c_calls.specs.Asked.{AreTarget, LacksUnion, NeedUnion}
use Rattle.s2ix_c_calls.specs.Lists.{FillsOf, IsFilled, IsPut, IsRefused, ListsOf, labels_met, row_of, rows_met, rows_met_from}
use Rattle.s2ix_c_calls.specs.Status.{done, out_of_memory}
use Rattle.s2ix_c_calls.specs.declared.rows.Row.{Row}

module _ (ids : List ℕ) (target : List CellId) (s : State) (of : AreTarget ids target) where
  -- the union of the cells with the numbers meets the same
  same_meeting : meeting_of (normal_form of.0) s.bag.held ≡ meeting_of target s.bag.held
  same_meeting =
      same_region_meets (normal_form of.0) target s.bag.held (λ leaf deep.
      let form = form_same_region of.0 leaf deep in
      let given = of.2 leaf deep in ((λ v. given.1 (form.0 v)), (λ v. form.1 (given.0 v))))

  pub meets_target : (status number : ℕ) (old new : List Row)
      → IsFilled (map row_of (meeting_of target s.bag.held)) status number old new → FillsOf (λ cells. rows_met cells s) ids status number old new
  meets_target status number old new filled =
      inl (of.0, of.1, subst (λ (l : Collection). IsFilled (map row_of l) status number old new) (sym same_meeting) filled)

  pub meets_target_from : (from number : ℕ) (old new : List Row)
      → IsPut (map row_of (take (length old) (drop from (meeting_of target s.bag.held)))) done number old new
      → ListsOf (λ cells. rows_met_from from (length old) cells s) ids done number old new
  meets_target_from from number old new put =
      inl (
        of.0,
        of.1,
        subst (λ (l : Collection). IsPut (map row_of (take (length old) (drop from l))) done number old new) (sym same_meeting) put,
      )

  pub has_labels : (status number : ℕ) (old new : List ℕ)
      → IsFilled (map value_of (label_list (meeting_of target s.bag.held))) status number old new
      → FillsOf (λ cells. labels_met cells s) ids status number old new
  has_labels status number old new filled =
      inl (of.0, of.1, subst (λ (l : Collection). IsFilled (map value_of (label_list l)) status number old new) (sym same_meeting) filled)

-- what was asked of the cells of some numbers, or why there is no union of these
abbrev Asked : (List CellId → Type 0) → List ℕ → ℕ → ℕ → {A : Type 0} → List A → List A → Type 0
Asked answers ids status number old new =
    ((cells : List CellId) × AreTarget ids cells × answers cells)
    ⊎ (LacksUnion ids status number × (status ≡ out_of_memory → NeedUnion ids) × (new ≡ old))

module _ (ids : List ℕ) (s : State) (status number : ℕ) (old new : List Row) where
  module _ (asked : Asked (λ cells. IsFilled (map row_of (meeting_of cells s.bag.held)) status number old new) ids status number old new) where
    pub fills_met : FillsOf (λ cells. rows_met cells s) ids status number old new
    fills_met = elim asked [
      | inl met ↦ meets_target ids met.0 s met.1 status number old new met.2
      | inr none ↦ inr (none.0, none.2)
    ]

  module _ (from : ℕ) (asked : Asked
      (λ cells. (status ≡ done) × IsPut (map row_of (take (length old) (drop from (meeting_of cells s.bag.held)))) done number old new)
      ids status number old new) where
    pub lists_met : ListsOf (λ cells. rows_met_from from (length old) cells s) ids status number old new
    lists_met = elim asked [
      | inl met ↦
          subst (λ (why : ℕ). ListsOf (λ cells. rows_met_from from (length old) cells s) ids why number old new) (sym met.2.0)
          (meets_target_from ids met.0 s met.1 from number old new met.2.1)
      | inr none ↦ inr (none.0, none.2)
    ]

pub fills_labels : (ids : List ℕ) (s : State) (status number : ℕ) (old new : List ℕ)
    → Asked
    (λ cells. IsFilled (map value_of (label_list (meeting_of cells s.bag.held))) status number old new ⊎ IsRefused out_of_memory status number old new)
    ids status number old new
    → FillsOf (λ cells. labels_met cells s) ids status number old new
fills_labels ids s status number old new asked = elim asked [
  | inl met ↦ elim met.2 [
    | inl filled ↦ has_labels ids met.0 s met.1 status number old new filled
    | inr refused ↦ inr (inr (refused.0, refused.1, (met.1.0, met.1.1)), refused.2)
  ]
  | inr none ↦ inr (none.0, none.2)
]
