-- What a target of one leaf meets, put to a buffer.
use Rattle.std.proofs.Common.{◌≡◌, ℕ, List, [], ◌∷◌, length, map, take, drop, sym, subst, inl}
use Rattle.s2id_core.specs.declared.cell_id.CellId.{CellId}
use Rattle.s2id_core.specs.CellId.{level_of, raw_of}
use Rattle.s2ix_bag_pairs.specs.Collection.{Collection}
use Rattle.s2ix_edit_plan.specs.State.{State}
use Rattle.s2ix_table_walk.specs.Contents.{contents_at}
use Rattle.s2ix_c_calls.proofs.OneLeaf.{leaf_meets}
use Rattle.s2ix_c_calls.specs.Asked.{AreCells}
use Rattle.s2ix_c_calls.specs.Lists.{FillsOf, IsFilled, IsPut, ListsOf, row_of, rows_met, rows_met_from}
use Rattle.s2ix_c_calls.specs.Status.{done}
use Rattle.s2ix_c_calls.specs.declared.rows.Row.{Row}

module _ (ids : List ℕ) (leaf : CellId) (s : State) (deep : level_of leaf ≡ 30) (are : AreCells ids (leaf ∷ [])) where
  pub meets_leaf : (status number : ℕ) (old new : List Row) → IsFilled (map row_of (contents_at (raw_of leaf) s.bag.held)) status number old new
      → FillsOf (λ cells. rows_met cells s) ids status number old new
  meets_leaf status number old new filled =
      inl (
        leaf ∷ [],
        are,
        subst (λ (l : Collection). IsFilled (map row_of l) status number old new) (sym (leaf_meets leaf deep s.bag.held)) filled,
      )

  pub meets_leaf_from : (from number : ℕ) (old new : List Row)
      → IsPut (map row_of (take (length old) (drop from (contents_at (raw_of leaf) s.bag.held)))) done number old new
      → ListsOf (λ cells. rows_met_from from (length old) cells s) ids done number old new
  meets_leaf_from from number old new put =
      inl (
        leaf ∷ [],
        are,
        subst (λ (l : Collection). IsPut (map row_of (take (length old) (drop from l))) done number old new) (sym (leaf_meets leaf deep s.bag.held)) put,
      )
