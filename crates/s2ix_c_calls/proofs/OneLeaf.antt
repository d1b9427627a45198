-- The union of one leaf meets what lies over the leaf.
use Rattle.std.proofs.Common.{◌≡◌, ◌≢◌, ◌<◌, ◌≤◌, ◌+◌, ◌%◌, ◌++◌, ◌∙◌, ℕ, List, [], ◌∷◌, length, map, take, drop, get_or, refl, sym, ap, subst, inl, inr, Some, None, arith, eq-eqb}
use Rattle.std.proofs.lemmas.Bool.{cond-true}
use Rattle.std.proofs.lemmas.List.{append-nil}
use Rattle.s2id_core.proofs.Lists.{at_head, cons_cases, none_in_nil}
use Rattle.s2id_core.proofs.Nested.{leaf_span, span}
use Rattle.s2id_core.proofs.Spelled.{numbered}
use Rattle.s2id_core.specs.declared.cell_id.CellId.{CellId}
use Rattle.s2id_core.specs.CellId.{first_of, end_of, level_of, raw_of}
use Rattle.s2id_union.specs.Covers.{Covers}
use Rattle.s2id_union.specs.NormalForm.{is_covered, normal_form}
use Rattle.s2id_union.proofs.Largest.{covers_where}
use Rattle.s2id_union.proofs.NormalForm.{covers_from_test, test_from_covers}
use Rattle.s2ix_bag_pairs.specs.Collection.{Collection}
use Rattle.s2ix_bag_pairs.specs.declared.pair.Held.{Held}
use Rattle.s2ix_table_queries.specs.Leaf.{leaf_if, leaf_numbered}
use Rattle.s2ix_table_walk.specs.Contents.{contents_at}
use Rattle.s2ix_table_walk.specs.Meeting.{meeting_from, meeting_of}
use Rattle.s2ix_table_walk.specs.Table.{leaf_end}
use Rattle.s2ix_table_walk.proofs.Meetings.{IsStep, none_meets, step_meets}
use Rattle.s2ix_table_walk.proofs.Over.{IsOver}
use Rattle.s2ix_table_walk.specs.Walking.{front_from}
use Rattle.s2ix_c_calls.proofs.Begun.{front_all}
use Rattle.s2ix_c_calls.specs.Asked.{AreCells, IsOneLeaf}

-- ---- one number, which is a leaf's

pub one_number : (ids : List ℕ) (leaf : CellId) → length ids ≡ 1 → raw_of leaf ≡ get_or ids 0 0 → AreCells ids (leaf ∷ [])
one_number [] leaf one is = absurd (omega arith)
one_number (id ∷ []) leaf one is = ap (λ n. n ∷ []) is
one_number (id ∷ other ∷ ids) leaf one is = absurd (omega arith)

pub longer : (ids : List ℕ) → length ids ≢ 1 → IsOneLeaf ids → ⊥
longer ids not_one one = not_one (sym (ap length one.2))

known : (leaf : CellId) → level_of leaf ≡ 30 → leaf_numbered (raw_of leaf) ≡ Some leaf
known leaf deep = ap leaf_if (numbered (raw_of leaf) leaf.valid) ∙ cond-true _ _ _ (eq-eqb (level_of leaf) 30 deep)

pub no_leaf : (ids : List ℕ) → leaf_numbered (get_or ids 0 0) ≡ None → IsOneLeaf ids → ⊥
no_leaf ids none one =
    let is : raw_of one.0 ≡ get_or ids 0 0 = ap (λ l. get_or l 0 0) one.2 in
    let both : Some one.0 ≡ None = sym (known one.0 one.1) ∙ ap leaf_numbered is ∙ none in
    cc

-- ---- what it meets

module _ (leaf : CellId) (deep : level_of leaf ≡ 30) where
  starts : first_of leaf ≡ raw_of leaf
  starts = (leaf_span (raw_of leaf) leaf.valid deep).0

  ends : end_of leaf ≡ raw_of leaf + 2
  ends = (leaf_span (raw_of leaf) leaf.valid deep).1

  near : (q : ℕ) → Covers (normal_form (leaf ∷ [])) q → (raw_of leaf ≤ q) × (q < raw_of leaf + 2)
  unfolding normal_form
  near q h =
      let inside = (covers_where (is_covered (leaf ∷ [])) q).0 h in
      let covered = covers_from_test (leaf ∷ []) q (inside.whole q inside.from inside.to) in
      let from : first_of covered.cell ≤ q = covered.from in
      let to : q < end_of covered.cell = covered.to in
      elim (cons_cases leaf [] covered.cell covered.held) [
        | inl same ↦
            let first : first_of covered.cell ≡ raw_of leaf = ap first_of (sym same) ∙ starts in
            let last : end_of covered.cell ≡ raw_of leaf + 2 = ap end_of (sym same) ∙ ends in
            (omega arith, omega arith)
        | inr none ↦ absurd (none_in_nil covered.cell none)
      ]

  here : Covers (normal_form (leaf ∷ [])) (raw_of leaf)
  unfolding normal_form
  here = (covers_where (is_covered (leaf ∷ [])) (raw_of leaf)).1 (record {
    cell = leaf;
    whole = λ q begun ended. test_from_covers (leaf ∷ []) q (record { cell = leaf; held = at_head leaf []; from = begun; to = ended });
    from = omega (arith, starts);
    to = omega (arith, ends);
  })

  step : (held : Collection) → IsStep (normal_form (leaf ∷ [])) held 1 (raw_of leaf) (raw_of leaf + 2)
  step held =
      let s = span (raw_of leaf) leaf.valid in
      let begins = s.begins in
      let odd = s.odd in
      let last = s.ends in record {
        odd = refl;
        reached = omega (arith, starts);
        after = omega arith;
        on_curve = omega (arith, ends);
        here = here;
        gap = λ q covers from. (near q covers).0;
        tight = λ q low is. absurd (omega arith);
        stays = λ h q held q_odd from to over.
            let same : q ≡ raw_of leaf = omega (arith, starts) in subst (IsOver h) same over;
      }

  pub leaf_meets : (held : Collection) → meeting_of (normal_form (leaf ∷ [])) held ≡ contents_at (raw_of leaf) held
  leaf_meets held =
      step_meets (normal_form (leaf ∷ [])) held 1 (raw_of leaf) (raw_of leaf + 2) (step held)
      ∙ ap (λ l. front_from 1 (contents_at (raw_of leaf) held) ++ l)
      (none_meets (normal_form (leaf ∷ [])) held (raw_of leaf + 2) (λ q covers. (near q covers).1))
      ∙ append-nil (front_from 1 (contents_at (raw_of leaf) held))
      ∙ front_all 1 (contents_at (raw_of leaf) held) (omega arith)
