-- A label's pairs replaced by one copy at each cell of a rising list.
use Rattle.std.proofs.Common.{◌≡◌, ◌≢◌, ℕ, ◌+◌, ◌*◌, ◌<◌, List, [], ◌∷◌, AllPairs, Contains, map, refl, sym, ap, ap₂, ◌∙◌, subst, ⊎_elim, arith}
use Rattle.std.proofs.lemmas.Bool.{cases_eq}
use Rattle.s2id_core.specs.declared.cell_id.CellId.{CellId}
use Rattle.s2id_core.specs.CellId.{raw_of}
use Rattle.s2id_union.specs.NormalForm.{normal_form}
use Rattle.s2id_union.proofs.NormalForm.{form_itself}
use Rattle.s2ix_bag_pairs.specs.declared.label.Label.{Label}
use Rattle.s2ix_bag_pairs.specs.declared.pair.Pair.{Pair}
use Rattle.s2ix_bag_pairs.specs.Change.{change_between, counts_at, difference_of}
use Rattle.s2ix_bag_pairs.specs.Collection.{Collection, LimitedCollection, IsCollection, IsCollectionFrom, count_at, count_in}
use Rattle.s2ix_bag_pairs.specs.Label.{value_of}
use Rattle.s2ix_bag_pairs.specs.OfLabel.{held_of}
use Rattle.s2ix_bag_pairs.specs.Pair.{rank_of}
use Rattle.s2ix_bag_pairs.proofs.Collections.{count_set_other, count_set_same, same_collection, set_keeps}
use Rattle.s2ix_bag_pairs.proofs.Counts.{count_head, count_tail, from_lower}
use Rattle.s2ix_bag_pairs.proofs.Differences.{between_is_change, counts_between, no_difference, only_change}
use Rattle.s2ix_bag_pairs.proofs.OfLabel.{count_of_other, count_of_own, of_label_from, same_label_at}
use Rattle.s2ix_bag_pairs.proofs.Pairs.{same_pair}
use Rattle.s2ix_edit_plan.specs.Edit.{pair_of, with_each, with_more, without_label}
use Rattle.s2ix_edit_plan.specs.Plan.{one_copy}
use Rattle.s2ix_edit_plan.specs.Region.{cell_of, cells_of, region_of}
use Rattle.s2ix_edit_plan.proofs.AddUnion.{RiseFrom, rise_contains, rises_from_zero, with_each_keeps, with_each_other, with_each_same}
use Rattle.s2ix_edit_plan.proofs.DropLabel.{without_keeps, without_other, without_own}
use Rattle.s2ix_edit_plan.proofs.Plans.{Makes, makes_between}
use Rattle.s2ix_edit_plan.proofs.LabelCells.{region_normal}

-- the cells' pairs under the label, each held with one copy
abbrev pub ones : Label → List CellId → Collection
ones label cs = map (one_copy label) cs

ones_from : (n : ℕ) (label : Label) (cs : List CellId) → RiseFrom n cs → IsCollectionFrom (n * 2147483648) (ones label cs)
ones_from n label [] rise = tt
ones_from n label (c ∷ cs) rise = (
  omega (arith, rise.0),
  omega arith,
  from_lower (rank_of (pair_of c label) + 1) ((raw_of c + 1) * 2147483648) (ones label cs)
      (let range = label.in_range in omega (arith, range)) (ones_from (raw_of c + 1) label cs rise.1),
)

-- they are a collection
pub ones_rise : (label : Label) (cs : List CellId) → AllPairs (λ a b. raw_of a < raw_of b) cs → IsCollection (ones label cs)
ones_rise label cs pairs = from_lower 0 (0 * 2147483648) (ones label cs) (omega arith) (ones_from 0 label cs (rises_from_zero cs pairs))

-- ---- the counts

-- a pair with another label is none of them
ones_other : (label : Label) (cs : List CellId) (p : Pair) → value_of p.label ≢ value_of label → count_in (ones label cs) p ≡ 0
ones_other label [] p other = refl
ones_other label (c ∷ cs) p other =
    count_tail (one_copy label c) (ones label cs) (rank_of p) (λ e. other (sym (same_label_at (pair_of c label) p e)))
    ∙ ones_other label cs p other

-- one copy more for each cell, if none was: what the pairs are held with
each_from_none : (n : ℕ) (label : Label) (cs : List CellId) (ks : Collection) (k : ℕ) → IsCollection ks → RiseFrom n cs → count_at ks k ≡ 0
    → count_at (with_each label cs ks) k ≡ count_at (ones label cs) k
each_from_none n label [] ks k is rise none = none
each_from_none n label (c ∷ cs) ks k is rise none =
    let p = pair_of c label in
    let range = label.in_range in
    ⊎_elim
    (λ here.
    with_each_other label cs (with_more p 1 ks) k
    (λ d has e. omega (arith, e, here, rise_contains (raw_of c + 1) cs d has.0 rise.1 has.1 has.2))
    ∙ ap (λ j. count_at (with_more p 1 ks) j) (sym here)
    ∙ count_set_same 0 p (count_in ks p + 1) ks is
    ∙ ap (λ m. m + 1) (ap (λ j. count_at ks j) here ∙ none)
    ∙ sym (count_head (one_copy label c) (ones label cs) k here))
    (λ other.
    each_from_none (raw_of c + 1) label cs (with_more p 1 ks) k (set_keeps p (count_in ks p + 1) ks is) rise.1
    (count_set_other p (count_in ks p + 1) ks k other ∙ none)
    ∙ sym (count_tail (one_copy label c) (ones label cs) k other))
    (cases_eq (rank_of p) k)

-- the label's pairs replaced
abbrev pub replaced : Label → List CellId → Collection → Collection
replaced label cs hs = with_each label cs (without_label label hs)

pub replaced_keeps : (label : Label) (cs : List CellId) (hs : Collection) → IsCollection hs → IsCollection (replaced label cs hs)
replaced_keeps label cs hs is = with_each_keeps label cs (without_label label hs) (without_keeps label hs is)

-- a pair of the label has the count that it is held with among them
pub replaced_own : (label : Label) (cs : List CellId) (hs : Collection) (p : Pair) → IsCollection hs
    → AllPairs (λ a b. raw_of a < raw_of b) cs → value_of p.label ≡ value_of label
    → count_in (replaced label cs hs) p ≡ count_in (ones label cs) p
replaced_own label cs hs p is pairs own =
    each_from_none 0 label cs (without_label label hs) (rank_of p) (without_keeps label hs is) (rises_from_zero cs pairs)
    (without_own label hs p own)

-- and every other its own
pub replaced_other : (label : Label) (cs : List CellId) (hs : Collection) (p : Pair) → IsCollection hs → value_of p.label ≢ value_of label
    → count_in (replaced label cs hs) p ≡ count_in hs p
replaced_other label cs hs p is other =
    with_each_other label cs (without_label label hs) (rank_of p) (λ d has e. other (sym (same_label_at (pair_of d label) p e)))
    ∙ without_other label hs p is other

-- ---- the entries

replaced_counts : (label : Label) (cs : List CellId) (hs : Collection) (p : Pair) → IsCollection hs
    → AllPairs (λ a b. raw_of a < raw_of b) cs
    → counts_at (change_between (held_of label hs) (ones label cs)) (rank_of p)
    ≡ difference_of (count_in hs p) (count_in (replaced label cs hs) p)
replaced_counts label cs hs p is pairs =
    counts_between (held_of label hs) (ones label cs) p (of_label_from 0 label hs is) (ones_rise label cs pairs)
    ∙ ⊎_elim
    (λ own. ap₂ (λ (m n : ℕ). difference_of m n) (count_of_own label hs p own) (sym (replaced_own label cs hs p is pairs own)))
    (λ other.
    no_difference (count_in (held_of label hs) p) (count_in (ones label cs) p)
    (count_of_other label hs p other ∙ sym (ones_other label cs p other))
    ∙ sym (no_difference (count_in hs p) (count_in (replaced label cs hs) p) (sym (replaced_other label cs hs p is other))))
    (cases_eq (value_of p.label) (value_of label))

-- the change from the label's pairs to the new ones replaces them in the whole collection
pub replacement_makes : (bag : LimitedCollection) (label : Label) (cs : List CellId) → IsCollection bag.held
    → AllPairs (λ a b. raw_of a < raw_of b) cs
    → Makes bag (replaced label cs bag.held) (change_between (held_of label bag.held) (ones label cs))
replacement_makes bag label cs is pairs =
    let hs = bag.held in
    let es = change_between (held_of label hs) (ones label cs) in
    let new_is = replaced_keeps label cs hs is in
    makes_between bag (replaced label cs hs) es is new_is
    (only_change hs (replaced label cs hs) es is new_is (between_is_change (held_of label hs) (ones label cs) (of_label_from 0 label hs is))
    (λ p. replaced_counts label cs hs p is pairs))

-- ---- what is held with the label then

-- what is held with the label then
replaced_held : (label : Label) (cs : List CellId) (hs : Collection) → IsCollection hs → AllPairs (λ a b. raw_of a < raw_of b) cs
    → held_of label (replaced label cs hs) ≡ ones label cs
replaced_held label cs hs is pairs =
    let new = replaced label cs hs in
    same_collection (held_of label new) (ones label cs) (of_label_from 0 label new (replaced_keeps label cs hs is))
    (ones_rise label cs pairs)
    (λ p. ⊎_elim
    (λ own. count_of_own label new p own ∙ replaced_own label cs hs p is pairs own)
    (λ other. count_of_other label new p other ∙ sym (ones_other label cs p other))
    (cases_eq (value_of p.label) (value_of label)))

ones_cells : (label : Label) (cs : List CellId) → map cell_of (ones label cs) ≡ cs
ones_cells label [] = refl
ones_cells label (c ∷ cs) = ap (λ ds. c ∷ ds) (ones_cells label cs)

-- the cells of the list
pub replaced_cells : (label : Label) (cs : List CellId) (hs : Collection) → IsCollection hs → AllPairs (λ a b. raw_of a < raw_of b) cs
    → cells_of label (replaced label cs hs) ≡ cs
replaced_cells label cs hs is pairs = ap (λ ks. map cell_of ks) (replaced_held label cs hs is pairs) ∙ ones_cells label cs

-- ---- by the label's region

-- a cell of the region is held once
pub normalised_cell : (label : Label) (hs : Collection) (c : CellId) → IsCollection hs → Contains (region_of label hs) c
    → count_in (replaced label (region_of label hs) hs) (pair_of c label) ≡ 1
normalised_cell label hs c is has =
    with_each_same label (region_of label hs) (without_label label hs) c (without_keeps label hs is) (region_normal label hs).rises has
    ∙ ap (λ m. m + 1) (without_own label hs (pair_of c label) refl)

-- and another cell isn't held
pub normalised_elsewhere : (label : Label) (hs : Collection) (c : CellId) → (Contains (region_of label hs) c → ⊥)
    → count_in (replaced label (region_of label hs) hs) (pair_of c label) ≡ 0
normalised_elsewhere label hs c lacks =
    let In : CellId → Type 0 = λ d. Contains (region_of label hs) d in
    with_each_other label (region_of label hs) (without_label label hs) (rank_of (pair_of c label))
    (λ d has e. lacks (subst In (ap (λ (p : Pair). p.cell) (same_pair (pair_of d label) (pair_of c label) e)) has))
    ∙ without_own label hs (pair_of c label) refl

-- the cells that are held then are the region's
pub normalised_cells : (label : Label) (hs : Collection) → IsCollection hs
    → cells_of label (replaced label (region_of label hs) hs) ≡ region_of label hs
normalised_cells label hs is = replaced_cells label (region_of label hs) hs is (region_normal label hs).rises

-- which stays
pub normalised_region : (label : Label) (hs : Collection) → IsCollection hs
    → region_of label (replaced label (region_of label hs) hs) ≡ region_of label hs
normalised_region label hs is =
    ap normal_form (normalised_cells label hs is) ∙ form_itself (region_of label hs) (region_normal label hs)
