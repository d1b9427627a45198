-- Two layers by a test of cells, and what a change makes of them.
use Rattle.std.proofs.Common.{◌≡◌, inl, inr, Bool, true, false, not, List, [], sym, ◌∙◌, ap, ap₂, subst}
use Rattle.std.proofs.lemmas.Bool.{both_ways, cases_Bool}
use Rattle.s2id_core.specs.declared.cell_id.CellId.{CellId}
use Rattle.s2id_core.proofs.Cells.{same_cell}
use Rattle.s2ix_bag_pairs.specs.Change.{IsChangeList, changed}
use Rattle.s2ix_bag_pairs.specs.Collection.{Collection, IsCollection, count_in}
use Rattle.s2ix_bag_pairs.specs.Pair.{rank_of}
use Rattle.s2ix_bag_pairs.specs.declared.pair.Entry.{Entry}
use Rattle.s2ix_bag_pairs.proofs.Changes.{changed_keeps}
use Rattle.s2ix_bag_pairs.proofs.Collections.{same_collection}
use Rattle.s2ix_table_parts.specs.Layers.{joined_layers, ShareNoCell, AreLayersBy, held_where, entries_where, opposite}
use Rattle.s2ix_table_parts.proofs.HeldWhere.{in_where, all_where, none_where, where_rises, count_passed, count_failed, changed_where}
use Rattle.s2ix_table_parts.proofs.Layers.{joined_layers_rise, joined_layers_none, joined_layers_heavy, same_joined_layers, count_light}

-- ---- a test of cells

pub fails_from_false : (test : CellId → Bool) (cell : CellId) → test cell ≡ false → opposite test cell ≡ true
fails_from_false test cell f = ap not f

pub fails_from_true : (test : CellId → Bool) (cell : CellId) → test cell ≡ true → opposite test cell ≡ false
fails_from_true test cell t = ap not t

pub false_from_opposite : (test : CellId → Bool) (cell : CellId) → opposite test cell ≡ true → test cell ≡ false
false_from_opposite test cell f =
    elim (cases_Bool (test cell)) [
      | inl t ↦ absurd (both_ways (opposite test cell) (fails_from_true test cell t) f)
      | inr is ↦ is
    ]

-- layers by a test share no cell
pub layers_share_no_cell : (is_heavy : CellId → Bool) (light heavy : Collection) → AreLayersBy is_heavy light heavy
    → ShareNoCell light heavy
layers_share_no_cell is_heavy light heavy are l h in_light in_heavy same =
    let cells = ap is_heavy (same_cell l.pair.cell h.pair.cell same) in
    both_ways (is_heavy l.pair.cell) (are.light_fails l in_light) (cells ∙ are.heavy_passes h in_heavy)

-- the pairs whose cells fail a test, and those whose cells pass it, are layers by it
pub layers_of : (is_heavy : CellId → Bool) (all : Collection)
    → AreLayersBy is_heavy (held_where (opposite is_heavy) all) (held_where is_heavy all)
layers_of is_heavy all = record {
  light_fails = λ h held. false_from_opposite is_heavy h.pair.cell (in_where (opposite is_heavy) all h held).1;
  heavy_passes = λ h held. (in_where is_heavy all h held).1;
}

-- and together they are all
pub both_layers : (is_heavy : CellId → Bool) (all : Collection) → IsCollection all
    → joined_layers (held_where (opposite is_heavy) all) (held_where is_heavy all) ≡ all
both_layers is_heavy all c =
    let light : Collection = held_where (opposite is_heavy) all in
    let heavy : Collection = held_where is_heavy all in
    let light_is = where_rises (opposite is_heavy) 0 all c in
    let heavy_is = where_rises is_heavy 0 all c in
    same_collection (joined_layers light heavy) all (joined_layers_rise light heavy light_is) c (λ p. elim (cases_Bool (is_heavy p.cell)) [
      | inl t ↦
          (let none = count_failed (opposite is_heavy) all p (fails_from_true is_heavy p.cell t) in
          same_joined_layers light heavy [] all (rank_of p) light_is heavy_is tt c none (count_passed is_heavy all p t)
          ∙ ap (λ hs. count_in hs p) (joined_layers_heavy all c))
      | inr f ↦
          count_light 0 light heavy (rank_of p) light_is heavy_is (count_failed is_heavy all p f)
          ∙ count_passed (opposite is_heavy) all p (fails_from_false is_heavy p.cell f)
    ])

-- ---- by cells

-- what passes a test of both together is what passes it of each, together
pub where_joined_layers : (test : CellId → Bool) (light heavy : Collection) → IsCollection light → IsCollection heavy
    → held_where test (joined_layers light heavy) ≡ joined_layers (held_where test light) (held_where test heavy)
where_joined_layers test light heavy c d =
    let own_light : Collection = held_where test light in
    let own_heavy : Collection = held_where test heavy in
    let all : Collection = joined_layers light heavy in
    let light_is = where_rises test 0 light c in
    let heavy_is = where_rises test 0 heavy d in
    same_collection (held_where test all) (joined_layers own_light own_heavy) (where_rises test 0 all (joined_layers_rise light heavy c))
    (joined_layers_rise own_light own_heavy light_is) (λ p. elim (cases_Bool (test p.cell)) [
      | inl t ↦
          count_passed test all p t
          ∙ same_joined_layers light heavy own_light own_heavy (rank_of p) c d light_is heavy_is (sym (count_passed test light p t))
          (sym (count_passed test heavy p t))
      | inr f ↦
          count_failed test all p f
          ∙ sym (count_light 0 own_light own_heavy (rank_of p) light_is heavy_is (count_failed test heavy p f)
          ∙ count_failed test light p f)
    ])

-- the light pairs of both together
pub light_of : (is_heavy : CellId → Bool) (light heavy : Collection) → AreLayersBy is_heavy light heavy → IsCollection light
    → IsCollection heavy → held_where (opposite is_heavy) (joined_layers light heavy) ≡ light
light_of is_heavy light heavy are c d =
    where_joined_layers (opposite is_heavy) light heavy c d
    ∙ ap₂ joined_layers (all_where (opposite is_heavy) light (λ h held. fails_from_false is_heavy h.pair.cell (are.light_fails h held)))
    (none_where (opposite is_heavy) heavy (λ h held. fails_from_true is_heavy h.pair.cell (are.heavy_passes h held)))
    ∙ joined_layers_none light

-- and the heavy ones
pub heavy_of : (is_heavy : CellId → Bool) (light heavy : Collection) → AreLayersBy is_heavy light heavy → IsCollection light
    → IsCollection heavy → held_where is_heavy (joined_layers light heavy) ≡ heavy
heavy_of is_heavy light heavy are c d =
    where_joined_layers is_heavy light heavy c d
    ∙ ap₂ joined_layers (none_where is_heavy light are.light_fails) (all_where is_heavy heavy are.heavy_passes)
    ∙ joined_layers_heavy heavy d

-- ---- a change

-- what a change makes of both together has the light pairs that its light entries make of the light ones
pub changed_light : (is_heavy : CellId → Bool) (light heavy : Collection) (es : List Entry) → AreLayersBy is_heavy light heavy
    → IsCollection light → IsCollection heavy
    → held_where (opposite is_heavy) (changed (joined_layers light heavy) es) ≡ changed light (entries_where (opposite is_heavy) es)
changed_light is_heavy light heavy es are c d =
    changed_where (opposite is_heavy) (joined_layers light heavy) es (joined_layers_rise light heavy c)
    ∙ ap (λ hs. changed hs (entries_where (opposite is_heavy) es)) (light_of is_heavy light heavy are c d)

-- and the heavy pairs that its heavy entries make of the heavy ones
pub changed_heavy : (is_heavy : CellId → Bool) (light heavy : Collection) (es : List Entry) → AreLayersBy is_heavy light heavy
    → IsCollection light → IsCollection heavy
    → held_where is_heavy (changed (joined_layers light heavy) es) ≡ changed heavy (entries_where is_heavy es)
changed_heavy is_heavy light heavy es are c d =
    changed_where is_heavy (joined_layers light heavy) es (joined_layers_rise light heavy c)
    ∙ ap (λ hs. changed hs (entries_where is_heavy es)) (heavy_of is_heavy light heavy are c d)

-- a change of both together is one of each by its own entries
pub changed_joined_layers : (is_heavy : CellId → Bool) (light heavy : Collection) (es : List Entry) → AreLayersBy is_heavy light heavy
    → IsCollection light → IsCollection heavy → IsChangeList es
    → changed (joined_layers light heavy) es
    ≡ joined_layers (changed light (entries_where (opposite is_heavy) es)) (changed heavy (entries_where is_heavy es))
changed_joined_layers is_heavy light heavy es are c d rise =
    sym (both_layers is_heavy (changed (joined_layers light heavy) es) (changed_keeps (joined_layers light heavy) es (joined_layers_rise light heavy c) rise))
    ∙ ap₂ joined_layers (changed_light is_heavy light heavy es are c d) (changed_heavy is_heavy light heavy es are c d)

-- and the two are layers by the same test
pub changed_layers : (is_heavy : CellId → Bool) (light heavy : Collection) (es : List Entry) → AreLayersBy is_heavy light heavy
    → IsCollection light → IsCollection heavy
    → AreLayersBy is_heavy (changed light (entries_where (opposite is_heavy) es)) (changed heavy (entries_where is_heavy es))
changed_layers is_heavy light heavy es are c d =
    subst (AreLayersBy is_heavy (changed light (entries_where (opposite is_heavy) es))) (changed_heavy is_heavy light heavy es are c d)
    (subst (λ hs. AreLayersBy is_heavy hs (held_where is_heavy (changed (joined_layers light heavy) es)))
    (changed_light is_heavy light heavy es are c d) (layers_of is_heavy (changed (joined_layers light heavy) es)))
