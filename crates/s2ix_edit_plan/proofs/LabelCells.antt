-- The cells of a label, and their region.
use Rattle.std.proofs.Common.{◌≡◌, ◌==◌, true, [], ◌∷◌, length, map, refl, ap, ◌∙◌, arith}
use Rattle.std.proofs.lemmas.Bool.{eqb-true}
use Rattle.s2id_union.specs.NormalForm.{normal_form}
use Rattle.s2id_union.specs.Region.{HaveSameRegion, IsNormal}
use Rattle.s2id_core.proofs.Lists.{none_in_nil}
use Rattle.s2id_union.proofs.NormalForm.{form_itself, form_normal, form_same_region}
use Rattle.s2ix_bag_pairs.specs.declared.label.Label.{Label}
use Rattle.s2ix_bag_pairs.specs.Collection.{Collection}
use Rattle.s2ix_bag_pairs.specs.OfLabel.{held_of}
use Rattle.s2ix_edit_plan.specs.Refusals.{holds_none}
use Rattle.s2ix_edit_plan.specs.Region.{cell_of, cells_of, region_of}

-- their region is normal
pub region_normal : (label : Label) (hs : Collection) → IsNormal (region_of label hs)
region_normal label hs = form_normal (cells_of label hs)

-- and has their leaves
pub region_same : (label : Label) (hs : Collection) → HaveSameRegion (region_of label hs) (cells_of label hs)
region_same label hs = form_same_region (cells_of label hs)

nil_normal : IsNormal []
nil_normal = record {
  rises = λ i j d lt within. absurd (omega arith);
  apart = λ a b held_a held_b within. absurd (none_in_nil a held_a);
  no_four = λ p has. let child = has 0 (omega arith) in none_in_nil child.1 (child.0, child.2, child.3);
}

nothing_held : (hs : Collection) → (length hs == 0) ≡ true → hs ≡ []
nothing_held [] none = refl
nothing_held (h ∷ hs) none = absurd (omega (arith, eqb-true (length (h ∷ hs)) 0 none))

-- a label that isn't held has the empty region
pub no_region : (label : Label) (hs : Collection) → holds_none label hs ≡ true → region_of label hs ≡ []
no_region label hs none =
    ap (λ ks. normal_form (map cell_of ks)) (nothing_held (held_of label hs) none) ∙ form_itself [] nil_normal
