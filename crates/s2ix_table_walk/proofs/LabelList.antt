-- The label list that is computed is the one of its meeting list.
use Rattle.std.proofs.Common.{◌≡◌, inl, inr, List, [], ◌∷◌, ◌∙◌, ap, Contains}
use Rattle.s2id_core.proofs.Lists.{cons_cases, in_tail, at_head, none_in_nil}
use Rattle.s2ix_bag_pairs.proofs.Pairs.{same_label}
use Rattle.s2ix_bag_pairs.specs.Collection.{Collection}
use Rattle.s2ix_bag_pairs.specs.Label.{value_of}
use Rattle.s2ix_bag_pairs.specs.declared.label.Label.{Label}
use Rattle.s2ix_bag_pairs.specs.declared.pair.Held.{Held}
use Rattle.s2ix_table_walk.specs.LabelList.{label_list}
use Rattle.s2ix_table_walk.specs.Meeting.{IsLabelList}
use Rattle.s2ix_table_walk.proofs.Lists.{same_labels}
use Rattle.s2ix_table_walk.proofs.Once.{RisesOnce, in_put, put_has, rises_put, rising_pairs}

abbrev HasLabel : Collection → Label → Type 0
HasLabel hs l = (h : Held) × Contains hs h × (h.pair.label ≡ l)

in_label_list : (hs : Collection) (l : Label) → Contains (label_list hs) l → HasLabel hs l
unfolding label_list
in_label_list [] l c = absurd (none_in_nil l c)
in_label_list (h ∷ hs) l c =
    elim (in_put value_of h.pair.label (label_list hs) l c) [
      | inl e ↦ (h, at_head h hs, e)
      | inr t ↦ let r = in_label_list hs l t in (r.0, in_tail h hs r.0 r.1, r.2)
    ]

label_list_has : (hs : Collection) (l : Label) → HasLabel hs l → Contains (label_list hs) l
unfolding label_list
label_list_has [] l has = absurd (none_in_nil has.0 has.1)
label_list_has (h ∷ hs) l has =
    put_has value_of same_label h.pair.label (label_list hs) l (elim (cons_cases h hs has.0 has.1) [
      | inl same ↦ inl (ap (λ (y : Held). y.pair.label) same ∙ has.2)
      | inr t ↦ inr (label_list_has hs l (has.0, t, has.2))
    ])

label_list_rises : (hs : Collection) → RisesOnce value_of (label_list hs)
unfolding label_list
label_list_rises [] = tt
label_list_rises (h ∷ hs) = rises_put value_of h.pair.label (label_list hs) (label_list_rises hs)

-- the list that is computed is a label list of the pairs
pub label_list_is : (hs : Collection) → IsLabelList hs (label_list hs)
label_list_is hs = record {
  rises = rising_pairs value_of (label_list hs) (label_list_rises hs);
  each = λ l. (in_label_list hs l, label_list_has hs l);
}

-- and the only one
pub is_label_list : (hs : Collection) (labels : List Label) → IsLabelList hs labels → labels ≡ label_list hs
is_label_list hs labels is = same_labels hs labels (label_list hs) is (label_list_is hs)
