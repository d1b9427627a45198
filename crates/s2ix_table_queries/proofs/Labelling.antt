-- The labels of pairs, gathered and then made to rise.
use Rattle.std.proofs.Common.{◌≡◌, ◌↔◌, ◌⊎◌, inl, inr, List, [], ◌∷◌, Contains, sym, ap, subst}
use Rattle.s2id_core.proofs.Lists.{cons_cases, in_tail, at_head, none_in_nil}
use Rattle.s2ix_bag_pairs.specs.Collection.{Collection}
use Rattle.s2ix_bag_pairs.specs.declared.label.Label.{Label}
use Rattle.s2ix_bag_pairs.specs.declared.pair.Held.{Held}
use Rattle.s2ix_table_walk.specs.Meeting.{IsLabelList}
use Rattle.s2ix_table_queries.specs.Rising.{HaveTheSame, Rise}

-- one of the pairs has the label
abbrev pub IsLabelOf : Collection → Label → Type 0
IsLabelOf pairs label = (held : Held) × Contains pairs held × (held.pair.label ≡ label)

-- labels are those of all pairs but of some that are left
pub record IsGathered (all left : Collection) (labels : List Label) : Type 0 where
  pub met : (label : Label) → Contains labels label → IsLabelOf all label
  pub within : (held : Held) → Contains left held → Contains all held
  pub each : (held : Held) → Contains all held → Contains labels held.pair.label ⊎ Contains left held

pub next_gathered : (all left next : Collection) (held : Held) (labels more : List Label) → left ≡ held ∷ next
    → ((other : Label) → Contains more other ↔ (Contains labels other ⊎ (other ≡ held.pair.label))) → IsGathered all left labels
    → IsGathered all next more
next_gathered all left next held labels more is put gathered =
    let in_left : (h : Held) → Contains (held ∷ next) h → Contains left h = λ h c. subst (λ hs. Contains hs h) (sym is) c in
    record {
      met = λ label c.
          elim ((put label).0 c) [
            | inl old ↦ gathered.met label old
            | inr new ↦ (held, gathered.within held (in_left held (at_head held next)), sym new)
          ];
      within = λ h c. gathered.within h (in_left h (in_tail held next h c));
      each = λ h c.
          elim (gathered.each h c) [
            | inl old ↦ inl ((put h.pair.label).1 (inl old))
            | inr rest ↦
                elim (cons_cases held next h (subst (λ hs. Contains hs h) is rest)) [
                  | inl same ↦ inl ((put h.pair.label).1 (inr (ap (λ (x : Held). x.pair.label) (sym same))))
                  | inr later ↦ inr later
                ]
          ];
    }

pub all_gathered : (all left : Collection) (labels : List Label) → left ≡ [] → IsGathered all left labels → (label : Label)
    → Contains labels label ↔ IsLabelOf all label
all_gathered all left labels is gathered label = (
  gathered.met label,
  λ r.
      elim (gathered.each r.0 r.1) [
        | inl c ↦ subst (Contains labels) r.2 c
        | inr rest ↦ absurd (none_in_nil r.0 (subst (λ hs. Contains hs r.0) is rest))
      ],
)

-- the labels of a meeting list, as they rise, are its label list
pub label_list_from_rising : (meeting : Collection) (xs ys : List Label) → ((label : Label) → Contains xs label ↔ IsLabelOf meeting label)
    → Rise ys → HaveTheSame ys xs → IsLabelList meeting ys
label_list_from_rising meeting xs ys is rise same = record {
  rises = rise;
  each = λ l. (λ c. (is l).0 ((same l).0 c), λ r. (same l).1 ((is l).1 r));
}
