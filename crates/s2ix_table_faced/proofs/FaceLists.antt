-- A list for each face on which a change has an entry.
use Rattle.std.proofs.Common.{◌≡◌, ℕ, ◌<◌, inl, inr, false, Option, Some, None, List, length, map, get_or, sym, ◌∙◌, ap, arith}
use Rattle.std.proofs.lemmas.Bool.{cases_Bool, cond-true, cond-false}
use Rattle.std.proofs.lemmas.List.{get_or_default}
use Rattle.s2ix_bag_pairs.specs.Collection.{Collection}
use Rattle.s2ix_bag_pairs.specs.declared.pair.Entry.{Entry}
use Rattle.s2ix_table_kept.specs.Faces.{changed_on, faces, has_entry_on, held_on}
use Rattle.s2ix_table_faced.proofs.Summing.{mapped_at}

unfoldable list_or : Collection → Option Collection → Collection
list_or none None = none
list_or none (Some list) = list

unfoldable count_of : Option Collection → ℕ
count_of None = 0
count_of (Some list) = 1

there_is : (lists : List (Option Collection)) (change : List Entry) (hs : Collection) (face at : ℕ) (d list : Option Collection)
    → lists ≡ map (changed_on change hs) faces → at ≡ face → face < 6 → get_or lists at d ≡ list → changed_on change hs face ≡ list
there_is lists change hs face at d list are here lt is =
    let many = ap length are in
    let lt_many : at < length lists = omega (arith, many, here, lt) in
    sym (mapped_at (changed_on change hs) face None lt) ∙ ap (λ xs. get_or xs face None) (sym are) ∙ ap (λ k. get_or lists k None) (sym here)
    ∙ sym (get_or_default lists at d None lt_many) ∙ is

same_list : (one other : Collection) → Some one ≡ Some other → one ≡ other
unfolding list_or
same_list one other same = ap (list_or one) same

some_or_none : (one : Collection) → Some one ≡ None → ⊥
unfolding count_of
some_or_none one same = omega (arith, ap count_of same)

pub list_some : (lists : List (Option Collection)) (change : List Entry) (hs : Collection) (face at : ℕ) (d : Option Collection) (list : Collection)
    → lists ≡ map (changed_on change hs) faces → at ≡ face → face < 6 → get_or lists at d ≡ Some list → list ≡ held_on face hs
list_some lists change hs face at d list are here lt is =
    let found = there_is lists change hs face at d (Some list) are here lt is in
    elim (cases_Bool (has_entry_on change face)) [
      | inl t ↦ same_list list (held_on face hs) (sym found ∙ cond-true _ (Some (held_on face hs)) None t)
      | inr f ↦ absurd (some_or_none list (sym found ∙ cond-false _ (Some (held_on face hs)) None f))
    ]

pub list_none : (lists : List (Option Collection)) (change : List Entry) (hs : Collection) (face at : ℕ) (d : Option Collection)
    → lists ≡ map (changed_on change hs) faces → at ≡ face → face < 6 → get_or lists at d ≡ None → has_entry_on change face ≡ false
list_none lists change hs face at d are here lt is =
    let found = there_is lists change hs face at d None are here lt is in
    elim (cases_Bool (has_entry_on change face)) [
      | inl t ↦ absurd (some_or_none (held_on face hs) (sym (cond-true _ (Some (held_on face hs)) None t) ∙ found))
      | inr f ↦ f
    ]
