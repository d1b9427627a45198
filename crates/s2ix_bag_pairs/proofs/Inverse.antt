-- The change that takes a change back.
use Rattle.std.proofs.Common.{◌≡◌, ℕ, ◌+◌, List, [], ◌∷◌, Option, Some, None, refl, sym, ap, ◌∙◌, ⊎_elim}
use Rattle.std.proofs.lemmas.Bool.{cases_eq}
use Rattle.s2ix_bag_pairs.specs.Collection.{Collection, IsCollection, count_in}
use Rattle.s2ix_bag_pairs.specs.Change.{IsChangeList, IsChangeListFrom, counts_at, difference_of, changed, change_between, exchanged, inverse_of}
use Rattle.s2ix_bag_pairs.specs.Pair.{rank_of}
use Rattle.s2ix_bag_pairs.specs.declared.pair.Entry.{Entry}
use Rattle.s2ix_bag_pairs.proofs.Changes.{counts_head, counts_tail}
use Rattle.s2ix_bag_pairs.proofs.Differences.{no_difference, some_difference, counts_between, between_is_change, only_change, changed_between}

-- the two counts of an entry exchanged
abbrev pub exchange : Option (ℕ × ℕ) → Option (ℕ × ℕ)
exchange None = None
exchange (Some counts) = Some (counts.1, counts.0)

pub inverse_keeps_from : (n : ℕ) (es : List Entry) → IsChangeListFrom n es → IsChangeListFrom n (inverse_of es)
inverse_keeps_from n [] es_is = tt
inverse_keeps_from n (e ∷ es) es_is = (es_is.0, λ same. es_is.1 (sym same), inverse_keeps_from (rank_of e.pair + 1) es es_is.2)

-- the inverse of a change is a change
pub inverse_keeps : (es : List Entry) → IsChangeList es → IsChangeList (inverse_of es)
inverse_keeps es es_is = inverse_keeps_from 0 es es_is

-- with the counts of each pair exchanged
pub counts_inverse : (es : List Entry) (k : ℕ) → counts_at (inverse_of es) k ≡ exchange (counts_at es k)
counts_inverse [] k = refl
counts_inverse (e ∷ es) k =
    ⊎_elim
    (λ here. counts_head (exchanged e) (inverse_of es) k here ∙ ap exchange (sym (counts_head e es k here)))
    (λ other. counts_tail (exchanged e) (inverse_of es) k other ∙ counts_inverse es k ∙ ap exchange (sym (counts_tail e es k other)))
    (cases_eq (rank_of e.pair) k)

-- the inverse of the inverse is the change itself
pub inverse-inverse : (es : List Entry) → inverse_of (inverse_of es) ≡ es
inverse-inverse [] = refl
inverse-inverse (e ∷ es) = ap (λ x. e ∷ x) (inverse-inverse es)

exchange_difference : (m n : ℕ) → exchange (difference_of m n) ≡ difference_of n m
exchange_difference m n =
    ⊎_elim
    (λ same. ap exchange (no_difference m n same) ∙ sym (no_difference n m (sym same)))
    (λ ne. ap exchange (some_difference m n ne) ∙ sym (some_difference n m (λ same. ne (sym same))))
    (cases_eq m n)

-- the inverse of the change between two collections is the change back
pub inverse_between : (old new : Collection) → IsCollection old → IsCollection new
    → inverse_of (change_between old new) ≡ change_between new old
inverse_between old new old_is new_is =
    only_change new old (inverse_of (change_between old new)) new_is old_is
    (inverse_keeps (change_between old new) (between_is_change old new old_is))
    (λ p.
    counts_inverse (change_between old new) (rank_of p) ∙ ap exchange (counts_between old new p old_is new_is)
    ∙ exchange_difference (count_in old p) (count_in new p))

-- so it makes the first collection of the second
pub changed_inverse_between : (old new : Collection) → IsCollection old → IsCollection new
    → changed new (inverse_of (change_between old new)) ≡ old
changed_inverse_between old new old_is new_is =
    ap (λ es. changed new es) (inverse_between old new old_is new_is) ∙ changed_between new old new_is old_is
