-- What parts make up, cut between two of them.
use Rattle.std.proofs.Common.{◌≡◌, ℕ, zero, suc, ◌+◌, ◌<◌, ◌≤◌, List, [], ◌∷◌, ◌++◌, take, drop, get_or, set, length, refl, sym, ap, ◌∙◌, arith, append_assoc, append-nil, length-append}
use Rattle.std.proofs.lemmas.List.{take-append-drop, drop_all}
use Rattle.s2ix_bag_pairs.specs.Collection.{Collection, IsCollectionFrom, AreBelow}
use Rattle.s2ix_bag_pairs.specs.Pair.{rank_of}
use Rattle.s2ix_bag_pairs.specs.declared.pair.Held.{Held}
use Rattle.s2ix_bag_pairs.proofs.Counts.{from_lower}
use Rattle.s2ix_bag_lists.specs.Faces.{all_of}
use Rattle.s2ix_bag_lists.specs.Parts.{AreFilled}
use Rattle.s2ix_bag_lists.proofs.AmongFaces.{all_is, all_put}

-- ---- parts one after the other

pub all_append : (ps qs : List Collection) → all_of (ps ++ qs) ≡ all_of ps ++ all_of qs
all_append [] qs = refl
all_append (p ∷ ps) qs = ap (λ x. p ++ x) (all_append ps qs) ∙ sym (append_assoc p (all_of ps) (all_of qs))

pub all_split : (i : ℕ) (ps : List Collection) → all_of ps ≡ all_of (take i ps) ++ all_of (drop i ps)
all_split i ps = ap (λ x. all_of x) (sym (take-append-drop i ps)) ∙ all_append (take i ps) (drop i ps)

pub all_push : (ps : List Collection) (p : Collection) → all_of (ps ++ p ∷ []) ≡ all_of ps ++ p
all_push ps p = all_append ps (p ∷ []) ∙ ap (λ x. all_of ps ++ x) (append-nil p)

pub filled_append : (ps qs : List Collection) → AreFilled ps → AreFilled qs → AreFilled (ps ++ qs)
filled_append [] qs ps_are qs_are = qs_are
filled_append (p ∷ ps) qs ps_are qs_are = (ps_are.0, filled_append ps qs ps_are.1 qs_are)

pub filled_front : (ps qs : List Collection) → AreFilled (ps ++ qs) → AreFilled ps
filled_front [] qs are = tt
filled_front (p ∷ ps) qs are = (are.0, filled_front ps qs are.1)

pub filled_back : (ps qs : List Collection) → AreFilled (ps ++ qs) → AreFilled qs
filled_back [] qs are = are
filled_back (p ∷ ps) qs are = filled_back ps qs are.1

pub filled_take : (i : ℕ) (ps : List Collection) → AreFilled ps → AreFilled (take i ps)
filled_take zero ps are = tt
filled_take (suc i) [] are = tt
filled_take (suc i) (p ∷ ps) are = (are.0, filled_take i ps are.1)

pub filled_drop : (i : ℕ) (ps : List Collection) → AreFilled ps → AreFilled (drop i ps)
filled_drop zero ps are = are
filled_drop (suc i) [] are = tt
filled_drop (suc i) (p ∷ ps) are = filled_drop i ps are.1

pub filled_at : (ps : List Collection) (i : ℕ) (d : Collection) → i < length ps → AreFilled ps → 0 < length (get_or ps i d)
filled_at [] i d within are = absurd (omega arith)
filled_at (p ∷ ps) zero d within are = are.0
filled_at (p ∷ ps) (suc i) d within are = filled_at ps i d (omega arith) are.1

-- ---- rising lists

pub later_rank : (m : ℕ) (fs : Collection) (h : Held) (hs : Collection) → IsCollectionFrom m (fs ++ h ∷ hs) → m ≤ rank_of h.pair
later_rank m [] h hs is = is.0
later_rank m (f ∷ fs) h hs is = omega (arith, is.0, later_rank (rank_of f.pair + 1) fs h hs is.2)

pub front_below : (m : ℕ) (fs : Collection) (h : Held) (hs : Collection) → IsCollectionFrom m (fs ++ h ∷ hs) → AreBelow (rank_of h.pair) fs
front_below m [] h hs is = tt
front_below m (f ∷ fs) h hs is =
    (omega (arith, later_rank (rank_of f.pair + 1) fs h hs is.2), front_below (rank_of f.pair + 1) fs h hs is.2)

pub back_rises : (m : ℕ) (fs hs : Collection) → IsCollectionFrom m (fs ++ hs) → IsCollectionFrom m hs
back_rises m [] hs is = is
back_rises m (f ∷ fs) hs is = from_lower m (rank_of f.pair + 1) hs (omega (arith, is.0)) (back_rises (rank_of f.pair + 1) fs hs is.2)

pub front_rises : (m : ℕ) (fs hs : Collection) → IsCollectionFrom m (fs ++ hs) → IsCollectionFrom m fs
front_rises m [] hs is = tt
front_rises m (f ∷ fs) hs is = (is.0, is.1, front_rises (rank_of f.pair + 1) fs hs is.2)

-- ---- a part joined with the last one

pub joined_last : (ps : List Collection) (i : ℕ) (last both part : Collection) → i + 1 ≡ length ps → last ≡ get_or ps i []
    → both ≡ last ++ part → all_of (set ps i both) ≡ all_of ps ++ part
joined_last ps i last both part is same joined =
    let within : i < length ps = omega arith in
    let front = all_of (take i ps) in
    let none : drop (suc i) ps ≡ [] = drop_all (suc i) ps (omega arith) in
    let ends : all_of (drop (suc i) ps) ≡ [] = ap (λ (xs : List Collection). all_of xs) none in
    let all : all_of ps ≡ front ++ last =
    all_is ps i within
    ∙ ap (λ (hs : Collection). front ++ (get_or ps i [] ++ hs)) ends
    ∙ ap (λ (hs : Collection). front ++ hs) (append-nil (get_or ps i []))
    ∙ ap (λ (hs : Collection). front ++ hs) (sym same) in
    all_put ps i both within
    ∙ ap (λ (hs : Collection). front ++ (both ++ hs)) ends
    ∙ ap (λ (hs : Collection). front ++ hs) (append-nil both)
    ∙ ap (λ (hs : Collection). front ++ hs) joined
    ∙ sym (append_assoc front last part)
    ∙ ap (λ (hs : Collection). hs ++ part) (sym all)

pub filled_set : (ps : List Collection) (i : ℕ) (new : Collection) → AreFilled ps → 0 < length new → AreFilled (set ps i new)
filled_set [] i new are some = tt
filled_set (p ∷ ps) zero new are some = (some, are.1)
filled_set (p ∷ ps) (suc i) new are some = (are.0, filled_set ps i new are.1 some)

pub filled_joined : (ps : List Collection) (i : ℕ) (last both part : Collection) → AreFilled ps → both ≡ last ++ part → 0 < length part
    → AreFilled (set ps i both)
filled_joined ps i last both part are joined some =
    let long = ap (λ (hs : Collection). length hs) joined in
    filled_set ps i both are (omega (arith, long, length-append last part, some))

pub filled_push : (ps : List Collection) (new part : Collection) → AreFilled ps → new ≡ part → 0 < length part → AreFilled (ps ++ new ∷ [])
filled_push ps new part are same some =
    let long = ap (λ (hs : Collection). length hs) same in
    filled_append ps (new ∷ []) are (omega (arith, long, some), tt)
