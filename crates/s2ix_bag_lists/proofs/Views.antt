-- Some of the lists of a list of lists.
use Rattle.std.proofs.Common.{◌≡◌, ℕ, zero, suc, ◌+◌, ◌-◌, ◌<◌, ◌≤◌, List, [], ◌∷◌, ◌++◌, take, drop, get_or, length, min, refl, sym, ap, ◌∙◌, arith}
use Rattle.std.proofs.lemmas.List.{get_or-take, get_or-drop, length-take, length-drop, take_all, drop_all, take-append-drop, take-take, drop-drop, drop-take}
use Rattle.std.proofs.Math.Seq.{drop-cons}
use Rattle.s2ix_bag_pairs.specs.Collection.{Collection}

-- no more lists than between the first and the end
pub short_take : (n : ℕ) (ls : List Collection) → length (take n ls) ≤ n
short_take zero ls = omega arith
short_take (suc n) [] = omega arith
short_take (suc n) (l ∷ ls) = omega (arith, short_take n ls)

pub whole_view : (n : ℕ) (ls : List Collection) → n ≡ length ls → take (n - 0) (drop 0 ls) ≡ ls
whole_view n ls is = take_all (n - 0) ls (omega arith)

pub view_at : (first end place : ℕ) (ls : List Collection) → place < length (take (end - first) (drop first ls))
    → get_or ls (first + place) [] ≡ get_or (take (end - first) (drop first ls)) place []
view_at first end place ls lt =
    let within : place < end - first = omega (arith, lt, short_take (end - first) (drop first ls)) in
    sym (get_or-take (end - first) (drop first ls) place [] within ∙ get_or-drop first ls place [])

-- so many of all lists are there
pub view_within : (first end place : ℕ) (ls : List Collection) → place < length (take (end - first) (drop first ls)) → first + place < length ls
view_within first zero place [] lt = absurd (omega (arith, lt, short_take (0 - first) (drop first [])))
view_within first end place ls lt =
    let some = length-take (end - first) (drop first ls) in
    let left = length-drop first ls in
    omega (arith, lt, some, left)

take_none : (n : ℕ) → take {A = Collection} n [] ≡ []
take_none zero = refl
take_none (suc n) = refl

pub drop_take : (k n : ℕ) (ls : List Collection) → k ≤ n → take (n - k) (drop k ls) ≡ drop k (take n ls)
drop_take k n ls le =
    let same : k + (n - k) ≡ n = omega (arith, le) in
    sym (drop-take k (n - k) ls) ∙ ap (λ (m : ℕ). drop k (take m ls)) same

pub view_front : (first end place : ℕ) (ls : List Collection) → place ≤ length (take (end - first) (drop first ls))
    → take (first + place - first) (drop first ls) ≡ take place (take (end - first) (drop first ls))
view_front first end place ls le =
    let same : first + place - first ≡ place = omega arith in
    ap (λ (n : ℕ). take n (drop first ls)) same
    ∙ sym (take-take place (end - first) (drop first ls) (omega (arith, le, short_take (end - first) (drop first ls))))

pub view_back : (first end place : ℕ) (ls : List Collection) → place ≤ length (take (end - first) (drop first ls))
    → take (end - (first + place)) (drop (first + place) ls) ≡ drop place (take (end - first) (drop first ls))
view_back first end place ls le =
    let same : end - (first + place) ≡ end - first - place = omega arith in
    ap (λ (n : ℕ). take n (drop (first + place) ls)) same
    ∙ ap (λ (x : List Collection). take (end - first - place) x) (sym (drop-drop place first ls))
    ∙ drop_take place (end - first) (drop first ls) (omega (arith, le, short_take (end - first) (drop first ls)))

pub view_cons : (first end : ℕ) (ls : List Collection) → first < end → first < length ls
    → take (end - first) (drop first ls) ≡ get_or ls first [] ∷ take (end - (first + 1)) (drop (first + 1) ls)
view_cons first end ls some within =
    let more : end - first ≡ suc (end - (first + 1)) = omega (arith, some) in
    let next : suc first ≡ first + 1 = omega arith in
    ap (λ (x : List Collection). take (end - first) x) (drop-cons ls first [] within)
    ∙ ap (λ (n : ℕ). take n (get_or ls first [] ∷ drop (suc first) ls)) more
    ∙ ap (λ (n : ℕ). get_or ls first [] ∷ take (end - (first + 1)) (drop n ls)) next

pub view_none : (first end : ℕ) (ls : List Collection) → end ≤ first → take (end - first) (drop first ls) ≡ []
view_none first end ls le =
    let none : end - first ≡ 0 = omega (arith, le) in ap (λ (n : ℕ). take n (drop first ls)) none

pub view_past : (first end : ℕ) (ls : List Collection) → length ls ≤ first → take (end - first) (drop first ls) ≡ []
view_past first end ls le =
    ap (λ (x : List Collection). take (end - first) x) (drop_all first ls le) ∙ take_none (end - first)

-- the first lists, and those behind them
pub view_bundle : (first end last : ℕ) (ls own : List Collection) → last ≡ min end (length ls) → first + length own ≤ last
    → own ≡ take (length own) (drop first ls)
    → take (end - first) (drop first ls) ≡ own ++ take (end - (first + length own)) (drop (first + length own) ls)
view_bundle first end last ls own is le own_is =
    let k = length own in
    let short : k ≤ end - first = omega (arith, le, is) in
    let rest : take (end - (first + k)) (drop (first + k) ls) ≡ drop k (take (end - first) (drop first ls)) =
    let same : end - (first + k) ≡ end - first - k = omega arith in
    ap (λ (n : ℕ). take n (drop (first + k) ls)) same
    ∙ ap (λ (x : List Collection). take (end - first - k) x) (sym (drop-drop k first ls))
    ∙ drop_take k (end - first) (drop first ls) short in
    sym
    (ap (λ (x : List Collection). own ++ x) rest
    ∙ ap (λ (x : List Collection). x ++ drop k (take (end - first) (drop first ls)))
    (own_is ∙ sym (take-take k (end - first) (drop first ls) short))
    ∙ take-append-drop k (take (end - first) (drop first ls)))

-- fewer of the lists that a view shows
pub view_inner : (first end low high : ℕ) (ls : List Collection) → first ≤ low → low ≤ high → high ≤ end
    → take (high - low) (drop low ls) ≡ take (high - low) (drop (low - first) (take (end - first) (drop first ls)))
view_inner first end low high ls from some up_to =
    let k = high - low in
    let there : low ≡ first + (low - first) = omega (arith, from) in
    ap (λ (n : ℕ). take k (drop n ls)) there
    ∙ ap (λ (x : List Collection). take k x) (sym (drop-drop (low - first) first ls))
    ∙ sym (take-take k (end - first - (low - first)) (drop (low - first) (drop first ls)) (omega (arith, from, some, up_to)))
    ∙ ap (λ (x : List Collection). take k x) (drop_take (low - first) (end - first) (drop first ls) (omega (arith, from, some, up_to)))
