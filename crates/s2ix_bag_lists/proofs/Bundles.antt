-- Lists in bundles: where each bundle starts, and lists cut within a bundle.
use Rattle.std.proofs.Common.{◌≡◌, ℕ, zero, suc, ◌+◌, ◌-◌, ◌<◌, ◌≤◌, List, [], ◌∷◌, ◌++◌, take, drop, get_or, length, reverse, refl, sym, ap, ◌∙◌, ⊎_elim, arith, append_assoc, append-nil, length-append}
use Rattle.std.proofs.lemmas.Bool.{cases_lt}
use Rattle.std.proofs.lemmas.Grind.{flat_map-append}
use Rattle.std.proofs.lemmas.List.{take-append-le, drop-append-le, take-append-drop, take_more, drop_all, reverse-append}
use Rattle.std.proofs.lemmas.List.Concat.{get_or-flat_map}
use Rattle.std.proofs.Math.Seq.{take-append-add, drop-append-add}
use Rattle.s2ix_bag_pairs.specs.Collection.{Collection}
use Rattle.s2ix_bag_lists.specs.Bundles.{IsBundleAt, lists_of, bundle_starts}

-- ---- bundles one after the other

pub lists_append : (gs hs : List (List Collection)) → lists_of (gs ++ hs) ≡ lists_of gs ++ lists_of hs
lists_append gs hs = flat_map-append (λ (g : List Collection). g) gs hs

pub lists_push : (gs : List (List Collection)) (g : List Collection) → lists_of (gs ++ g ∷ []) ≡ lists_of gs ++ g
lists_push gs g = lists_append gs (g ∷ []) ∙ ap (λ (x : List Collection). lists_of gs ++ x) (append-nil g)

pub bundles_are : (gs : List (List Collection)) (i : ℕ) → i < length gs
    → lists_of gs ≡ lists_of (take i gs) ++ (get_or gs i [] ++ lists_of (drop (suc i) gs))
bundles_are [] i within = absurd (omega arith)
bundles_are (g ∷ gs) zero within = refl
bundles_are (g ∷ gs) (suc i) within =
    ap (λ (x : List Collection). g ++ x) (bundles_are gs i (omega arith))
    ∙ sym (append_assoc g (lists_of (take i gs)) (get_or gs i [] ++ lists_of (drop (suc i) gs)))

-- ---- where each bundle starts

pub length-bundle_starts : (n : ℕ) (gs : List (List Collection)) → length (bundle_starts n gs) ≡ length gs
length-bundle_starts n [] = refl
length-bundle_starts n (g ∷ gs) = ap (λ (k : ℕ). suc k) (length-bundle_starts (n + length g) gs)

pub get-bundle_starts : (n : ℕ) (gs : List (List Collection)) (i d : ℕ) → i < length gs
    → get_or (bundle_starts n gs) i d ≡ n + length (lists_of (take i gs))
get-bundle_starts n [] i d within = absurd (omega arith)
get-bundle_starts n (g ∷ gs) zero d within = omega arith
get-bundle_starts n (g ∷ gs) (suc i) d within =
    omega (arith, get-bundle_starts (n + length g) gs i d (omega arith), length-append g (lists_of (take i gs)))

pub start_is : (starts : List ℕ) (gs : List (List Collection)) (i : ℕ) → starts ≡ bundle_starts 0 gs → i < length gs
    → get_or starts i 0 ≡ length (lists_of (take i gs))
start_is starts gs i counted within =
    let got = get-bundle_starts 0 gs i 0 within in
    ap (λ (x : List ℕ). get_or x i 0) counted
    ∙ (let same : get_or (bundle_starts 0 gs) i 0 ≡ length (lists_of (take i gs)) = omega (arith, got) in same)

pub starts_count : (starts : List ℕ) (gs : List (List Collection)) → starts ≡ bundle_starts 0 gs → length starts ≡ length gs
starts_count starts gs counted = ap (λ (x : List ℕ). length x) counted ∙ length-bundle_starts 0 gs

-- ---- the bundle that a list is in

pub length_upto : (gs : List (List Collection)) (i : ℕ) → i < length gs
    → length (lists_of (take (i + 1) gs)) ≡ length (lists_of (take i gs)) + length (get_or gs i [])
length_upto gs i within =
    ap (λ (x : List (List Collection)). length (lists_of x)) (take_more gs i [] within)
    ∙ ap (λ (x : List Collection). length x) (lists_push (take i gs) (get_or gs i []))
    ∙ length-append (lists_of (take i gs)) (get_or gs i [])

pub in_bundle : (starts : List ℕ) (gs : List (List Collection)) (place i before : ℕ) → before ≡ get_or starts i 0 → starts ≡ bundle_starts 0 gs → place < length (lists_of gs)
    → i < length starts → get_or starts i 0 ≤ place → (i + 1 < length starts → place < get_or starts (i + 1) 0) → IsBundleAt gs place i before
in_bundle starts gs place i before is counted lt within begins ends =
    let long = starts_count starts gs counted in
    let inside : i < length gs = omega (arith, long) in
    let start = start_is starts gs i counted inside in
    let whole : length (lists_of gs) ≡ length (lists_of (take i gs)) + (length (get_or gs i []) + length (lists_of (drop (suc i) gs))) =
    ap (λ (x : List Collection). length x) (bundles_are gs i inside)
    ∙ length-append (lists_of (take i gs)) (get_or gs i [] ++ lists_of (drop (suc i) gs))
    ∙ ap (λ (n : ℕ). length (lists_of (take i gs)) + n) (length-append (get_or gs i []) (lists_of (drop (suc i) gs))) in
    record {
      within = inside;
      counted = is ∙ start;
      begins = omega (arith, is);
      ends = ⊎_elim
          (λ more.
          let next = start_is starts gs (i + 1) counted more in
          let end : length (lists_of (take (i + 1) gs)) ≡ length (lists_of (take i gs)) + length (get_or gs i []) = length_upto gs i inside in
          omega (arith, is, start, next, end, ends (omega (arith, long))))
          (λ last.
          let none : lists_of (drop (suc i) gs) ≡ [] =
          ap (λ (x : List (List Collection)). lists_of x) (let no : drop (suc i) gs ≡ [] = drop_all (suc i) gs (omega arith) in no) in
          let empty = ap (λ (x : List Collection). length x) none in
          omega (arith, is, start, whole, empty))
          (cases_lt (i + 1) (length gs));
    }

-- the bundles have a list, so there is one
pub some_bundle : (gs : List (List Collection)) (place : ℕ) → place < length (lists_of gs) → 0 < length gs
some_bundle [] place lt = absurd (omega arith)
some_bundle (g ∷ gs) place lt = omega arith

pub read_in_bundle : (gs : List (List Collection)) (place i start : ℕ) → IsBundleAt gs place i start
    → get_or (get_or gs i []) (place - start) [] ≡ get_or (lists_of gs) place []
read_in_bundle gs place i start is =
    let inner : place - start < length (get_or gs i []) = omega (arith, is.begins, is.ends) in
    let there : length (lists_of (take i gs)) + (place - start) ≡ place = omega (arith, is.begins, is.counted) in
    sym (get_or-flat_map (λ (g : List Collection). g) gs i (place - start) [] [] is.within inner)
    ∙ ap (λ (k : ℕ). get_or (lists_of gs) k []) there

-- ---- lists cut within a bundle

pub front_of : (gs : List (List Collection)) (place i start : ℕ) → IsBundleAt gs place i start
    → take place (lists_of gs) ≡ lists_of (take i gs) ++ take (place - start) (get_or gs i [])
front_of gs place i start is =
    let front = lists_of (take i gs) in
    let own = get_or gs i [] in
    let back = lists_of (drop (suc i) gs) in
    let there : place ≡ length front + (place - start) = omega (arith, is.begins, is.counted) in
    ap (λ (x : List Collection). take place x) (bundles_are gs i is.within)
    ∙ ap (λ (k : ℕ). take k (front ++ (own ++ back))) there
    ∙ take-append-add front (own ++ back) (place - start)
    ∙ ap (λ (x : List Collection). front ++ x) (take-append-le (place - start) own back (omega (arith, is.begins, is.ends)))

-- the lists of the bundle from the place on come first
pub from_of : (gs : List (List Collection)) (place i start k : ℕ) → IsBundleAt gs place i start → k ≤ length (drop (place - start) (get_or gs i []))
    → take k (drop (place - start) (get_or gs i [])) ≡ take k (drop place (lists_of gs))
from_of gs place i start k is le =
    let front = lists_of (take i gs) in
    let own = get_or gs i [] in
    let back = lists_of (drop (suc i) gs) in
    let there : place ≡ length front + (place - start) = omega (arith, is.begins, is.counted) in
    sym
    (ap (λ (x : List Collection). take k (drop place x)) (bundles_are gs i is.within)
    ∙ ap (λ (n : ℕ). take k (drop n (front ++ (own ++ back)))) there
    ∙ ap (λ (x : List Collection). take k x) (drop-append-add front (own ++ back) (place - start))
    ∙ ap (λ (x : List Collection). take k x) (drop-append-le (place - start) own back (omega (arith, is.begins, is.ends)))
    ∙ take-append-le k (drop (place - start) own) back le)

-- the end lies right behind a list of the bundle
pub back_of : (gs : List (List Collection)) (end i start : ℕ) → 0 < end → IsBundleAt gs (end - 1) i start
    → drop end (lists_of gs) ≡ drop (end - start) (get_or gs i []) ++ lists_of (drop (i + 1) gs)
back_of gs end i start some is =
    let front = lists_of (take i gs) in
    let own = get_or gs i [] in
    let back = lists_of (drop (suc i) gs) in
    let next : suc i ≡ i + 1 = omega arith in
    let there : end ≡ length front + (end - start) = omega (arith, is.begins, is.counted, some) in
    ap (λ (x : List Collection). drop end x) (bundles_are gs i is.within)
    ∙ ap (λ (k : ℕ). drop k (front ++ (own ++ back))) there
    ∙ drop-append-add front (own ++ back) (end - start)
    ∙ drop-append-le (end - start) own back (omega (arith, is.begins, is.ends, some))
    ∙ ap (λ (k : ℕ). drop (end - start) own ++ lists_of (drop k gs)) next

-- other lists between both
pub spliced_is : (front own lists behind back front_lists back_lists : List Collection) → front_lists ≡ front ++ own
    → back_lists ≡ behind ++ back → front ++ ((own ++ (lists ++ behind)) ++ back) ≡ front_lists ++ (lists ++ back_lists)
spliced_is front own lists behind back front_lists back_lists front_is back_is =
    ap (λ (x : List Collection). front ++ x)
    (append_assoc own (lists ++ behind) back ∙ ap (λ (x : List Collection). own ++ x) (append_assoc lists behind back))
    ∙ sym (append_assoc front own (lists ++ (behind ++ back)))
    ∙ ap (λ (x : List Collection). x ++ (lists ++ (behind ++ back))) (sym front_is)
    ∙ ap (λ (x : List Collection). front_lists ++ (lists ++ x)) (sym back_is)

-- what bundles hold once some of their lists have given way to others: those before stay, and those behind
pub splice : (gs one two three earlier later : List (List Collection)) (first end i j front_start back_start : ℕ)
    (before lists behind middle : List Collection) → 0 < end → IsBundleAt gs first i front_start → IsBundleAt gs (end - 1) j back_start
    → one ≡ earlier → earlier ≡ take i gs → lists_of two ≡ lists_of one ++ middle → three ≡ two ++ later → later ≡ drop (j + 1) gs
    → middle ≡ before ++ (lists ++ behind) → before ≡ take (first - front_start) (get_or gs i [])
    → behind ≡ drop (end - back_start) (get_or gs j [])
    → lists_of three ≡ take first (lists_of gs) ++ (lists ++ drop end (lists_of gs))
splice gs one two three earlier later first end i j front_start back_start before lists behind middle some front_at back_at one_is
    earlier_is two_is three_is later_is middle_is before_is behind_is =
    let front = lists_of (take i gs) in
    let front_is : take first (lists_of gs) ≡ front ++ before =
    front_of gs first i front_start front_at ∙ ap (λ (x : List Collection). front ++ x) (sym before_is) in
    let back_is : drop end (lists_of gs) ≡ behind ++ lists_of later =
    back_of gs end j back_start some back_at
    ∙ ap (λ (x : List Collection). x ++ lists_of (drop (j + 1) gs)) (sym behind_is)
    ∙ ap (λ (x : List (List Collection)). behind ++ lists_of x) (sym later_is) in
    ap (λ (x : List (List Collection)). lists_of x) three_is
    ∙ lists_append two later
    ∙ ap (λ (x : List Collection). x ++ lists_of later)
    (two_is
    ∙ ap (λ (x : List (List Collection)). lists_of x ++ middle) (one_is ∙ earlier_is)
    ∙ ap (λ (x : List Collection). front ++ x) middle_is)
    ∙ append_assoc front (before ++ (lists ++ behind)) (lists_of later)
    ∙ spliced_is front before lists behind (lists_of later) (take first (lists_of gs)) (drop end (lists_of gs)) front_is back_is

-- ---- lists cut into bundles, from the last bundle to the first

reversed_push : (gs : List (List Collection)) (g : List Collection) → lists_of (reverse (gs ++ g ∷ [])) ≡ g ++ lists_of (reverse gs)
reversed_push gs g = ap (λ (x : List (List Collection)). lists_of x) (reverse-append gs (g ∷ []))

-- one bundle more is cut off
pub cut_more : (cut new : List (List Collection)) (lists rest left own : List Collection) (at : ℕ) → rest ++ lists_of (reverse cut) ≡ lists
    → left ≡ take at rest → own ≡ drop at rest → new ≡ cut ++ own ∷ [] → left ++ lists_of (reverse new) ≡ lists
cut_more cut new lists rest left own at was left_is own_is new_is =
    let back = lists_of (reverse cut) in
    ap (λ (x : List (List Collection)). left ++ lists_of (reverse x)) new_is
    ∙ ap (λ (x : List Collection). left ++ x) (reversed_push cut own)
    ∙ sym (append_assoc left own back)
    ∙ ap (λ (x : List Collection). (x ++ own) ++ back) left_is
    ∙ ap (λ (x : List Collection). (take at rest ++ x) ++ back) own_is
    ∙ ap (λ (x : List Collection). x ++ back) (take-append-drop at rest)
    ∙ was

-- the last bundle that was cut off comes next
pub put_back : (gs new cut left : List (List Collection)) (lists : List Collection) (g : List Collection)
    → lists_of gs ++ lists_of (reverse cut) ≡ lists → cut ≡ left ++ g ∷ [] → new ≡ gs ++ g ∷ []
    → lists_of new ++ lists_of (reverse left) ≡ lists
put_back gs new cut left lists g was cut_is new_is =
    ap (λ (x : List (List Collection)). lists_of x ++ lists_of (reverse left)) new_is
    ∙ ap (λ (x : List Collection). x ++ lists_of (reverse left)) (lists_push gs g)
    ∙ append_assoc (lists_of gs) g (lists_of (reverse left))
    ∙ ap (λ (x : List Collection). lists_of gs ++ x) (sym (reversed_push left g))
    ∙ ap (λ (x : List (List Collection)). lists_of gs ++ lists_of (reverse x)) (sym cut_is)
    ∙ was
