-- A place in what parts make up, and the count of a pair.
use Rattle.std.proofs.Common.{◌≡◌, ℕ, suc, ◌+◌, ◌<◌, ◌≤◌, List, [], ◌++◌, take, drop, get_or, length, sym, ap, ◌∙◌, subst, ⊎_elim, arith, length-append}
use Rattle.std.proofs.lemmas.Bool.{cases_lt}
use Rattle.std.proofs.lemmas.List.{drop_all, take_more}
use Rattle.s2ix_bag_pairs.specs.Collection.{Collection, IsCollection, IsCollectionFrom, AreBelow, count_at}
use Rattle.s2ix_bag_lists.specs.Faces.{all_of}
use Rattle.s2ix_bag_lists.proofs.AmongFaces.{all_is}
use Rattle.s2ix_bag_lists.proofs.Joined.{count_front, count_back}
use Rattle.s2ix_bag_lists.specs.Parts.{starts_from, IsPartAt}
use Rattle.s2ix_bag_lists.proofs.Joins.{all_push, front_rises, back_rises}
use Rattle.s2ix_bag_lists.proofs.FaceAt.{take_front, drop_front}
use Rattle.s2ix_bag_lists.proofs.Running.{length-starts, get-starts}

-- where each part starts
pub starts_is : (starts : List ℕ) (ps : List Collection) (i : ℕ) → starts ≡ starts_from 0 ps → i < length ps
    → get_or starts i 0 ≡ length (all_of (take i ps))
starts_is starts ps i counted within =
    let got = get-starts 0 ps i 0 within in
    ap (λ (x : List ℕ). get_or x i 0) counted ∙ (let same : get_or (starts_from 0 ps) i 0 ≡ length (all_of (take i ps)) = omega (arith, got) in same)

pub starts_long : (starts : List ℕ) (ps : List Collection) → starts ≡ starts_from 0 ps → length starts ≡ length ps
starts_long starts ps counted = ap (λ (x : List ℕ). length x) counted ∙ length-starts 0 ps

pub length_upto : (ps : List Collection) (i : ℕ) → i < length ps
    → length (all_of (take (i + 1) ps)) ≡ length (all_of (take i ps)) + length (get_or ps i [])
length_upto ps i within =
    ap (λ (x : List Collection). length (all_of x)) (take_more ps i [] within)
    ∙ ap (λ (x : Collection). length x) (all_push (take i ps) (get_or ps i []))
    ∙ length-append (all_of (take i ps)) (get_or ps i [])

-- the place lies within the part that starts at it or before it, where the next doesn't
pub record IsInPart (ps : List Collection) (place i : ℕ) : Type 0 where
  pub within : i < length ps
  pub begins : length (all_of (take i ps)) ≤ place
  pub ends : place < length (all_of (take i ps)) + length (get_or ps i [])

pub in_part : (starts : List ℕ) (ps : List Collection) (place i : ℕ) → starts ≡ starts_from 0 ps → place < length (all_of ps)
    → i < length starts → get_or starts i 0 ≤ place → (i + 1 < length starts → place < get_or starts (i + 1) 0) → IsInPart ps place i
in_part starts ps place i counted lt within begins ends =
    let long = starts_long starts ps counted in
    let inside : i < length ps = omega (arith, long) in
    let start = starts_is starts ps i counted inside in
    let whole : length (all_of ps) ≡ length (all_of (take i ps)) + (length (get_or ps i []) + length (all_of (drop (suc i) ps))) =
    ap (λ (x : Collection). length x) (all_is ps i inside)
    ∙ length-append (all_of (take i ps)) (get_or ps i [] ++ all_of (drop (suc i) ps))
    ∙ ap (λ (n : ℕ). length (all_of (take i ps)) + n) (length-append (get_or ps i []) (all_of (drop (suc i) ps))) in
    record {
      within = inside;
      begins = omega (arith, start);
      ends = ⊎_elim
          (λ more.
          let next = starts_is starts ps (i + 1) counted more in
          let end : length (all_of (take (i + 1) ps)) ≡ length (all_of (take i ps)) + length (get_or ps i []) = length_upto ps i inside in
          omega (arith, next, end, ends (omega (arith, long))))
          (λ last.
          let none : all_of (drop (suc i) ps) ≡ [] =
          ap (λ (x : List Collection). all_of x) (let no : drop (suc i) ps ≡ [] = drop_all (suc i) ps (omega arith) in no) in
          let empty = ap (λ (x : Collection). length x) none in
          omega (arith, whole, empty))
          (cases_lt (i + 1) (length ps));
    }

-- ---- one part among the others

pub part_rises : (ps : List Collection) (i : ℕ) → i < length ps → IsCollection (all_of ps) → IsCollection (get_or ps i [])
part_rises ps i within rises =
    let parted = subst (λ (x : Collection). IsCollection x) (all_is ps i within) rises in
    front_rises 0 (get_or ps i []) (all_of (drop (suc i) ps))
    (back_rises 0 (all_of (take i ps)) (get_or ps i [] ++ all_of (drop (suc i) ps)) parted)

pub count_in_part : (ps : List Collection) (i rank : ℕ) → i < length ps → AreBelow rank (all_of (take i ps))
    → IsCollectionFrom (rank + 1) (all_of (drop (i + 1) ps)) → count_at (all_of ps) rank ≡ count_at (get_or ps i []) rank
count_in_part ps i rank within below rest =
    let back = all_of (drop (suc i) ps) in
    let more : i + 1 ≡ suc i = omega arith in
    let later = subst (λ (k : ℕ). IsCollectionFrom (rank + 1) (all_of (drop k ps))) more rest in
    ap (λ (x : Collection). count_at x rank) (all_is ps i within)
    ∙ count_front rank rank (all_of (take i ps)) (get_or ps i [] ++ back) below (omega arith)
    ∙ count_back (rank + 1) rank (get_or ps i []) back later (omega arith)

-- ---- the part that has a place

pub part_found : (ps : List Collection) (place i before : ℕ) (own : Collection) → IsInPart ps place i → before ≡ length (all_of (take i ps))
    → own ≡ get_or ps i [] → IsPartAt place (all_of ps) before own
part_found ps place i before own is counted same =
    let front = all_of (take i ps) in
    let back = all_of (drop (suc i) ps) in
    let all : all_of ps ≡ front ++ (own ++ back) = all_is ps i is.within ∙ ap (λ (x : Collection). front ++ (x ++ back)) (sym same) in
    let after : drop before (all_of ps) ≡ own ++ back =
    ap (λ (n : ℕ). drop n (all_of ps)) counted
    ∙ ap (λ (x : Collection). drop (length front) x) all
    ∙ drop_front front (own ++ back) in
    let long = ap (λ (x : Collection). length x) same in
    record {
      begins = omega (arith, counted, is.begins);
      ends = omega (arith, counted, is.ends, long);
      part = ap (λ (x : Collection). take (length own) x) after ∙ take_front own back;
    }
