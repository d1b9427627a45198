-- What a face holds after a change, and the parts of the lists of the faces.
use Rattle.std.proofs.Common.{◌≡◌, ℕ, zero, suc, ◌+◌, ◌-◌, ◌<◌, ◌≤◌, List, [], ◌∷◌, ◌++◌, take, drop, get_or, set, length, refl, sym, ap, ◌∙◌, arith, length-append}
use Rattle.std.proofs.lemmas.List.{length-drop, drop-drop}
use Rattle.s2ix_bag_pairs.specs.Collection.{Collection}
use Rattle.s2ix_bag_pairs.specs.Change.{IsChangeListFrom, changed}
use Rattle.s2ix_bag_pairs.specs.declared.pair.Entry.{Entry}
use Rattle.s2ix_bag_pairs.proofs.Changes.{changed-append}
use Rattle.s2ix_bag_lists.specs.Faces.{AreEntriesBelow, all_of, face_start}
use Rattle.s2ix_bag_lists.specs.Parts.{IsPartAt}
use Rattle.s2ix_bag_lists.proofs.AmongFaces.{faces_below}
use Rattle.s2ix_bag_lists.proofs.FaceByFace.{Changing, changing_step}
use Rattle.s2ix_bag_lists.proofs.Joins.{all_split}
use Rattle.s2ix_bag_lists.proofs.Places.{length_upto}

get_set : (ls : List Collection) (i : ℕ) (new : Collection) → i < length ls → get_or (set ls i new) i [] ≡ new
get_set [] i new within = absurd (omega arith)
get_set (l ∷ ls) zero new within = refl
get_set (l ∷ ls) (suc i) new within = get_set ls i new (omega arith)

-- a face holds no more after a change than all do
pub own_few : (first : Collection) (es : List Entry) (face : ℕ) (ls : List Collection) (rest : List Entry) (k : ℕ) → face < 6
    → Changing first es face ls rest → AreEntriesBelow (face_start (face + 1)) (take k rest)
    → IsChangeListFrom (face_start (face + 1)) (drop k rest)
    → length (changed (get_or ls face []) (take k rest)) ≤ length (changed first es)
own_few first es face ls rest k six was below later =
    let new = changed (get_or ls face []) (take k rest) in
    let next = changing_step first es face ls rest k six was below later in
    let after = set ls face new in
    let front = all_of (take (face + 1) after) in
    let back = all_of (drop (face + 1) after) in
    let within : face < length after = omega (arith, next.six, six) in
    let made : changed first es ≡ front ++ changed back (drop k rest) =
    sym next.made
    ∙ ap (λ (hs : Collection). changed hs (drop k rest)) (all_split (face + 1) after)
    ∙ changed-append front back (face_start (face + 1)) (drop k rest) (faces_below 0 (face + 1) (face + 1) after (omega arith) next.apart)
    later in
    let upto = length_upto after face within in
    let own : length (get_or after face []) ≡ length new =
    ap (λ (hs : Collection). length hs) (get_set ls face new (omega (arith, was.six, six))) in
    omega (
      arith,
      upto,
      own,
      ap (λ (hs : Collection). length hs) made,
      length-append front (changed back (drop k rest)),
    )

-- ---- parts of parts

take_inside : (m i n : ℕ) (hs : Collection) → i + n ≤ m → take n (drop i (take m hs)) ≡ take n (drop i hs)
take_inside zero zero zero hs le = refl
take_inside zero zero (suc n) hs le = absurd (omega arith)
take_inside zero (suc i) n hs le = absurd (omega arith)
take_inside (suc m) i n [] le = refl
take_inside (suc m) zero zero (h ∷ hs) le = refl
take_inside (suc m) zero (suc n) (h ∷ hs) le = ap (λ (x : Collection). h ∷ x) (take_inside m zero n hs (omega arith))
take_inside (suc m) (suc i) n (h ∷ hs) le = take_inside m i n hs (omega arith)

long_take : (n : ℕ) (hs : Collection) → length (take n hs) ≤ length hs
long_take zero hs = omega arith
long_take (suc n) [] = omega arith
long_take (suc n) (h ∷ hs) = omega (arith, long_take n hs)

-- a part of a part is one of the whole
pub part_inside : (held own part : Collection) (place before inner : ℕ) → before ≤ place → take (length own) (drop before held) ≡ own
    → IsPartAt (place - before) own inner part → IsPartAt place held (before + inner) part
part_inside held own part place before inner begins is inside =
    let rest = drop before held in
    let n = length part in
    let long = long_take n (drop inner own) in
    let same = ap (λ (hs : Collection). length hs) inside.part in
    let fits : inner + n ≤ length own = omega (arith, long, same, length-drop inner own, inside.begins, inside.ends) in
    record {
      begins = omega (arith, begins, inside.begins);
      ends = omega (arith, begins, inside.ends);
      part = ap (λ (hs : Collection). take n hs) (sym (drop-drop inner before held))
          ∙ sym (take_inside (length own) inner n rest fits)
          ∙ ap (λ (hs : Collection). take n (drop inner hs)) is
          ∙ inside.part;
    }
