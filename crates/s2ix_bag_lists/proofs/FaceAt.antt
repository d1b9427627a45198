-- The face of a place in what the lists of the faces hold.
use Rattle.std.proofs.Common.{◌≡◌, ℕ, zero, suc, ◌+◌, ◌-◌, ◌<◌, ◌≤◌, List, [], ◌∷◌, ◌++◌, take, drop, get_or, length, refl, sym, ap, ◌∙◌, subst, arith}
use Rattle.s2ix_bag_pairs.specs.Collection.{Collection, IsCollectionFrom, AreBelow}
use Rattle.s2ix_bag_lists.specs.Faces.{all_of, face_start, AreFacesFrom, IsFaceAt, IsOnFace}
use Rattle.s2ix_bag_lists.proofs.AmongFaces.{all_is, back_from, faces_below, own_is}

pub take_front : (fs hs : Collection) → take (length fs) (fs ++ hs) ≡ fs
take_front [] hs = refl
take_front (f ∷ fs) hs = ap (λ (x : Collection). f ∷ x) (take_front fs hs)

pub drop_front : (fs hs : Collection) → drop (length fs) (fs ++ hs) ≡ hs
drop_front [] hs = refl
drop_front (f ∷ fs) hs = drop_front fs hs

drop_both : (fs own hs : Collection) (n : ℕ) → n ≡ length fs + length own → drop n (fs ++ (own ++ hs)) ≡ hs
drop_both [] own hs n is =
    let e : n ≡ length own = omega arith in
    ap (λ (j : ℕ). drop j (own ++ hs)) e ∙ drop_front own hs
drop_both (f ∷ fs) own hs zero is = absurd (omega arith)
drop_both (f ∷ fs) own hs (suc n) is = drop_both fs own hs n (omega arith)

-- the place is not before what was passed
pub record IsPassed (ls : List Collection) (place i before : ℕ) : Type 0 where
  pub counted : before ≡ length (all_of (take i ls))
  pub begins : before ≤ place

pub face_found : (ls : List Collection) (place i before : ℕ) (own : Collection) → i < length ls → own ≡ get_or ls i [] → AreFacesFrom 0 ls
    → IsPassed ls place i before → place - before < length own → IsFaceAt place (all_of ls) before own
face_found ls place i before own within is apart was lt =
    let front = all_of (take i ls) in
    let back = all_of (drop (suc i) ls) in
    let all : all_of ls ≡ front ++ (own ++ back) = all_is ls i within ∙ ap (λ (x : Collection). front ++ (x ++ back)) (sym is) in
    let after : drop before (all_of ls) ≡ own ++ back =
    ap (λ (n : ℕ). drop n (all_of ls)) was.counted
    ∙ ap (λ (x : Collection). drop (length front) x) all
    ∙ drop_front front (own ++ back) in
    let ahead : take before (all_of ls) ≡ front =
    ap (λ (n : ℕ). take n (all_of ls)) was.counted
    ∙ ap (λ (x : Collection). take (length front) x) all
    ∙ take_front front (own ++ back) in
    let counted = was.counted in
    let rest : drop (before + length own) (all_of ls) ≡ back =
    ap (λ (x : Collection). drop (before + length own) x) all ∙ drop_both front own back (before + length own) (omega arith) in
    record {
      face = i;
      on_face = subst (λ (x : Collection). IsOnFace i x) (sym is) (own_is 0 i i ls (omega arith) within apart);
      begins = was.begins;
      ends = omega (arith, was.begins, lt);
      part = ap (λ (x : Collection). take (length own) x) after ∙ take_front own back;
      below = subst (λ (x : Collection). AreBelow (face_start i) x) (sym ahead) (faces_below 0 i i ls (omega arith) apart);
      rest = subst (λ (x : Collection). IsCollectionFrom (face_start (i + 1)) x) (sym rest)
          (back_from 0 (suc i) (i + 1) ls (omega arith) apart);
    }
