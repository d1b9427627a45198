-- The lists of the faces, and one of them among the others.
use Rattle.std.proofs.Common.{◌≡◌, ℕ, zero, suc, ◌+◌, ◌<◌, ◌≤◌, List, [], ◌∷◌, ◌++◌, take, drop, get_or, set, length, refl, sym, ap, ◌∙◌, subst, arith, append_assoc}
use Rattle.s2ix_bag_pairs.specs.Collection.{Collection, IsCollection, IsCollectionFrom, AreBelow, count_at}
use Rattle.s2ix_bag_pairs.proofs.Counts.{from_lower}
use Rattle.s2ix_bag_pairs.specs.Change.{IsChangeListFrom, changed}
use Rattle.s2ix_bag_pairs.specs.declared.pair.Entry.{Entry}
use Rattle.s2ix_bag_lists.specs.Faces.{AreEntriesBelow, face_start, all_of, AreFacesFrom, IsOnFace}
use Rattle.s2ix_bag_lists.proofs.Joined.{below_more, below_append, from_append, count_front, count_back, changed_between}

pub start_more : (m n : ℕ) → m ≤ n → face_start m ≤ face_start n
start_more m n le = omega arith

-- ---- all faces

pub all_from : (f : ℕ) (ls : List Collection) → AreFacesFrom f ls → IsCollectionFrom (face_start f) (all_of ls)
all_from f [] apart = tt
all_from f (l ∷ ls) apart =
    from_append (face_start f) (face_start (f + 1)) l (all_of ls) (start_more f (f + 1) (omega arith)) apart.0 apart.1
    (all_from (f + 1) ls apart.2)

pub faces_rise : (ls : List Collection) → AreFacesFrom 0 ls → IsCollection (all_of ls)
faces_rise ls apart = from_lower 0 (face_start 0) (all_of ls) (omega arith) (all_from 0 ls apart)

-- ---- one face

pub all_is : (ls : List Collection) (i : ℕ) → i < length ls → all_of ls ≡ all_of (take i ls) ++ (get_or ls i [] ++ all_of (drop (suc i) ls))
all_is [] i within = absurd (omega arith)
all_is (l ∷ ls) zero within = refl
all_is (l ∷ ls) (suc i) within =
    ap (λ x. l ++ x) (all_is ls i (omega arith)) ∙ sym (append_assoc l (all_of (take i ls)) (get_or ls i [] ++ all_of (drop (suc i) ls)))

pub all_put : (ls : List Collection) (i : ℕ) (new : Collection) → i < length ls
    → all_of (set ls i new) ≡ all_of (take i ls) ++ (new ++ all_of (drop (suc i) ls))
all_put [] i new within = absurd (omega arith)
all_put (l ∷ ls) zero new within = refl
all_put (l ∷ ls) (suc i) new within =
    ap (λ x. l ++ x) (all_put ls i new (omega arith)) ∙ sym (append_assoc l (all_of (take i ls)) (new ++ all_of (drop (suc i) ls)))

pub faces_below : (f i n : ℕ) (ls : List Collection) → n ≡ f + i → AreFacesFrom f ls → AreBelow (face_start n) (all_of (take i ls))
faces_below f zero n ls is apart = tt
faces_below f (suc i) n [] is apart = tt
faces_below f (suc i) n (l ∷ ls) is apart =
    below_append (face_start n) l (all_of (take i ls))
    (below_more (face_start (f + 1)) (face_start n) l (start_more (f + 1) n (omega arith)) apart.1)
    (faces_below (f + 1) i n ls (omega arith) apart.2)

pub back_from : (f i n : ℕ) (ls : List Collection) → n ≡ f + i → AreFacesFrom f ls → IsCollectionFrom (face_start n) (all_of (drop i ls))
back_from f zero n ls is apart =
    let same : f ≡ n = omega arith in
    subst (λ (m : ℕ). IsCollectionFrom (face_start m) (all_of ls)) same (all_from f ls apart)
back_from f (suc i) n [] is apart = tt
back_from f (suc i) n (l ∷ ls) is apart = back_from (f + 1) i n ls (omega arith) apart.2

pub own_is : (f i n : ℕ) (ls : List Collection) → n ≡ f + i → i < length ls → AreFacesFrom f ls → IsOnFace n (get_or ls i [])
own_is f i n [] is within apart = absurd (omega arith)
own_is f zero n (l ∷ ls) is within apart =
    let same : f ≡ n = omega arith in
    subst (λ (m : ℕ). IsOnFace m l) same (apart.0, apart.1)
own_is f (suc i) n (l ∷ ls) is within apart = own_is (f + 1) i n ls (omega arith) (omega arith) apart.2

-- a list that is one of these rises
pub list_rises : (ls : List Collection) (i : ℕ) (list : Collection) → i < length ls → AreFacesFrom 0 ls → list ≡ get_or ls i []
    → IsCollection list
list_rises ls i list within apart is =
    let on_face = own_is 0 i i ls (omega arith) within apart in
    subst IsCollection (sym is) (from_lower 0 (face_start i) (get_or ls i []) (omega arith) on_face.0)

pub put_apart : (f i n : ℕ) (ls : List Collection) (new : Collection) → n ≡ f + i → AreFacesFrom f ls → IsOnFace n new
    → AreFacesFrom f (set ls i new)
put_apart f i n [] new is apart own = tt
put_apart f zero n (l ∷ ls) new is apart own =
    let same : n ≡ f = omega arith in
    let own_is : IsOnFace f new = subst (λ (m : ℕ). IsOnFace m new) same own in
    (own_is.0, own_is.1, apart.2)
put_apart f (suc i) n (l ∷ ls) new is apart own = (apart.0, apart.1, put_apart (f + 1) i n ls new (omega arith) apart.2 own)

-- ---- counts and changes on one face

pub count_on_face : (ls : List Collection) (i k : ℕ) → i < length ls → AreFacesFrom 0 ls → face_start i ≤ k → k < face_start (i + 1)
    → count_at (all_of ls) k ≡ count_at (get_or ls i []) k
count_on_face ls i k within apart le lt =
    ap (λ x. count_at x k) (all_is ls i within)
    ∙ count_front (face_start i) k (all_of (take i ls)) (get_or ls i [] ++ all_of (drop (suc i) ls))
    (faces_below 0 i i ls (omega arith) apart) le
    ∙ count_back (face_start (i + 1)) k (get_or ls i []) (all_of (drop (suc i) ls)) (back_from 0 (suc i) (i + 1) ls (omega arith) apart) lt

pub changed_on_face : (ls : List Collection) (i : ℕ) (es : List Entry) → i < length ls → AreFacesFrom 0 ls
    → IsChangeListFrom (face_start i) es → AreEntriesBelow (face_start (i + 1)) es
    → changed (all_of ls) es ≡ all_of (set ls i (changed (get_or ls i []) es))
changed_on_face ls i es within apart es_is below =
    ap (λ x. changed x es) (all_is ls i within)
    ∙ changed_between (face_start i) (face_start (i + 1)) (all_of (take i ls)) (get_or ls i []) (all_of (drop (suc i) ls)) es
    (faces_below 0 i i ls (omega arith) apart) (back_from 0 (suc i) (i + 1) ls (omega arith) apart) es_is below
    ∙ sym (all_put ls i (changed (get_or ls i []) es) within)
