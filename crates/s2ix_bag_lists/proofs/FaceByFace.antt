-- From face to face: what is found, changed and put so far.
use Rattle.std.proofs.Common.{◌≡◌, ℕ, zero, suc, ◌+◌, ◌<◌, ◌≤◌, not, cond, ◌==◌, Option, Some, None, List, [], ◌∷◌, ◌++◌, take, drop, get_or, set, length, length-set, length-append, position, refl, sym, ap, ◌∙◌, subst, ⊎_elim, arith, append_assoc, append-nil, eq-eqb, ne_eqb}
use Rattle.std.specs.List.{position_or_len}
use Rattle.std.proofs.lemmas.Bool.{cases_eq, cases_lt, cond-true, cond-false}
use Rattle.std.proofs.lemmas.List.{take-append-drop}
use Rattle.s2ix_bag_pairs.specs.Collection.{Collection, IsCollection, IsCollectionFrom, AreBelow, count_in}
use Rattle.s2ix_bag_pairs.specs.Change.{IsChangeList, IsChangeListFrom, changed}
use Rattle.s2ix_bag_pairs.specs.Pair.{rank_of}
use Rattle.s2ix_bag_pairs.specs.declared.pair.Entry.{Entry}
use Rattle.s2ix_bag_pairs.proofs.Counts.{from_lower}
use Rattle.s2ix_bag_pairs.proofs.Changes.{change_lower, changed_keeps_from}
use Rattle.s2ix_bag_lists.specs.Apply.{AreBefore}
use Rattle.s2ix_bag_lists.proofs.Refusals.{is_mismatch, position_is, position_none}
use Rattle.s2ix_bag_lists.specs.Faces.{AreEntriesBelow, AreFacesFrom, all_of, face_start}
use Rattle.s2ix_bag_lists.proofs.AmongFaces.{all_is, all_put, count_on_face, changed_on_face, list_rises, own_is, put_apart, back_from, start_more}
use Rattle.s2ix_bag_lists.proofs.Joined.{below_in_back, below_more, before_in_front, before_later, below_append, changed_below, changed_by_parts, none_between, rise_in_front}
use Rattle.s2ix_bag_lists.proofs.Joins.{front_rises}

-- ---- the last face

-- no pair is after the last face
pub no_entry_after : (es : List Entry) → IsChangeListFrom (face_start 6) es → es ≡ []
no_entry_after [] es_is = refl
no_entry_after (e ∷ es) es_is =
    let number = e.pair.cell.valid.0 in
    let small = e.pair.label.in_range in
    absurd (omega (arith, es_is.0, number, small))

pub no_pair_after : (hs : Collection) → IsCollectionFrom (face_start 6) hs → hs ≡ []
no_pair_after [] hs_is = refl
no_pair_after (h ∷ hs) hs_is =
    let number = h.pair.cell.valid.0 in
    let small = h.pair.label.in_range in
    absurd (omega (arith, hs_is.0, number, small))

-- ---- the entries of one face

pub before_on_face : (ls : List Collection) (i n : ℕ) (es : List Entry) → i < length ls → AreFacesFrom 0 ls → face_start i ≤ n
    → IsChangeListFrom n es → AreEntriesBelow (face_start (i + 1)) es → AreBefore (all_of ls) es → AreBefore (get_or ls i []) es
before_on_face ls i n [] within apart le es_is below befores = tt
before_on_face ls i n (e ∷ es) within apart le es_is below befores = (
  befores.0 ∙ count_on_face ls i (rank_of e.pair) within apart (omega (arith, le, es_is.0)) below.0,
  before_on_face ls i (rank_of e.pair + 1) es within apart (omega (arith, le, es_is.0)) es_is.2 below.1 befores.1,
)

-- the first mismatch with all that is held is that with the face's own
pub same_mismatch : (ls : List Collection) (i n : ℕ) (es : List Entry) → i < length ls → AreFacesFrom 0 ls → face_start i ≤ n
    → IsChangeListFrom n es → AreEntriesBelow (face_start (i + 1)) es
    → position_or_len (is_mismatch (all_of ls)) es ≡ position_or_len (is_mismatch (get_or ls i [])) es
same_mismatch ls i n [] within apart le es_is below = refl
same_mismatch ls i n (e ∷ es) within apart le es_is below =
    let count = count_on_face ls i (rank_of e.pair) within apart (omega (arith, le, es_is.0)) below.0 in
    let rest = same_mismatch ls i (rank_of e.pair + 1) es within apart (omega (arith, le, es_is.0)) es_is.2 below.1 in
    ap (λ k. cond (not (not (e.before == k))) (1 + position_or_len (is_mismatch (all_of ls)) es) 0) count
    ∙ ap (λ k. cond (not (is_mismatch (get_or ls i []) e)) (1 + k) 0) rest

-- ---- the first mismatch, face by face

pub position_after : (hs : Collection) (es fs : List Entry) → length es ≤ position_or_len (is_mismatch hs) es
    → position_or_len (is_mismatch hs) (es ++ fs) ≡ length es + position_or_len (is_mismatch hs) fs
position_after hs [] fs le = omega arith
position_after hs (e ∷ es) fs le =
    ⊎_elim
    (λ same.
    let fits = cond-true (not (is_mismatch hs e)) (1 + position_or_len (is_mismatch hs) es) 0 (ap (λ t. not (not t)) (eq-eqb _ _ same)) in
    let fits_both =
    cond-true (not (is_mismatch hs e)) (1 + position_or_len (is_mismatch hs) (es ++ fs)) 0 (ap (λ t. not (not t)) (eq-eqb _ _ same)) in
    omega (arith, fits_both, position_after hs es fs (omega (arith, le, fits))))
    (λ ne.
    let differs = cond-false (not (is_mismatch hs e)) (1 + position_or_len (is_mismatch hs) es) 0 (ap (λ t. not (not t)) (ne_eqb _ _ ne)) in
    absurd (omega (arith, le, differs)))
    (cases_eq e.before (count_in hs e.pair))

pub position_inside : (hs : Collection) (es fs : List Entry) → position_or_len (is_mismatch hs) es < length es
    → position_or_len (is_mismatch hs) (es ++ fs) ≡ position_or_len (is_mismatch hs) es
position_inside hs [] fs lt = absurd (omega arith)
position_inside hs (e ∷ es) fs lt =
    ⊎_elim
    (λ same.
    let fits = cond-true (not (is_mismatch hs e)) (1 + position_or_len (is_mismatch hs) es) 0 (ap (λ t. not (not t)) (eq-eqb _ _ same)) in
    let fits_both =
    cond-true (not (is_mismatch hs e)) (1 + position_or_len (is_mismatch hs) (es ++ fs)) 0 (ap (λ t. not (not t)) (eq-eqb _ _ same)) in
    omega (arith, fits, fits_both, position_inside hs es fs (omega (arith, lt, fits))))
    (λ ne.
    let differs = cond-false (not (is_mismatch hs e)) (1 + position_or_len (is_mismatch hs) es) 0 (ap (λ t. not (not t)) (ne_eqb _ _ ne)) in
    let differs_both =
    cond-false (not (is_mismatch hs e)) (1 + position_or_len (is_mismatch hs) (es ++ fs)) 0 (ap (λ t. not (not t)) (ne_eqb _ _ ne)) in
    differs_both ∙ sym differs)
    (cases_eq e.before (count_in hs e.pair))

pub position_found : (hs : Collection) (es : List Entry) (i : ℕ) → position (is_mismatch hs) es ≡ Some i
    → (position_or_len (is_mismatch hs) es ≡ i) × (i < length es)
position_found hs es i found =
    ⊎_elim
    (λ lt.
    let same : ◌≡◌ {A = Option ℕ} (Some (position_or_len (is_mismatch hs) es)) (Some i) = sym (position_is hs es lt) ∙ found in
    let is : position_or_len (is_mismatch hs) es ≡ i = cc in (is, omega (arith, lt, is)))
    (λ le. let clash : ◌≡◌ {A = Option ℕ} None (Some i) = sym (position_none hs es le) ∙ found in cc)
    (cases_lt (position_or_len (is_mismatch hs) es) (length es))

pub position_absent : (hs : Collection) (es : List Entry) → position (is_mismatch hs) es ≡ None
    → length es ≤ position_or_len (is_mismatch hs) es
position_absent hs es none =
    ⊎_elim
    (λ lt. let clash : Some (position_or_len (is_mismatch hs) es) ≡ None = sym (position_is hs es lt) ∙ none in cc)
    (λ le. le)
    (cases_lt (position_or_len (is_mismatch hs) es) (length es))

-- the entries of the faces before this one have the right counts before
pub record FacesCompared (ls : List Collection) (es : List Entry) (face : ℕ) (rest : List Entry) (passed : ℕ) : Type 0 where
  pub rises : IsChangeListFrom (face_start face) rest
  pub none : position_or_len (is_mismatch (all_of ls)) es ≡ passed + position_or_len (is_mismatch (all_of ls)) rest
  pub long : passed + length rest ≡ length es

pub own_of_face : (face k : ℕ) (rest : List Entry) → IsChangeListFrom (face_start face) rest
    → IsChangeListFrom (face_start face) (take k rest)
own_of_face face k rest rises =
    rise_in_front (face_start face) (take k rest) (drop k rest)
    (subst (λ (es : List Entry). IsChangeListFrom (face_start face) es) (sym (take-append-drop k rest)) rises)

pub faces_compared_found : (ls : List Collection) (es : List Entry) (face : ℕ) (rest : List Entry) (passed k place : ℕ) → face < length ls
    → AreFacesFrom 0 ls → FacesCompared ls es face rest passed → AreEntriesBelow (face_start (face + 1)) (take k rest)
    → position (is_mismatch (get_or ls face [])) (take k rest) ≡ Some place → position (is_mismatch (all_of ls)) es ≡ Some (passed + place)
faces_compared_found ls es face rest passed k place within apart was below found =
    let own = take k rest in
    let own_found = position_found (get_or ls face []) own place found in
    let same = same_mismatch ls face (face_start face) own within apart (omega arith) (own_of_face face k rest was.rises) below in
    let inside = position_inside (all_of ls) own (drop k rest) (omega (arith, same, own_found.0, own_found.1)) in
    let split = ap (λ xs. position_or_len (is_mismatch (all_of ls)) xs) (take-append-drop k rest) in
    let shorter = ap (λ (xs : List Entry). length xs) (take-append-drop k rest) ∙ refl in
    let at : position_or_len (is_mismatch (all_of ls)) es ≡ passed + place = omega (arith, was.none, split, inside, same, own_found.0) in
    let lengths : length own + length (drop k rest) ≡ length rest = sym (length-append own (drop k rest)) ∙ shorter in
    position_is (all_of ls) es (omega (arith, at, was.long, own_found.1, lengths)) ∙ ap (λ n. Some n) at

pub faces_compared_step : (ls : List Collection) (es : List Entry) (face : ℕ) (rest : List Entry) (passed k : ℕ) → face < length ls
    → AreFacesFrom 0 ls → FacesCompared ls es face rest passed → AreEntriesBelow (face_start (face + 1)) (take k rest)
    → IsChangeListFrom (face_start (face + 1)) (drop k rest) → position (is_mismatch (get_or ls face [])) (take k rest) ≡ None
    → FacesCompared ls es (face + 1) (drop k rest) (passed + length (take k rest))
faces_compared_step ls es face rest passed k within apart was below later none =
    let own = take k rest in
    let same = same_mismatch ls face (face_start face) own within apart (omega arith) (own_of_face face k rest was.rises) below in
    let absent = position_absent (get_or ls face []) own none in
    let after = position_after (all_of ls) own (drop k rest) (omega (arith, same, absent)) in
    let split = ap (λ xs. position_or_len (is_mismatch (all_of ls)) xs) (take-append-drop k rest) in
    let lengths : length own + length (drop k rest) ≡ length rest =
    sym (length-append own (drop k rest)) ∙ ap (λ (xs : List Entry). length xs) (take-append-drop k rest) in
    record {
      rises = later;
      none = omega (arith, was.none, split, after);
      long = omega (arith, was.long, lengths);
    }

pub faces_compared_end : (ls : List Collection) (es : List Entry) (face : ℕ) (rest : List Entry) (passed : ℕ) → face ≡ 6
    → FacesCompared ls es face rest passed → position (is_mismatch (all_of ls)) es ≡ None
faces_compared_end ls es face rest passed last was =
    let none = no_entry_after rest (subst (λ (f : ℕ). IsChangeListFrom (face_start f) rest) last was.rises) in
    let nothing = ap (λ xs. position_or_len (is_mismatch (all_of ls)) xs) none in
    let empty = ap (λ (xs : List Entry). length xs) none in
    position_none (all_of ls) es (omega (arith, was.none, was.long, nothing, empty))

-- ---- a change, face by face

-- what is left to change makes the same of the lists at hand as the whole change of the first lists
pub record Changing (first : Collection) (es : List Entry) (face : ℕ) (ls : List Collection) (rest : List Entry) : Type 0 where
  pub six : length ls ≡ 6
  pub apart : AreFacesFrom 0 ls
  pub rises : IsChangeListFrom (face_start face) rest
  pub before : AreBefore (all_of ls) rest
  pub made : changed (all_of ls) rest ≡ changed first es

-- what the list of this face and its entries have to be for the change of that list
pub record IsOwnChange (held : Collection) (own : List Entry) : Type 0 where
  pub held_rise : IsCollection held
  pub entries_rise : IsChangeList own
  pub before : AreBefore held own

pub changing_own : (first : Collection) (es : List Entry) (face : ℕ) (ls : List Collection) (rest : List Entry) (k : ℕ) → face < 6
    → Changing first es face ls rest → AreEntriesBelow (face_start (face + 1)) (take k rest)
    → IsOwnChange (get_or ls face []) (take k rest)
changing_own first es face ls rest k within was below =
    let short : face < length ls = omega (arith, was.six, within) in
    let own_rises = own_of_face face k rest was.rises in
    let befores =
    before_in_front (all_of ls) (take k rest) (drop k rest)
    (subst (λ (xs : List Entry). AreBefore (all_of ls) xs) (sym (take-append-drop k rest)) was.before) in
    record {
      held_rise = list_rises ls face (get_or ls face []) short was.apart refl;
      entries_rise = change_lower 0 (face_start face) (take k rest) (omega arith) own_rises;
      before = before_on_face ls face (face_start face) (take k rest) short was.apart (omega arith) own_rises below befores;
    }

pub changing_step : (first : Collection) (es : List Entry) (face : ℕ) (ls : List Collection) (rest : List Entry) (k : ℕ) → face < 6
    → Changing first es face ls rest → AreEntriesBelow (face_start (face + 1)) (take k rest)
    → IsChangeListFrom (face_start (face + 1)) (drop k rest)
    → Changing first es (face + 1) (set ls face (changed (get_or ls face []) (take k rest))) (drop k rest)
changing_step first es face ls rest k within was below later =
    let own = take k rest in
    let new = changed (get_or ls face []) own in
    let short : face < length ls = omega (arith, was.six, within) in
    let own_rises = own_of_face face k rest was.rises in
    let split = take-append-drop k rest in
    let held = own_is 0 face face ls (omega arith) short was.apart in
    let made_own = changed_on_face ls face own short was.apart own_rises below in
    let befores =
    before_later (face_start face) (all_of ls) own (drop k rest)
    (subst (λ (xs : List Entry). IsChangeListFrom (face_start face) xs) (sym split) was.rises)
    (subst (λ (xs : List Entry). AreBefore (all_of ls) xs) (sym split) was.before) in
    record {
      six = length-set ls face new ∙ was.six;
      apart = put_apart 0 face face ls new (omega arith) was.apart (
        changed_keeps_from (face_start face) (get_or ls face []) own held.0 own_rises,
        changed_below (face_start (face + 1)) (get_or ls face []) own below held.1,
      );
      rises = later;
      before = subst (λ (hs : Collection). AreBefore hs (drop k rest)) made_own befores;
      made = ap (λ hs. changed hs (drop k rest)) (sym made_own)
          ∙ sym (changed_by_parts (all_of ls) own (drop k rest))
          ∙ ap (λ xs. changed (all_of ls) xs) split
          ∙ was.made;
    }

pub changing_end : (first : Collection) (es : List Entry) (face : ℕ) (ls : List Collection) (rest : List Entry) → face ≡ 6
    → Changing first es face ls rest → all_of ls ≡ changed first es
changing_end first es face ls rest last was =
    let none = no_entry_after rest (subst (λ (f : ℕ). IsChangeListFrom (face_start f) rest) last was.rises) in
    ap (λ xs. changed (all_of ls) xs) (sym none) ∙ was.made

-- ---- held pairs, face by face

-- the pairs of the faces before this one are in their lists, the others not yet
pub record Putting (hs : Collection) (face : ℕ) (ls : List Collection) (rest : Collection) : Type 0 where
  pub six : length ls ≡ 6
  pub apart : AreFacesFrom 0 ls
  pub rises : IsCollectionFrom (face_start face) rest
  pub below : AreBelow (face_start face) (all_of ls)
  pub made : all_of ls ++ rest ≡ hs

putting_into : (hs : Collection) → IsCollection hs → Putting hs 0 ([] ∷ [] ∷ [] ∷ [] ∷ [] ∷ [] ∷ []) hs
putting_into hs hs_is = record {
  six = refl;
  apart = (tt, tt, (tt, tt, (tt, tt, (tt, tt, (tt, tt, (tt, tt, tt))))));
  rises = from_lower (face_start 0) 0 hs (omega arith) hs_is;
  below = tt;
  made = refl;
}

pub putting_start : (hs : Collection) (ls : List Collection) → ls ≡ [] ∷ [] ∷ [] ∷ [] ∷ [] ∷ [] ∷ [] → IsCollection hs
    → Putting hs 0 ls hs
putting_start hs ls is hs_is = subst (λ (xs : List Collection). Putting hs 0 xs hs) (sym is) (putting_into hs hs_is)

after_is : (ls : List Collection) (i : ℕ) → i < length ls → all_of (drop i ls) ≡ get_or ls i [] ++ all_of (drop (suc i) ls)
after_is [] i within = absurd (omega arith)
after_is (l ∷ ls) zero within = refl
after_is (l ∷ ls) (suc i) within = after_is ls i (omega arith)

-- if all that is held is below a face, it is all before that face's list
all_in_front : (ls : List Collection) (face : ℕ) → face < length ls → AreFacesFrom 0 ls → AreBelow (face_start face) (all_of ls)
    → all_of ls ≡ all_of (take face ls)
all_in_front ls face within apart below =
    let front = all_of (take face ls) in
    let after = get_or ls face [] ++ all_of (drop (suc face) ls) in
    let is = all_is ls face within in
    let later = below_in_back (face_start face) front after (subst (λ (xs : Collection). AreBelow (face_start face) xs) is below) in
    let rises =
    subst (λ (xs : Collection). IsCollectionFrom (face_start face) xs) (after_is ls face within)
    (back_from 0 face face ls (omega arith) apart) in
    is ∙ ap (λ xs. front ++ xs) (none_between (face_start face) after rises later) ∙ append-nil front

pub putting_step : (hs : Collection) (face : ℕ) (ls : List Collection) (rest : Collection) (k : ℕ) → face < 6 → Putting hs face ls rest
    → AreBelow (face_start (face + 1)) (take k rest) → IsCollectionFrom (face_start (face + 1)) (drop k rest)
    → Putting hs (face + 1) (set ls face (take k rest)) (drop k rest)
putting_step hs face ls rest k within was below later =
    let own = take k rest in
    let short : face < length ls = omega (arith, was.six, within) in
    let split = take-append-drop k rest in
    let own_rises =
    front_rises (face_start face) own (drop k rest)
    (subst (λ (xs : Collection). IsCollectionFrom (face_start face) xs) (sym split) was.rises) in
    let apart = put_apart 0 face face ls own (omega arith) was.apart (own_rises, below) in
    let front = all_in_front ls face short was.apart was.below in
    let ends : all_of (drop (suc face) ls) ≡ [] =
    none_between (face_start (face + 1)) (all_of (drop (suc face) ls)) (back_from 0 (suc face) (face + 1) ls (omega arith) was.apart)
    (below_in_back (face_start (face + 1)) (get_or ls face []) (all_of (drop (suc face) ls))
    (below_more (face_start face) (face_start (face + 1)) (get_or ls face [] ++ all_of (drop (suc face) ls))
    (start_more face (face + 1) (omega arith))
    (below_in_back (face_start face) (all_of (take face ls)) (get_or ls face [] ++ all_of (drop (suc face) ls))
    (subst (λ (xs : Collection). AreBelow (face_start face) xs) (all_is ls face short) was.below)))) in
    let all : all_of (set ls face own) ≡ all_of ls ++ own =
    all_put ls face own short
    ∙ ap (λ xs. all_of (take face ls) ++ (own ++ xs)) ends
    ∙ ap (λ xs. all_of (take face ls) ++ xs) (append-nil own)
    ∙ ap (λ xs. xs ++ own) (sym front) in
    record {
      six = length-set ls face own ∙ was.six;
      apart = apart;
      rises = later;
      below = subst (λ (xs : Collection). AreBelow (face_start (face + 1)) xs) (sym all)
          (below_append (face_start (face + 1)) (all_of ls) own
          (below_more (face_start face) (face_start (face + 1)) (all_of ls) (start_more face (face + 1) (omega arith)) was.below) below);
      made = ap (λ xs. xs ++ drop k rest) all ∙ append_assoc (all_of ls) own (drop k rest) ∙ ap (λ xs. all_of ls ++ xs) split ∙ was.made;
    }

pub putting_end : (hs : Collection) (face : ℕ) (ls : List Collection) (rest : Collection) → face ≡ 6 → Putting hs face ls rest
    → all_of ls ≡ hs
putting_end hs face ls rest last was =
    let none = no_pair_after rest (subst (λ (f : ℕ). IsCollectionFrom (face_start f) rest) last was.rises) in
    sym (append-nil (all_of ls)) ∙ ap (λ xs. all_of ls ++ xs) (sym none) ∙ was.made
