-- The first mismatch, part by part.
use Rattle.std.proofs.Common.{◌≡◌, ℕ, suc, ◌+◌, ◌<◌, ◌≤◌, not, cond, ◌==◌, List, [], ◌∷◌, ◌++◌, take, drop, get_or, length, length-append, position, Some, None, refl, sym, ap, ◌∙◌, subst, arith}
use Rattle.std.specs.List.{position_or_len}
use Rattle.std.proofs.lemmas.List.{take-append-drop}
use Rattle.s2ix_bag_pairs.specs.Collection.{Collection, IsCollection, IsCollectionFrom, AreBelow}
use Rattle.s2ix_bag_pairs.specs.Change.{IsChangeList, IsChangeListFrom}
use Rattle.s2ix_bag_pairs.specs.Pair.{rank_of}
use Rattle.s2ix_bag_pairs.specs.declared.pair.Entry.{Entry}
use Rattle.s2ix_bag_pairs.proofs.Changes.{change_lower}
use Rattle.s2ix_bag_lists.specs.Faces.{AreEntriesBelow, all_of}
use Rattle.s2ix_bag_lists.specs.Parts.{AreFilled}
use Rattle.s2ix_bag_lists.proofs.AmongFaces.{all_is}
use Rattle.s2ix_bag_lists.proofs.Cuts.{part_below}
use Rattle.s2ix_bag_lists.proofs.FaceByFace.{position_after, position_inside, position_found, position_absent}
use Rattle.s2ix_bag_lists.proofs.Joined.{count_front, count_back, rise_in_front}
use Rattle.s2ix_bag_lists.proofs.Joins.{back_rises, filled_drop}
use Rattle.s2ix_bag_lists.proofs.Making.{IsNext, later_all, more_ahead}
use Rattle.s2ix_bag_lists.proofs.Places.{part_rises}
use Rattle.s2ix_bag_lists.proofs.Refusals.{is_mismatch, position_is}

-- ---- a mismatch on one side of a rank

-- the entries come after these pairs
skipped_front : (m n : ℕ) (fs bs : Collection) (es : List Entry) → m ≤ n → AreBelow m fs → IsChangeListFrom n es
    → position_or_len (is_mismatch (fs ++ bs)) es ≡ position_or_len (is_mismatch bs) es
skipped_front m n fs bs [] le below es_is = refl
skipped_front m n fs bs (e ∷ es) le below es_is =
    ap (λ k. cond (not (not (e.before == k))) (1 + position_or_len (is_mismatch (fs ++ bs)) es) 0)
    (count_front m (rank_of e.pair) fs bs below (omega (arith, le, es_is.0)))
    ∙ ap (λ k. cond (not (is_mismatch bs e)) (1 + k) 0)
    (skipped_front m (rank_of e.pair + 1) fs bs es (omega (arith, le, es_is.0)) below es_is.2)

-- the entries come before these pairs
skipped_back : (n : ℕ) (fs bs : Collection) (es : List Entry) → IsCollectionFrom n bs → AreEntriesBelow n es
    → position_or_len (is_mismatch (fs ++ bs)) es ≡ position_or_len (is_mismatch fs) es
skipped_back n fs bs [] bs_is below = refl
skipped_back n fs bs (e ∷ es) bs_is below =
    ap (λ k. cond (not (not (e.before == k))) (1 + position_or_len (is_mismatch (fs ++ bs)) es) 0)
    (count_back n (rank_of e.pair) fs bs bs_is below.0)
    ∙ ap (λ k. cond (not (is_mismatch fs e)) (1 + k) 0) (skipped_back n fs bs es bs_is below.1)

-- ---- from part to part

-- the entries that were passed have the right counts before, and the others fall into the parts ahead
pub record PartsCompared (all : Collection) (es : List Entry) (ahead : List Collection) (rest : List Entry) (passed : ℕ) : Type 0 where
  pub rises : IsCollection (all_of ahead)
  pub filled : AreFilled ahead
  pub entries_rise : IsChangeList rest
  pub none : position_or_len (is_mismatch all) es ≡ passed + position_or_len (is_mismatch (all_of ahead)) rest
  pub long : passed + length rest ≡ length es
  pub some : 0 < length rest → 0 < length ahead

-- what the part and its entries have to be for the search in it
pub record IsOwn (held : Collection) (own : List Entry) : Type 0 where
  pub held_rise : IsCollection held
  pub entries_rise : IsChangeList own

pub parts_compared_own : (all : Collection) (es : List Entry) (ahead : List Collection) (rest : List Entry) (passed rank i k : ℕ)
    → PartsCompared all es ahead rest passed → IsNext ahead rest rank i k → IsOwn (get_or ahead i []) (take k rest)
parts_compared_own all es ahead rest passed rank i k was next = record {
  held_rise = part_rises ahead i next.within was.rises;
  entries_rise = rise_in_front 0 (take k rest) (drop k rest)
      (subst (λ (xs : List Entry). IsChangeList xs) (sym (take-append-drop k rest)) was.entries_rise);
}

-- the first mismatch of the entries that are left, in the parts from the next one on
from_next : (ahead : List Collection) (rest : List Entry) (rank i k : ℕ) → IsNext ahead rest rank i k
    → position_or_len (is_mismatch (all_of ahead)) rest
    ≡ position_or_len (is_mismatch (get_or ahead i [] ++ all_of (drop (suc i) ahead))) (take k rest ++ drop k rest)
from_next ahead rest rank i k next =
    let there = get_or ahead i [] ++ all_of (drop (suc i) ahead) in
    ap (λ (hs : Collection). position_or_len (is_mismatch hs) rest) (all_is ahead i next.within)
    ∙ skipped_front rank rank (all_of (take i ahead)) there rest (omega arith) next.below next.from
    ∙ ap (λ (xs : List Entry). position_or_len (is_mismatch there) xs) (sym (take-append-drop k rest))

in_part : (ahead : List Collection) (rest : List Entry) (rank i k : ℕ) → IsNext ahead rest rank i k
    → position_or_len (is_mismatch (get_or ahead i [] ++ all_of (drop (suc i) ahead))) (take k rest)
    ≡ position_or_len (is_mismatch (get_or ahead i [])) (take k rest)
in_part ahead rest rank i k next =
    skipped_back next.cut.rank (get_or ahead i []) (all_of (drop (suc i) ahead)) (take k rest)
    (subst (λ (hs : Collection). IsCollectionFrom next.cut.rank hs) (later_all ahead i) next.cut.back) next.cut.entries

lengths_of : (k : ℕ) (rest : List Entry) → length (take k rest) + length (drop k rest) ≡ length rest
lengths_of k rest =
    sym (length-append (take k rest) (drop k rest)) ∙ ap (λ (xs : List Entry). length xs) (take-append-drop k rest)

pub parts_compared_found : (all : Collection) (es : List Entry) (ahead : List Collection) (rest : List Entry) (passed rank i k place : ℕ)
    → PartsCompared all es ahead rest passed → IsNext ahead rest rank i k
    → position (is_mismatch (get_or ahead i [])) (take k rest) ≡ Some place → position (is_mismatch all) es ≡ Some (passed + place)
parts_compared_found all es ahead rest passed rank i k place was next found =
    let there = get_or ahead i [] ++ all_of (drop (suc i) ahead) in
    let own_found = position_found (get_or ahead i []) (take k rest) place found in
    let same = in_part ahead rest rank i k next in
    let inside = position_inside there (take k rest) (drop k rest) (omega (arith, same, own_found.0, own_found.1)) in
    let at : position_or_len (is_mismatch all) es ≡ passed + place =
    omega (arith, was.none, from_next ahead rest rank i k next, inside, same, own_found.0) in
    position_is all es (omega (arith, at, was.long, own_found.1, lengths_of k rest)) ∙ ap (λ n. Some n) at

pub parts_compared_step : (all : Collection) (es : List Entry) (ahead : List Collection) (rest : List Entry) (passed rank i k : ℕ)
    → PartsCompared all es ahead rest passed → IsNext ahead rest rank i k
    → position (is_mismatch (get_or ahead i [])) (take k rest) ≡ None
    → PartsCompared all es (drop (i + 1) ahead) (drop k rest) (passed + length (take k rest))
parts_compared_step all es ahead rest passed rank i k was next none =
    let front = all_of (take i ahead) in
    let own = get_or ahead i [] in
    let back = all_of (drop (suc i) ahead) in
    let same = later_all ahead i in
    let parted = subst (λ (hs : Collection). IsCollection hs) (all_is ahead i next.within) was.rises in
    let absent = position_absent own (take k rest) none in
    let after = position_after (own ++ back) (take k rest) (drop k rest) (omega (arith, in_part ahead rest rank i k next, absent)) in
    let behind = skipped_front next.cut.rank next.cut.rank own back (drop k rest) (omega arith)
    (part_below ahead i next.cut.rank next.within next.cut.front) next.cut.later in
    let ends : position_or_len (is_mismatch (all_of (drop (i + 1) ahead))) (drop k rest)
    ≡ position_or_len (is_mismatch back) (drop k rest) =
    ap (λ (hs : Collection). position_or_len (is_mismatch hs) (drop k rest)) same in
    record {
      rises = subst (λ (hs : Collection). IsCollection hs) (sym same) (back_rises 0 own back (back_rises 0 front (own ++ back) parted));
      filled = filled_drop (i + 1) ahead was.filled;
      entries_rise = change_lower 0 next.cut.rank (drop k rest) (omega arith) next.cut.later;
      none = omega (arith, was.none, from_next ahead rest rank i k next, after, behind, ends);
      long = omega (arith, was.long, lengths_of k rest);
      some = λ some. more_ahead ahead rest rank i k next some;
    }
