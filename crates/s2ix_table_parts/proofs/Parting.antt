-- Pairs in lists, cut into neighbouring parts.
use Rattle.std.proofs.Common.{◌≡◌, ℕ, zero, suc, ◌+◌, ◌%◌, ◌<◌, ◌≤◌, inl, inr, List, [], ◌∷◌, ◌++◌, take, drop, get_or, length, refl, sym, ap, ◌∙◌, subst, arith, append_assoc}
use Rattle.std.proofs.lemmas.List.{append-nil, length-append, take_more}
use Rattle.std.proofs.lemmas.List.Concat.{flat_map-append}
use Rattle.std.proofs.lemmas.List.Elements.{Contains-append_cases, Contains-append_left, Contains-append_right}
use Rattle.s2id_core.specs.CellId.{raw_of}
use Rattle.s2id_core.proofs.Lists.{none_in_nil, at_head}
use Rattle.s2id_core.proofs.Nested.{span}
use Rattle.s2ix_bag_lists.specs.Faces.{all_of}
use Rattle.s2ix_bag_lists.proofs.Joins.{back_rises, front_rises}
use Rattle.s2ix_bag_pairs.specs.Collection.{Collection, IsCollection, IsCollectionFrom}
use Rattle.s2ix_table_spans.specs.SpanTable.{SpanRanges, IsInSpan, IsSpanTable}
use Rattle.s2ix_table_parts.specs.Neighbours.{held_in, AreNeighbours}
use Rattle.s2ix_table_parts.specs.Parts.{EndsBy, BeginsFrom, IsSeam, AreSeams}

-- ---- lists one after the other

pub split_lists : (k : ℕ) (ls : List Collection) → all_of (take k ls) ++ all_of (drop k ls) ≡ all_of ls
split_lists zero ls = refl
split_lists (suc k) [] = refl
split_lists (suc k) (l ∷ ls) = append_assoc l (all_of (take k ls)) (all_of (drop k ls)) ∙ ap (λ xs. l ++ xs) (split_lists k ls)

pub one_more : (k : ℕ) (ls : List Collection) (d : Collection) → k < length ls → all_of (take (k + 1) ls) ≡ all_of (take k ls) ++ get_or ls k d
one_more k ls d within =
    let own : List Collection → Collection = all_of in
    ap own (take_more ls k d within)
    ∙ flat_map-append (λ (hs : Collection). hs) (take k ls) (get_or ls k d ∷ [])
    ∙ ap (λ hs. all_of (take k ls) ++ hs) (append-nil (get_or ls k d))

-- ---- where cells begin and end

pub ends_append : (leaf : ℕ) (hs ks : Collection) → EndsBy hs leaf → EndsBy ks leaf → EndsBy (hs ++ ks) leaf
ends_append leaf hs ks hs_end ks_end h is =
    elim (Contains-append_cases hs ks h is) [
      | inl own ↦ hs_end h own
      | inr other ↦ ks_end h other
    ]

pub begins_append : (leaf : ℕ) (hs ks : Collection) → BeginsFrom hs leaf → BeginsFrom ks leaf → BeginsFrom (hs ++ ks) leaf
begins_append leaf hs ks hs_begin ks_begin h is =
    elim (Contains-append_cases hs ks h is) [
      | inl own ↦ hs_begin h own
      | inr other ↦ ks_begin h other
    ]

pub ends_back : (leaf : ℕ) (hs ks : Collection) → EndsBy (hs ++ ks) leaf → EndsBy ks leaf
ends_back leaf hs ks end h is = end h (Contains-append_right hs ks h is)

pub begins_front : (leaf : ℕ) (hs ks : Collection) → BeginsFrom (hs ++ ks) leaf → BeginsFrom hs leaf
begins_front leaf hs ks begin h is = begin h (Contains-append_left hs ks h is)

pub ends_later : (leaf later : ℕ) (hs : Collection) → leaf ≤ later → EndsBy hs leaf → EndsBy hs later
ends_later leaf later hs le end h is = let by = end h is in omega arith

pub begins_earlier : (leaf earlier : ℕ) (hs : Collection) → earlier ≤ leaf → BeginsFrom hs leaf → BeginsFrom hs earlier
begins_earlier leaf earlier hs le begin h is = let from = begin h is in omega arith

-- no cell begins where it ends, or after
pub none_after : (leaf : ℕ) (hs : Collection) → BeginsFrom hs leaf → EndsBy hs leaf → hs ≡ []
none_after leaf [] begin end = refl
none_after leaf (h ∷ hs) begin end =
    let s = span (raw_of h.pair.cell) h.pair.cell.valid in
    let a = s.from in
    let b = s.to in
    let from = begin h (at_head h hs) in
    let by = end h (at_head h hs) in
    absurd (omega arith)

-- ---- seams

pub seams_count : (ls : List Collection) (bs : List ℕ) (to : ℕ) → AreSeams ls bs to → length bs ≡ length ls + 1
seams_count [] bs to are = ap (λ (xs : List ℕ). length xs) are
seams_count (l ∷ ls) [] to are = absurd are
seams_count (l ∷ ls) (b ∷ bs) to are = let more = seams_count ls bs to are.1 in omega arith

pub no_seam : (to : ℕ) → to % 2 ≡ 1 → IsSeam [] to to
no_seam to odd = record { odd = odd; by = omega arith; begins = λ h is. absurd (none_in_nil h is) }

pub seam_at : (k : ℕ) (ls : List Collection) (bs : List ℕ) (to d : ℕ) → to % 2 ≡ 1 → k ≤ length ls → AreSeams ls bs to
    → IsSeam (all_of (drop k ls)) to (get_or bs k d)
seam_at zero [] bs to d odd within are =
    let first : get_or bs 0 d ≡ to = ap (λ (xs : List ℕ). get_or xs 0 d) are in
    subst (λ n. IsSeam [] to n) (sym first) (no_seam to odd)
seam_at (suc k) [] bs to d odd within are = absurd (omega arith)
seam_at k (l ∷ ls) [] to d odd within are = absurd are
seam_at zero (l ∷ ls) (b ∷ bs) to d odd within are = are.0
seam_at (suc k) (l ∷ ls) (b ∷ bs) to d odd within are = seam_at k ls bs to d odd (omega arith) are.1

pub seams_later : (k : ℕ) (ls : List Collection) (bs : List ℕ) (to : ℕ) → k ≤ length ls → AreSeams ls bs to
    → AreSeams (drop k ls) (drop k bs) to
seams_later zero ls bs to within are = are
seams_later (suc k) [] bs to within are = absurd (omega arith)
seams_later (suc k) (l ∷ ls) [] to within are = absurd are
seams_later (suc k) (l ∷ ls) (b ∷ bs) to within are = seams_later k ls bs to (omega arith) are.1

pub last_seam : (ls : List Collection) (bs : List ℕ) (to d : ℕ) → AreSeams ls bs to → get_or bs (length ls) d ≡ to
last_seam [] bs to d are = ap (λ (xs : List ℕ). get_or xs 0 d) are
last_seam (l ∷ ls) [] to d are = absurd are
last_seam (l ∷ ls) (b ∷ bs) to d are = last_seam ls bs to d are.1

-- a seam before one list more
pub seam_before : (l : Collection) (hs : Collection) (to least seam : ℕ) → IsSeam hs to least → seam % 2 ≡ 1 → seam ≤ least
    → BeginsFrom l seam → IsSeam (l ++ hs) to seam
seam_before l hs to least seam was odd le begin =
    let by = was.by in
    record {
      odd = odd;
      by = omega arith;
      begins = begins_append seam l hs begin (begins_earlier least seam hs le was.begins);
    }

-- ---- one span more

pub neighbours_more : (from : ℕ) (ts : List SpanRanges) (mid : ℕ) (part : SpanRanges) → AreNeighbours from ts mid → part.from ≡ mid
    → IsSpanTable part → AreNeighbours from (ts ++ part ∷ []) part.to
neighbours_more from [] mid part are begin is = (begin ∙ sym are, is, refl)
neighbours_more from (t ∷ ts) mid part are begin is = (are.0, are.1, neighbours_more t.to ts mid part are.2 begin is)

pub held_more : (ts : List SpanRanges) (part : SpanRanges) → held_in (ts ++ part ∷ []) ≡ held_in ts ++ part.held
held_more [] part = append-nil part.held
held_more (t ∷ ts) part = ap (λ xs. t.held ++ xs) (held_more ts part) ∙ sym (append_assoc t.held (held_in ts) part.held)

-- ---- parts, made from the first one on

-- the parts over the leaves before `start`, and the lists that are still to come, from there up to `to`
pub record Parting (held : List Collection) (from to : ℕ) (parts : List SpanRanges) (rest : List Collection) (bs : List ℕ) (start : ℕ) : Type 0 where
  pub neighbours : AreNeighbours from parts start
  pub pairs : held_in parts ++ all_of rest ≡ all_of held
  pub rises : IsCollection (all_of rest)
  pub within_limit : length (all_of rest) ≤ 1000000
  pub seams : AreSeams rest bs to
  pub odd : start % 2 ≡ 1
  pub odd_end : to % 2 ≡ 1
  pub by : start ≤ to
  pub begins : BeginsFrom (all_of rest) start
  pub ends : EndsBy (all_of rest) to

pub parting_start : (held : List Collection) (from to : ℕ) (seams : List ℕ) → IsCollection (all_of held) → length (all_of held) ≤ 1000000
    → IsInSpan (all_of held) from to → AreSeams held seams to → Parting held from to [] held seams from
parting_start held from to seams rises within_limit within are =
    let some = within.some in
    record {
      neighbours = refl;
      pairs = refl;
      rises = rises;
      within_limit = within_limit;
      seams = are;
      odd = within.odd;
      odd_end = within.odd_end;
      by = omega arith;
      begins = within.begins;
      ends = within.ends;
    }

pub own_rises : (n k : ℕ) (rest : List Collection) → IsCollectionFrom n (all_of rest) → IsCollectionFrom n (all_of (take k rest))
own_rises n k rest rise =
    front_rises n (all_of (take k rest)) (all_of (drop k rest)) (subst (λ hs. IsCollectionFrom n hs) (sym (split_lists k rest)) rise)

pub own_count : (k : ℕ) (rest : List Collection) → length (all_of (take k rest)) + length (all_of (drop k rest)) ≡ length (all_of rest)
own_count k rest =
    sym (length-append (all_of (take k rest)) (all_of (drop k rest))) ∙ ap (λ (hs : Collection). length hs) (split_lists k rest)

pub parting_next : (held : List Collection) (from to : ℕ) (parts : List SpanRanges) (rest : List Collection) (seams : List ℕ) (start : ℕ)
    (k d : ℕ) (part : SpanRanges) → Parting held from to parts rest seams start → k ≤ length rest → part.held ≡ all_of (take k rest)
    → part.from ≡ start → part.to ≡ get_or seams k d → IsSpanTable part
    → Parting held from to (parts ++ part ∷ []) (drop k rest) (drop k seams) part.to
parting_next held from to parts rest seams start k d part was within own begin end is =
    let seam = seam_at k rest seams to d was.odd_end within was.seams in
    let split = split_lists k rest in
    let count = own_count k rest in
    let within_limit = was.within_limit in
    let by = seam.by in
    let odd = seam.odd in
    record {
      neighbours = neighbours_more from parts start part was.neighbours begin is;
      pairs =
          ap (λ hs. hs ++ all_of (drop k rest)) (held_more parts part ∙ ap (λ hs. held_in parts ++ hs) own)
          ∙ append_assoc (held_in parts) (all_of (take k rest)) (all_of (drop k rest))
          ∙ ap (λ hs. held_in parts ++ hs) split
          ∙ was.pairs;
      rises = back_rises 0 (all_of (take k rest)) (all_of (drop k rest)) (subst (λ hs. IsCollectionFrom 0 hs) (sym split) was.rises);
      within_limit = omega arith;
      seams = seams_later k rest seams to within was.seams;
      odd = ap (λ n. n % 2) end ∙ odd;
      odd_end = was.odd_end;
      by = omega arith;
      begins = begins_earlier (get_or seams k d) part.to (all_of (drop k rest)) (omega arith) seam.begins;
      ends = ends_back to (all_of (take k rest)) (all_of (drop k rest)) (subst (λ hs. EndsBy hs to) (sym split) was.ends);
    }

pub parting_end : (held : List Collection) (from to : ℕ) (parts : List SpanRanges) (rest : List Collection) (seams : List ℕ) (start : ℕ)
    → Parting held from to parts rest seams start → to ≤ start → AreNeighbours from parts to × (held_in parts ≡ all_of held)
parting_end held from to parts rest seams start was le =
    let by = was.by in
    let last : start ≡ to = omega arith in
    let none = none_after to (all_of rest) (subst (λ n. BeginsFrom (all_of rest) n) last was.begins) was.ends in (
      subst (λ n. AreNeighbours from parts n) last was.neighbours,
      sym (append-nil (held_in parts)) ∙ ap (λ hs. held_in parts ++ hs) (sym none) ∙ was.pairs,
    )

-- ---- one pair more

pub parting_same : (held : List Collection) (from to : ℕ) (parts ts : List SpanRanges) (rest ls : List Collection) (seams bs : List ℕ)
    (start n : ℕ) → Parting held from to parts rest seams start → ts ≡ parts → ls ≡ rest → bs ≡ seams → start ≡ n
    → Parting held from to ts ls bs n
parting_same held from to parts ts rest ls seams bs start n was e f g h =
    subst (λ (m : ℕ). Parting held from to ts ls bs m) h
    (subst (λ (xs : List ℕ). Parting held from to ts ls xs start) (sym g)
    (subst (λ (xs : List Collection). Parting held from to ts xs seams start) (sym f)
    (subst (λ (xs : List SpanRanges). Parting held from to xs rest seams start) (sym e) was)))
