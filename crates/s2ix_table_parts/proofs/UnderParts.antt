-- Parts under heavy pairs, one after the other: each stays, or is laid anew.
use Rattle.std.proofs.Common.{◌≡◌, ℕ, zero, suc, ◌+◌, ◌%◌, ◌<◌, ◌≤◌, inl, inr, Option, List, [], ◌∷◌, ◌++◌, length, take, refl, sym, ap, ap₂, ◌∙◌, arith, append-nil, subst}
use Rattle.std.proofs.Math.Seq.{take-suc}
use Rattle.std.proofs.lemmas.Bool.{cases_lt}
use Rattle.std.proofs.lemmas.List.{take_all}
use Rattle.s2ix_bag_pairs.specs.Collection.{Collection}
use Rattle.s2ix_table_walk.specs.Table.{leaf_end}
use Rattle.s2ix_table_spans.specs.SpanTable.{SpanRanges, IsInSpan}
use Rattle.s2ix_table_heavy.specs.HeavyChains.{heavy_chain}
use Rattle.s2ix_table_heavy.specs.declared.heavy_place.HeavyPlace.{HeavyPlace}
use Rattle.s2ix_table_walk.specs.Places.{LeadsTo}
use Rattle.s2ix_table_parts.specs.FaceSpans.{no_table, table_of}
use Rattle.s2ix_table_parts.specs.Neighbours.{AreNeighbours, held_in}
use Rattle.s2ix_table_parts.specs.Layered.{AreLightParts, AreHeavyPlaces, IsUnder}
use Rattle.s2ix_table_parts.proofs.Cuts.{cut, cut_end, cut_is, cut_to, neighbours_rise}
use Rattle.s2ix_table_parts.proofs.Cutting.{held_append, neighbours_append}
use Rattle.s2ix_table_parts.proofs.FaceWith.{heavy_places_append}
use Rattle.s2ix_table_parts.proofs.Neighbours.{span_known}

-- ---- a shorter span

pub under_front : (chunks : List Collection) (from to by : ℕ) (over : Option HeavyPlace) → IsUnder chunks from to over → by ≤ to
    → IsUnder chunks from by over
under_front chunks from to by over is le =
    record {
      same = record { same = λ q odd ge lt. is.same.same q odd ge (omega arith) };
      leads = is.leads;
    }

pub under_back : (chunks : List Collection) (from to start : ℕ) (over : Option HeavyPlace) → IsUnder chunks from to over → start % 2 ≡ 1
    → from ≤ start → start < to → IsUnder chunks start to over
under_back chunks from to start over is odd le lt =
    let here = is.same.same start odd le lt in
    record {
      same = record { same = λ q o a b. is.same.same q o (omega arith) b ∙ sym here };
      leads = subst (LeadsTo (heavy_chain chunks) over) (sym here) is.leads;
    }

-- ---- part by part

-- so many parts are laid under the heavy pairs, and what is known of the leaf at which the next one begins
pub record Under (chunks : List Collection) (from : ℕ) (ts made : List SpanRanges) (heavy_places : List (Option HeavyPlace)) (over : Option HeavyPlace) (until begin k : ℕ) : Type 0 where
  pub laid : AreLightParts chunks (held_in (take k ts)) from made heavy_places begin
  pub begins : begin ≡ cut k from ts
  pub known : begin < until → IsUnder chunks begin until over

pub under_start : (chunks : List Collection) (from : ℕ) (ts made : List SpanRanges) (heavy_places : List (Option HeavyPlace)) (over : Option HeavyPlace)
    → made ≡ [] → heavy_places ≡ [] → Under chunks from ts made heavy_places over from from 0
under_start chunks from ts made heavy_places over none no_heavy_places =
    record {
      laid = record {
        neighbours = subst (λ us. AreNeighbours from us from) (sym none) refl;
        pairs = ap held_in none;
        are_heavy_places = subst (λ us. AreHeavyPlaces chunks us heavy_places) (sym none) no_heavy_places;
      };
      begins = refl;
      known = λ lt. absurd (omega arith);
    }

-- the span of the next part
pub record IsPart (begin end : ℕ) : Type 0 where
  pub odd : begin % 2 ≡ 1
  pub some : begin < end
  pub ends : end ≤ leaf_end

part_at : (k from : ℕ) (ts : List SpanRanges) (to : ℕ) → AreNeighbours from ts to → to ≤ leaf_end → k < length ts
    → IsPart (cut k from ts) (cut (suc k) from ts)
part_at k from [] to are leaves lt = absurd (omega arith)
part_at zero from (t ∷ ts) to are leaves lt =
    let e = are.0 in
    let within = are.1.within in
    let rest = neighbours_rise t.to ts to are.2 in
    record {
      odd = subst (λ n. n % 2 ≡ 1) e within.odd;
      some = let some = within.some in omega arith;
      ends = omega arith;
    }
part_at (suc k) from (t ∷ ts) to are leaves lt = part_at k t.to ts to are.2 leaves (omega arith)

-- where a part ends: the next one begins there, or it is the last one
pub end_is : (k from end : ℕ) (ts : List SpanRanges) (to : ℕ) → AreNeighbours from ts to → k < length ts
    → (k + 1 < length ts → end ≡ (table_of ts (k + 1)).from) → (k + 1 ≡ length ts → end ≡ to) → end ≡ cut (suc k) from ts
end_is k from end ts to are lt next last =
    let e : k + 1 ≡ suc k = omega arith in
    elim (cases_lt (k + 1) (length ts)) [
      | inl more ↦ next more ∙ cut_is (k + 1) from ts to no_table are more ∙ ap (λ n. cut n from ts) e
      | inr le ↦
          (let all : suc k ≡ length ts = omega arith in
          last (omega arith) ∙ sym (cut_end (suc k) from ts to are all))
    ]

pub part_is : (chunks : List Collection) (from : ℕ) (ts : List SpanRanges) (to : ℕ) (made : List SpanRanges) (heavy_places : List (Option HeavyPlace))
    (over : Option HeavyPlace) (until begin k end : ℕ) → Under chunks from ts made heavy_places over until begin k → AreNeighbours from ts to
    → to ≤ leaf_end → k < length ts → end ≡ cut (suc k) from ts → IsPart begin end
part_is chunks from ts to made heavy_places over until begin k end was are leaves lt at =
    subst (λ n. IsPart n end) (sym was.begins) (subst (λ n. IsPart (cut k from ts) n) (sym at) (part_at k from ts to are leaves lt))

-- the pairs of a part lie within its span
pub part_span : (from : ℕ) (ts : List SpanRanges) (to begin k end : ℕ) → AreNeighbours from ts to → k < length ts → begin ≡ cut k from ts
    → end ≡ cut (suc k) from ts → IsInSpan (table_of ts k).held begin end
part_span from ts to begin k end are lt begins ends =
    let is = (span_known from ts to k no_table are lt).within in
    subst (IsInSpan (table_of ts k).held begin) (cut_to k from ts to no_table are lt ∙ sym ends)
    (subst (λ n. IsInSpan (table_of ts k).held n (table_of ts k).to) (cut_is k from ts to no_table are lt ∙ sym begins) is)

-- a part that stays, under the same heavy pairs at each leaf
pub one_laid : (chunks : List Collection) (from : ℕ) (ts : List SpanRanges) (to begin k end until : ℕ) (over : Option HeavyPlace)
    → AreNeighbours from ts to → k < length ts → begin ≡ cut k from ts → end ≡ cut (suc k) from ts → IsUnder chunks begin until over → end ≤ until
    → AreLightParts chunks (table_of ts k).held begin (table_of ts k ∷ []) (over ∷ []) end
one_laid chunks from ts to begin k end until over are lt begins ends is le =
    let t = table_of ts k in
    let first : t.from ≡ begin = cut_is k from ts to no_table are lt ∙ sym begins in
    let last : t.to ≡ end = cut_to k from ts to no_table are lt ∙ sym ends in
    let own : IsUnder chunks t.from t.to over =
    subst (λ n. IsUnder chunks n t.to over) (sym first) (subst (λ n. IsUnder chunks begin n over) (sym last)
    (under_front chunks begin until end over is le)) in
    record {
      neighbours = (first, span_known from ts to k no_table are lt, last);
      pairs = append-nil t.held;
      are_heavy_places = (own, refl);
    }

-- parts behind others
laid_append : (chunks : List Collection) (light more : Collection) (from mid to : ℕ) (ts us : List SpanRanges) (xs ys : List (Option HeavyPlace))
    → AreLightParts chunks light from ts xs mid → AreLightParts chunks more mid us ys to
    → AreLightParts chunks (light ++ more) from (ts ++ us) (xs ++ ys) to
laid_append chunks light more from mid to ts us xs ys one other =
    record {
      neighbours = neighbours_append from ts mid us to one.neighbours other.neighbours;
      pairs = held_append ts us ∙ ap₂ (λ (hs ks : Collection). hs ++ ks) one.pairs other.pairs;
      are_heavy_places = heavy_places_append chunks ts us xs ys one.are_heavy_places other.are_heavy_places;
    }

one_more : (k : ℕ) (ts : List SpanRanges) → k < length ts → held_in (take k ts) ++ (table_of ts k).held ≡ held_in (take (k + 1) ts)
one_more k ts lt =
    let e : suc k ≡ k + 1 = omega arith in
    let t = table_of ts k in
    ap (λ (hs : Collection). held_in (take k ts) ++ hs) (sym (append-nil t.held)) ∙ sym (held_append (take k ts) (t ∷ []))
    ∙ ap held_in (sym (take-suc ts k no_table lt)) ∙ ap (λ n. held_in (take n ts)) e

pub under_next : (chunks : List Collection) (from : ℕ) (ts : List SpanRanges) (to : ℕ) (made more now : List SpanRanges)
    (heavy_places more_heavy_places now_heavy_places : List (Option HeavyPlace)) (was_over over : Option HeavyPlace) (was_until until begin k end : ℕ)
    → Under chunks from ts made heavy_places was_over was_until begin k → AreNeighbours from ts to → to ≤ leaf_end → k < length ts
    → end ≡ cut (suc k) from ts → IsUnder chunks begin until over → AreLightParts chunks (table_of ts k).held begin more more_heavy_places end
    → now ≡ made ++ more → now_heavy_places ≡ heavy_places ++ more_heavy_places → Under chunks from ts now now_heavy_places over until end (k + 1)
under_next chunks from ts to made more now heavy_places more_heavy_places now_heavy_places was_over over was_until until begin k end was are leaves lt at is laid put
    put_heavy_places =
    let e : suc k ≡ k + 1 = omega arith in
    let part = part_is chunks from ts to made heavy_places was_over was_until begin k end was are leaves lt at in
    record {
      laid = subst (λ (hs : Collection). AreLightParts chunks hs from now now_heavy_places end) (one_more k ts lt)
          (subst (λ us. AreLightParts chunks (held_in (take k ts) ++ (table_of ts k).held) from us now_heavy_places end) (sym put)
          (subst (λ xs. AreLightParts chunks (held_in (take k ts) ++ (table_of ts k).held) from (made ++ more) xs end) (sym put_heavy_places)
          (laid_append chunks (held_in (take k ts)) (table_of ts k).held from begin end made more heavy_places more_heavy_places was.laid laid)));
      begins = at ∙ ap (λ n. cut n from ts) e;
      known = λ less. under_back chunks begin until end over is
          (odd_end from ts to k end are lt at) (let some = part.some in omega arith) less;
    }
  where
    odd_end : (from : ℕ) (ts : List SpanRanges) (to k end : ℕ) → AreNeighbours from ts to → k < length ts → end ≡ cut (suc k) from ts → end % 2 ≡ 1
    odd_end from [] to k end are lt at = absurd (omega arith)
    odd_end from (t ∷ ts) to zero end are lt at = subst (λ n. n % 2 ≡ 1) (sym at) are.1.within.odd_end
    odd_end from (t ∷ ts) to (suc k) end are lt at = odd_end t.to ts to k end are.2 (omega arith) at

pub under_all : (chunks : List Collection) (from : ℕ) (ts : List SpanRanges) (to : ℕ) (made : List SpanRanges) (heavy_places : List (Option HeavyPlace))
    (over : Option HeavyPlace) (until begin k : ℕ) → Under chunks from ts made heavy_places over until begin k → AreNeighbours from ts to
    → k ≡ length ts → AreLightParts chunks (held_in ts) from made heavy_places to
under_all chunks from ts to made heavy_places over until begin k was are all =
    let ends : begin ≡ to = was.begins ∙ cut_end k from ts to are all in
    subst (λ us. AreLightParts chunks (held_in us) from made heavy_places to) (take_all k ts (omega (arith, all)))
    (subst (λ n. AreLightParts chunks (held_in (take k ts)) from made heavy_places n) ends was.laid)
