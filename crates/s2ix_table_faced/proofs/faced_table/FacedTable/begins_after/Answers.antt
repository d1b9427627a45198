use Rattle.std.proofs.Common.{◌≡◌, ℕ, ◌+◌, ◌-◌, ◌<◌, ◌≤◌, List, ◌++◌, take, drop, slice_index_or, sym, ◌∙◌, ap, ap₂, arith, subst, AllPairs, Contains}
use Rattle.std.proofs.lemmas.List.{drop-drop, drop-map, map-append, take-append-drop, take-map}
use Rattle.s2ix_table_spans.specs.SpanTable.{SpanRanges}
use Rattle.s2ix_table_walk.specs.Table.{leaf_end}
use Rattle.s2ix_table_parts.specs.FaceSpans.{face_begin, spans_of, starts_of}
use Rattle.s2ix_table_parts.specs.Parts.{with_parts}
use Rattle.s2ix_table_parts.proofs.Cuts.{starts_rise}
use Rattle.s2ix_table_parts.proofs.Put.{put_starts}
use Rattle.s2ix_table_faced.proofs.Together.{first_start}
use Rattle.s2ix_table_faced.proofs.faced_table.FacedTable.begins_after.Goals.{In_ok-starts}
use Rattle.s2ix_table_faced.proofs.faced_table.FacedTable.begins_after.Goals as goal

-- a list in which some elements give way to the same ones
same_between : (xs : List ℕ) (f e : ℕ) → f ≤ e → take f xs ++ (take (e - f) (drop f xs) ++ drop e xs) ≡ xs
same_between xs f e order =
    let end : f + (e - f) ≡ e = omega arith in
    ap (λ ys. take f xs ++ (take (e - f) (drop f xs) ++ ys)) (sym (drop-drop (e - f) f xs ∙ ap (λ n. drop n xs) end))
    ∙ ap (λ ys. take f xs ++ ys) (take-append-drop (e - f) (drop f xs))
    ∙ take-append-drop f xs

-- parts that begin where those did that give way
begin_alike : (parts made : List SpanRanges) (starts : List ℕ) (f e : ℕ) → f ≤ e → starts ≡ starts_of parts
    → starts_of made ≡ take (e - f) (drop f starts) → starts_of (with_parts parts f e made) ≡ starts
begin_alike parts made starts f e order are same =
    let from = λ (t : SpanRanges). t.from in
    map-append from (take f parts) (made ++ drop e parts)
    ∙ ap (λ ns. starts_of (take f parts) ++ ns) (map-append from made (drop e parts))
    ∙ ap₂ (λ ns ms. ns ++ (starts_of made ++ ms)) (sym (take-map from f parts)) (sym (drop-map from e parts))
    ∙ ap (λ ns. take f (starts_of parts) ++ (ns ++ drop e (starts_of parts))) (same ∙ ap (λ ns. take (e - f) (drop f ns)) are)
    ∙ same_between (starts_of parts) f e order
    ∙ sym are

pub returns-then-begin_at-clause-stay : goal.returns-then-begin_at-clause-stay
returns-then-begin_at-clause-stay c =
    let t = c.args.self.now in
    let new = c.args.new.now in
    λ none. begin_alike (spans_of t.parts.items) (spans_of new.parts.items) t.begins.starts.items new.first new.end c.requires.order
    t.joined.starts_are (ap (λ ts. starts_of (spans_of ts)) (sym c.deref.ensures.value) ∙ c.begin_at.ensures c.if-begin_at.true
    ∙ ap (λ (ns : List ℕ). take (new.end - new.first) (drop new.first ns)) c.deref-2.ensures.value)

-- where the parts begin then
then_begin : (c : In_ok-starts) → c.in_ok-starts.starts.items
    ≡ starts_of (with_parts (spans_of c.args.self.now.parts.items) c.args.new.now.first c.args.new.now.end (spans_of c.args.new.now.parts.items))
then_begin c =
    let t = c.args.self.now in
    let new = c.args.new.now in
    put_starts (spans_of t.parts.items) (spans_of new.parts.items) c.deref-3.result.now c.in_ok-starts.starts.items
    (starts_of (spans_of c.deref-4.result.now)) new.first new.end
    (c.deref-3.ensures.value ∙ t.joined.starts_are)
    (ap (λ ts. starts_of (spans_of ts)) c.deref-4.ensures.value)
    c.in_ok-starts.ensures

pub new-requires-clause-rises : goal.new-requires-clause-rises
new-requires-clause-rises c =
    subst (λ (ns : List ℕ). AllPairs (λ a b. a < b) ns) (sym (then_begin (goal.at.new-requires-clause-rises c).In_ok-starts))
    (starts_rise 1 _ leaf_end c.requires.neighbours)

pub new-requires-clause-begins : goal.new-requires-clause-begins
new-requires-clause-begins c =
    λ face lt. subst (λ (ns : List ℕ). Contains ns (face_begin face)) (sym (then_begin (goal.at.new-requires-clause-begins c).In_ok-starts))
    (c.requires.faces face lt)

pub new-requires-clause-first : goal.new-requires-clause-first
new-requires-clause-first c =
    ap (λ (ns : List ℕ). slice_index_or ns 0 0) (then_begin (goal.at.new-requires-clause-first c).In_ok-starts) ∙ first_start _ c.requires.neighbours

pub returns-clause-made : goal.returns-clause-made
returns-clause-made c = c.in_ok-new.ensures ∙ then_begin (goal.at.returns-clause-made c).In_ok-starts
