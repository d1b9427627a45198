-- Parts that give way to others, with their offsets, where they begin, and what lies over them.
use Rattle.std.proofs.Common.{◌≡◌, ℕ, ◌+◌, ◌≤◌, Option, Some, None, List, ◌++◌, length, take, drop, get_or, refl, sym, ◌∙◌, ap, ap₂, arith}
use Rattle.std.specs.Prelude.{IfSome, MatchOption}
use Rattle.std.proofs.lemmas.List.{drop-map, get_or-drop, map-append, take-map}
use Rattle.s2ix_table_spans.specs.SpanTable.{SpanRanges}
use Rattle.s2ix_table_faced.specs.declared.offset.Offset.{Offset}
use Rattle.s2ix_table_faced.specs.declared.part_begins.PartBegins.{PartBegins}
use Rattle.s2ix_table_faced.specs.Offsets.{offset_at, offsets_from, offsets_of, AreOffsetsFrom}
use Rattle.s2ix_table_faced.specs.Layout.{cover, covered}
use Rattle.s2ix_table_parts.specs.Parts.{with_parts}
use Rattle.s2ix_table_faced.proofs.Moving.{own_behind}
use Rattle.s2ix_table_faced.proofs.Offsets.{length_offsets}
use Rattle.s2ix_table_faced.proofs.OneFace.{length_with, offsets_front}
use Rattle.s2ix_table_faced.proofs.Reading.{first_offset, no_offset}
use Rattle.s2ix_table_parts.proofs.Replaced.{before_new, behind_new, replaced_in}
use Rattle.s2ix_bag_pairs.specs.Collection.{Collection}

-- the offsets before the new parts are right, and those behind them are as far from one another as they should be
pub record ArePut (parts : List SpanRanges) (offsets : List Offset) (first end : ℕ) : Type 0 where
  pub many : length offsets ≡ length parts
  pub before : take first offsets ≡ take first (offsets_of parts)
  pub behind : AreOffsetsFrom end offsets parts

pub put_offsets : (spans made : List SpanRanges) (same now new : List Offset) (f e k : ℕ) → f ≤ e → e ≤ length spans → length made ≡ k
    → length new ≡ k → same ≡ offsets_of spans → now ≡ take f same ++ (new ++ drop e same) → ArePut (with_parts spans f e made) now f (f + k)
put_offsets spans made same now new f e k order within many many_new is put =
    let old = offsets_of spans in
    let here = replaced_in old same now new f e is put in
    let old_many = length_offsets first_offset spans in
    let all = length_with f e spans made order within in
    let all_offsets = length_with f e old new order (omega arith) in
    let count = ap length here in
    let rest = ap (drop (f + k)) here ∙ behind_new old new f e k (omega arith) many_new in
    let first : offset_at now (f + k) ≡ offset_at old e =
    (let one : f + k + 0 ≡ f + k = omega arith in
    let other : e + 0 ≡ e = omega arith in
    ap (offset_at now) (sym one) ∙ sym (get_or-drop (f + k) now 0 no_offset) ∙ ap (λ os. get_or os 0 no_offset) rest
    ∙ get_or-drop e old 0 no_offset ∙ ap (offset_at old) other) in
    record {
      many = omega (arith, count, all, all_offsets, old_many, many, many_new, order, within);
      before = ap (take f) here ∙ before_new old new f e (omega arith) ∙ sym (offsets_front f first_offset spans (made ++ drop e spans) (omega arith));
      behind =
          rest ∙ own_behind e spans
          ∙ ap₂ (λ o ts. offsets_from o ts) (sym first) (sym (behind_new spans made f e k (omega arith) many));
    }

-- where parts begin, if new begins take the place of those that there were
pub begins_put : (new : Option PartBegins) (old now : PartBegins) (starts : List ℕ) → (new ≡ None → starts ≡ old.starts.items)
    → IfSome new (λ made. made.starts.items ≡ starts) → MatchOption new (now ≡ old) (λ made. now ≡ made) → now.starts.items ≡ starts
begins_put None old now starts stay made put = ap (λ (b : PartBegins). b.starts.items) put ∙ sym (stay refl)
begins_put (Some new) old now starts stay made put = ap (λ (b : PartBegins). b.starts.items) put ∙ made

-- parts that stay lie under the same heavy pairs as before
pub put_covered : (before after : Collection) (spans made : List SpanRanges) (f e : ℕ) → covered after (take f spans) ≡ covered before (take f spans)
    → covered after (drop e spans) ≡ covered before (drop e spans)
    → covered after (with_parts spans f e made) ≡ with_parts (covered before spans) f e (covered after made)
put_covered before after spans made f e front back =
    map-append (cover after) (take f spans) (made ++ drop e spans)
    ∙ ap₂ (λ xs ys. xs ++ ys) (front ∙ sym (take-map (cover before) f spans))
    (map-append (cover after) made (drop e spans) ∙ ap (λ ys. covered after made ++ ys) (back ∙ sym (drop-map (cover before) e spans)))
