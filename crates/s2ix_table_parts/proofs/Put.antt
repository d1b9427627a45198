-- Parts that give way to others, and where they begin.
use Rattle.std.proofs.Common.{◌≡◌, ℕ, List, ◌++◌, take, drop, sym, ◌∙◌, ap}
use Rattle.s2ix_table_spans.specs.SpanTable.{SpanRanges}
use Rattle.s2ix_table_parts.specs.FaceSpans.{TablePart, heavy_places_of, spans_of, starts_of}
use Rattle.s2ix_table_parts.specs.Parts.{with_parts}
use Rattle.s2ix_table_parts.proofs.Replaced.{mapped, replaced_in}
use Rattle.s2ix_table_parts.proofs.Shared.{heavy_places_more, spans_append}

pub put_spans : (old same now made : List TablePart) (f e : ℕ) → same ≡ old → now ≡ take f same ++ (made ++ drop e same)
    → spans_of now ≡ with_parts (spans_of old) f e (spans_of made)
put_spans old same now made f e is put =
    ap (λ ts. spans_of ts) (replaced_in old same now made f e is put) ∙ mapped (λ (p : TablePart). p.table) old made f e

pub put_heavy_places : (old same now made : List TablePart) (f e : ℕ) → same ≡ old → now ≡ take f same ++ (made ++ drop e same)
    → heavy_places_of now ≡ take f (heavy_places_of old) ++ (heavy_places_of made ++ drop e (heavy_places_of old))
put_heavy_places old same now made f e is put =
    ap (λ ts. heavy_places_of ts) (replaced_in old same now made f e is put) ∙ mapped (λ (p : TablePart). p.heavy_place) old made f e

-- parts behind others, some of them new
pub pushed_spans : (old now made before : List TablePart) (f e : ℕ) → now ≡ old ++ (take f before ++ (made ++ drop e before))
    → spans_of now ≡ spans_of old ++ with_parts (spans_of before) f e (spans_of made)
pushed_spans old now made before f e put =
    ap (λ ts. spans_of ts) put ∙ spans_append old (take f before ++ (made ++ drop e before))
    ∙ ap (λ ts. spans_of old ++ ts) (mapped (λ (p : TablePart). p.table) before made f e)

pub pushed_heavy_places : (old now made before : List TablePart) (f e : ℕ) → now ≡ old ++ (take f before ++ (made ++ drop e before))
    → heavy_places_of now ≡ heavy_places_of old ++ (take f (heavy_places_of before) ++ (heavy_places_of made ++ drop e (heavy_places_of before)))
pushed_heavy_places old now made before f e put =
    ap (λ ts. heavy_places_of ts) put ∙ heavy_places_more old (take f before ++ (made ++ drop e before))
    ∙ ap (λ os. heavy_places_of old ++ os) (mapped (λ (p : TablePart). p.heavy_place) before made f e)

pub put_starts : (spans made : List SpanRanges) (same now begins : List ℕ) (f e : ℕ) → same ≡ starts_of spans → begins ≡ starts_of made
    → now ≡ take f same ++ (begins ++ drop e same) → now ≡ starts_of (with_parts spans f e made)
put_starts spans made same now begins f e is are put =
    replaced_in (starts_of spans) same now begins f e is put
    ∙ ap (λ ns. take f (starts_of spans) ++ (ns ++ drop e (starts_of spans))) are
    ∙ sym (mapped (λ (t : SpanRanges). t.from) spans made f e)
