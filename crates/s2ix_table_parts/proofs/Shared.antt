-- Parts, by what their tables show and by the places over them.
use Rattle.std.proofs.Common.{◌≡◌, ℕ, suc, ◌+◌, ◌<◌, None, Option, List, [], ◌∷◌, ◌++◌, length, get_or, take, drop, replicate, sym, ◌∙◌, ap, arith}
use Rattle.std.proofs.Math.Seq.{take-suc}
use Rattle.std.proofs.lemmas.List.{get_or-map, length-map, map-append, append_assoc, replicate_more, take-map, drop-map}
use Rattle.std.specs.List.{AppendsClones, each_same}
use Rattle.s2ix_table_spans.specs.SpanTable.{SpanRanges}
use Rattle.s2ix_table_heavy.specs.declared.heavy_place.HeavyPlace.{HeavyPlace}
use Rattle.s2ix_table_parts.specs.FaceSpans.{TablePart, no_table, heavy_places_of, spans_of, table_of}

pub many_shared : (parts : List TablePart) → length (spans_of parts) ≡ length parts
many_shared parts = length-map parts (λ (p : TablePart). p.table)

pub length_heavy_places_of : (parts : List TablePart) → length (heavy_places_of parts) ≡ length parts
length_heavy_places_of parts = length-map parts (λ (p : TablePart). p.heavy_place)

-- what one of them shows, once it is read
pub seen_at : (parts : List TablePart) (part : ℕ) (d : TablePart) (span : SpanRanges) → part < length parts
    → span ≡ (get_or parts part d).table → span ≡ table_of (spans_of parts) part
seen_at parts part d span lt is = is ∙ sym (get_or-map (λ (p : TablePart). p.table) parts part d no_table lt)

-- the place over one of them, once it is read
pub over_at : (parts : List TablePart) (part : ℕ) (d : TablePart) (over : Option HeavyPlace) → part < length parts
    → over ≡ (get_or parts part d).heavy_place → get_or (heavy_places_of parts) part None ≡ over
over_at parts part d over lt is = get_or-map (λ (p : TablePart). p.heavy_place) parts part d None lt ∙ sym is

-- more of them
pub spans_append : (parts more : List TablePart) → spans_of (parts ++ more) ≡ spans_of parts ++ spans_of more
spans_append parts more = map-append (λ (p : TablePart). p.table) parts more

pub heavy_places_more : (parts more : List TablePart) → heavy_places_of (parts ++ more) ≡ heavy_places_of parts ++ heavy_places_of more
heavy_places_more parts more = map-append (λ (p : TablePart). p.heavy_place) parts more

-- one more, of a table among others
pub next_span : (before others : List SpanRanges) (parts now : List TablePart) (i : ℕ) (table : SpanRanges) (over : Option HeavyPlace)
    → spans_of parts ≡ before ++ take i others → i < length others → table ≡ table_of others i
    → now ≡ parts ++ record { table = table; heavy_place = over } ∷ [] → spans_of now ≡ before ++ take (i + 1) others
next_span before others parts now i table over was lt is put =
    let next : suc i ≡ i + 1 = omega arith in
    ap (λ ts. spans_of ts) put
    ∙ spans_append parts (record { table = table; heavy_place = over } ∷ [])
    ∙ ap (λ ts. ts ++ table ∷ []) was
    ∙ append_assoc before (take i others) (table ∷ [])
    ∙ ap (λ (s : SpanRanges). before ++ (take i others ++ s ∷ [])) is
    ∙ ap (λ ts. before ++ ts) (sym (take-suc others i no_table lt))
    ∙ ap (λ n. before ++ take n others) next

pub next_over : (before : List (Option HeavyPlace)) (parts now : List TablePart) (i : ℕ) (table : SpanRanges) (over : Option HeavyPlace)
    → heavy_places_of parts ≡ before ++ replicate i over → now ≡ parts ++ record { table = table; heavy_place = over } ∷ []
    → heavy_places_of now ≡ before ++ replicate (i + 1) over
next_over before parts now i table over was put =
    ap (λ ts. heavy_places_of ts) put
    ∙ heavy_places_more parts (record { table = table; heavy_place = over } ∷ [])
    ∙ ap (λ os. os ++ over ∷ []) was
    ∙ append_assoc before (replicate i over) (over ∷ [])
    ∙ ap (λ os. before ++ os) (replicate_more i over)

-- more behind none
pub alone_spans : (none now : List TablePart) (tables : List SpanRanges) → none ≡ [] → spans_of now ≡ spans_of none ++ tables → spans_of now ≡ tables
alone_spans none now tables is put = put ∙ ap (λ ts. spans_of ts ++ tables) is

pub alone_heavy_places : (none now : List TablePart) (heavy_places : List (Option HeavyPlace)) → none ≡ [] → heavy_places_of now ≡ heavy_places_of none ++ heavy_places
    → heavy_places_of now ≡ heavy_places
alone_heavy_places none now heavy_places is put = put ∙ ap (λ ts. heavy_places_of ts ++ heavy_places) is

-- clones behind others
pub cloned_behind : (old now more : List TablePart) → AppendsClones (λ part copy. copy ≡ part) old now more → now ≡ old ++ more
cloned_behind old now more (clones, put, same) = put ∙ ap (λ ts. old ++ ts) (each_same more clones same)

-- some of them
pub spans_between : (a n : ℕ) (parts : List TablePart) → spans_of (take n (drop a parts)) ≡ take n (drop a (spans_of parts))
spans_between a n parts = sym (take-map (λ (p : TablePart). p.table) n (drop a parts)) ∙ ap (take n) (sym (drop-map (λ (p : TablePart). p.table) a parts))

pub heavy_places_between : (a n : ℕ) (parts : List TablePart) → heavy_places_of (take n (drop a parts)) ≡ take n (drop a (heavy_places_of parts))
heavy_places_between a n parts = sym (take-map (λ (p : TablePart). p.heavy_place) n (drop a parts)) ∙ ap (take n) (sym (drop-map (λ (p : TablePart). p.heavy_place) a parts))
