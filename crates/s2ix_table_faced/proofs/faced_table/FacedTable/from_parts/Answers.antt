use Rattle.std.proofs.Common.{ℕ, ◌<◌, List, length, slice_index_or, sym, ◌∙◌, ap, arith, subst, AllPairs, Contains}
use Rattle.std.proofs.lemmas.List.{take_at}
use Rattle.s2ix_table_walk.specs.Table.{leaf_end}
use Rattle.s2ix_table_parts.specs.FaceSpans.{face_begin, spans_of, starts_of}
use Rattle.s2ix_table_faced.specs.Joined.{joined_ranges}
use Rattle.s2ix_table_faced.specs.Layout.{covered, heavy_in}
use Rattle.s2ix_table_faced.specs.Offsets.{offsets_of}
use Rattle.s2ix_table_faced.proofs.Bordering.{parts_begin}
use Rattle.s2ix_table_parts.proofs.Cuts.{starts_rise}
use Rattle.s2ix_table_faced.proofs.Laid.{laid_joined, laid_rises, many_covered}
use Rattle.s2ix_table_faced.proofs.LaidOnce.{laid_once}
use Rattle.s2ix_table_faced.proofs.Offsets.{length_offsets}
use Rattle.s2ix_table_faced.proofs.Reading.{all_table, first_offset}
use Rattle.s2ix_table_parts.proofs.Shared.{many_shared}
use Rattle.s2ix_table_faced.proofs.Together.{first_start}
use Rattle.s2ix_table_faced.proofs.faced_table.FacedTable.from_parts.Goals as goal

pub new-requires-clause-rises : goal.new-requires-clause-rises
new-requires-clause-rises c =
    let spans = spans_of c.args.parts.items in
    let starts = c.in_ok-starts.ensures ∙ ap (λ ts. starts_of (spans_of ts)) c.deref.ensures.value in
    subst (λ (ns : List ℕ). AllPairs (λ a b. a < b) ns) (sym starts)
    (starts_rise 1 spans leaf_end c.requires.layout.neighbours)

pub new-requires-clause-begins : goal.new-requires-clause-begins
new-requires-clause-begins c =
    let starts = c.in_ok-starts.ensures ∙ ap (λ ts. starts_of (spans_of ts)) c.deref.ensures.value in
    λ face lt. subst (λ (ns : List ℕ). Contains ns (face_begin face)) (sym starts) (c.requires.faces face lt)

pub new-requires-clause-first : goal.new-requires-clause-first
new-requires-clause-first c =
    let starts = c.in_ok-starts.ensures ∙ ap (λ ts. starts_of (spans_of ts)) c.deref.ensures.value in
    ap (λ (ns : List ℕ). slice_index_or ns 0 0) starts
    ∙ first_start (spans_of c.args.parts.items) c.requires.layout.neighbours

pub invariant_of-result : goal.invariant_of-result
invariant_of-result c =
    let heavy = heavy_in c.args.heavy in
    let starts = c.in_ok-begins.ensures ∙ c.in_ok-starts.ensures ∙ ap (λ ts. starts_of (spans_of ts)) c.deref.ensures.value in
    let here = ap (λ ts. covered heavy (spans_of ts)) c.deref-2.ensures.value in
    let own = c.in_ok-offsets.offsets.ok.0 in
    let many = c.in_ok-offsets.ensures in
    let len = c.len.ensures in
    let parts_own = c.args.parts.ok.0 in
    let length_is = ap length c.count_from-count.ensures.offsets ∙ length_offsets first_offset (covered heavy (spans_of c.deref-2.result.now))
    ∙ ap length here ∙ many_covered heavy (spans_of c.args.parts.items) ∙ many_shared c.args.parts.items in
    let written = take_at c.count_from-count.new.offsets _ c.in_ok-offsets.offsets.len (omega arith) in
    let whole = laid_joined _ _ _ c.requires.layout starts (written ∙ c.count_from-count.ensures.offsets ∙ ap offsets_of here)
    (c.count_from-count.ensures.count ∙ ap (λ ts. length (joined_ranges ts)) here) in
    record {
      joined = whole;
      layered = c.requires.layout.layered;
      rises = laid_rises c.requires.layout;
      table = all_table whole;
      bordered = parts_begin whole;
      once = laid_once c.requires.layout;
    }
