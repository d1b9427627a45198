-- Entries are cut at the next chunk's first pair, or behind the first chunk's cell.
use Rattle.std.proofs.Common.{◌≡◌, ◌+◌, ◌*◌, [], drop, get_or, slice_get, take, sym, ap, ◌∙◌, subst, arith}
use Rattle.std.proofs.lemmas.List.{get_or_default}
use Rattle.std.proofs.lemmas.Option.{get_or_from_slice_get}
use Rattle.s2id_core.specs.CellId.{raw_of}
use Rattle.s2ix_bag_lists.specs.Faces.{AreEntriesBelow}
use Rattle.s2ix_bag_lists.proofs.Cuts.{cut_at_part}
use Rattle.s2ix_bag_pairs.specs.Change.{IsChangeListFrom}
use Rattle.s2ix_bag_pairs.specs.Collection.{Collection}
use Rattle.s2ix_bag_pairs.specs.Pair.{rank_of}
use Rattle.s2ix_bag_pairs.specs.declared.pair.Held.{Held}
use Rattle.s2ix_table_parts.proofs.ChunksChanged.{up_to_cell}
use Rattle.s2ix_table_parts.proofs.Runs.{cells_differ, cells_same}
use Rattle.s2ix_table_parts.proofs.change.chunks_after.own_count.Goals as goal
use Rattle.s2ix_table_parts.proofs.change.chunks_after.own_count.Goals.{then-chunks-gt1+else-eq, else-chunks-gt1}

pub count_before-requires-clause-label : goal.count_before-requires-clause-label
count_before-requires-clause-label c =
    let got = c.get.ensures in
    let fits = c.at-then-chunks-gt1.result.pair.label.in_range in
    omega (arith, got, fits)

pub returns-then-eq-clause-cut : goal.returns-then-eq-clause-cut
returns-then-eq-clause-cut c =
    let ps = c.args.chunks.now in
    let es = c.args.entries.now in
    let k = c.count_before.result in
    let next = c.at-then-chunks-gt1.result in
    let own = c.index-chunks-1.is ∙ get_or_default ps 1 c.index-chunks-1.result [] (omega arith) in
    let first = ap (λ (hs : Collection). slice_get hs 0) (sym own) ∙ c.at-then-chunks-gt1.ensures in
    let cell = ap raw_of (cells_same next.pair.cell c.at.result.pair.cell c.if-eq.ensures) in
    let raw = c.raw.ensures in
    let got = c.get.ensures in
    let rank : c.raw.result * 2147483648 + c.get.result ≡ rank_of next.pair = omega (arith, cell, raw, got) in
    cut_at_part ps 0 k es next c.requires.chunks.rises (omega arith) first
    (subst (λ n. AreEntriesBelow n (take k es)) rank c.count_before.ensures.below)
    (subst (λ n. IsChangeListFrom n (drop k es)) rank c.count_before.ensures.rest)

pub returns-clause-cut : goal.returns-clause-cut
returns-clause-cut c =
    let ps = c.args.chunks.now in
    let first = c.at.result in
    let raw = c.raw-2.ensures in
    let own = c.index-chunks-0.is ∙ get_or_default ps 0 c.index-chunks-0.result [] c.requires.some in
    let is = ap (λ (hs : Collection). slice_get hs 0) (sym own) ∙ c.at.ensures in
    up_to_cell ps c.args.entries.now c.count_before-2.result ((c.raw-2.result + 1) * 2147483648 + 0) first c.requires.chunks c.requires.some is
    (elim c.if-chunks-gt1.branch [
      | then-chunks-gt1+else-eq w ↦
          λ next lt next_is same.
          let there = w.index-chunks-1.is ∙ get_or_default ps 1 w.index-chunks-1.result [] lt in
          let head : get_or (get_or ps 1 []) 0 next ≡ next = get_or_from_slice_get (get_or ps 1 []) 0 next next next_is in
          let other : get_or (get_or ps 1 []) 0 next ≡ w.at-then-chunks-gt1.result =
          get_or_from_slice_get (get_or ps 1 []) 0 w.at-then-chunks-gt1.result next
          (ap (λ (hs : Collection). slice_get hs 0) (sym there) ∙ w.at-then-chunks-gt1.ensures) in
          cells_differ w.at-then-chunks-gt1.result.pair.cell first.pair.cell w.if-eq.ensures
          (ap (λ (h : Held). h.pair.cell) (sym other ∙ head) ∙ same)
      | else-chunks-gt1 w ↦ λ next lt next_is same. absurd (let within_limit = w.if-chunks-gt1.false in omega arith)
    ])
    (omega (arith, raw)) c.count_before-2.ensures.below c.count_before-2.ensures.rest
