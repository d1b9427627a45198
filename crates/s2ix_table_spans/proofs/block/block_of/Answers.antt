use Rattle.std.proofs.Common.{◌≡◌, ℕ, ◌+◌, ◌-◌, ◌≤◌, take, drop, length, arith, rules, sym, ap, subst, Contains}
use Rattle.std.proofs.lemmas.List.{length-take, length-drop, take-take, take_all}
use Rattle.s2id_core.specs.CellId.{raw_of}
use Rattle.s2id_core.proofs.Cells.{same_cell}
use Rattle.s2id_core.proofs.Nested.{span}
use Rattle.s2ix_bag_pairs.proofs.CutAtRank.{collection_take}
use Rattle.s2ix_table_spans.proofs.Exchanges.{exchange, part_rises}
use Rattle.s2ix_table_spans.proofs.block.block_of.Goals as goal

pub lesser_count-start-requires : goal.lesser_count-start-requires
lesser_count-start-requires c = record { rises = collection_take c.args.common.front 0 c.args.held.now c.requires.rises }

pub overflow_sub-span_end : goal.overflow_sub-span_end
overflow_sub-span_end c =
    let cell = c.cell-cell.result in
    let s = span (raw_of cell) cell.valid in
    let a = s.begins in
    let b = s.from in
    let t = s.to in
    let e = c.span_end.ensures in
    omega arith

pub lesser_count-requires : goal.lesser_count-requires
lesser_count-requires c = record { rises = part_rises _ _ c.args.held.now c.requires.rises }

pub are_within-requires : goal.are_within-requires
are_within-requires c = record { rises = part_rises _ _ c.args.held.now c.requires.rises }

pub are_within-requires-2 : goal.are_within-requires-2
are_within-requires-2 c = record { rises = part_rises _ _ c.args.next.now c.requires.next_rises }

pub returns-clause-block : goal.returns-clause-block
returns-clause-block c =
    let held = c.args.held.now in
    let next = c.args.next.now in
    let front = c.args.common.front in
    let end = c.args.common.end in
    let start = c.lesser_count-start.result in
    let skip = c.lesser_count.result in
    let cell = c.cell-cell.result in
    let fits = c.requires.held in
    let first_is = c.span_start.ensures in
    let end_is = c.span_end.ensures in
    let by : start ≤ front = (let z = c.lesser_count-start.ensures.within in let y = length-take front held in omega arith) in
    let tail_long = length-drop (length held - end) held in
    let tail : take (length held - (length held - end)) (drop (length held - end) held) ≡ drop (length held - end) held = take_all _ _ (omega arith) in
    let long = ap length tail in
    let skips : skip ≤ end = (let z = c.lesser_count.ensures.within in omega arith) in
    let part_is : (n : ℕ) → start + n - start ≡ n = λ n. omega arith in
    exchange held next cell front end start skip
    (record { old = c.requires.held; new = c.requires.next; fronts = c.requires.front; ends = c.requires.end }) by skips
    (λ h is. let lt = c.lesser_count-start.ensures.lesser h (subst (λ hs. Contains hs h) (sym (take-take start front held by)) is) in omega arith)
    (λ h is. let le = c.lesser_count.ensures.rest h (subst (λ hs. Contains (drop skip hs) h) (sym tail) is) in omega arith)
    (λ h is.
    let there = subst (λ n. Contains (take n (drop start held)) h) (sym (part_is (length held - (end - skip) - start))) is in
    (c.are_within.ensures.from c.if-not-are_within.false h there, c.are_within.ensures.to c.if-not-are_within.false h there))
    (λ h is.
    let there = subst (λ n. Contains (take n (drop start next)) h) (sym (part_is (length next - (end - skip) - start))) is in
    (c.are_within-2.ensures.from c.if-not-are_within-2.false h there, c.are_within-2.ensures.to c.if-not-are_within-2.false h there))
    (c.index-held-place.result, (c.args.place, c.requires.place, sym c.index-held-place.is), sym c.cell-cell.ensures)
    (c.index-next-own.result, (c.args.own, c.requires.own, sym c.index-next-own.is), same_cell c.index-next-own.result.pair.cell cell (search rules))
