-- The line of this range is written after those before it, or a fault ends it; then the end line.
use Rattle.std.proofs.Common.{◌≡◌, ◌<◌, ℕ, length, subst, arith}
use Rattle.std.proofs.lemmas.Option.{slice_get-get_or}
use Rattle.s2ix_table_walk.specs.Table.{range_at}
use Rattle.s2ix_text_parts.specs.Puts.{Writes}
use Rattle.s2ix_text_write.specs.Lists.{end_of_list, list_text}
use Rattle.s2ix_cli_answers.specs.Ranges.{range_line}
use Rattle.s2ix_text_parts.proofs.Writing.{Writes-all, Writes-cut, Writes-item, Writes-item_fault, Writes-then}
use Rattle.s2ix_cli_answers.proofs.ranges.write_ranges.Goals as goal

pub loop-k-preserved : goal.loop-k-preserved
loop-k-preserved g c =
    let ranges = g.T.RangeTable.ranges c.args.table.now in
    let within : c.loop-k.k < length ranges = omega (arith, c.loop-k-test.true, c.range_count-k-end.ensures) in
    Writes-item range_line ranges c.loop-k.k (range_at ranges c.loop-k.k) (slice_get-get_or ranges c.loop-k.k _ within) c.loop-k.invariant
    c.in_ok-write_range.ensures

pub returns-in_err-write_range : goal.returns-in_err-write_range
unfolding list_text
returns-in_err-write_range g c =
    let ranges = g.T.RangeTable.ranges c.args.table.now in
    let within : c.loop-k.k < length ranges = omega (arith, c.loop-k-test.true, c.range_count-k-end.ensures) in
    Writes-cut _ (end_of_list (length ranges)) c.from_residual.ensures.0
    (Writes-item_fault range_line ranges c.loop-k.k (range_at ranges c.loop-k.k) (slice_get-get_or ranges c.loop-k.k _ within)
    c.loop-k.invariant c.in_err-write_range.ensures)

pub returns : goal.returns
unfolding list_text
returns g c =
    let ranges = g.T.RangeTable.ranges c.args.table.now in
    let end : c.loop-k.k ≡ length ranges = omega (arith, c.loop-k-test.false, c.loop-k.auto.k-end, c.range_count-k-end.ensures) in
    let WritesEnd : ℕ → Type 0 =
    λ n. Writes g.K.Sink c.loop-k.sink c.write_end_of_list.new.sink c.write_end_of_list.result (end_of_list n) in
    Writes-then (Writes-all range_line ranges c.loop-k.k end c.loop-k.invariant)
    (subst WritesEnd c.range_count.ensures c.write_end_of_list.ensures)
