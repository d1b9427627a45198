-- The line of this pair is gathered after those before it, or the sink fails; then the end line.
use Rattle.std.proofs.Common.{◌≡◌, ℕ, length, arith, rules}
use Rattle.s2ix_table_walk.specs.Meeting.{meeting_of}
use Rattle.s2ix_table_walk.specs.Shown.{Shown}
use Rattle.s2ix_table_walk.proofs.Paying.{few_meet}
use Rattle.s2ix_text_write.specs.Lists.{held_line}
use Rattle.s2ix_text_write.proofs.Gathered.{gathered_first, gathered_item, list_fault, list_put}
use Rattle.s2ix_table_walk.proofs.Left.{left_first, left_none}
use Rattle.s2ix_cli_answers.proofs.meeting.write_meeting.Goals as goal

pub overflow_add-count : goal.overflow_add-count
overflow_add-count g c =
    let table = c.args.table.now in
    let shown : Shown g.row.T-Place.Denot =
    record {
      pairs = g.T.RangeTable.pairs table;
      ranges = g.T.RangeTable.ranges table;
      chain = g.T.RangeTable.chain table;
      borders = g.T.RangeTable.borders table;
    } in
    let within_limit =
    few_meet shown c.args.target.now
    (record {
      is_collection = g.met.T.RangeTable.is_collection table;
      is_table = g.met.T.RangeTable.is_table table;
      within_limit = g.met.T.RangeTable.within_limit table;
      are_borders = g.met.T.RangeTable.are_borders table;
    }) in
    let within = c.loop-held.invariant.1 in
    omega arith

pub loop-held-init : goal.loop-held-init
loop-held-init g c = (search (rules, c.new-meeting.ensures.left), search rules, gathered_first c.new-block.ensures)

pub loop-held-preserved : goal.loop-held-preserved
loop-held-preserved g c =
    let all = meeting_of c.args.target.now (g.T.RangeTable.pairs c.args.table.now) in
    let item = left_first all _ _ c.loop-held.count c.in-Some.held c.loop-held.invariant.0 c.in-Some.ensures.yields in (
      item.2,
      let within = item.0 in omega arith,
      gathered_item held_line all c.loop-held.count c.in-Some.held item.1 c.loop-held.invariant.2 c.in_ok-write_line.ensures,
    )

pub returns-in_err-write_line : goal.returns-in_err-write_line
returns-in_err-write_line g c =
    let all = meeting_of c.args.target.now (g.T.RangeTable.pairs c.args.table.now) in
    let item = left_first all _ _ c.loop-held.count c.in-Some.held c.loop-held.invariant.0 c.in-Some.ensures.yields in
    list_fault held_line all c.loop-held.count c.in-Some.held c.from_residual.result c.from_residual.ensures.0 item.1
    c.loop-held.invariant.2 c.in_err-write_line.ensures

pub returns : goal.returns
returns g c =
    let all = meeting_of c.args.target.now (g.T.RangeTable.pairs c.args.table.now) in
    let taken = left_none all _ c.loop-held.count c.loop-held.invariant.0 c.in_default.ensures.yields.0 in
    let within = c.loop-held.invariant.1 in
    let end : c.loop-held.count ≡ length all = omega arith in
    list_put held_line all c.loop-held.count end c.loop-held.invariant.2 c.write_end.ensures.text
