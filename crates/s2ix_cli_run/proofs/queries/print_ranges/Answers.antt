-- The ranges of the store's table are those of its collection.
use Rattle.std.proofs.Common.{List, refl, subst}
use Rattle.std.specs.Io.KnownBytes.{Appends}
use Rattle.std.proofs.lemmas.Result.{err_from_is_err_and}
use Rattle.s2ix_table_walk.proofs.RangeList.{is_range_table}
use Rattle.s2ix_table_walk.specs.Table.{Range}
use Rattle.s2ix_text_parts.specs.Puts.{AppendsFront}
use Rattle.s2ix_text_write.specs.Lists.{list_text}
use Rattle.s2ix_cli_answers.specs.Ranges.{range_line}
use Rattle.s2ix_cli_run.proofs.queries.print_ranges.Goals as goal

pub returns-clause-runs : goal.returns-clause-runs
returns-clause-runs g c =
    let Took : List Range → Type 0 =
    λ runs. Appends (g.K.Sink.taken c.args.sink.now) (g.K.Sink.taken c.write_ranges.new.sink) (list_text range_line runs) in
    let put = subst Took (is_range_table _ _ c.table.ensures.table) c.in_ok-write_ranges.ensures.puts in
    record { store = refl; output = put; counted = refl; refused = refl }

pub returns-in_err-write_ranges-clause-runs : goal.returns-in_err-write_ranges-clause-runs
returns-in_err-write_ranges-clause-runs g c =
    let exit = c.from_residual in
    let p = err_from_is_err_and exit.result exit.ensures.1 in
    let Took : List Range → Type 0 =
    λ runs. AppendsFront (g.K.Sink.taken c.args.sink.now) (g.K.Sink.taken c.write_ranges.new.sink) (list_text range_line runs) in
    let put = subst Took (is_range_table _ _ c.table.ensures.table) c.in_err-write_ranges.ensures.puts in
    rw (p.1, p.2) (refl, put)
