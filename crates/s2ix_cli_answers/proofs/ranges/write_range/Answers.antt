-- The bounds, the pairs and the line feed are written one after the other.
use Rattle.std.proofs.Common.{ℕ, List, ◌++◌, Ok, codes, flat_map, ap₂, subst}
use Rattle.s2ix_text_parts.specs.Puts.{Writes}
use Rattle.s2ix_table_walk.specs.Table.{range_at}
use Rattle.s2ix_cli_answers.specs.Ranges.{bounds_text, range_line, spaced_pair}
use Rattle.s2ix_text_parts.proofs.Writing.{Writes-cut, Writes-then}
use Rattle.s2ix_cli_answers.proofs.ranges.write_range.Goals as goal

pub returns-in_err-write_bounds : goal.returns-in_err-write_bounds
unfolding range_line
returns-in_err-write_bounds g c =
    let range = range_at (g.T.RangeTable.ranges c.args.table.now) c.args.k in
    let WritesLine : List ℕ → Type 0 =
    λ text. Writes g.K.Sink c.args.sink.now c.write_bounds.new.sink c.from_residual.result
    (text ++ (flat_map spaced_pair range.contents ++ codes "\n")) in
    subst WritesLine (ap₂ bounds_text c.range.ensures.start c.range.ensures.limit)
    (Writes-cut _ (flat_map spaced_pair range.contents ++ codes "\n") c.from_residual.ensures.0 c.in_err-write_bounds.ensures)

pub returns-in_err-write_range_pairs : goal.returns-in_err-write_range_pairs
unfolding range_line
returns-in_err-write_range_pairs g c =
    let WritesBounds : List ℕ → Type 0 = λ text. Writes {A = Unit {0}} g.K.Sink c.args.sink.now c.write_bounds.new.sink (Ok tt) text in
    Writes-then (subst WritesBounds (ap₂ bounds_text c.range.ensures.start c.range.ensures.limit) c.in_ok-write_bounds.ensures)
    (Writes-cut _ (codes "\n") c.from_residual-in_err-write_range_pairs.ensures.0 c.in_err-write_range_pairs.ensures)

pub returns : goal.returns
unfolding range_line
returns g c =
    let WritesBounds : List ℕ → Type 0 = λ text. Writes {A = Unit {0}} g.K.Sink c.args.sink.now c.write_bounds.new.sink (Ok tt) text in
    Writes-then (subst WritesBounds (ap₂ bounds_text c.range.ensures.start c.range.ensures.limit) c.in_ok-write_bounds.ensures)
    (Writes-then c.in_ok-write_range_pairs.ensures c.put_all.ensures)
