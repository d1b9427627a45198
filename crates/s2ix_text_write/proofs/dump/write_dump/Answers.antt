-- The header, the lines of the pairs and the end line are written one after the other.
use Rattle.std.proofs.Common.{◌++◌, flat_map}
use Rattle.s2ix_text_write.specs.Dump.{dump_in, end_line, pair_line}
use Rattle.s2ix_text_parts.proofs.Writing.{Writes-cut, Writes-then}
use Rattle.s2ix_text_write.proofs.dump.write_dump.Goals as goal

pub returns-in_err-put_all : goal.returns-in_err-put_all
unfolding dump_in
returns-in_err-put_all g c =
    Writes-cut _ (flat_map pair_line c.args.bag.now.held ++ end_line c.args.bag.now.held) c.from_residual.ensures.0 c.in_err-put_all.ensures

pub returns-in_err-write_pairs : goal.returns-in_err-write_pairs
unfolding dump_in
returns-in_err-write_pairs g c =
    Writes-then c.in_ok-put_all.ensures
    (Writes-cut _ (end_line c.args.bag.now.held) c.from_residual-in_err-write_pairs.ensures.0 c.in_err-write_pairs.ensures)

pub returns : goal.returns
unfolding dump_in
returns g c = Writes-then c.in_ok-put_all.ensures (Writes-then c.in_ok-write_pairs.ensures c.write_end.ensures)
