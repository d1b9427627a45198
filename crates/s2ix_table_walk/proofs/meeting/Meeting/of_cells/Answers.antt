use Rattle.std.proofs.Common.{refl}
use Rattle.s2ix_table_walk.specs.Walking.{front_from}
use Rattle.s2ix_table_walk.proofs.Paying.{none_pays}
use Rattle.s2ix_table_walk.proofs.meeting.Meeting.of_cells.Goals as goal

pub invariant_of-result-clause-paid : goal.invariant_of-result-clause-paid
unfolding front_from
invariant_of-result-clause-paid g c =
    none_pays (g.R.Reader.shown c.args.reader.now) c.args.cells.now _ _ (g.met.R.Reader.is_shown c.args.reader.now) refl refl refl
    c.requires.unread
