-- When `front` had come of the first line of a piece: the lines before the rest are carried out.
use Rattle.std.proofs.Common.{◌≡◌, ℕ, List, length}
use Rattle.s2ix_cli_run.specs.Coming.{kept_of}
use Rattle.s2ix_cli_run.proofs.Among.{Among}
use Rattle.s2ix_cli_run.proofs.coming.run_piece.Given as goal

abbrev pub invariant-lines : goal.invariant-lines
invariant-lines g l =
    ((front : List ℕ) → l.fn.held ≡ kept_of front
    → Among l.stop front l.piece l.rest l.fn.store l.store l.held (g.K.Sink.taken l.fn.sink) (g.K.Sink.taken l.sink) l.fn.so_far l.so_far)
    × (g.K.Sink.fault_count l.sink ≡ g.K.Sink.fault_count l.fn.sink)

abbrev pub decreases-lines : goal.decreases-lines
decreases-lines g l = length l.rest
