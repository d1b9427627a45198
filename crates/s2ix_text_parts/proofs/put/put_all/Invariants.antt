-- What is gone from `rest` was taken, with no flush, and no call has failed.
use Rattle.std.proofs.Common.{◌≡◌, ℕ, List, ◌++◌, length}
use Rattle.std.specs.Io.KnownBytes.{Appends}
use Rattle.s2ix_text_parts.proofs.put.put_all.Given as goal

abbrev pub invariant-loop-rest : goal.invariant-loop-rest
invariant-loop-rest g l =
    (done : List ℕ) × (l.fn.bytes ≡ done ++ l.rest) × Appends (g.K.Sink.taken l.fn.sink) (g.K.Sink.taken l.sink) done
    × (g.K.Sink.flush_mark l.sink ≡ g.K.Sink.flush_mark l.fn.sink) × (g.K.Sink.fault_count l.sink ≡ g.K.Sink.fault_count l.fn.sink)

abbrev pub decreases-loop-rest : goal.decreases-loop-rest
decreases-loop-rest g l = length l.rest
