use Rattle.std.proofs.Common.{◌≡◌, ℕ, ◌+◌, ◌<◌, length, get_or}
use Rattle.s2id_core.specs.Path.{path_at}
use Rattle.s2id_core.proofs.cell_id.CellId.path.Given as goal

-- the face and the slash stand, and the digits so far
abbrev pub invariant-loop-k : goal.invariant-loop-k
invariant-loop-k l =
    record {
      long : length l.bytes ≡ 32;
      face : get_or l.bytes 0 0 ≡ 48 + (path_at l.fn.self.raw).face;
      slash : get_or l.bytes 1 0 ≡ 47;
      digits : (j : ℕ) → j < l.k → get_or l.bytes (j + 2) 0 ≡ 48 + get_or (path_at l.fn.self.raw).digits j 0;
    }
