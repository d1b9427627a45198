use Rattle.std.proofs.Common.{◌≡◌, ◌<◌, take, All}
use Rattle.s2id_core.specs.Path.{place_of}
use Rattle.s2id_core.proofs.cell_id.CellId.from_path.Given as goal

abbrev pub invariant-loop-digit : goal.invariant-loop-digit
invariant-loop-digit l =
    All (λ d. d < 4) (take l.digit-index l.digits) × (l.place ≡ place_of (record { face = l.face; digits = take l.digit-index l.digits }))
