-- Of the faces before this one at most one has entries.
use Rattle.std.proofs.Common.{◌≡◌, ◌≢◌, ◌<◌, ℕ, true, false, None}
use Rattle.std.specs.Option.{IfSome}
use Rattle.s2ix_table_kept.specs.Faces.{has_entry_on}
use Rattle.s2ix_table_faced.proofs.changes.only_face.Given as goal

abbrev pub invariant-loop-face : goal.invariant-loop-face
invariant-loop-face l =
    (l.only ≡ None → (other : ℕ) → other < l.face → has_entry_on l.change other ≡ false)
    × IfSome l.only (λ face. (face < l.face)
    × (has_entry_on l.change face ≡ true)
    × ((other : ℕ) → other < l.face → other ≢ face → has_entry_on l.change other ≡ false))
