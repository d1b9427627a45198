-- The limits whose numbers are the widest are the widest.
use Rattle.std.proofs.Common.{subst}
use Rattle.s2ix_bag_pairs.specs.declared.limits.Limits.{Limits}
use Rattle.s2ix_bag_pairs.specs.Limits.{IsWidest}
use Rattle.s2ix_bag_pairs.proofs.Equal.{same_limits}
use Rattle.s2ix_cli_files.specs.Widest.{widest}

-- what holds of limits that are as wide as may be holds of the widest
pub as_widest : (Holds : Limits → Type 0) (limits : Limits) → IsWidest limits → Holds limits → Holds widest
as_widest Holds limits is holds = subst Holds (same_limits limits widest is.0 is.1 is.2) holds
