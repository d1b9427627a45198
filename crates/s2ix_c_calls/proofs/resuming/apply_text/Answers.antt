-- The journal that is read is the one whose changes are refused.
use Rattle.std.proofs.Common.{rules}
use Rattle.s2ix_c_calls.proofs.resuming.apply_text.Goals as goal

pub returns-in-Err-clause-refused : goal.returns-in-Err-clause-refused
returns-in-Err-clause-refused c = (
  search rules,
  c.in_ok-changes.changes.items,
  search rules,
  (search rules, λ is. (search rules, search rules)),
)
