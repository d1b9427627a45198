use Rattle.s2ix_c_calls.proofs.Fresh.{new_from_limits}
use Rattle.s2ix_c_calls.proofs.laws.pairs_from_a_limit_are_new.Goals as goal

pub returns : goal.returns
returns c = new_from_limits
