use Rattle.s2ix_c_calls.proofs.Fresh.{each_begins_once}
use Rattle.s2ix_c_calls.proofs.laws.each_pair_begins_once.Goals as goal

pub returns : goal.returns
returns c = each_begins_once
