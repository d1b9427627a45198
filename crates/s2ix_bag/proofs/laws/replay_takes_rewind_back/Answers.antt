use Rattle.s2ix_bag.proofs.Back.{replay_of_rewind}
use Rattle.s2ix_bag.proofs.laws.replay_takes_rewind_back.Goals as goal

pub returns : goal.returns
returns c = replay_of_rewind
