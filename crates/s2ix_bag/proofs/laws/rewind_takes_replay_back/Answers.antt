use Rattle.s2ix_bag.proofs.Back.{rewind_of_replay}
use Rattle.s2ix_bag.proofs.laws.rewind_takes_replay_back.Goals as goal

pub returns : goal.returns
returns c =
    λ bag changes is_bag all none.
    let returns = rewind_of_replay bag changes is_bag all none in (returns.taken, returns.back)
