use Rattle.std.proofs.Common.{rules}
use Rattle.s2ix_bag_held.proofs.held_list.HeldListClone.clone.Goals as goal

pub returns-in_err-clone-in-Some : goal.returns-in_err-clone-in-Some
returns-in_err-clone-in-Some c = search rules

pub returns-in_ok-clone-in-Some : goal.returns-in_ok-clone-in-Some
returns-in_ok-clone-in-Some c = search rules

pub returns-in-None : goal.returns-in-None
returns-in-None c = search rules
