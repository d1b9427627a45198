use Rattle.std.proofs.Common.{inr, refl}
use Rattle.s2ix_c_calls.proofs.HeldLabels.{some_labels}
use Rattle.s2ix_c_calls.proofs.held_labels.held_labels.Goals as goal

pub returns-in-Err : goal.returns-in-Err
returns-in-Err c = inr (some_labels c.args.store.now.bag.held (c.in-Err.ensures.memory refl), (refl, refl, refl))
