use Rattle.s2ix_edit_plan.proofs.EachRefusal.{others_refused}
use Rattle.s2ix_edit_store.proofs.RevertRefusals.{reverts_refused}
use Rattle.s2ix_edit_store.proofs.laws.reverts_have_refusals_of_their_own.Goals as goal

pub returns : goal.returns
returns c = record {
  revert = reverts_refused;
  others = others_refused;
}
