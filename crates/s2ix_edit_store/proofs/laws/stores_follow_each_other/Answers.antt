use Rattle.s2ix_edit_store.proofs.Applied.{changes_followed, edit_followed, edit_not_refused}
use Rattle.s2ix_edit_store.proofs.laws.stores_follow_each_other.Goals as goal

pub returns : goal.returns
returns c = record {
  changes = changes_followed;
  edit = λ s other edit st same accepted room. (edit_not_refused s other edit st same accepted room, edit_followed s other edit st same);
}
