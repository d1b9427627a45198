use Rattle.s2ix_edit_store.proofs.Recorded.{done_recorded, recorded_within_widest, undone_recorded}
use Rattle.s2ix_edit_store.proofs.laws.recorded_changes_are_within_the_limits.Goals as goal

pub returns : goal.returns
returns c = record {
  done = done_recorded;
  undone = undone_recorded;
  number = λ s st. st.room;
  widest = recorded_within_widest;
}
