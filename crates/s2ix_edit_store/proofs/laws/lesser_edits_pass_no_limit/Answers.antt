use Rattle.s2ix_edit_store.proofs.LimitRefusals.{drop_passes_none, grow_passes_no_count, normalise_passes_none, relabel_passes_no_pairs, remove_passes_none}
use Rattle.s2ix_edit_store.proofs.laws.lesser_edits_pass_no_limit.Goals as goal

pub returns : goal.returns
returns c = record {
  remove = remove_passes_none;
  drop_label = drop_passes_none;
  normalise = normalise_passes_none;
  relabel = relabel_passes_no_pairs;
  grow = grow_passes_no_count;
}
