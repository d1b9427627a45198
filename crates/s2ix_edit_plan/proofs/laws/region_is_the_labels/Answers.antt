use Rattle.s2ix_edit_plan.proofs.LabelCells.{no_region, region_normal, region_same}
use Rattle.s2ix_edit_plan.proofs.laws.region_is_the_labels.Goals as goal

pub returns : goal.returns
returns c = record {
  region = λ hs label. region_same label hs;
  normal = λ hs label. region_normal label hs;
  empty = λ hs label none. no_region label hs none;
}
