use Rattle.std.proofs.Common.{◌∙◌, ap, sym}
use Rattle.s2ix_edit_plan.specs.Edit.{edited_alone}
use Rattle.s2ix_edit_plan.specs.History.{at_cursor, standing}
use Rattle.s2ix_edit_plan.specs.State.{history_of}
use Rattle.s2ix_edit_plan.proofs.Edited.{held_at_cursor}
use Rattle.s2ix_edit_plan.proofs.EachRefusal.{reads_none}
use Rattle.s2ix_edit_plan.proofs.laws.edits_read_the_collection.Goals as goal

pub returns : goal.returns
returns c = record {
  cursor = λ h edit reads. sym (reads_none edit (standing h) (at_cursor h) reads).same;
  bag = λ s edit reads.
      sym (reads_none edit (standing (history_of s)) (at_cursor (history_of s)) reads).same
      ∙ ap (λ hs. edited_alone edit hs) (held_at_cursor s);
}
