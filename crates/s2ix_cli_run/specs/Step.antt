-- What one line of a script comes to.
use Rattle.std.specs.Prelude.{ℕ, ◌==◌, if◌then◌else◌, Bool, true, false, Option, Some, None, Result, Ok, Err, List, [], length}
use Rattle.s2ix_bag_pairs.specs.declared.pair.Entry.{Entry}
use Rattle.s2id_core.specs.declared.cell_id.CellId.{CellId}
use Rattle.s2id_core.specs.CellId.{level_of, path_of, raw_of}
use Rattle.s2id_cube.specs.Square.{square_of}
use Rattle.s2ix_edit_plan.specs.declared.errors.EditError.{EditError}
use Rattle.s2ix_edit_plan.specs.declared.errors.RedoError.TheVariants.{NothingToRedo}
use Rattle.s2ix_edit_plan.specs.declared.errors.UndoError.TheVariants.{NothingToUndo}
use Rattle.s2ix_edit_plan.specs.declared.edit.Edit.{Edit}
use Rattle.s2ix_edit_plan.specs.Refusals.{edit_refusal}
use Rattle.s2ix_edit_plan.specs.Region.{common_of, only_of, region_of}
use Rattle.s2ix_edit_plan.specs.State.{State, change_of}
use Rattle.s2ix_edit_store.specs.Steps.{after_edit, after_forget, after_undo, after_redo, last_done, last_undone, undo_size, redo_size}
use Rattle.s2ix_cli_answers.specs.Answers.{neighbors_line, no_line, ok_line, path_line, square_line}
use Rattle.s2ix_text_write.specs.Dump.{dump_text}
use Rattle.s2ix_table_walk.specs.Contents.{contents_at}
use Rattle.s2ix_table_walk.specs.LabelList.{label_list}
use Rattle.s2ix_table_walk.specs.Meeting.{meeting_of}
use Rattle.s2ix_table_walk.specs.RangeList.{range_table}
use Rattle.s2ix_text_write.specs.Journal.{journal_text}
use Rattle.s2ix_text_write.specs.Lists.{held_line, label_line, list_text, token_line}
use Rattle.s2ix_cli_answers.specs.Ranges.{range_line}
use Rattle.s2ix_text_write.specs.Export.{export_line}
use Rattle.s2ix_cli_script.specs.declared.instruction.Instruction.{Instruction}
use Rattle.s2ix_cli_script.specs.declared.instruction.Instruction.TheVariants as asks
use Rattle.s2ix_cli_script.specs.declared.line_fault.LineFault.{LineFault}
use Rattle.s2ix_cli_script.specs.Meaning.{meaning_of}
use Rattle.s2ix_cli_script.specs.FaultNames.{fault_name}
use Rattle.s2ix_cli_script.specs.RefusalNames.{edit_error_name, not_leaf_name, redo_error_name, undo_error_name}

-- the store after a line, what the line prints, and whether it counts as a line and as a refused one
pub record Step : Type 0 where
  pub after : State
  pub answer : List ℕ
  pub is_counted : Bool
  pub is_refused : Bool

-- a blank line or a comment
abbrev pub blank_step : State → Step
blank_step s = record { after = s; answer = []; is_counted = false; is_refused = false }

-- a line that changes nothing and prints why
abbrev pub no_step : State → List ℕ → Step
no_step s name = record { after = s; answer = no_line name; is_counted = true; is_refused = true }

-- a line that changes the counts of n pairs, and the store after it
abbrev pub ok_step : State → ℕ → Step
ok_step s n = record { after = s; answer = ok_line n; is_counted = true; is_refused = false }

-- a line that prints a text
abbrev pub text_step : State → List ℕ → Step
text_step s text = record { after = s; answer = text; is_counted = true; is_refused = false }

-- what an edit comes to, if it is refused so or not at all
abbrev pub edit_step_at : State → Edit → Option EditError → Step
edit_step_at s edit None = ok_step (after_edit s edit) (length (change_of s edit))
edit_step_at s edit (Some error) = no_step s (edit_error_name error)

-- what an edit comes to
unfoldable pub edit_step : State → Edit → Step
edit_step s edit = edit_step_at s edit (edit_refusal s edit)

-- what `undo` comes to, if this change was the last or none was done
abbrev pub undo_step_at : State → Option (List Entry) → Step
undo_step_at s None = no_step s (undo_error_name NothingToUndo)
undo_step_at s (Some change) = ok_step (after_undo s) (undo_size s)

-- what `undo` comes to
unfoldable pub undo_step : State → Step
undo_step s = undo_step_at s (last_done s)

-- what `redo` comes to, if this change was the last that was undone or none was
abbrev pub redo_step_at : State → Option (List Entry) → Step
redo_step_at s None = no_step s (redo_error_name NothingToRedo)
redo_step_at s (Some change) = ok_step (after_redo s) (redo_size s)

-- what `redo` comes to
unfoldable pub redo_step : State → Step
redo_step s = redo_step_at s (last_undone s)

-- what `at` comes to: the pairs over a leaf; a cell that is no leaf is refused
abbrev pub at_step : State → CellId → Step
at_step s cell =
    if level_of cell == 30 then text_step s (list_text held_line (contents_at (raw_of cell) s.bag.held)) else no_step s not_leaf_name

-- what an instruction comes to
abbrev pub instruction_step : State → Instruction → Step
instruction_step s (asks.Edit edit) = edit_step s edit
instruction_step s asks.Undo = undo_step s
instruction_step s asks.Redo = redo_step s
instruction_step s asks.Forget = ok_step (after_forget s) 0
instruction_step s (asks.At cell) = at_step s cell
instruction_step s (asks.Meet target) = text_step s (list_text held_line (meeting_of target s.bag.held))
instruction_step s (asks.Labels target) = text_step s (list_text label_line (label_list (meeting_of target s.bag.held)))
instruction_step s (asks.Region label) = text_step s (list_text token_line (region_of label s.bag.held))
instruction_step s (asks.Common first second) = text_step s (list_text token_line (common_of first second s.bag.held))
instruction_step s (asks.Only first second) = text_step s (list_text token_line (only_of first second s.bag.held))
instruction_step s asks.Ranges = text_step s (list_text range_line (range_table s.bag.held))
instruction_step s (asks.Path cell) = text_step s (path_line cell)
instruction_step s (asks.Neighbors cell) = text_step s (neighbors_line cell)
instruction_step s (asks.Face cell) = text_step s (square_line (square_of (path_of cell)))
instruction_step s asks.Dump = text_step s (dump_text s.bag.held)
instruction_step s asks.Journal = text_step s (journal_text s.done)
instruction_step s asks.Export = text_step s (export_line s.bag.held)

-- whether an instruction gathers the labels or the cells that it prints, or the text of an export
abbrev pub gathers : Instruction → Bool
gathers (asks.Labels target) = true
gathers (asks.Region label) = true
gathers (asks.Common first second) = true
gathers (asks.Only first second) = true
gathers asks.Export = true
gathers other = false

-- what a line of this meaning comes to
abbrev pub step_at : State → Result (Option Instruction) LineFault → Step
step_at s (Ok None) = blank_step s
step_at s (Ok (Some instruction)) = instruction_step s instruction
step_at s (Err fault) = no_step s (fault_name fault)

-- what a line comes to
unfoldable pub step_of : State → List ℕ → Step
step_of s line = step_at s (meaning_of line)
