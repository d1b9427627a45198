-- The labels that a store holds pairs of.
use Rattle.std.specs.Prelude.{List, map}
use Rattle.s2ix_bag_pairs.specs.Label.{value_of}
use Rattle.s2ix_edit_store.specs.declared.held_labels.HeldLabel.{HeldLabel}
use Rattle.s2ix_edit_store.specs.HeldLabels.{held_labels}
use Rattle.s2ix_edit_plan.specs.State.{State}
use Rattle.s2ix_c_calls.specs.declared.held_labels.LabelRow.{LabelRow}

-- a held label as C sees it
abbrev pub label_row_of : HeldLabel → LabelRow
label_row_of total = record { label = value_of total.label; pairs = total.pairs; copies = total.copies }

-- the labels of a store's pairs, each once and rising
abbrev pub label_rows : State → List LabelRow
label_rows s = map label_row_of (held_labels s.bag.held)
