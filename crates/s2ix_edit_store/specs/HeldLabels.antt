-- The labels that a collection has pairs of.
use Rattle.std.specs.Prelude.{◌+◌, List, length, map}
use Rattle.s2ix_bag_pairs.specs.declared.label.Label.{Label}
use Rattle.s2ix_bag_pairs.specs.declared.pair.Held.{Held}
use Rattle.s2ix_bag_pairs.specs.Collection.{Collection, copies_in}
use Rattle.s2ix_bag_pairs.specs.OfLabel.{held_of}
use Rattle.s2ix_table_walk.specs.LabelList.{label_list}
use Rattle.s2ix_edit_store.specs.declared.held_labels.HeldLabel.{HeldLabel}

-- the label of totals
abbrev pub name_of : HeldLabel → Label
name_of total = total.label

-- a label with how many of a collection's pairs have it, and how many copies they have together
abbrev pub total_of : Collection → Label → HeldLabel
total_of hs label = record { label = label; pairs = length (held_of label hs); copies = copies_in (held_of label hs) }

-- the labels of a collection's pairs, each once and rising, with their totals
abbrev pub held_labels : Collection → List HeldLabel
held_labels hs = map (total_of hs) (label_list hs)

-- ---- how they are found

-- the label of a held pair
abbrev pub label_in : Held → Label
label_in h = h.pair.label

-- totals with those of a pair more
abbrev pub counted_with : HeldLabel → Held → HeldLabel
counted_with total h = record { label = total.label; pairs = total.pairs + 1; copies = total.copies + h.count }
