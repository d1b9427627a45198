-- A store that holds a pair holds its label.
use Rattle.std.proofs.Common.{◌≢◌, [], ◌∷◌, length, map, refl, ap, arith}
use Rattle.std.proofs.lemmas.List.{length-map}
use Rattle.s2id_core.proofs.Lists.{at_head}
use Rattle.s2ix_bag_pairs.specs.Collection.{Collection}
use Rattle.s2ix_table_walk.specs.LabelList.{label_list}
use Rattle.s2ix_table_walk.proofs.LabelList.{label_list_is}
use Rattle.s2ix_edit_store.specs.HeldLabels.{held_labels, total_of}
use Rattle.s2ix_c_calls.specs.HeldLabels.{label_row_of}

pub some_labels : (hs : Collection) → hs ≢ [] → map label_row_of (held_labels hs) ≢ []
some_labels [] some none = some refl
some_labels (h ∷ hs) some none =
    let has = ((label_list_is (h ∷ hs)).each h.pair.label).1 (h, at_head h hs, refl) in
    let long = ap length none in
    omega (arith, has.1, long, length-map (held_labels (h ∷ hs)) label_row_of, length-map (label_list (h ∷ hs)) (total_of (h ∷ hs)))
