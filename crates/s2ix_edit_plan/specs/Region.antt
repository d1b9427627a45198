-- The region of a label: the leaves of the cells that a collection holds with it; and the regions of two labels beside each
-- other.
use Rattle.std.specs.Prelude.{◌&&◌, not, List, map}
use Rattle.s2id_core.specs.declared.cell_id.CellId.{CellId}
use Rattle.s2id_union.specs.NormalForm.{cells_where, is_covered, normal_form}
use Rattle.s2ix_bag_pairs.specs.declared.label.Label.{Label}
use Rattle.s2ix_bag_pairs.specs.declared.pair.Held.{Held}
use Rattle.s2ix_bag_pairs.specs.Collection.{Collection}
use Rattle.s2ix_bag_pairs.specs.OfLabel.{held_of}

-- the cell of a held pair
abbrev pub cell_of : Held → CellId
cell_of h = h.pair.cell

-- the cells that are held with a label, in their order
abbrev pub cells_of : Label → Collection → List CellId
cells_of label hs = map cell_of (held_of label hs)

-- the one normal list with the region of the label's cells
abbrev pub region_of : Label → Collection → List CellId
region_of label hs = normal_form (cells_of label hs)

-- the normal list of the leaves of both regions
abbrev pub common_of : Label → Label → Collection → List CellId
common_of first second hs = cells_where (λ q. is_covered (region_of first hs) q && is_covered (region_of second hs) q)

-- the normal list of the leaves of the first label's region that the second's lacks
abbrev pub only_of : Label → Label → Collection → List CellId
only_of first second hs = cells_where (λ q. is_covered (region_of first hs) q && not (is_covered (region_of second hs) q))
