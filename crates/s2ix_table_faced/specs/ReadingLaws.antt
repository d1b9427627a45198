-- What the definitions say, in other words: each of these is proved, and told in a sentence, by the function of `laws` of its name.
use Rattle.std.specs.Prelude.{◌≡◌, ℕ, false, List}
use Rattle.s2ix_bag_pairs.specs.Change.{changed}
use Rattle.s2ix_bag_pairs.specs.Collection.{Collection}
use Rattle.s2ix_bag_pairs.specs.declared.pair.Entry.{Entry}
use Rattle.s2ix_table_kept.specs.Faces.{held_on, has_entry_on}

abbrev pub UnchangedFacesStay : Type 0
UnchangedFacesStay =
    (held : Collection) (change : List Entry) (face : ℕ) →
    has_entry_on change face ≡ false → held_on face (changed held change) ≡ held_on face held
