-- What the definition of an export says, in other words: proved, and told in a sentence, by the function of `laws` of its name.
use Rattle.std.specs.Prelude.{◌≡◌}
use Rattle.s2ix_bag_pairs.specs.Collection.{LimitedCollection, IsBag}
use Rattle.s2ix_text_write.specs.Export.{export_text}

abbrev pub ExportsTellBagsApart : Type 0
ExportsTellBagsApart =
    (bag other : LimitedCollection) → IsBag bag → IsBag other → export_text bag.held ≡ export_text other.held → bag.held ≡ other.held
