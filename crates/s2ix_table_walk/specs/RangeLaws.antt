-- What the definitions of ranges, meeting lists and label lists say, in other words: each is proved by the function of `laws` of its name.
use Rattle.std.specs.Prelude.{◌≡◌, List}
use Rattle.s2id_core.specs.declared.cell_id.CellId.{CellId}
use Rattle.s2id_core.specs.Leaves.{IsLeafPath}
use Rattle.s2id_core.specs.Path.{Path, number_of}
use Rattle.s2ix_bag_pairs.specs.Collection.{Collection, IsCollection}
use Rattle.s2ix_bag_pairs.specs.declared.label.Label.{Label}
use Rattle.s2ix_table_walk.specs.Contents.{IsContents, contents_at}
use Rattle.s2ix_table_walk.specs.Table.{Range, IsRangeTable}
use Rattle.s2ix_table_walk.specs.Meeting.{IsMeetingList, IsLabelList, meeting_of}

abbrev pub ContentsAreOfTheLeaf : Type 0
ContentsAreOfTheLeaf =
    (held : Collection) (leaf : Path) → IsCollection held → IsLeafPath leaf → IsContents leaf held (contents_at (number_of leaf) held)

abbrev pub OneListOfContents : Type 0
OneListOfContents =
    (held : Collection) (leaf : Path) (xs ys : Collection) → IsContents leaf held xs → IsContents leaf held ys → xs ≡ ys

abbrev pub OneRangeTable : Type 0
OneRangeTable = (held : Collection) (xs ys : List Range) → IsRangeTable held xs → IsRangeTable held ys → xs ≡ ys

abbrev pub MeetingListIsTheTargets : Type 0
MeetingListIsTheTargets =
    (target : List CellId) (held : Collection) → IsCollection held → IsMeetingList target held (meeting_of target held)

abbrev pub OneMeetingList : Type 0
OneMeetingList =
    (target : List CellId) (held xs ys : Collection) → IsMeetingList target held xs → IsMeetingList target held ys → xs ≡ ys

abbrev pub OneLabelList : Type 0
OneLabelList = (meeting : Collection) (xs ys : List Label) → IsLabelList meeting xs → IsLabelList meeting ys → xs ≡ ys
