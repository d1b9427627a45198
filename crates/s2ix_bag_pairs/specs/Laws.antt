-- What the definitions say, in other words: each of these is proved, and told in a sentence, by the function of `laws` of its name.
use Rattle.std.specs.Prelude.{◌≡◌, ◌==◌, ◌<◌, ◌↔◌, ◌⊎◌, ◌-ℤ◌, pos, if◌then◌else◌, None, List, Contains, AllPairs}
use Rattle.s2id_core.specs.CellId.{raw_of}
use Rattle.s2ix_bag_pairs.specs.Change.{IsChangeList, counts_at, count_after, difference_of, changed, change_between, inverse_of}
use Rattle.s2ix_bag_pairs.specs.Collection.{Collection, IsCollection, count_in}
use Rattle.s2ix_bag_pairs.specs.Label.{value_of}
use Rattle.s2ix_bag_pairs.specs.OfLabel.{held_of}
use Rattle.s2ix_bag_pairs.specs.Pair.{rank_of}
use Rattle.s2ix_bag_pairs.specs.TakenBack.{first_below_zero, change_back, taken_back, gain_of}
use Rattle.s2ix_bag_pairs.specs.declared.label.Label.{Label}
use Rattle.s2ix_bag_pairs.specs.declared.pair.Pair.{Pair}
use Rattle.s2ix_bag_pairs.specs.declared.pair.Held.{Held}
use Rattle.s2ix_bag_pairs.specs.declared.pair.Entry.{Entry}

-- a pair comes before another: by cell, then by label

abbrev pub ComesBefore : Pair → Pair → Type 0
ComesBefore p q =
    (raw_of p.cell < raw_of q.cell) ⊎ ((raw_of p.cell ≡ raw_of q.cell) × (value_of p.label < value_of q.label))

abbrev pub RanksOrderPairs : Type 0
RanksOrderPairs = (p q : Pair) → (rank_of p < rank_of q) ↔ ComesBefore p q

abbrev pub RanksTellPairsApart : Type 0
RanksTellPairsApart = (p q : Pair) → rank_of p ≡ rank_of q → p ≡ q

abbrev pub HeldAreCounted : Type 0
HeldAreCounted = (hs : Collection) (h : Held) → IsCollection hs → Contains hs h → count_in hs h.pair ≡ h.count

abbrev pub CountedAreHeld : Type 0
CountedAreHeld =
    (hs : Collection) (p : Pair) → 0 < count_in hs p → Contains hs (record { pair = p; count = count_in hs p })

abbrev pub CountsTellCollectionsApart : Type 0
CountsTellCollectionsApart =
    (hs ks : Collection) → IsCollection hs → IsCollection ks → ((p : Pair) → count_in hs p ≡ count_in ks p) → hs ≡ ks

abbrev pub ChangeSetsCounts : Type 0
ChangeSetsCounts =
    (hs : Collection) (es : List Entry) → IsCollection hs → IsChangeList es →
    IsCollection (changed hs es) × ((p : Pair) → count_in (changed hs es) p ≡ count_after (counts_at es (rank_of p)) (count_in hs p))

abbrev pub ChangeListsDifferences : Type 0
ChangeListsDifferences =
    (old new : Collection) → IsCollection old → IsCollection new →
    IsChangeList (change_between old new)
    × ((p : Pair) → counts_at (change_between old new) (rank_of p) ≡ difference_of (count_in old p) (count_in new p))

abbrev pub OnlyChangeListsDifferences : Type 0
OnlyChangeListsDifferences =
    (old new : Collection) (es : List Entry) → IsCollection old → IsCollection new → IsChangeList es →
    ((p : Pair) → counts_at es (rank_of p) ≡ difference_of (count_in old p) (count_in new p)) → es ≡ change_between old new

abbrev pub ChangeLeadsThereAndBack : Type 0
ChangeLeadsThereAndBack =
    (old new : Collection) → IsCollection old → IsCollection new →
    (changed old (change_between old new) ≡ new) × (changed new (inverse_of (change_between old new)) ≡ old)

abbrev pub TakingBackSubtracts : Type 0
TakingBackSubtracts =
    (hs : Collection) (es : List Entry) → IsCollection hs → IsChangeList es → first_below_zero hs es ≡ None →
    IsCollection (taken_back hs es)
    × ((p : Pair) → pos (count_in (taken_back hs es) p) ≡ pos (count_in hs p) -ℤ gain_of (counts_at es (rank_of p)))

abbrev pub ChangeBackListsDifferences : Type 0
ChangeBackListsDifferences =
    (hs : Collection) (es : List Entry) → IsCollection hs → IsChangeList es → first_below_zero hs es ≡ None →
    change_between hs (taken_back hs es) ≡ change_back hs es

abbrev pub LabelsAreCounted : Type 0
LabelsAreCounted =
    (label : Label) (hs : Collection) → IsCollection hs →
    IsCollection (held_of label hs)
    × ((p : Pair) → count_in (held_of label hs) p ≡ (if value_of p.label == value_of label then count_in hs p else 0))

abbrev pub LabelsRiseByCell : Type 0
LabelsRiseByCell =
    (label : Label) (hs : Collection) → IsCollection hs
    → AllPairs (λ (g h : Held). raw_of g.pair.cell < raw_of h.pair.cell) (held_of label hs)
