-- Changes that can be done one after the other, and the one change that does what they do.
use Rattle.std.specs.Prelude.{◌≡◌, ◌==◌, nat_lt, if◌then◌else◌, List, [], ◌∷◌}
use Rattle.s2ix_bag_lists.specs.Apply.{AreBefore}
use Rattle.s2ix_bag_pairs.specs.declared.pair.Entry.{Entry}
use Rattle.s2ix_bag_pairs.specs.Change.{IsChangeList, change_between, changed, entry_with}
use Rattle.s2ix_bag_pairs.specs.Collection.{Collection, IsCollection}
use Rattle.s2ix_bag_pairs.specs.Pair.{rank_of}

-- a change with the count after of a later entry; the count before of the entry's pair stays, if the change has the pair, and the pair is
-- left out if its two counts are equal then
abbrev pub with_entry : Entry → List Entry → List Entry
with_entry f [] = f ∷ []
with_entry f (e ∷ es) =
    if nat_lt (rank_of f.pair) (rank_of e.pair) then f ∷ e ∷ es
    else (if rank_of f.pair == rank_of e.pair then entry_with f.pair e.before f.after es else e ∷ with_entry f es)

-- the one change for a change and a later one
abbrev pub followed_by : List Entry → List Entry → List Entry
followed_by es [] = es
followed_by es (f ∷ fs) = followed_by (with_entry f es) fs

-- changes that can be done one after the other: each has the counts before that those before it leave
abbrev pub CanFollow : Collection → List (List Entry) → Type 0
CanFollow hs [] = Unit {0}
CanFollow hs (es ∷ rest) = IsChangeList es × AreBefore hs es × CanFollow (changed hs es) rest

-- the collection after changes
abbrev pub after_all : Collection → List (List Entry) → Collection
after_all hs [] = hs
after_all hs (es ∷ rest) = after_all (changed hs es) rest

-- the change does what the changes do together, to whatever collection they can be done
abbrev pub DoesAll : List (List Entry) → List Entry → Type 0
DoesAll changes es = (hs : Collection) → IsCollection hs → CanFollow hs changes → es ≡ change_between hs (after_all hs changes)
