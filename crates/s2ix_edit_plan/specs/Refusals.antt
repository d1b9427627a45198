-- When an edit is refused.
use Rattle.std.specs.Prelude.{ℕ, ◌==◌, nat_lt, nat_le, Bool, true, false, Option, Some, None, List, [], ◌∷◌, length, find, is_some}
use Rattle.std.specs.List.{list_any}
use Rattle.s2ix_bag_pairs.specs.declared.label.Label.{Label}
use Rattle.s2ix_bag_pairs.specs.declared.pair.Entry.{Entry}
use Rattle.s2ix_bag_pairs.specs.Change.{change_between}
use Rattle.s2ix_bag_pairs.specs.Collection.{Collection, LimitedCollection, count_in}
use Rattle.s2ix_bag_pairs.specs.Limits.{pairs_limit, count_limit, changes_limit}
use Rattle.s2ix_bag_pairs.specs.OfLabel.{held_of}
use Rattle.s2ix_bag_pairs.specs.TakenBack.{first_below_zero}
use Rattle.s2ix_edit_plan.specs.declared.errors.EditError.{EditError}
use Rattle.s2ix_edit_plan.specs.declared.errors.EditError.TheVariants.{JournalFull, NoSuchLabel, NotHeld, TooFine, NoSuchChange, BelowZero, NoChange, TooManyCopies, TooManyPairs, OutOfMemory}
use Rattle.s2ix_edit_plan.specs.declared.edit.Edit.{Edit}
use Rattle.s2ix_edit_plan.specs.declared.edit.Edit.TheVariants.{Add, AddUnion, Remove, DropLabel, Relabel, Grow, Normalise, Revert}
use Rattle.s2ix_edit_plan.specs.Edit.{edited, edited_by, numbered}
use Rattle.s2ix_edit_plan.specs.Grow.{is_too_fine}
use Rattle.s2ix_edit_plan.specs.Region.{cells_of}
use Rattle.s2ix_edit_plan.specs.State.{State, history_of}

-- whether no pair of the label is held
abbrev pub holds_none : Label → Collection → Bool
holds_none label hs = length (held_of label hs) == 0

-- the edit speaks of a label of which no pair is held
abbrev pub lacks_label : Edit → Collection → Bool
lacks_label (DropLabel label) hs = holds_none label hs
lacks_label (Relabel source target) hs = holds_none source hs
lacks_label (Grow label level) hs = holds_none label hs
lacks_label (Normalise label) hs = holds_none label hs
lacks_label edit hs = false

-- the edit takes more copies than are held
abbrev pub takes_too_many : Edit → Collection → Bool
takes_too_many (Remove pair copies) hs = nat_lt (count_in hs pair) copies
takes_too_many edit hs = false

-- the edit asks for cells of a level that is too fine for the label's
abbrev pub asks_too_fine : Edit → Collection → Bool
asks_too_fine (Grow label level) hs = is_too_fine level (cells_of label hs)
asks_too_fine edit hs = false

-- the edit adds or takes no copies
abbrev pub asks_no_copies : Edit → Bool
asks_no_copies (Add pair copies) = copies == 0
asks_no_copies (AddUnion cells label) = length cells == 0
asks_no_copies (Remove pair copies) = copies == 0
asks_no_copies edit = false

-- the edit takes a change back; the others read no change
abbrev pub reverts : Edit → Bool
reverts (Revert number) = true
reverts edit = false

-- the edit takes back a change that isn't there
abbrev pub lacks_change : List (List Entry) → Edit → Bool
lacks_change changes (Revert number) = elim (numbered number changes) [ Some es ↦ false | None ↦ true ]
lacks_change changes edit = false

-- the edit takes a change back that leaves a count below 0
abbrev pub goes_below_zero : List (List Entry) → Edit → Collection → Bool
goes_below_zero changes (Revert number) hs = elim (numbered number changes) [ Some es ↦ is_some (first_below_zero hs es) | None ↦ false ]
goes_below_zero changes edit hs = false

-- whether a count is above a limit
abbrev pub has_count_above : ℕ → Collection → Bool
has_count_above limit hs = list_any (λ h. nat_lt limit h.count) hs

-- whether a count is above every limit that a bag can have: above 4,294,967,295
abbrev pub has_count_above_every_limit : Collection → Bool
has_count_above_every_limit hs = has_count_above 4294967295 hs

-- when each refusal is due, for an edit of a bag that these changes led to, and that makes this collection
abbrev pub is_due : LimitedCollection → List (List Entry) → Edit → Collection → EditError → Bool
is_due bag changes edit new JournalFull = nat_le (changes_limit bag.limits) (length changes)
is_due bag changes edit new NoSuchLabel = lacks_label edit bag.held
is_due bag changes edit new NotHeld = takes_too_many edit bag.held
is_due bag changes edit new TooFine = asks_too_fine edit bag.held
is_due bag changes edit new NoSuchChange = lacks_change changes edit
is_due bag changes edit new BelowZero = goes_below_zero changes edit bag.held
is_due bag changes edit new NoChange = length (change_between bag.held new) == 0
is_due bag changes edit new TooManyCopies = has_count_above (count_limit bag.limits) new
is_due bag changes edit new TooManyPairs = nat_lt (pairs_limit bag.limits) (length new)
is_due bag changes edit new OutOfMemory = false

-- the refusals that may be due if the journal has room, memory aside, in the order in which they decide
abbrev pub refusals_with_room : List EditError
refusals_with_room = NoSuchLabel ∷ NotHeld ∷ TooFine ∷ NoSuchChange ∷ BelowZero ∷ NoChange ∷ TooManyCopies ∷ TooManyPairs ∷ []

-- the refusal of an edit: a full journal, else the first that is due; `None` if the edit is accepted, memory aside
abbrev pub edit_refusal : State → Edit → Option EditError
edit_refusal s edit = find (is_due s.bag s.done edit (edited (history_of s) edit)) (JournalFull ∷ refusals_with_room)

-- why an edit of a bag that these changes led to is refused if the journal has room, memory aside
abbrev pub plan_refusal : LimitedCollection → List (List Entry) → Edit → Option EditError
plan_refusal bag changes edit = find (is_due bag changes edit (edited_by changes edit bag.held)) refusals_with_room
