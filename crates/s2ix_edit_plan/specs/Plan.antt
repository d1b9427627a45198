-- Carrying an edit out: the entries that it plans, and when a store refuses them.
use Rattle.std.specs.Prelude.{◌≡◌, ◌⊎◌, ℕ, ◌==◌, nat_lt, if◌then◌else◌, false, Option, Some, None, Result, IfOk, IfErr, List, [], ◌∷◌, length}
use Rattle.std.specs.List.{list_any}
use Rattle.s2id_core.specs.declared.cell_id.CellId.{CellId}
use Rattle.s2ix_bag_pairs.specs.declared.label.Label.{Label}
use Rattle.s2ix_bag_pairs.specs.declared.pair.Entry.{Entry}
use Rattle.s2ix_bag_pairs.specs.declared.pair.Held.{Held}
use Rattle.s2ix_bag_pairs.specs.declared.pair.Pair.{Pair}
use Rattle.s2ix_bag_lists.specs.Apply.{first_mismatch}
use Rattle.s2ix_bag_pairs.specs.Change.{changed, removal_of, IsChangeList}
use Rattle.s2ix_bag_pairs.specs.Label.{value_of}
use Rattle.s2ix_bag_pairs.specs.Collection.{LimitedCollection}
use Rattle.s2ix_bag_pairs.specs.Limits.{pairs_limit, count_limit}
use Rattle.s2ix_edit_plan.specs.declared.errors.EditError.{EditError}
use Rattle.s2ix_edit_plan.specs.declared.errors.EditError.TheVariants.{NoChange, TooManyCopies, TooManyPairs}
use Rattle.s2ix_edit_plan.specs.Errors.{IsEditRefusal}
use Rattle.s2ix_edit_plan.specs.declared.edit.Edit.{Edit}
use Rattle.s2ix_edit_plan.specs.Edit.{edited_by, pair_of}
use Rattle.s2ix_edit_plan.specs.Refusals.{lacks_label, takes_too_many, asks_too_fine, lacks_change, goes_below_zero, plan_refusal}

-- the entries that change the count of one pair: none if it stays
abbrev pub one_entry : Pair → ℕ → ℕ → List Entry
one_entry pair before after =
    if before == after then [] else record { pair = pair; before = before; after = after } ∷ []

-- the entries carry out the edit of a bag that these changes led to: its label is held, it takes no more than is held, its
-- level isn't too fine, the change that it takes back is there and leaves no count below 0, the counts before are the
-- bag's, and the counts after make the edited collection
pub record Plans (bag : LimitedCollection) (changes : List (List Entry)) (edit : Edit) (es : List Entry) : Type 0 where
  pub known : lacks_label edit bag.held ≡ false
  pub allowed : takes_too_many edit bag.held ≡ false
  pub fits : asks_too_fine edit bag.held ≡ false
  pub stood : lacks_change changes edit ≡ false
  pub above : goes_below_zero changes edit bag.held ≡ false
  pub rises : IsChangeList es
  pub matches : first_mismatch bag es ≡ None
  pub result : changed bag.held es ≡ edited_by changes edit bag.held

-- the error says why there is no plan of the edit: it is the refusal if the journal has room, or memory was wanted if it
-- may be
abbrev pub IsPlanRefusal : LimitedCollection → List (List Entry) → Edit → EditError → Type 0
IsPlanRefusal bag changes edit error = IsEditRefusal error (plan_refusal bag changes edit)

-- the same of an edit that takes no change back, whatever changes led to the bag
abbrev pub AlwaysPlans : LimitedCollection → Edit → Result (List Entry) EditError → Type 0
AlwaysPlans bag edit result = (changes : List (List Entry)) → IfOk result (Plans bag changes edit)

abbrev pub AlwaysRefuses : LimitedCollection → Edit → Result (List Entry) EditError → Type 0
AlwaysRefuses bag edit result = (changes : List (List Entry)) → IfErr result (IsPlanRefusal bag changes edit)

-- nothing refuses the edit, memory and a full journal aside, except that it may change nothing
abbrev pub IsUnrefused : LimitedCollection → List (List Entry) → Edit → Type 0
IsUnrefused bag changes edit = (plan_refusal bag changes edit ≡ None) ⊎ (plan_refusal bag changes edit ≡ Some NoChange)

-- why a store refuses planned entries, memory aside: none of them, else a count after above the limit, else more
-- distinct pairs than the limit; `None` if it takes them
abbrev pub entries_refusal : LimitedCollection → List Entry → Option EditError
entries_refusal bag es =
    if length es == 0 then Some NoChange
    else (if list_any (λ e. nat_lt (count_limit bag.limits) e.after) es then Some TooManyCopies
    else (if nat_lt (pairs_limit bag.limits) (length (changed bag.held es)) then Some TooManyPairs else None))

-- the entries of a held pair that goes and of one that gains its copies, in the order of their labels
abbrev pub move_entries : Held → Entry → List Entry
move_entries h gain =
    if nat_lt (value_of h.pair.label) (value_of gain.pair.label) then removal_of h ∷ gain ∷ [] else gain ∷ removal_of h ∷ []

-- the entry that gives a cell its first copy under the label
abbrev pub first_copy : Label → CellId → Entry
first_copy label cell = record { pair = pair_of cell label; before = 0; after = 1 }

-- a cell's pair under the label, held with one copy
abbrev pub one_copy : Label → CellId → Held
one_copy label cell = record { pair = pair_of cell label; count = 1 }
