-- What an edit makes of the collection that a store holds.
use Rattle.std.proofs.Common.{◌≡◌, ◌+◌, ◌-◌, List, [], ◌∷◌, ◌++◌, length, reverse, get_or, Option, Some, None, refl, sym, ap, ap₂, ◌∙◌, subst, arith}
use Rattle.std.proofs.lemmas.List.{length-append, length-reverse}
use Rattle.std.proofs.Math.Seq.{get_or-append_seam}
use Rattle.s2ix_bag_pairs.specs.declared.pair.Entry.{Entry}
use Rattle.s2ix_bag_pairs.specs.Change.{changed, inverse_of}
use Rattle.s2ix_bag_pairs.specs.Collection.{Collection, IsCollection, count_in, set_count}
use Rattle.s2ix_bag_pairs.specs.OfLabel.{held_of}
use Rattle.s2ix_bag_pairs.specs.TakenBack.{change_back}
use Rattle.s2ix_bag_pairs.proofs.Collections.{set_keeps}
use Rattle.s2ix_edit_plan.specs.declared.edit.Edit.{Edit}
use Rattle.s2ix_edit_plan.specs.declared.edit.Edit.TheVariants.{Add, AddUnion, Remove, DropLabel, Relabel, Grow, Normalise, Revert}
use Rattle.s2ix_edit_plan.specs.Edit.{edited, edited_by, numbered, without_label, without_change}
use Rattle.s2ix_edit_plan.specs.Grow.{grown_cells}
use Rattle.s2ix_edit_plan.specs.Region.{region_of}
use Rattle.s2ix_edit_plan.specs.State.{State, earlier, history_of, later}
use Rattle.s2ix_edit_plan.specs.History.{at_cursor, standing}
use Rattle.s2ix_edit_plan.proofs.DropLabel.{without_keeps}
use Rattle.s2ix_edit_plan.proofs.Relabel.{with_all_moved_keeps}
use Rattle.s2ix_edit_plan.proofs.AddUnion.{with_each_keeps}

-- there are as many collections before the store's as changes that were done
pub length-earlier : (hs : Collection) (done : List (List Entry)) → length (earlier hs done) ≡ length done
length-earlier hs [] = refl
length-earlier hs (es ∷ older) =
    let e = length-earlier (changed hs (inverse_of es)) older in
    omega (arith, e, length-append (earlier (changed hs (inverse_of es)) older) (changed hs (inverse_of es) ∷ []))

-- the collection at the cursor is the store's
pub held_at_cursor : (s : State) → at_cursor (history_of s) ≡ s.bag.held
held_at_cursor s =
    let before = earlier s.bag.held (reverse s.done) in
    let after = later s.bag.held (reverse s.undone) in
    let place = length-earlier s.bag.held (reverse s.done) ∙ length-reverse s.done in
    ap (λ k. get_or (before ++ s.bag.held ∷ after) k []) (sym place) ∙ get_or-append_seam before s.bag.held after []

-- the edited collection of a store, where the changes that stand are those that were done
pub edited_held : (s : State) (edit : Edit) → standing (history_of s) ≡ s.done
    → edited (history_of s) edit ≡ edited_by s.done edit s.bag.held
edited_held s edit stand =
    ap₂ (λ (changes : List (List Entry)) (hs : Collection). edited_by changes edit hs) stand (held_at_cursor s)

-- any counts set make a collection of one
set_keeps_all : (hs : Collection) (es : List Entry) → IsCollection hs → IsCollection (changed hs es)
set_keeps_all hs [] is = is
set_keeps_all hs (e ∷ es) is = set_keeps_all (set_count e.pair e.after hs) es (set_keeps e.pair e.after hs is)

without_change_keeps : (change : Option (List Entry)) (hs : Collection) → IsCollection hs → IsCollection (without_change change hs)
without_change_keeps None hs is = is
without_change_keeps (Some es) hs is = set_keeps_all hs (change_back hs es) is

-- an edited collection is a collection
pub edited_is_collection : (changes : List (List Entry)) (edit : Edit) (hs : Collection) → IsCollection hs
    → IsCollection (edited_by changes edit hs)
edited_is_collection changes (Add pair copies) hs is = set_keeps pair (count_in hs pair + copies) hs is
edited_is_collection changes (AddUnion cells label) hs is = with_each_keeps label cells hs is
edited_is_collection changes (Remove pair copies) hs is = set_keeps pair (count_in hs pair - copies) hs is
edited_is_collection changes (DropLabel label) hs is = without_keeps label hs is
edited_is_collection changes (Relabel source target) hs is = with_all_moved_keeps target (held_of source hs) hs is
edited_is_collection changes (Grow label level) hs is = with_each_keeps label (grown_cells label level hs) hs is
edited_is_collection changes (Normalise label) hs is =
    with_each_keeps label (region_of label hs) (without_label label hs) (without_keeps label hs is)
edited_is_collection changes (Revert number) hs is = without_change_keeps (numbered number changes) hs is

pub held_edited_is_collection : (s : State) (edit : Edit) → IsCollection s.bag.held → IsCollection (edited (history_of s) edit)
held_edited_is_collection s edit is =
    let h = history_of s in
    edited_is_collection (standing h) edit (at_cursor h) (subst IsCollection (sym (held_at_cursor s)) is)
