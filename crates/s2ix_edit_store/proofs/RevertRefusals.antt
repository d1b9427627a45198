-- Which refusals a revert can meet.
use Rattle.std.proofs.Common.{◌≡◌, ◌↔◌, ℕ, ◌<◌, ◌≤◌, ◌==◌, false, List, length, None, ap, ◌∙◌, arith, ne_eqb}
use Rattle.std.proofs.lemmas.Bool.{leb-false, le-ltb, lt-leb, ltb-false}
use Rattle.std.proofs.lemmas.List.{length-map}
use Rattle.s2ix_bag_pairs.specs.declared.pair.Entry.{Entry}
use Rattle.s2ix_bag_pairs.specs.Change.{change_between, IsChangeList}
use Rattle.s2ix_bag_pairs.specs.TakenBack.{entry_back}
use Rattle.s2ix_bag_pairs.proofs.TakenBack.{above_from_none, between_taken_back}
use Rattle.s2ix_edit_plan.specs.declared.edit.Edit.TheVariants.{Revert}
use Rattle.s2ix_edit_plan.specs.Edit.{numbered, without_change, edited}
use Rattle.s2ix_edit_plan.specs.Refusals.{edit_refusal, goes_below_zero, lacks_change, has_count_above}
use Rattle.s2ix_bag_pairs.specs.Limits.{pairs_limit, count_limit, changes_limit}
use Rattle.s2ix_edit_plan.specs.State.{State, change_of, history_of}
use Rattle.s2ix_edit_plan.proofs.Edited.{edited_held}
use Rattle.s2ix_edit_plan.proofs.EachRefusal.{IsOfRevert, revert_accepted, revert_refused, revert_taken}
use Rattle.s2ix_edit_plan.proofs.Revert.{first_above}
use Rattle.s2ix_edit_store.specs.Store.{IsStore}
use Rattle.s2ix_edit_store.proofs.Along.{some_done}
use Rattle.s2ix_edit_store.proofs.Planned.{stand}
use Rattle.s2ix_edit_store.proofs.Standing.{changes_rise, found_of, numbered_holds}

-- a change that is taken back changes something
changes_some : (s : State) (number : ℕ) → IsStore s → lacks_change s.done (Revert number) ≡ false
    → goes_below_zero s.done (Revert number) s.bag.held ≡ false → (length (change_of s (Revert number)) == 0) ≡ false
changes_some s number st there stays =
    let found = found_of (numbered number s.done) there in
    let es = found.0 in
    let rises = numbered_holds IsChangeList number s.done es (changes_rise s st) found.1 in
    let some = numbered_holds (λ (ds : List Entry). 0 < length ds) number s.done es (some_done s st) found.1 in
    let none = first_above s.bag.held s.done number es found.1 stays in
    let listed =
    ap (λ hs. change_between s.bag.held hs) (edited_held s (Revert number) (stand s st) ∙ ap (λ o. without_change o s.bag.held) found.1)
    ∙ between_taken_back s.bag.held es st.bag.rises rises (above_from_none s.bag.held es none) in
    ne_eqb _ _ (λ same. absurd (omega (arith, some, same, ap length listed, length-map es (entry_back s.bag.held))))

-- a revert is refused for the journal, its change, counts or pairs alone
pub reverts_refused : (s : State) (number : ℕ) → IsStore s → IsOfRevert (edit_refusal s (Revert number))
reverts_refused s number st = revert_refused s number (changes_some s number st)

-- and is accepted exactly if none of these is due
pub taken_back_where : (s : State) (number : ℕ) → IsStore s
    → (edit_refusal s (Revert number) ≡ None)
    ↔ ((length s.done < changes_limit s.bag.limits) × (lacks_change s.done (Revert number) ≡ false)
    × (goes_below_zero s.done (Revert number) s.bag.held ≡ false)
    × (has_count_above (count_limit s.bag.limits) (edited (history_of s) (Revert number)) ≡ false)
    × (length (edited (history_of s) (Revert number)) ≤ pairs_limit s.bag.limits))
taken_back_where s number st = (
  λ none. let parts = revert_accepted s number none in (leb-false _ _ parts.0, parts.1, parts.2, parts.3, ltb-false _ _ parts.4),
  λ parts.
      revert_taken s number (lt-leb _ _ parts.0) parts.1 parts.2 (changes_some s number st parts.1 parts.2) parts.3 (le-ltb _ _ parts.4),
)
