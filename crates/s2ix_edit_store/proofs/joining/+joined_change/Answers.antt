-- The halves are joined, and then the two.
use Rattle.std.proofs.Common.{◌≡◌, ◌∙◌, ◌/◌, List, length, sym, ap₂, subst, arith, rules}
use Rattle.s2ix_bag_pairs.specs.declared.pair.Entry.{Entry}
use Rattle.s2ix_bag_pairs.specs.Change.{IsChangeList}
use Rattle.s2ix_edit_store.specs.Joining.{DoesAll, followed_by}
use Rattle.s2ix_edit_store.proofs.Merging.{does_halves, does_only, followed_rises}
use Rattle.s2ix_edit_store.proofs.joining.+joined_change.Goals as goal

pub returns-then-changes-eq1 : goal.returns-then-changes-eq1
returns-then-changes-eq1 n c =
    let copied : c.in_ok-clone.field-0 ≡ c.index-changes-0.result = search rules in
    let Does : List Entry → Type 0 = λ es. DoesAll c.args.changes.now es in
    subst Does (sym copied)
    (does_only c.args.changes.now c.index-changes-0.result (omega (arith, c.if-changes-eq1.true)) c.index-changes-0.is)

pub from_vec-requires : goal.from_vec-requires
from_vec-requires n c =
    let Rises : List Entry → Type 0 = λ xs. IsChangeList xs in
    subst Rises (sym (c.in_ok-entries.ensures ∙ ap₂ followed_by c.entries.ensures.list c.entries-2.ensures.list))
    (followed_rises 0 _ _ c.entries.ensures.rises c.entries-2.ensures.rises)

pub returns : goal.returns
returns n c =
    let changes = c.args.changes.now in
    let Does : List (List Entry) → List Entry → Type 0 = λ ess es. DoesAll ess es in
    let made = c.from_vec.ensures ∙ c.in_ok-entries.ensures ∙ ap₂ followed_by c.entries.ensures.list c.entries-2.ensures.list in
    subst (Does changes) (sym made)
    (does_halves changes (length changes / 2) c.in_ok-older.older c.in_ok-newer.newer
    (subst (λ (ess : List (List Entry)). DoesAll ess c.in_ok-older.older) c.split_at.ensures.front c.in_ok-older.ensures)
    (subst (λ (ess : List (List Entry)). DoesAll ess c.in_ok-newer.newer) c.split_at.ensures.back c.in_ok-newer.ensures))
