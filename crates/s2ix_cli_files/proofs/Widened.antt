-- A store stays one under the widest limits.
use Rattle.std.proofs.Common.{◌≡◌, ℕ, ◌+◌, ◌≤◌, List, [], ◌∷◌, length, reverse, None, arith}
use Rattle.s2ix_bag_pairs.specs.declared.limits.Limits.{Limits}
use Rattle.s2ix_bag_pairs.specs.declared.pair.Entry.{Entry}
use Rattle.s2ix_bag_pairs.specs.Change.{changed, inverse_of}
use Rattle.s2ix_bag_pairs.specs.Collection.{Collection, LimitedCollection, IsBag}
use Rattle.s2ix_bag_pairs.specs.Limits.{changes_limit, count_limit, pairs_limit}
use Rattle.s2ix_bag_lists.specs.Apply.{apply_refusal}
use Rattle.s2ix_bag_lists.proofs.Lengths.{AreAfterWithin}
use Rattle.s2ix_bag_lists.proofs.Refusals.{refusal_of_taken, taken_from_none}
use Rattle.s2ix_edit_plan.specs.State.{State}
use Rattle.s2ix_edit_store.specs.Store.{CanGoBack, CanGoOn, IsStore}
use Rattle.s2ix_cli_files.specs.Widest.{widest}

abbrev holding : Limits → Collection → LimitedCollection
holding limits hs = record { limits = limits; held = hs }

-- the store with the widest limits
abbrev pub widened : State → State
widened s = record { bag = holding widest s.bag.held; done = s.done; undone = s.undone; faces_rebuilt = s.faces_rebuilt }

-- ---- what is within limits is within the widest

within_more : (c d : ℕ) (es : List Entry) → c ≤ d → AreAfterWithin c es → AreAfterWithin d es
within_more c d [] more within = tt
within_more c d (e ∷ es) more within = (omega (arith, more, within.0), within_more c d es more within.1)

pub bag_more : (limits : Limits) (hs : Collection) → IsBag (holding limits hs) → IsBag (holding widest hs)
bag_more limits hs b =
    let pairs : pairs_limit limits ≤ 1000000 = limits.in_range.1 in
    let count : count_limit limits ≤ 4294967295 = limits.in_range.3 in
    record {
      rises = b.rises;
      within_limit = omega (arith, b.within_limit, pairs);
      small = λ k d within. let small = b.small k d within in omega (arith, small, count);
    }

taken_more : (limits : Limits) (hs : Collection) (es : List Entry) → apply_refusal (holding limits hs) es ≡ None
    → apply_refusal (holding widest hs) es ≡ None
taken_more limits hs es none =
    let taken = taken_from_none (holding limits hs) es none in
    let pairs : pairs_limit limits ≤ 1000000 = limits.in_range.1 in
    refusal_of_taken (holding widest hs) es (record {
      before = taken.before;
      within = within_more (count_limit limits) 4294967295 es limits.in_range.3 taken.within;
      within_limit = omega (arith, taken.within_limit, pairs);
    })

back_more : (limits : Limits) (hs : Collection) (ess : List (List Entry)) → CanGoBack (holding limits hs) ess
    → CanGoBack (holding widest hs) ess
back_more limits hs [] back = tt
back_more limits hs (es ∷ older) back =
    (back.0, back.1, taken_more limits hs (inverse_of es) back.2, back_more limits (changed hs (inverse_of es)) older back.3)

on_more : (limits : Limits) (hs : Collection) (ess : List (List Entry)) → CanGoOn (holding limits hs) ess → CanGoOn (holding widest hs) ess
on_more limits hs [] on = tt
on_more limits hs (es ∷ rest) on = (on.0, on.1, taken_more limits hs es on.2, on_more limits (changed hs es) rest on.3)

pub widened_is_store : (s : State) → IsStore s → IsStore (widened s)
widened_is_store s st =
    let limits = s.bag.limits in
    let changes : changes_limit limits ≤ 100000 = limits.in_range.5 in
    record {
      bag = bag_more limits s.bag.held st.bag;
      can_go_back = back_more limits s.bag.held (reverse s.done) st.can_go_back;
      can_go_on = on_more limits s.bag.held (reverse s.undone) st.can_go_on;
      room = omega (arith, st.room, changes);
    }
