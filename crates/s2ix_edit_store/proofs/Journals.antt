-- The changes that a store has done, taken back from its bag and done again.
use Rattle.std.proofs.Common.{◌≡◌, ℕ, ◌+◌, List, [], ◌∷◌, ◌++◌, Option, Some, None, map, reverse, refl, sym, ap, ap₂, subst, ◌∙◌}
use Rattle.std.specs.List.{slice_get}
use Rattle.std.proofs.lemmas.List.{append_assoc, reverse-append, reverse-reverse}
use Rattle.s2ix_bag_pairs.specs.declared.limits.Limits.{Limits}
use Rattle.s2ix_bag_pairs.specs.declared.pair.Entry.{Entry}
use Rattle.s2ix_bag_pairs.specs.Change.{changed, inverse_of}
use Rattle.s2ix_bag_pairs.specs.Collection.{Collection, LimitedCollection}
use Rattle.s2ix_edit_plan.specs.State.{State, earlier, history_of, later}
use Rattle.s2ix_bag.specs.Replay.{Numbered, after_changes, back_of, first_refusal, with_numbers, numbered_from, replay_refusal, replayed, rewind_refusal, rewound, way_back}
use Rattle.s2ix_bag.proofs.Back.{AreChanges, back_are_changes, push_change, there_and_back, way_back-way_back}
use Rattle.s2ix_bag.proofs.Forth.{limits_stay, refusal_after}
use Rattle.s2ix_edit_store.specs.Steps.{with_held}
use Rattle.s2ix_edit_store.specs.Store.{CanGoBack, IsStore}

-- the changes without their numbers
abbrev pub changes_in : List Numbered → List (List Entry)
changes_in cs = map (λ (c : Numbered). c.change) cs

-- the way back goes over changes that can be taken back
goes_back : (bag : LimitedCollection) (cs : List Numbered) → CanGoBack bag (changes_in cs) → first_refusal bag (map back_of cs) ≡ None
goes_back bag [] back = refl
goes_back bag (c ∷ rest) back =
    refusal_after bag (back_of c) (map back_of rest) back.2
    ∙ goes_back (with_held bag (changed bag.held (inverse_of c.change))) rest back.3

-- each of them is a change
goes_over_changes : (bag : LimitedCollection) (cs : List Numbered) → CanGoBack bag (changes_in cs) → AreChanges cs
goes_over_changes bag [] back = tt
goes_over_changes bag (c ∷ rest) back = (back.0, goes_over_changes (with_held bag (changed bag.held (inverse_of c.change))) rest back.3)

-- the order does not matter
reversed_are_changes : (cs : List Numbered) → AreChanges cs → AreChanges (reverse cs)
reversed_are_changes [] cs_are = tt
reversed_are_changes (c ∷ rest) cs_are =
    subst AreChanges (sym (reverse-append (c ∷ []) rest)) (push_change (reverse rest) c (reversed_are_changes rest cs_are.1) cs_are.0)

turned : (cs : List Numbered) → AreChanges (reverse cs) → AreChanges cs
turned cs cs_are = subst AreChanges (reverse-reverse cs) (reversed_are_changes (reverse cs) cs_are)

-- and it leads to the first of the earlier collections
first_of_earlier : (bag : LimitedCollection) (cs : List Numbered) (rest : List Collection)
    → slice_get (earlier bag.held (changes_in cs) ++ bag.held ∷ rest) 0 ≡ Some (after_changes bag (map back_of cs)).held
first_of_earlier bag [] rest = refl
first_of_earlier bag (c ∷ older) rest =
    let before = with_held bag (changed bag.held (inverse_of c.change)) in
    ap (λ hss. slice_get hss 0) (append_assoc (earlier before.held (changes_in older)) (before.held ∷ []) (bag.held ∷ rest))
    ∙ first_of_earlier before older (bag.held ∷ rest)

-- ---- the changes of a history

changes_push : (cs : List Numbered) (c : Numbered) → changes_in (cs ++ c ∷ []) ≡ changes_in cs ++ c.change ∷ []
changes_push [] c = refl
changes_push (x ∷ cs) c = ap (λ ess. x.change ∷ ess) (changes_push cs c)

-- numbered and turned round, they are the changes turned round
pub changes_reversed : (n : ℕ) (changes : List (List Entry)) → changes_in (reverse (numbered_from n changes)) ≡ reverse changes
changes_reversed n [] = refl
changes_reversed n (es ∷ rest) =
    let c : Numbered = record { number = n; change = es } in
    ap changes_in (reverse-append (c ∷ []) (numbered_from (n + 1) rest)) ∙ changes_push (reverse (numbered_from (n + 1) rest)) c
    ∙ ap (λ ess. ess ++ es ∷ []) (changes_reversed (n + 1) rest) ∙ sym (reverse-append (es ∷ []) rest)

-- the way back over changes, numbered
back_numbered : (bag : LimitedCollection) (changes : List (List Entry)) → CanGoBack bag (reverse changes)
    → CanGoBack bag (changes_in (reverse (with_numbers changes)))
back_numbered bag changes back = subst (CanGoBack bag) (sym (changes_reversed 1 changes)) back

-- a bag that can go back over changes takes them back
pub taken_back_over : (bag : LimitedCollection) (changes : List (List Entry)) → CanGoBack bag (reverse changes)
    → rewind_refusal bag changes ≡ None
taken_back_over bag changes back = goes_back bag (reverse (with_numbers changes)) (back_numbered bag changes back)

pub done_is_taken_back : (s : State) → IsStore s → rewind_refusal s.bag s.done ≡ None
done_is_taken_back s st = taken_back_over s.bag s.done st.can_go_back

same_first : (hs first : Collection) (found : Option Collection) → found ≡ Some hs → found ≡ Some first → hs ≡ first
same_first hs first found is so = let e : Some hs ≡ Some first = sym is ∙ so in cc

limits_back : (s : State) → (rewound s.bag s.done).limits ≡ s.bag.limits
limits_back s = limits_stay s.bag (way_back (with_numbers s.done))

made : (bag : LimitedCollection) (hs : Collection) → bag.held ≡ hs → (other : LimitedCollection) → bag.limits ≡ other.limits
    → bag ≡ with_held other hs
made bag hs held other limits =
    ap₂ (λ (l : Limits) (h : Collection). let b : LimitedCollection = record { limits = l; held = h } in b) limits held

pub done_leads_back : (s : State) (first : Collection) → IsStore s → slice_get (history_of s).collections 0 ≡ Some first
    → rewound s.bag s.done ≡ with_held s.bag first
done_leads_back s first st is =
    let cs = reverse (with_numbers s.done) in
    let rest = later s.bag.held (reverse s.undone) in
    let there = ap (λ ess. slice_get (earlier s.bag.held ess ++ s.bag.held ∷ rest) 0) (changes_reversed 1 s.done) in
    let held =
    same_first (rewound s.bag s.done).held first (slice_get (history_of s).collections 0) (sym there ∙ first_of_earlier s.bag cs rest)
    is in
    made (rewound s.bag s.done) first held s.bag (limits_back s)

pub done_leads : (s : State) (first : Collection) → IsStore s → slice_get (history_of s).collections 0 ≡ Some first
    → (replay_refusal (with_held s.bag first) s.done ≡ None) × (replayed (with_held s.bag first) s.done ≡ s.bag)
done_leads s first st is =
    let cs = with_numbers s.done in
    let changes = turned cs (goes_over_changes s.bag (reverse cs) (back_numbered s.bag s.done st.can_go_back)) in
    let home = there_and_back s.bag (way_back cs) st.bag (back_are_changes cs changes) (done_is_taken_back s st) in
    let start = done_leads_back s first st is in (
      ap (λ b. replay_refusal b s.done) (sym start) ∙ ap (first_refusal (rewound s.bag s.done)) (sym (way_back-way_back cs)) ∙ home.taken,
      ap (λ b. replayed b s.done) (sym start) ∙ ap (after_changes (rewound s.bag s.done)) (sym (way_back-way_back cs)) ∙ home.back,
    )
