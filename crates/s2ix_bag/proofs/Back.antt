-- Changes taken back, from the last on.
use Rattle.std.proofs.Common.{◌≡◌, ℕ, ◌+◌, ◌-◌, ◌<◌, ◌≤◌, List, [], ◌∷◌, ◌++◌, All, length, map, reverse, take, get_or, None, refl, sym, ap, ap₂, ◌∙◌, subst, arith}
use Rattle.std.specs.Option.{option_map}
use Rattle.std.proofs.lemmas.List.{reverse-append, length-take, take_more}
use Rattle.std.proofs.lemmas.List.Elements.{All-head, All-tail}
use Rattle.s2ix_bag_pairs.specs.declared.pair.Entry.{Entry}
use Rattle.s2ix_bag_lists.specs.Apply.{apply_refusal}
use Rattle.s2ix_bag_pairs.specs.Change.{inverse_of, IsChangeList}
use Rattle.s2ix_bag_pairs.specs.Collection.{Collection, LimitedCollection, IsBag}
use Rattle.s2ix_bag_lists.proofs.Applied.{changed_inverse}
use Rattle.s2ix_bag_pairs.proofs.Inverse.{inverse-inverse, inverse_keeps}
use Rattle.s2ix_bag_lists.proofs.Refusals.{inverse_taken, made_is_bag, refusal_of_taken, taken_from_none}
use Rattle.s2ix_bag.specs.declared.replay_error.ReplayError.{ReplayError}
use Rattle.s2ix_bag.specs.Replay.{IsReplayError, Numbered, after_change, after_changes, back_of, first_refusal, with_numbers, numbered_from, refusal_numbered, replay_refusal, replayed, rewind_refusal, rewound, way_back}
use Rattle.s2ix_bag.proofs.Forth.{after_changes-append, first_refusal-append, first_taken, refusal_after, refused_here, rest_taken}

-- ---- the way back

map_push : (cs : List Numbered) (c : Numbered) → map back_of (cs ++ c ∷ []) ≡ map back_of cs ++ back_of c ∷ []
map_push [] c = refl
map_push (x ∷ cs) c = ap (λ ds. back_of x ∷ ds) (map_push cs c)

-- it ends with what takes the first change back
pub way_back-cons : (c : Numbered) (rest : List Numbered) → way_back (c ∷ rest) ≡ way_back rest ++ back_of c ∷ []
way_back-cons c rest = ap (map back_of) (reverse-append (c ∷ []) rest) ∙ map_push (reverse rest) c

-- and begins with what takes the last one back
pub way_back_push : (cs : List Numbered) (c : Numbered) → way_back (cs ++ c ∷ []) ≡ back_of c ∷ way_back cs
way_back_push cs c = ap (map back_of) (reverse-append cs (c ∷ []))

back_again : (c : Numbered) → back_of (back_of c) ≡ c
back_again c = ap (λ (es : List Entry). let d : Numbered = record { number = c.number; change = es } in d) (inverse-inverse c.change)

-- the way back of the way back is the way
pub way_back-way_back : (cs : List Numbered) → way_back (way_back cs) ≡ cs
way_back-way_back [] = refl
way_back-way_back (c ∷ rest) =
    ap way_back (way_back-cons c rest) ∙ way_back_push (way_back rest) (back_of c)
    ∙ ap₂ (λ (x : Numbered) (xs : List Numbered). x ∷ xs) (back_again c) (way_back-way_back rest)

-- ---- numbers

pub numbered_push : (n : ℕ) (changes : List (List Entry)) (es : List Entry)
    → numbered_from n (changes ++ es ∷ []) ≡ numbered_from n changes ++ record { number = n + length changes; change = es } ∷ []
numbered_push n [] es = ap (λ k. let c : Numbered = record { number = k; change = es } in c ∷ []) (omega arith)
numbered_push n (x ∷ changes) es =
    ap (λ (cs : List Numbered). let c : Numbered = record { number = n; change = x } in c ∷ cs)
    (numbered_push (n + 1) changes es
    ∙ ap (λ k. numbered_from (n + 1) changes ++ record { number = k; change = es } ∷ []) (omega arith))

-- the change at a place of the list, with its number
abbrev pub change_at : ℕ → List Entry → Numbered
change_at place es = record { number = place + 1; change = es }

-- the way back from after a change begins with that change
pub way_back_from : (changes : List (List Entry)) (place : ℕ) (es : List Entry) → place < length changes → es ≡ get_or changes place es
    → way_back (with_numbers (take (place + 1) changes)) ≡ back_of (change_at place es) ∷ way_back (with_numbers (take place changes))
way_back_from changes place es lt is =
    let more : take (place + 1) changes ≡ take place changes ++ es ∷ [] =
    take_more changes place es lt ∙ ap (λ x. take place changes ++ x ∷ []) (sym is) in
    let number : 1 + length (take place changes) ≡ place + 1 = omega (arith, length-take place changes, lt) in
    ap (λ xs. way_back (with_numbers xs)) more
    ∙ ap way_back (numbered_push 1 (take place changes) es)
    ∙ way_back_push (with_numbers (take place changes)) (record { number = 1 + length (take place changes); change = es })
    ∙ ap (λ k. back_of (record { number = k; change = es }) ∷ way_back (with_numbers (take place changes))) number

-- ---- a step back

-- the change before this place of the list, which is taken back next
pub record IsBefore (changes : List (List Entry)) (place : ℕ) (back : List Entry) : Type 0 where
  pub change : List Entry
  pub some : 0 < place
  pub within : place ≤ length changes
  pub is : change ≡ get_or changes (place - 1) change
  pub inverse : back ≡ inverse_of change

-- the way back from here begins with it
pub way_back_here : (changes : List (List Entry)) (place : ℕ) (back : List Entry) → IsBefore changes place back
    → way_back (with_numbers (take place changes)) ≡ change_at (place - 1) back ∷ way_back (with_numbers (take (place - 1) changes))
way_back_here changes place back b =
    let some = b.some in
    let within = b.within in
    let on : place ≡ place - 1 + 1 = omega arith in
    ap (λ k. way_back (with_numbers (take k changes))) on ∙ way_back_from changes (place - 1) b.change (omega arith) b.is
    ∙ ap (λ es. change_at (place - 1) es ∷ way_back (with_numbers (take (place - 1) changes))) (sym b.inverse)

-- it is refused: the error tells it
pub refused_back : (bag : LimitedCollection) (changes : List (List Entry)) (place : ℕ) (back : List Entry) (error : ReplayError)
    → IsBefore changes place back → IsReplayError error (option_map (refusal_numbered (place - 1 + 1)) (apply_refusal bag back))
    → IsReplayError error (rewind_refusal bag (take place changes))
refused_back bag changes place back error b is =
    let Tells : List Numbered → Type 0 = λ cs. IsReplayError error (first_refusal bag cs) in
    subst Tells (sym (way_back_here changes place back b))
    (refused_here bag (change_at (place - 1) back) (way_back (with_numbers (take (place - 1) changes))) error is)

-- it is taken: the refusals are those of the way back from there
pub taken_back : (bag next : LimitedCollection) (changes : List (List Entry)) (place : ℕ) (back : List Entry) → IsBefore changes place back
    → apply_refusal bag back ≡ None → next ≡ after_change bag back
    → rewind_refusal bag (take place changes) ≡ rewind_refusal next (take (place - 1) changes)
taken_back bag next changes place back b taken is =
    ap (first_refusal bag) (way_back_here changes place back b)
    ∙ refusal_after bag (change_at (place - 1) back) (way_back (with_numbers (take (place - 1) changes))) taken
    ∙ ap (λ x. rewind_refusal x (take (place - 1) changes)) (sym is)

-- and so is the bag
pub made_back : (bag next : LimitedCollection) (changes : List (List Entry)) (place : ℕ) (back : List Entry) → IsBefore changes place back
    → next ≡ after_change bag back → rewound bag (take place changes) ≡ rewound next (take (place - 1) changes)
made_back bag next changes place back b is =
    ap (after_changes bag) (way_back_here changes place back b) ∙ ap (λ x. rewound x (take (place - 1) changes)) (sym is)

-- ---- there and back

-- each is a change
abbrev pub AreChanges : List Numbered → Type 0
AreChanges [] = Unit {0}
AreChanges (c ∷ rest) = IsChangeList c.change × AreChanges rest

pub numbered_are_changes : (n : ℕ) (changes : List (List Entry)) → All IsChangeList changes → AreChanges (numbered_from n changes)
numbered_are_changes n [] all = tt
numbered_are_changes n (es ∷ rest) all =
    (All-head IsChangeList es rest all, numbered_are_changes (n + 1) rest (All-tail IsChangeList es rest all))

pub push_change : (cs : List Numbered) (c : Numbered) → AreChanges cs → IsChangeList c.change → AreChanges (cs ++ c ∷ [])
push_change [] c cs_are c_is = (c_is, tt)
push_change (x ∷ cs) c cs_are c_is = (cs_are.0, push_change cs c cs_are.1 c_is)

pub back_are_changes : (cs : List Numbered) → AreChanges cs → AreChanges (way_back cs)
back_are_changes [] cs_are = tt
back_are_changes (c ∷ rest) cs_are =
    subst AreChanges (sym (way_back-cons c rest))
    (push_change (way_back rest) (back_of c) (back_are_changes rest cs_are.1) (inverse_keeps c.change cs_are.0))

-- changes that a bag takes, and then their way back
pub record Returns (bag : LimitedCollection) (cs : List Numbered) : Type 0 where
  pub taken : first_refusal (after_changes bag cs) (way_back cs) ≡ None
  pub back : after_changes (after_changes bag cs) (way_back cs) ≡ bag

pub there_and_back : (bag : LimitedCollection) (cs : List Numbered) → IsBag bag → AreChanges cs → first_refusal bag cs ≡ None
    → Returns bag cs
there_and_back bag [] is_bag cs_are none = record { taken = refl; back = refl }
there_and_back bag (c ∷ rest) is_bag cs_are none =
    let es = c.change in
    let next = after_change bag es in
    let end = after_changes next rest in
    let taken = taken_from_none bag es (first_taken bag c rest none) in
    let after = there_and_back next rest (made_is_bag bag es is_bag cs_are.0 taken) cs_are.1 (rest_taken bag c rest none) in
    let here : apply_refusal next (inverse_of es) ≡ None =
    refusal_of_taken next (inverse_of es) (inverse_taken bag es is_bag cs_are.0 taken) in
    let home : after_change next (inverse_of es) ≡ bag =
    ap (λ (hs : Collection). let b : LimitedCollection = record { limits = bag.limits; held = hs } in b)
    (changed_inverse bag.held es is_bag.rises cs_are.0 taken.before) in
    record {
      taken = ap (first_refusal end) (way_back-cons c rest) ∙ first_refusal-append end (way_back rest) (back_of c ∷ []) after.taken
          ∙ ap (λ b. first_refusal b (back_of c ∷ [])) after.back ∙ refusal_after next (back_of c) [] here;
      back = ap (after_changes end) (way_back-cons c rest) ∙ after_changes-append end (way_back rest) (back_of c ∷ [])
          ∙ ap (λ b. after_changes b (back_of c ∷ [])) after.back ∙ home;
    }

pub rewind_of_replay : (bag : LimitedCollection) (changes : List (List Entry)) → IsBag bag → All IsChangeList changes
    → replay_refusal bag changes ≡ None → Returns bag (with_numbers changes)
rewind_of_replay bag changes is_bag all none =
    there_and_back bag (with_numbers changes) is_bag (numbered_are_changes 1 changes all) none

pub replay_of_rewind : (bag : LimitedCollection) (changes : List (List Entry)) → IsBag bag → All IsChangeList changes
    → rewind_refusal bag changes ≡ None
    → (replay_refusal (rewound bag changes) changes ≡ None) × (replayed (rewound bag changes) changes ≡ bag)
replay_of_rewind bag changes is_bag all none =
    let cs = with_numbers changes in
    let returns = there_and_back bag (way_back cs) is_bag (back_are_changes cs (numbered_are_changes 1 changes all)) none in (
      ap (first_refusal (rewound bag changes)) (sym (way_back-way_back cs)) ∙ returns.taken,
      ap (after_changes (rewound bag changes)) (sym (way_back-way_back cs)) ∙ returns.back,
    )

-- what changes make that a bag takes is a bag
pub changes_make_bag : (bag : LimitedCollection) (cs : List Numbered) → IsBag bag → AreChanges cs → first_refusal bag cs ≡ None
    → IsBag (after_changes bag cs)
changes_make_bag bag [] is_bag cs_are none = is_bag
changes_make_bag bag (c ∷ rest) is_bag cs_are none =
    changes_make_bag (after_change bag c.change) rest
    (made_is_bag bag c.change is_bag cs_are.0 (taken_from_none bag c.change (first_taken bag c rest none))) cs_are.1
    (rest_taken bag c rest none)

pub replayed_is_bag : (bag : LimitedCollection) (changes : List (List Entry)) → IsBag bag → All IsChangeList changes
    → replay_refusal bag changes ≡ None → IsBag (replayed bag changes)
replayed_is_bag bag changes is_bag all none = changes_make_bag bag (with_numbers changes) is_bag (numbered_are_changes 1 changes all) none

pub rewound_is_bag : (bag : LimitedCollection) (changes : List (List Entry)) → IsBag bag → All IsChangeList changes
    → rewind_refusal bag changes ≡ None → IsBag (rewound bag changes)
rewound_is_bag bag changes is_bag all none =
    changes_make_bag bag (way_back (with_numbers changes)) is_bag
    (back_are_changes (with_numbers changes) (numbered_are_changes 1 changes all)) none
