-- The pairs that a walk gave: each was first met before the leaf that the walk has come to, so the ranges up to there were read.
use Rattle.std.proofs.Common.{◌≡◌, ℕ, ◌+◌, ◌-◌, ◌<◌, ◌≤◌, Bool, true, false, cond, leb, ltb, ◌&&◌, Option, Some, None, IfSome, inl, inr, List, [], ◌∷◌, ◌++◌, length, drop, take, refl, sym, ◌∙◌, ap, subst, arith, Contains, count_by, lt-ltb}
use Rattle.std.proofs.lemmas.Bool.{and_parts, and_from, leb-true, ltb-true, cases_lt, cases_Bool, both_ways}
use Rattle.std.proofs.lemmas.List.{take-append-drop, get_or-take, length-take}
use Rattle.std.proofs.lemmas.List.Elements.{Contains-append_left}
use Rattle.std.proofs.lemmas.List.Sums.{sum_by-append}
use Rattle.std.proofs.lemmas.Option.{get_or_from_slice_get}
use Rattle.s2id_core.specs.declared.cell_id.CellId.{CellId}
use Rattle.s2ix_bag_pairs.specs.Collection.{Collection}
use Rattle.s2ix_bag_pairs.specs.declared.pair.Held.{Held}
use Rattle.s2ix_table_walk.specs.InOrder.{insertion, choice}
use Rattle.s2ix_table_walk.specs.Meeting.{first_shared, meeting_key, is_met_from, meeting_from, meeting_of}
use Rattle.s2ix_table_walk.specs.Table.{Range, leaf_end}
use Rattle.s2ix_table_walk.proofs.InOrder.{choice_in, choice_out, in_choice}
use Rattle.s2ix_table_walk.specs.Costs.{is_met, ranges_met_by}
use Rattle.s2ix_table_walk.specs.Places.{from_place}
use Rattle.s2ix_table_walk.specs.Shown.{Shown}
use Rattle.s2ix_table_walk.specs.Walking.{front_from, left_of, IsWalk, HasPaid}
use Rattle.s2ix_table_walk.specs.declared.cost.Cost.{Cost}
use Rattle.s2ix_table_walk.specs.declared.walk_state.WalkState.{WalkState}
use Rattle.s2ix_table_walk.proofs.Counts.{count_cons, none_at, count_grows, count_gains}
use Rattle.s2ix_table_walk.proofs.Left.{left_first}
use Rattle.s2ix_table_walk.proofs.Meetings.{met_from}

-- ---- how many of a choice pass a test

insertion_count : (test : Held → Bool) (key : Held → ℕ) (x : Held) (xs : List Held)
    → count_by test (insertion key x xs) ≡ cond (test x) 1 0 + count_by test xs
unfolding insertion
insertion_count test key x [] = count_cons test x []
insertion_count test key x (y ∷ ys) =
    elim (ltb (key x) (key y)) as (λ b.
    count_by test (cond b (x ∷ y ∷ ys) (y ∷ insertion key x ys)) ≡ cond (test x) 1 0 + count_by test (y ∷ ys)) [
      | true ↦ count_cons test x (y ∷ ys)
      | false ↦ omega (arith, count_cons test y (insertion key x ys), insertion_count test key x ys, count_cons test y ys)
    ]

-- a choice has all pairs that pass a stronger test than its own
choice_count : (own test : Held → Bool) (key : Held → ℕ) (hs : Collection) → ((h : Held) → test h ≡ true → own h ≡ true)
    → count_by test (choice own key hs) ≡ count_by test hs
unfolding choice
choice_count own test key [] stronger = refl
choice_count own test key (h ∷ hs) stronger =
    let rest = choice_count own test key hs stronger in
    let more = count_cons test h hs in
    elim (cases_Bool (own h)) [
      | inl t ↦ ap (count_by test) (choice_in own key h hs t) ∙ insertion_count test key h (choice own key hs) ∙ (omega arith)
      | inr out ↦
          (let none = none_at (test h) (λ t. both_ways (own h) out (stronger h t)) in
          ap (count_by test) (choice_out own key h hs out) ∙ (omega arith))
    ]

-- ---- the pairs that a walk gave

met_parts : (target : List CellId) (from : ℕ) (h : Held) → is_met_from target from h ≡ true
    → (from ≤ first_shared target h.pair.cell) × (first_shared target h.pair.cell < leaf_end)
met_parts target from h t =
    let both = and_parts (leb from (first_shared target h.pair.cell)) (ltb (first_shared target h.pair.cell) leaf_end) t in
    (leb-true from (first_shared target h.pair.cell) both.0, ltb-true (first_shared target h.pair.cell) leaf_end both.1)

-- what is met from a leaf on is met from any leaf before it on
met_earlier : (target : List CellId) (early from : ℕ) (h : Held) → early ≤ from → is_met_from target from h ≡ true
    → is_met_from target early h ≡ true
met_earlier target early from h le t =
    let met = met_parts target from h t in
    let late = met.0 in
    met_from target early h (omega arith) met.1

-- what stands in the meeting list in front of all that is met from a leaf on is met before that leaf
given_before : (target : List CellId) (seen : ℕ) (hs given front : Collection) (h : Held) → 1 ≤ seen
    → meeting_of target hs ≡ given ++ (front ++ meeting_from target seen hs) → Contains given h → first_shared target h.pair.cell < seen
unfolding meeting_from
given_before target seen hs given front h some parts held =
    let test : Held → Bool = is_met_from target seen in
    let one : Bool → ℕ = λ b. cond b 1 0 in
    let all = choice_count (is_met_from target 1) test (meeting_key target) hs (λ x t. met_earlier target 1 seen x some t) in
    let later = choice_count test test (meeting_key target) hs (λ x t. t) in
    let whole = ap (count_by test) parts in
    let first = sum_by-append (λ (x : Held). one (test x)) given (front ++ meeting_from target seen hs) in
    let second = sum_by-append (λ (x : Held). one (test x)) front (meeting_from target seen hs) in
    elim (cases_lt (first_shared target h.pair.cell) seen) [
      | inl lt ↦ lt
      | inr late ↦
          absurd (
          let in_all = subst (λ (xs : Collection). Contains xs h) (sym parts)
          (Contains-append_left given (front ++ meeting_from target seen hs) h held) in
          let met = met_parts target 1 h (in_choice (is_met_from target 1) (meeting_key target) hs h in_all).1 in
          let passes = met_from target seen h late met.1 in
          let gains = count_gains (λ (x : Held). false) test given h (λ x t. absurd (both_ways false refl t)) held refl passes in
          omega arith)
    ]

-- for a pair that was given the ranges that meet the target up to the first leaf that it shares with it were read
pub given_reads : {P : Type 0} (shown : Shown P) (target : List CellId) (walk : WalkState P) (cost : Cost) (h : Held)
    → IsWalk shown target walk → HasPaid shown target walk cost
    → Contains (take (length (meeting_of target shown.pairs) - length (left_of shown target walk)) (meeting_of target shown.pairs)) h
    → ranges_met_by target shown.ranges (first_shared target h.pair.cell) ≤ cost.probes
given_reads shown target walk cost h is has held =
    let all : Collection = meeting_of target shown.pairs in
    let given : Collection = take (length all - length (left_of shown target walk)) all in
    let odd = is.odd in
    let parts : all ≡ given ++ left_of shown target walk = sym (take-append-drop (length all - length (left_of shown target walk)) all)
    ∙ ap (λ (xs : Collection). given ++ xs) (sym has.rest) in
    let early = given_before target walk.seen shown.pairs given (front_from walk.from (drop 1 (from_place shown.chain walk.place))) h (omega arith)
    parts held in
    let begun = has.paid.begun in
    let fewer = count_grows (λ (r : Range). is_met target r && leb r.start (first_shared target h.pair.cell))
    (λ r. is_met target r && ltb r.start walk.seen) shown.ranges (λ r t.
    let both = and_parts (is_met target r) (leb r.start (first_shared target h.pair.cell)) t in
    let le = leb-true r.start (first_shared target h.pair.cell) both.1 in
    and_from (is_met target r) (ltb r.start walk.seen) both.0 (lt-ltb _ _ (omega arith))) in
    omega arith

-- and so for the pair that was given last
pub next_reads : {P : Type 0} (shown : Shown P) (target : List CellId) (walk next : WalkState P) (old new : Cost) (result : Option Held)
    → IsWalk shown target next → IfSome result (λ held. left_of shown target walk ≡ held ∷ left_of shown target next)
    → HasPaid shown target walk old → HasPaid shown target next new
    → IfSome result (λ held. ranges_met_by target shown.ranges (first_shared target held.pair.cell) ≤ new.probes)
next_reads shown target walk next old new None is gives has paid = tt
next_reads shown target walk next old new (Some held) is gives has paid =
    let all : Collection = meeting_of target shown.pairs in
    let k : ℕ = length all - length (left_of shown target walk) in
    let item = left_first all (left_of shown target walk) (left_of shown target next) k held has.rest gives in
    let within = item.0 in
    let shorter = ap length gives in
    let fits = has.fits in
    let less : k < length all - length (left_of shown target next) = omega arith in
    given_reads shown target next new held is paid (
      k,
      omega (arith, length-take (length all - length (left_of shown target next)) all),
      get_or-take (length all - length (left_of shown target next)) all k held less ∙ get_or_from_slice_get all k held held item.1,
    )
