-- What each step of a walk may read.
use Rattle.std.proofs.Common.{◌≡◌, ℕ, ◌+◌, ◌*◌, ◌<◌, ◌≤◌, true, ◌&&◌, ltb, min, max, Option, Some, None, inl, inr, IfSome, List, [], ◌∷◌, length, drop, ◌-◌, refl, sym, ◌∙◌, ap, subst, arith, Contains, lt-ltb, le-ltb}
use Rattle.std.proofs.Math.Nat.{mul-le-mul_right}
use Rattle.std.proofs.lemmas.Bool.{and_parts, and_from, and_right, ltb-true, cases_lt}
use Rattle.std.proofs.lemmas.List.Elements.{Contains-get_or}
use Rattle.std.proofs.lemmas.List.Sums.{count_by-le-length}
use Rattle.std.proofs.lemmas.List.Folds.{Any-from_list_any}
use Rattle.s2id_core.specs.declared.cell_id.CellId.{CellId}
use Rattle.s2id_core.specs.CellId.{raw_of, first_of, end_of}
use Rattle.s2id_core.proofs.Nested.{span}
use Rattle.s2id_union.specs.Covers.{Covers}
use Rattle.s2ix_bag_pairs.specs.Collection.{Collection}
use Rattle.s2ix_bag_pairs.specs.declared.pair.Held.{Held}
use Rattle.s2ix_table_walk.specs.Meeting.{meeting_key, is_met_from, meeting_from, meeting_of}
use Rattle.s2ix_table_walk.specs.Table.{Range, range_at, leaf_end, IsRangeTable}
use Rattle.s2ix_table_walk.proofs.InOrder.{length_choice}
use Rattle.s2ix_table_walk.proofs.Tables.{places_fit}
use Rattle.s2ix_table_walk.specs.Costs.{no_cost, with_look, is_met, ranges_met, IsWalkCost}
use Rattle.s2id_core.specs.BinaryDigits.{binary_digits}
use Rattle.s2ix_table_walk.specs.Shown.{Shown, IsShown}
use Rattle.s2ix_table_walk.specs.Walking.{left_of, ArePassed, IsWalk, IsPaid, HasPaid, one_if_some, looked_at, cells_begun, ranges_begun}
use Rattle.s2ix_table_walk.specs.declared.cost.Cost.{Cost}
use Rattle.s2ix_table_walk.specs.declared.walk_state.WalkState.{WalkState}
use Rattle.s2ix_table_walk.proofs.Counts.{count_grows, count_gains, count_grows_once, count_none}
use Rattle.s2ix_table_walk.proofs.GivenPairs.{given_reads}
use Rattle.s2ix_table_walk.proofs.Left.{left_first}
use Rattle.s2ix_table_walk.proofs.Meets.{met_from, leaf_of_met}
use Rattle.s2ix_table_walk.proofs.WalkSteps.{range_fits, ranges_follow}

-- ---- what is passed

-- a step over a range that has the first leaf of the target from `seen` on, which is a cell's: to the nearer end of the two, or beyond it,
-- and not beyond the range, which begins at `seen` or after it
pub record IsPassed (target : List CellId) (ranges : List Range) (x : CellId) (k seen next : ℕ) : Type 0 where
  pub held : Contains target x
  pub beyond : seen < end_of x
  pub within : k < length ranges
  pub start : (range_at ranges k).start ≤ max seen (first_of x)
  pub limit : max seen (first_of x) < (range_at ranges k).limit
  pub goes : min (range_at ranges k).limit (end_of x) ≤ next
  pub stays : next ≤ (range_at ranges k).limit
  pub first : (q : ℕ) → Covers target q → seen ≤ q → first_of x ≤ q
  pub fresh : seen ≤ (range_at ranges k).start

at_held : (ranges : List Range) (k : ℕ) → k < length ranges → Contains ranges (range_at ranges k)
at_held ranges k lt = Contains-get_or ranges k (record { start = 0; limit = 0; contents = [] }) lt

begun_later : (s t : ℕ) → s ≤ t → (y : CellId) → ltb (first_of y) s ≡ true → ltb (first_of y) t ≡ true
begun_later s t le y e = let l = ltb-true (first_of y) s e in lt-ltb (first_of y) t (omega arith)

cells_grow : (target : List CellId) (s t : ℕ) → s ≤ t → cells_begun target s ≤ cells_begun target t
cells_grow target s t le = count_grows (λ (y : CellId). ltb (first_of y) s) (λ y. ltb (first_of y) t) target (begun_later s t le)

cells_gain : (target : List CellId) (x : CellId) (s t : ℕ) → Contains target x → s ≤ first_of x → first_of x < t
    → cells_begun target s + 1 ≤ cells_begun target t
cells_gain target x s t held le lt =
    count_gains (λ (y : CellId). ltb (first_of y) s) (λ y. ltb (first_of y) t) target x (begun_later s t (omega arith)) held
    (le-ltb _ _ le) (lt-ltb _ _ lt)

-- ---- what has begun

-- no range begins before the first leaf
none_begun : (held : Collection) (target : List CellId) (ranges : List Range) → IsRangeTable held ranges → ranges_begun target ranges 1 ≡ 0
none_begun held target ranges t =
    count_none (record { start = 0; limit = 0; contents = [] }) (λ (r : Range). is_met target r && ltb r.start 1) ranges (λ j lt e.
    let both = and_parts (is_met target (range_at ranges j)) (ltb (range_at ranges j).start 1) e in
    let before = ltb-true (range_at ranges j).start 1 both.1 in
    let fit = places_fit held 1 leaf_end ranges t j lt in
    absurd (omega arith))

-- of the ranges that meet the target none but the one that is passed begins in a step
begun_before : (held : Collection) (target : List CellId) (ranges : List Range) (x : CellId) (k seen next j : ℕ) → IsRangeTable held ranges
    → IsPassed target ranges x k seen next → j < length ranges → (j ≡ k → ⊥) → is_met target (range_at ranges j) ≡ true
    → (range_at ranges j).start < next → (range_at ranges j).start < seen
begun_before held target ranges x k seen next j t p lt other met before =
    let a = p.within in
    let b = p.start in
    let s = p.stays in
    elim (cases_lt (range_at ranges j).start seen) [
      | inl less ↦ less
      | inr ge ↦
          absurd (
          let l = leaf_of_met target held ranges (range_at ranges j) t (at_held ranges j lt) met in
          let from = l.from in
          let to = l.to in
          let first = p.first l.leaf l.covered (omega arith) in
          elim (cases_lt j k) [
            | inl under ↦ let f = ranges_follow held ranges t j k under a in omega arith
            | inr over ↦
                (let more : k < j = elim (cases_lt k j) [ inl more ↦ more | inr same ↦ absurd (other (omega arith)) ] in
                let f = ranges_follow held ranges t k j more lt in
                omega arith)
          ]
          )
    ]

begins_once : (held : Collection) (target : List CellId) (ranges : List Range) (x : CellId) (k seen next : ℕ) → IsRangeTable held ranges
    → IsPassed target ranges x k seen next → ranges_begun target ranges next ≤ ranges_begun target ranges seen + 1
begins_once held target ranges x k seen next t p =
    count_grows_once (record { start = 0; limit = 0; contents = [] }) (λ (r : Range). is_met target r && ltb r.start next)
    (λ r. is_met target r && ltb r.start seen) ranges k (λ j lt other e.
    let both = and_parts (is_met target (range_at ranges j)) (ltb (range_at ranges j).start next) e in
    let before = ltb-true (range_at ranges j).start next both.1 in
    and_from (is_met target (range_at ranges j)) (ltb (range_at ranges j).start seen) both.0
    (lt-ltb _ _ (begun_before held target ranges x k seen next j t p lt other both.0 before)))

-- and that one does
begins_more : (target : List CellId) (ranges : List Range) (x : CellId) (k seen next : ℕ) → IsPassed target ranges x k seen next
    → ranges_begun target ranges seen + 1 ≤ ranges_begun target ranges next
begins_more target ranges x k seen next p =
    let s = span (raw_of x) x.valid in
    let s1 = s.from in
    let s2 = s.to in
    let a = p.beyond in
    let b = p.start in
    let c = p.limit in
    let e = p.goes in
    let f = p.fresh in
    let r : Range = range_at ranges k in
    let met = met_from target x r p.held (omega arith) (omega arith) in
    let grows : (y : Range) → (is_met target y && ltb y.start seen) ≡ true → (is_met target y && ltb y.start next) ≡ true =
    λ y t. let both = and_parts _ _ t in
    let lt = ltb-true y.start seen both.1 in and_from _ _ both.0 (lt-ltb y.start next (omega arith)) in
    count_gains (λ (y : Range). is_met target y && ltb y.start seen) (λ y. is_met target y && ltb y.start next) ranges r grows
    (at_held ranges k p.within) (and_right (is_met target r) (ltb r.start seen) (le-ltb _ _ f))
    (and_from (is_met target r) (ltb r.start next) met (lt-ltb _ _ (omega arith)))

-- what has begun can be counted
begun_fits : (held : Collection) (target : List CellId) (ranges : List Range) (seen : ℕ) → IsRangeTable held ranges
    → ranges_begun target ranges seen ≤ 18446744073709551615
begun_fits held target ranges seen t =
    let some = t.some in
    let within_limit = count_by-le-length (λ (r : Range). is_met target r && ltb r.start seen) ranges in
    let fit = range_fits held ranges t (length ranges - 1) (omega arith) in
    omega arith

-- if the whole target is passed, each range that meets it has begun
met_begun : (target : List CellId) (r : Range) (seen : ℕ) → ArePassed target (length target) seen → is_met target r ≡ true
    → ltb r.start seen ≡ true
met_begun target r seen passed met =
    let any = Any-from_list_any _ target met in
    let x : CellId = any.1 in
    let both = and_parts (ltb r.start (end_of x)) (ltb (first_of x) r.limit) any.4 in
    let before = ltb-true r.start (end_of x) both.0 in
    let ends = passed any.0 x any.2 any.2 in
    let is = ap (λ (y : CellId). end_of y) any.3 in
    lt-ltb r.start seen (omega arith)

-- ---- steps

one_most : {X : Type 0} (o : Option X) → one_if_some o ≤ 1
one_most None = omega arith
one_most (Some x) = omega arith

-- a step to the next range: one probe, and a search and one probe more where a cell begins
pub step_pays : {P : Type 0} (shown : Shown P) (target : List CellId) (walk next : WalkState P) (x : CellId) (k calls : ℕ) (old new : Cost)
    → IsPassed target shown.ranges x k walk.seen next.seen → new.looks ≡ old.looks → (first_of x ≤ walk.seen → new.probes ≤ old.probes + 1)
    → new.probes ≤ old.probes + binary_digits (length shown.ranges + 1) + 2 → min (old.probes + 1) 18446744073709551615 ≤ new.probes
    → IsShown shown → IsPaid shown target walk calls old → IsPaid shown target next calls new
step_pays shown target walk next x k calls old new p looks at_hand searched rises is paid =
    let d : ℕ = binary_digits (length shown.ranges + 1) + 1 in
    let s = span (raw_of x) x.valid in
    let s1 = s.from in
    let s2 = s.to in
    let a = p.beyond in
    let b = p.limit in
    let e = p.goes in
    let each = paid.each in
    let before = paid.looks in
    let probes = paid.probes in
    let gain = begins_more target shown.ranges x k walk.seen next.seen p in
    record {
      each = omega arith;
      looks = let o = one_most next.place in omega arith;
      probes = elim (cases_lt walk.seen (first_of x)) [
        | inl lt ↦
            (let more = cells_gain target x walk.seen next.seen p.held (omega arith) (omega arith) in
            let times = mul-le-mul_right d more in
            let one : (cells_begun target walk.seen + 1) * d ≡ cells_begun target walk.seen * d + d = omega arith in
            omega arith)
        | inr ge ↦
            (let times = mul-le-mul_right d (cells_grow target walk.seen next.seen (omega arith)) in
            let within_limit = at_hand ge in
            omega arith)
      ];
      begun = let begun = paid.begun in
          let one = begins_once shown.pairs target shown.ranges x k walk.seen next.seen is.is_table p in
          let fits = begun_fits shown.pairs target shown.ranges next.seen is.is_table in
          omega arith;
    }

looked_some : {P : Type 0} (place : Option P) (cost : Cost) → one_if_some place ≡ 1 → looked_at place cost ≡ with_look cost
looked_some None cost e = absurd (omega arith)
looked_some (Some p) cost e = refl

-- a look that gave a new pair
pub look_pays : {P : Type 0} (shown : Shown P) (target : List CellId) (walk : WalkState P) (outer : Option P) (calls : ℕ) (old new : Cost)
    → calls ≤ 1000000 → one_if_some walk.place ≡ 1 → new ≡ looked_at walk.place old → IsPaid shown target walk calls old
    → IsPaid shown target
    (record { cell = walk.cell; range = walk.range; seen = walk.seen; from = walk.from; place = outer; known = walk.known }) (calls + 1)
    new
look_pays shown target walk outer calls old new within_limit some is paid =
    let same = is ∙ looked_some walk.place old some in
    let looks = ap (λ (c : Cost). c.looks) same in
    let probes = ap (λ (c : Cost). c.probes) same in
    let each = paid.each in
    let before = paid.looks in
    let read = paid.probes in
    let begun = paid.begun in
    record { each = omega arith; looks = let o = one_most outer in omega arith; probes = omega arith; begun = omega arith }

-- where the pair given last leads, no more looks are to come
pub open_pays : {P : Type 0} (shown : Shown P) (target : List CellId) (walk : WalkState P) (outer : Option P) (calls : ℕ) (cost : Cost)
    → one_if_some outer ≤ one_if_some walk.place → IsPaid shown target walk calls cost
    → IsPaid shown target
    (record { cell = walk.cell; range = walk.range; seen = walk.seen; from = walk.from; place = outer; known = walk.known }) calls cost
open_pays shown target walk outer calls cost fewer paid =
    let looks = paid.looks in
    record { each = paid.each; looks = omega arith; probes = paid.probes; begun = paid.begun }

closed_by : {P : Type 0} (place : Option P) (old : Cost)
    → ((looked_at place old).looks ≤ old.looks + one_if_some place) × ((looked_at place old).probes ≡ old.probes)
    × (min old.looks 18446744073709551615 ≤ (looked_at place old).looks)
closed_by None old = (omega arith, refl, omega arith)
closed_by (Some p) old = (omega arith, refl, omega arith)

-- a look that gave none, or no look if no place was left
pub close_pays : {P : Type 0} (shown : Shown P) (target : List CellId) (walk : WalkState P) (calls : ℕ) (old new : Cost) → calls ≤ 1000000
    → new ≡ looked_at walk.place old → IsPaid shown target walk calls old
    → IsPaid shown target
    (record { cell = walk.cell; range = walk.range; seen = walk.seen; from = walk.from; place = None; known = walk.known }) calls new
close_pays shown target walk calls old new within_limit is paid =
    let looks = ap (λ (c : Cost). c.looks) is in
    let probes = ap (λ (c : Cost). c.probes) is in
    let by = closed_by walk.place old in
    let b0 = by.0 in
    let b1 = by.1 in
    let b2 = by.2 in
    let each = paid.each in
    let before = paid.looks in
    let read = paid.probes in
    let begun = paid.begun in
    record { each = omega arith; looks = omega arith; probes = omega arith; begun = omega arith }

-- ---- the pairs that were given

-- a meeting list has at most as many pairs as a bag may hold
pub few_meet : {P : Type 0} (shown : Shown P) (target : List CellId) → IsShown shown → length (meeting_of target shown.pairs) ≤ 1000000
unfolding meeting_from
few_meet shown target is =
    let within_limit = is.within_limit in
    let less = length_choice (is_met_from target 1) (meeting_key target) shown.pairs in
    omega arith

-- nothing was given and nothing was read
pub none_pays : {P : Type 0} (shown : Shown P) (target : List CellId) (walk : WalkState P) (cost : Cost) → IsShown shown → walk.seen ≡ 1
    → walk.place ≡ None → left_of shown target walk ≡ meeting_of target shown.pairs → cost ≡ no_cost → HasPaid shown target walk cost
none_pays shown target walk cost is first none all unread =
    let same = ap length all in
    let looks = ap (λ (c : Cost). c.looks) unread in
    let probes = ap (λ (c : Cost). c.probes) unread in
    let closed = ap one_if_some none in
    let begun = ap (ranges_begun target shown.ranges) first ∙ none_begun shown.pairs target shown.ranges is.is_table in
    let met : Collection = meeting_of target shown.pairs in
    let none_given : 0 ≡ length met - length (left_of shown target walk) = omega arith in
    record {
      fits = omega arith;
      rest = all ∙ ap (λ (n : ℕ). drop n met) none_given;
      paid = record { each = omega arith; looks = omega arith; probes = omega arith; begun = omega arith };
    }

-- one pair more was given, or the end was reached
pub next_pays : {P : Type 0} (shown : Shown P) (target : List CellId) (walk next : WalkState P) (old new : Cost) (result : Option Held)
    → IsShown shown → (result ≡ None → (left_of shown target walk ≡ []) × (left_of shown target next ≡ []))
    → IfSome result (λ held. left_of shown target walk ≡ held ∷ left_of shown target next)
    → ((calls : ℕ) → calls ≤ 1000000 → IsPaid shown target walk calls old → IsPaid shown target next (calls + one_if_some result) new)
    → HasPaid shown target walk old → HasPaid shown target next new
next_pays shown target walk next old new None is ends gives pays has =
    let all : ℕ = length (meeting_of target shown.pairs) in
    let within_limit = few_meet shown target is in
    let a = ap length (ends refl).0 in
    let b = ap length (ends refl).1 in
    let calls : ℕ = all - length (left_of shown target walk) in
    let same : calls + 0 ≡ all - length (left_of shown target next) = omega arith in
    let rest = subst (λ (xs : Collection). xs ≡ drop (all - length xs) (meeting_of target shown.pairs))
    ((ends refl).0 ∙ sym (ends refl).1) has.rest in
    record {
      fits = omega arith;
      rest = rest;
      paid = subst (λ (k : ℕ). IsPaid shown target next k new) same (pays calls (omega arith) has.paid);
    }
next_pays shown target walk next old new (Some held) is ends gives pays has =
    let all : ℕ = length (meeting_of target shown.pairs) in
    let within_limit = few_meet shown target is in
    let a = ap length gives in
    let fits = has.fits in
    let calls : ℕ = all - length (left_of shown target walk) in
    let same : calls + 1 ≡ all - length (left_of shown target next) = omega arith in
    let after = (left_first (meeting_of target shown.pairs) (left_of shown target walk) (left_of shown target next) calls held has.rest
    gives).2 in
    let rest = subst (λ (k : ℕ). left_of shown target next ≡ drop k (meeting_of target shown.pairs)) same after in
    record {
      fits = omega arith;
      rest = rest;
      paid = subst (λ (k : ℕ). IsPaid shown target next k new) same (pays calls (omega arith) has.paid);
    }

-- what has paid for its calls keeps to the bounds
pub paid_costs : {P : Type 0} (shown : Shown P) (target : List CellId) (walk : WalkState P) (cost : Cost) → IsWalk shown target walk
    → HasPaid shown target walk cost
    → IsWalkCost target shown.pairs shown.ranges (length (meeting_of target shown.pairs) - length (left_of shown target walk)) cost
paid_costs shown target walk cost is has =
    let paid = has.paid in
    let d : ℕ = binary_digits (length shown.ranges + 1) in
    let looks = paid.looks in
    let probes = paid.probes in
    let rows = count_grows (λ (r : Range). is_met target r && ltb r.start walk.seen) (is_met target) shown.ranges
    (λ r e. (and_parts _ _ e).0) in
    let times = mul-le-mul_right (d + 1) (count_by-le-length (λ (c : CellId). ltb (first_of c) walk.seen) target) in
    let one : length target * (d + 1) ≡ length target * d + length target = grind arith in
    record {
      each = paid.each;
      looks = omega arith;
      probes = omega arith;
      least = λ h held. given_reads shown target walk cost h is has held;
    }

-- what has passed the whole target has read each range that meets it
pub passed_costs : {P : Type 0} (shown : Shown P) (target : List CellId) (walk : WalkState P) (calls : ℕ) (cost : Cost)
    → ArePassed target (length target) walk.seen → IsPaid shown target walk calls cost → ranges_met target shown.ranges ≤ cost.probes
passed_costs shown target walk calls cost passed paid =
    let begun = paid.begun in
    let all = count_grows (is_met target) (λ (r : Range). is_met target r && ltb r.start walk.seen) shown.ranges
    (λ r met. and_from (is_met target r) (ltb r.start walk.seen) met (met_begun target r walk.seen passed met)) in
    omega arith
