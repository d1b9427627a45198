-- The steps of a walk over the ranges that a target meets.
use Rattle.std.proofs.Common.{◌≡◌, ℕ, ◌+◌, ◌-◌, ◌%◌, ◌^◌, ◌<◌, ◌≤◌, ◌⊎◌, inl, inr, min, max, Option, Some, None, List, [], ◌∷◌, ◌++◌, length, drop, get_or, refl, sym, ◌∙◌, ap, arith, Contains, subst}
use Rattle.std.proofs.lemmas.Bool.{cases_lt, cases_order}
use Rattle.std.proofs.lemmas.List.{get_or_default}
use Rattle.s2id_core.specs.declared.cell_id.CellId.{CellId}
use Rattle.s2id_core.specs.CellId.{raw_of, first_of, end_of}
use Rattle.s2id_core.proofs.Nested.{span}
use Rattle.s2id_union.specs.Covers.{Covers, FollowOneAnother}
use Rattle.s2id_union.proofs.NormalForm.{test_from_covers}
use Rattle.s2ix_bag_pairs.specs.Collection.{Collection}
use Rattle.s2ix_bag_pairs.specs.declared.pair.Held.{Held}
use Rattle.s2ix_table_walk.specs.Meeting.{meeting_from}
use Rattle.s2ix_table_walk.specs.Places.{from_place, LeadsTo}
use Rattle.s2ix_table_walk.specs.Table.{Range, range_at, leaf_end, IsRangeTable, IsFound}
use Rattle.s2ix_table_walk.specs.Shown.{Shown}
use Rattle.s2ix_table_walk.specs.Walking.{left_of, left_with, ArePassed, IsKnown, IsWalk, front_from}
use Rattle.s2ix_table_walk.specs.declared.walk_state.WalkState.{WalkState}
use Rattle.s2ix_table_walk.proofs.Over.{IsOver, in_contents, contents_has}
use Rattle.s2ix_table_walk.proofs.Tables.{places_fit, limits_rise}
use Rattle.s2ix_table_walk.proofs.Meetings.{IsStep, step_meets, front_here, front_stops}

-- ---- the cells of the target

-- if all cells are passed, no leaf of the target is left
pub passed_all : (target : List CellId) (k seen : ℕ) → ArePassed target k seen → length target ≤ k → (q : ℕ) → Covers target q → q < seen
passed_all target k seen passed le q v =
    let j = v.held.0 in
    let within = v.held.1 in
    let to = v.to in
    let p = passed j v.cell (omega arith) within in
    let e = ap (λ (y : CellId). end_of y) v.held.2 in
    omega arith

-- no leaf of the target lies between the passed cells and the next
pub gap_from : (target : List CellId) (k seen : ℕ) (x : CellId) → FollowOneAnother target → ArePassed target k seen → k < length target
    → x ≡ get_or target k x → (q : ℕ) → Covers target q → seen ≤ q → first_of x ≤ q
gap_from target k seen x follow passed lt is q v le =
    let j = v.held.0 in
    let within = v.held.1 in
    let from = v.from in
    let to = v.to in
    let first = ap (λ (y : CellId). first_of y) v.held.2 in
    let end = ap (λ (y : CellId). end_of y) v.held.2 in
    elim (cases_order j k) [
      | inl same ↦
          (let e = ap (λ (y : CellId). first_of y) (is ∙ get_or_default target k x v.cell lt) in
          let f = ap (λ i. first_of (get_or target i v.cell)) same in
          omega arith)
      | inr other ↦
          elim other [
            | inl less ↦ absurd (let p = passed j v.cell less within in omega arith)
            | inr more ↦
                (let c = follow k j v.cell more within in
                let e = ap (λ (y : CellId). end_of y) (is ∙ get_or_default target k x v.cell lt) in
                let s = span (raw_of x) x.valid in
                let s1 = s.from in
                let s2 = s.to in
                omega arith)
          ]
    ]

-- ---- the bounds of a range

-- a range ends at a leaf number
pub limit_bounds : (hs : Collection) (ranges : List Range) → IsRangeTable hs ranges → (k : ℕ) → k < length ranges
    → ((range_at ranges k).limit % 2 ≡ 1) × ((range_at ranges k).limit ≤ leaf_end)
limit_bounds hs ranges t k lt =
    let n = length ranges - 1 in
    let last = t.last n (omega arith) in
    let le = limits_rise hs 1 leaf_end ranges t k n (omega arith) (omega arith) in (
      elim (cases_lt (k + 1) (length ranges)) [
        | inl more ↦ let next = t.next k (k + 1) refl more in let odd = t.odd (k + 1) more in omega arith
        | inr end ↦ let e = t.last k (omega arith) in omega arith
      ],
      omega arith,
    )

pub range_fits : (hs : Collection) (ranges : List Range) → IsRangeTable hs ranges → (k : ℕ) → k < length ranges → k + 1 < 2 ^ 64
range_fits hs ranges t k lt =
    let fit = places_fit hs 1 leaf_end ranges t k lt in
    let rises = t.rises k lt in
    let bounds = (limit_bounds hs ranges t k lt).1 in
    omega arith

-- a range ends before any after it begins
pub ranges_follow : (hs : Collection) (ranges : List Range) → IsRangeTable hs ranges → (i j : ℕ) → i < j → j < length ranges
    → (range_at ranges i).limit ≤ (range_at ranges j).start
ranges_follow hs ranges t i j less lt =
    let rises = limits_rise hs 1 leaf_end ranges t i (j - 1) (omega arith) (omega arith) in
    let next = t.next (j - 1) j (omega arith) lt in
    omega arith

-- the next range has the leaf at which one ends
pub found_next : (hs : Collection) (ranges : List Range) → IsRangeTable hs ranges → (k limit : ℕ) → k < length ranges
    → limit ≡ (range_at ranges k).limit → limit < leaf_end → IsFound ranges (k + 1) limit
found_next hs ranges t k limit lt is less =
    let more : k + 1 < length ranges =
    elim (cases_lt (k + 1) (length ranges)) [ inl more ↦ more | inr end ↦ absurd (let e = t.last k (omega arith) in omega arith) ] in
    let next = t.next k (k + 1) refl more in
    let rises = t.rises (k + 1) more in
    record { within = more; start = omega arith; limit = omega arith }

-- ---- one range

stays_in : (hs : Collection) (ranges : List Range) → IsRangeTable hs ranges → (k at : ℕ) → IsFound ranges k at → at % 2 ≡ 1
    → (h : Held) (q : ℕ) → Contains hs h → q % 2 ≡ 1 → at ≤ q → q < (range_at ranges k).limit → IsOver h q → IsOver h at
stays_in hs ranges t k at found odd h q held odd_q from to over =
    let start = found.start in
    let same = t.shared k q found.within odd_q (omega arith) to ∙ sym (t.shared k at found.within odd start found.limit) in
    (in_contents at hs h (subst (λ cs. Contains cs h) same (contents_has q hs h held over))).1

-- what is known of a walk that has passed to a cell of the target and the range with its first leaf that is left
pub record IsAt (target : List CellId) (hs : Collection) (ranges : List Range) (k seen range : ℕ) (x : CellId) : Type 0 where
  pub follow : FollowOneAnother target
  pub table : IsRangeTable hs ranges
  pub odd : seen % 2 ≡ 1
  pub tight : (q : ℕ) → 1 ≤ q → q + 2 ≡ seen → Covers target q
  pub passed : ArePassed target k seen
  pub within : k < length target
  pub is : x ≡ get_or target k x
  pub beyond : seen < end_of x
  pub found : IsFound ranges range (max seen (first_of x))

-- the last cell of the target, from the k-th on, that begins before the limit of a range
pub record IsBegun (target : List CellId) (k limit last : ℕ) (y : CellId) : Type 0 where
  pub from : k ≤ last
  pub within : last < length target
  pub is : y ≡ get_or target last y
  pub begins : first_of y < limit
  pub after : (d : CellId) → last + 1 < length target → limit ≤ first_of (get_or target (last + 1) d)

-- cells of a target that are not the same follow one another
pub begun_after : (target : List CellId) (k limit last : ℕ) (x y : CellId) → FollowOneAnother target → x ≡ get_or target k x
    → IsBegun target k limit last y → (end_of x ≤ first_of y) ⊎ (end_of x ≡ end_of y)
begun_after target k limit last x y follow is b =
    let w = b.within in
    let f = b.from in
    let z = ap (λ (c : CellId). first_of c) b.is in
    elim (cases_lt k last) [
      | inl less ↦
          (let c = follow k last y less w in
          let e = ap (λ (c : CellId). end_of c) (is ∙ get_or_default target k x y (omega arith)) in
          inl (omega arith))
      | inr ge ↦
          (let same : k ≡ last = omega arith in
          let e = ap (λ (c : CellId). end_of c) (is ∙ get_or_default target k x y (omega arith)) in
          let g = ap (λ i. end_of (get_or target i y)) same in
          let h = ap (λ (c : CellId). end_of c) b.is in
          inr (omega arith))
    ]

-- after such a cell the target has no leaf before that limit
after_last : (target : List CellId) (k limit last : ℕ) (y : CellId) → FollowOneAnother target → IsBegun target k limit last y → (q : ℕ)
    → Covers target q → end_of y ≤ q → limit ≤ q
after_last target k limit last y follow b q v le =
    let j = v.held.0 in
    let within = v.held.1 in
    let from = v.from in
    let to = v.to in
    let first = ap (λ (c : CellId). first_of c) v.held.2 in
    let end = ap (λ (c : CellId). end_of c) v.held.2 in
    let w = b.within in
    let e = ap (λ (c : CellId). end_of c) (b.is ∙ get_or_default target last y v.cell w) in
    let z = ap (λ (c : CellId). first_of c) (b.is ∙ get_or_default target last y v.cell w) in
    let s = span (raw_of y) y.valid in
    let s1 = s.from in
    let s2 = s.to in
    elim (cases_order j last) [
      | inl same ↦ absurd (let f = ap (λ i. end_of (get_or target i v.cell)) same in omega arith)
      | inr other ↦
          elim other [
            | inl less ↦ absurd (let f = follow j last v.cell less w in omega arith)
            | inr more ↦
                (let next : CellId = get_or target (last + 1) v.cell in
                let l = b.after v.cell (omega arith) in
                let n = span (raw_of next) next.valid in
                let n1 = n.from in
                let n2 = n.to in
                elim (cases_lt (last + 1) j) [
                  | inl beyond ↦ let f = follow (last + 1) j v.cell beyond within in omega arith
                  | inr here ↦ let same : last + 1 ≡ j = omega arith in let f = ap (λ i. first_of (get_or target i v.cell)) same in
                      omega arith
                ])
          ]
    ]

-- a range with a leaf after another range begins after it
after_range : (hs : Collection) (ranges : List Range) → IsRangeTable hs ranges → (k i q : ℕ) → k < length ranges
    → (range_at ranges k).limit ≤ q → IsFound ranges i q → (range_at ranges k).limit ≤ (range_at ranges i).start
after_range hs ranges t k i q within le found =
    let w = found.within in
    let a = found.start in
    let b = found.limit in
    let r = t.rises k within in
    elim (cases_order i k) [
      | inl same ↦ absurd (let f = ap (λ j. (range_at ranges j).limit) same in omega arith)
      | inr other ↦
          elim other [
            | inl less ↦ absurd (let f = ranges_follow hs ranges t i k less within in omega arith)
            | inr more ↦ ranges_follow hs ranges t k i more w
          ]
    ]

-- where a walk goes on after a range: at the next one, or where the cell ends before that
abbrev pub GoesOn : ℕ → ℕ → ℕ → ℕ × ℕ → Type 0
GoesOn range limit end to = ((limit ≤ end) × (to ≡ (range + 1, limit))) ⊎ ((end < limit) × (to ≡ (range, end)))

-- a walk goes on after a range, with the chain of that range at hand
pub record IsPast {P : Type 0} (shown : Shown P) (target : List CellId) (walk : WalkState P) : Type 0 where
  pub left : meeting_from target walk.from shown.pairs ≡ left_with shown target walk
  pub next : IsWalk shown target walk

pub walk_past : {P : Type 0} (shown : Shown P) (target : List CellId) (k range limit end : ℕ) (x y : CellId) (walk : WalkState P)
    → IsAt target shown.pairs shown.ranges k walk.from range x → IsBegun target k limit walk.cell y
    → LeadsTo shown.chain walk.place (range_at shown.ranges range).contents → limit ≡ (range_at shown.ranges range).limit → end ≡ end_of y
    → IsKnown shown walk.known → GoesOn range limit end (walk.range, walk.seen) → IsPast shown target walk
walk_past {P} shown target k range limit end x y walk a begun leads is_limit is_end known on =
    let hs = shown.pairs in
    let ranges = shown.ranges in
    let r = span (raw_of y) y.valid in
    let r1 = r.odd in
    let r2 = r.from in
    let r3 = r.to in
    let r4 = r.ends in
    let r5 = r.odd_end in
    let u = begun.begins in
    let ends : end_of x ≤ end_of y =
    elim (begun_after target k limit walk.cell x y a.follow a.is begun) [ inl le ↦ omega arith | inr e ↦ omega arith ] in
    let s = span (raw_of x) x.valid in
    let s1 = s.odd in
    let s2 = s.from in
    let s3 = s.to in
    let s4 = s.ends in
    let s5 = s.odd_end in
    let o = a.odd in
    let b = a.beyond in
    let seen : ℕ = walk.from in
    let next : ℕ = walk.seen in
    let at : ℕ = max seen (first_of x) in
    let f1 = a.found.start in
    let f2 = a.found.limit in
    let bounds = limit_bounds hs ranges a.table range a.found.within in
    let l1 = bounds.0 in
    let l2 = bounds.1 in
    let is : next ≡ min limit end =
    elim on [ inl i ↦ omega (arith, i.0, ap (λ to. to.1) i.1) | inr i ↦ omega (arith, i.0, ap (λ to. to.1) i.1) ] in
    let odd_at : at % 2 ≡ 1 = elim (cases_lt seen (first_of x)) [ inl lt ↦ omega arith | inr ge ↦ omega arith ] in
    let odd_next : next % 2 ≡ 1 = elim (cases_lt limit end) [ inl lt ↦ omega arith | inr ge ↦ omega arith ] in
    let after : at < next = omega arith in
    let covers : (q : ℕ) → first_of x ≤ q → q < end_of x → Covers target q = λ q from to.
    record { cell = x; held = (k, a.within, sym a.is); from = from; to = to } in
    let covers_last : (q : ℕ) → first_of y ≤ q → q < end_of y → Covers target q = λ q from to.
    record { cell = y; held = (walk.cell, begun.within, sym begun.is); from = from; to = to } in
    let step : IsStep target hs seen at next = record {
      odd = o;
      reached = omega arith;
      after = after;
      on_curve = omega arith;
      here = covers at (omega arith) (omega arith);
      gap = λ q v le. let g = gap_from target k seen x a.follow a.passed a.within a.is q v le in omega arith;
      tight = a.tight;
      stays = λ h q held odd_q from to over. stays_in hs ranges a.table range at a.found odd_at h q held odd_q from (omega arith) over;
    } in
    let At : ℕ × ℕ → Type 0 = λ to. IsFound ranges to.0 to.1 in
    let contents = a.table.shared range at a.found.within odd_at f1 f2 in
    record {
      left =
          step_meets target hs seen at next step
          ∙ ap (λ cs. front_from seen cs ++ meeting_from target next hs) (contents ∙ sym leads.pairs_are);
      next = record {
        odd = odd_next;
        within = omega arith;
        tight = λ q some e. test_from_covers target q (covers_last q (omega arith) (omega arith));
        passed = λ j d less within.
            let c = a.follow j walk.cell d less begun.within in
            let e = ap (λ (c : CellId). first_of c) (begun.is ∙ get_or_default target walk.cell y d begun.within) in
            omega arith;
        found = λ lt. elim on [
          | inl i ↦
              subst At (sym i.1) (found_next hs ranges a.table range limit a.found.within is_limit (omega (arith, ap (λ to. to.1) i.1)))
          | inr i ↦ subst At (sym i.1) (record { within = a.found.within; start = omega arith; limit = omega (arith, i.0) })
        ];
        place = leads.place;
        known = known;
        fresh = λ i q v le found.
            let late : limit ≤ q = elim on [
              | inl o ↦ omega (arith, ap (λ to. to.1) o.1)
              | inr o ↦ after_last target k limit walk.cell y a.follow begun q v (omega (arith, ap (λ to. to.1) o.1))
            ] in
            let f = after_range hs ranges a.table range i q a.found.within (omega arith) found in
            omega arith;
      };
    }

-- ---- the chain at hand

-- a walk that goes on to where the pair given last leads
pub record IsOpened {P : Type 0} (shown : Shown P) (target : List CellId) (walk next : WalkState P) : Type 0 where
  pub walks : IsWalk shown target next
  pub left : left_with shown target next ≡ left_of shown target walk

pub walk_opened : {P : Type 0} (shown : Shown P) (target : List CellId) (walk : WalkState P) (outer : Option P) → IsWalk shown target walk
    → LeadsTo shown.chain outer (drop 1 (from_place shown.chain walk.place))
    → IsOpened shown target walk
    (record { cell = walk.cell; range = walk.range; seen = walk.seen; from = walk.from; place = outer; known = walk.known })
walk_opened {P} shown target walk outer w leads =
    record {
      walks = record {
        odd = w.odd;
        within = w.within;
        tight = w.tight;
        passed = w.passed;
        found = w.found;
        place = leads.place;
        fresh = w.fresh;
        known = w.known;
      };
      left = ap (λ (cs : Collection). front_from walk.from cs ++ meeting_from target walk.seen shown.pairs) leads.pairs_are;
    }

-- a walk that leaves the chain at hand
pub walk_closed : {P : Type 0} (shown : Shown P) (target : List CellId) (walk : WalkState P) → IsWalk shown target walk
    → IsWalk shown target
    (record { cell = walk.cell; range = walk.range; seen = walk.seen; from = walk.from; place = None; known = walk.known })
walk_closed shown target walk w =
    record {
      odd = w.odd;
      within = w.within;
      tight = w.tight;
      passed = w.passed;
      found = w.found;
      place = λ p e. absurd (cc);
      fresh = w.fresh;
      known = w.known;
    }

pub new_none : {P : Type 0} (chain : P → Collection) (from : ℕ) (place : Option P) → place ≡ None
    → front_from from (from_place chain place) ≡ []
unfolding front_from
new_none {P} chain from place e = ap (λ (o : Option P). front_from from (from_place chain o)) e

pub new_stop : {P : Type 0} (chain : P → Collection) (from : ℕ) (place : Option P) (p : P) (h : Held) (rest : Collection) → place ≡ Some p
    → chain p ≡ h ∷ rest → first_of h.pair.cell < from → front_from from (from_place chain place) ≡ []
new_stop {P} chain from place p h rest e is early =
    ap (λ (o : Option P). front_from from (from_place chain o)) e ∙ ap (front_from from) is ∙ front_stops from h rest early

pub new_more : {P : Type 0} (chain : P → Collection) (from : ℕ) (place : Option P) (p : P) (h : Held) (rest : Collection) → place ≡ Some p
    → chain p ≡ h ∷ rest → from ≤ first_of h.pair.cell
    → front_from from (from_place chain place) ≡ h ∷ front_from from (drop 1 (from_place chain place))
new_more {P} chain from place p h rest e is late =
    let all : from_place chain place ≡ h ∷ rest = ap (λ (o : Option P). from_place chain o) e ∙ is in
    ap (front_from from) all ∙ front_here from h rest late ∙ ap (λ (cs : Collection). h ∷ front_from from cs) (sym (ap (drop 1) all))
