-- The meeting list, range by range.
use Rattle.std.proofs.Common.{◌≡◌, ℕ, ◌+◌, ◌-◌, ◌*◌, ◌%◌, ◌<◌, ◌≤◌, ◌⊎◌, inl, inr, true, false, cond, leb, ltb, List, [], ◌∷◌, ◌++◌, refl, sym, ◌∙◌, ap, arith, Contains, subst, lt-ltb, le-ltb, le-leb}
use Rattle.std.specs.List.{AllByRecursion}
use Rattle.std.proofs.lemmas.Bool.{and_parts, and_from, and_left, and_right, leb-true, lt-leb, cases_lt, cases_Bool, cond-true, cond-false, both_ways}
use Rattle.std.proofs.lemmas.Bool.Decides.{nat_tests}
use Rattle.s2id_core.specs.declared.cell_id.CellId.{CellId}
use Rattle.s2id_core.specs.CellId.{first_of}
use Rattle.s2id_union.specs.Covers.{Covers}
use Rattle.s2id_core.proofs.Lists.{at_head, in_tail}
use Rattle.s2ix_bag_pairs.specs.declared.pair.Held.{Held}
use Rattle.s2ix_bag_pairs.specs.Collection.{Collection}
use Rattle.s2ix_table_walk.specs.InOrder.{insertion, choice}
use Rattle.s2ix_table_walk.specs.Contents.{covers, depth_key, contents_at}
use Rattle.s2ix_table_walk.specs.Table.{leaf_end}
use Rattle.s2ix_table_walk.specs.Meeting.{first_shared, meeting_key, is_met_from, meeting_from}
use Rattle.s2ix_table_walk.specs.Walking.{front_from}
use Rattle.s2ix_table_walk.proofs.InOrder.{insertion_before_all, every_choice, every_weaker, choice_in, choice_out, choice_none}
use Rattle.s2ix_table_walk.proofs.Over.{IsOver, span_of, over-true, covers-from, every_content, contents_in, contents_out, nested_over, depth_bound}
use Rattle.s2ix_table_walk.proofs.FirstShared.{shared_le, shared_is}

-- ---- the front of a chain

pub front_here : (from : ℕ) (h : Held) (hs : Collection) → from ≤ first_of h.pair.cell → front_from from (h ∷ hs) ≡ h ∷ front_from from hs
unfolding front_from
front_here from h hs le = cond-true _ _ _ (le-leb _ _ le)

pub front_stops : (from : ℕ) (h : Held) (hs : Collection) → first_of h.pair.cell < from → front_from from (h ∷ hs) ≡ []
unfolding front_from
front_stops from h hs lt = cond-false _ _ _ (lt-leb _ _ lt)

pub every_front : (P : Held → Type 0) (from : ℕ) (hs : Collection) → AllByRecursion (λ a. from ≤ first_of a.pair.cell → P a) hs
    → AllByRecursion P (front_from from hs)
unfolding front_from
every_front P from [] all = tt
every_front P from (h ∷ hs) all =
    elim (cases_lt (first_of h.pair.cell) from) [
      | inl lt ↦ subst (AllByRecursion P) (sym (front_stops from h hs lt)) tt
      | inr le ↦ subst (AllByRecursion P) (sym (front_here from h hs le)) (all.0 le, every_front P from hs all.1)
    ]

before : (x y : Held) (ys : Collection) → depth_key x < depth_key y → insertion depth_key x (y ∷ ys) ≡ x ∷ y ∷ ys
unfolding insertion
before x y ys lt = cond-true _ _ _ (lt-ltb _ _ lt)

beyond : (x y : Held) (ys : Collection) → depth_key y ≤ depth_key x → insertion depth_key x (y ∷ ys) ≡ y ∷ insertion depth_key x ys
unfolding insertion
beyond x y ys le = cond-false _ _ _ (le-ltb _ _ le)

-- a pair that begins late enough goes into the front
front_new : (q from : ℕ) (h : Held) (hs : Collection) → IsOver h q → from ≤ first_of h.pair.cell → AllByRecursion (λ a. IsOver a q) hs
    → front_from from (insertion depth_key h hs) ≡ insertion depth_key h (front_from from hs)
unfolding front_from insertion
front_new q from h [] over le all = front_here from h [] le
front_new q from h (y ∷ ys) over le all =
    elim (cases_lt (depth_key h) (depth_key y)) [
      | inl lt ↦
          elim (cases_lt (first_of y.pair.cell) from) [
            | inl early ↦
                ap (front_from from) (before h y ys lt) ∙ front_here from h (y ∷ ys) le ∙ ap (λ zs. h ∷ zs) (front_stops from y ys early)
                ∙ ap (insertion depth_key h) (sym (front_stops from y ys early))
            | inr late ↦
                ap (front_from from) (before h y ys lt) ∙ front_here from h (y ∷ ys) le ∙ ap (λ zs. h ∷ zs) (front_here from y ys late)
                ∙ sym (before h y (front_from from ys) lt) ∙ ap (insertion depth_key h) (sym (front_here from y ys late))
          ]
      | inr ge ↦
          (let order = (nested_over q y h all.0 over ge).from in
          let late : from ≤ first_of y.pair.cell = omega arith in
          ap (front_from from) (beyond h y ys ge) ∙ front_here from y (insertion depth_key h ys) late
          ∙ ap (λ zs. y ∷ zs) (front_new q from h ys over le all.1) ∙ sym (beyond h y (front_from from ys) ge)
          ∙ ap (insertion depth_key h) (sym (front_here from y ys late)))
    ]

-- one that begins before changes nothing
front_old : (q from : ℕ) (h : Held) (hs : Collection) → IsOver h q → first_of h.pair.cell < from → AllByRecursion (λ a. IsOver a q) hs
    → front_from from (insertion depth_key h hs) ≡ front_from from hs
unfolding front_from insertion
front_old q from h [] over early all = front_stops from h [] early
front_old q from h (y ∷ ys) over early all =
    elim (cases_lt (depth_key h) (depth_key y)) [
      | inl lt ↦
          (let order = (nested_over q h y over all.0 (omega arith)).from in
          let too : first_of y.pair.cell < from = omega arith in
          ap (front_from from) (before h y ys lt) ∙ front_stops from h (y ∷ ys) early ∙ sym (front_stops from y ys too))
      | inr ge ↦
          elim (cases_lt (first_of y.pair.cell) from) [
            | inl too ↦
                ap (front_from from) (beyond h y ys ge) ∙ front_stops from y (insertion depth_key h ys) too
                ∙ sym (front_stops from y ys too)
            | inr late ↦
                ap (front_from from) (beyond h y ys ge) ∙ front_here from y (insertion depth_key h ys) late
                ∙ ap (λ zs. y ∷ zs) (front_old q from h ys over early all.1) ∙ sym (front_here from y ys late)
          ]
    ]

-- ---- one pair more in a list of two parts

insertion_left : (key depth : Held → ℕ) (x : Held) (xs ys : Collection)
    → AllByRecursion (λ a. ltb (key x) (key a) ≡ ltb (depth x) (depth a)) xs → AllByRecursion (λ b. key x < key b) ys
    → insertion key x (xs ++ ys) ≡ insertion depth x xs ++ ys
unfolding insertion
insertion_left key depth x [] ys same later = insertion_before_all key x ys later
insertion_left key depth x (a ∷ xs) ys same later =
    let rest = insertion_left key depth x xs ys same.1 later in
    ap (λ b. cond b (x ∷ a ∷ (xs ++ ys)) (a ∷ insertion key x (xs ++ ys))) same.0
    ∙ elim (ltb (depth x) (depth a)) as (λ b.
    cond b (x ∷ a ∷ (xs ++ ys)) (a ∷ insertion key x (xs ++ ys)) ≡ cond b (x ∷ a ∷ xs) (a ∷ insertion depth x xs) ++ ys) [
      | true ↦ refl
      | false ↦ ap (λ zs. a ∷ zs) rest
    ]

insertion_right : (key : Held → ℕ) (x : Held) (xs ys : Collection) → AllByRecursion (λ a. key a ≤ key x) xs
    → insertion key x (xs ++ ys) ≡ xs ++ insertion key x ys
unfolding insertion
insertion_right key x [] ys all = refl
insertion_right key x (a ∷ xs) ys all =
    cond-false _ _ _ (le-ltb _ _ all.0) ∙ ap (λ zs. a ∷ zs) (insertion_right key x xs ys all.1)

-- ---- a range that is met

-- leaves of the target at which the walk stands: it has seen all before `seen`, and goes over those from `at` up to `next`
pub record IsStep (target : List CellId) (held : Collection) (seen at next : ℕ) : Type 0 where
  pub odd : seen % 2 ≡ 1
  pub reached : seen ≤ at
  pub after : at < next
  pub on_curve : at < leaf_end
  pub here : Covers target at
  pub gap : (q : ℕ) → Covers target q → seen ≤ q → at ≤ q
  pub tight : (q : ℕ) → 1 ≤ q → q + 2 ≡ seen → Covers target q
  pub stays : (h : Held) (q : ℕ) → Contains held h → q % 2 ≡ 1 → at ≤ q → q < next → IsOver h q → IsOver h at

-- first met here
pub record IsNew (target : List CellId) (seen at : ℕ) (h : Held) : Type 0 where
  pub over : IsOver h at
  pub begins : seen ≤ first_of h.pair.cell
  pub met : first_shared target h.pair.cell ≡ at

-- first met later
pub record IsLater (target : List CellId) (at next : ℕ) (h : Held) : Type 0 where
  pub off : covers at h ≡ false
  pub met : next ≤ first_shared target h.pair.cell
  pub on_curve : first_shared target h.pair.cell < leaf_end

-- met before, or never
pub record IsDone (target : List CellId) (seen at next : ℕ) (h : Held) : Type 0 where
  pub early : IsOver h at → first_of h.pair.cell < seen
  pub not_seen : is_met_from target seen h ≡ false
  pub not_next : is_met_from target next h ≡ false

abbrev pub IsKind : List CellId → ℕ → ℕ → ℕ → Held → Type 0
IsKind target seen at next h = IsNew target seen at h ⊎ (IsLater target at next h ⊎ IsDone target seen at next h)

met_before : (target : List CellId) (from : ℕ) (h : Held) → first_shared target h.pair.cell < from → is_met_from target from h ≡ false
met_before target from h lt = and_left _ _ (lt-leb _ _ lt)

met_never : (target : List CellId) (from : ℕ) (h : Held) → leaf_end ≤ first_shared target h.pair.cell → is_met_from target from h ≡ false
met_never target from h le = and_right _ _ (le-ltb _ _ le)

pub met_from : (target : List CellId) (from : ℕ) (h : Held) → from ≤ first_shared target h.pair.cell
    → first_shared target h.pair.cell < leaf_end → is_met_from target from h ≡ true
met_from target from h le lt = and_from _ _ (le-leb _ _ le) (lt-ltb _ _ lt)

kind_over : (target : List CellId) (held : Collection) (seen at next : ℕ) (h : Held) → IsStep target held seen at next → IsOver h at
    → IsKind target seen at next h
kind_over target held seen at next h step over =
    let from = over.from in
    let to = over.to in
    let a = step.reached in
    let b = step.after in
    let c = step.on_curve in
    let le = shared_le target h.pair.cell at step.here from to in
    elim (cases_lt (first_of h.pair.cell) seen) [
      | inr late ↦
          (let s = shared_is target h.pair.cell (omega arith) in
          let f = s.from in
          let g = step.gap (first_shared target h.pair.cell) s.covered (omega arith) in
          inl (record { over = over; begins = late; met = omega arith }))
      | inl early ↦
          (let p = span_of h in
          let p1 = p.begins in
          let p2 = p.odd in
          let o = step.odd in
          let q : ℕ = seen - 2 in
          let two : q + 2 ≡ seen = omega arith in
          let l = shared_le target h.pair.cell q (step.tight q (omega arith) two) (omega arith) (omega arith) in
          inr (inr (record {
            early = λ _. early;
            not_seen = met_before target seen h (omega arith);
            not_next = met_before target next h (omega arith);
          })))
    ]

kind_off : (target : List CellId) (held : Collection) (seen at next : ℕ) (h : Held) → IsStep target held seen at next → Contains held h
    → covers at h ≡ false → IsKind target seen at next h
kind_off target held seen at next h step in_held off =
    let a = step.reached in
    let b = step.after in
    let no : IsOver h at → ⊥ = λ over. both_ways (covers at h) off (covers-from at h over) in
    let early : IsOver h at → first_of h.pair.cell < seen = λ over. absurd (no over) in
    elim (cases_lt (first_shared target h.pair.cell) leaf_end) [
      | inr never ↦
          inr (inr (record { early = early; not_seen = met_never target seen h never; not_next = met_never target next h never }))
      | inl on ↦
          (let s = shared_is target h.pair.cell on in
          elim (cases_lt (first_shared target h.pair.cell) seen) [
            | inl lt ↦
                inr (inr (record {
                  early = early;
                  not_seen = met_before target seen h lt;
                  not_next = met_before target next h (omega arith);
                }))
            | inr ge ↦
                (let g = step.gap (first_shared target h.pair.cell) s.covered ge in
                elim (cases_lt (first_shared target h.pair.cell) next) [
                  | inl within ↦
                      absurd (no
                      (step.stays h (first_shared target h.pair.cell) in_held s.odd g within (record { from = s.from; to = s.to })))
                  | inr later ↦ inr (inl (record { off = off; met = later; on_curve = on }))
                ])
          ])
    ]

kind_of : (target : List CellId) (held : Collection) (seen at next : ℕ) (h : Held) → IsStep target held seen at next → Contains held h
    → IsKind target seen at next h
kind_of target held seen at next h step in_held =
    elim (cases_Bool (covers at h)) [
      | inl t ↦ kind_over target held seen at next h step (over-true at h t)
      | inr f ↦ kind_off target held seen at next h step in_held f
    ]

-- ---- the meeting list with one pair more

meeting_in : (target : List CellId) (from : ℕ) (h : Held) (hs : Collection) → is_met_from target from h ≡ true
    → meeting_from target from (h ∷ hs) ≡ insertion (meeting_key target) h (meeting_from target from hs)
unfolding meeting_from
meeting_in target from h hs t = choice_in (is_met_from target from) (meeting_key target) h hs t

meeting_out : (target : List CellId) (from : ℕ) (h : Held) (hs : Collection) → is_met_from target from h ≡ false
    → meeting_from target from (h ∷ hs) ≡ meeting_from target from hs
unfolding meeting_from
meeting_out target from h hs t = choice_out (is_met_from target from) (meeting_key target) h hs t

-- what the two parts have

new_part : (target : List CellId) (seen at next : ℕ) (hs : Collection) → ((h : Held) → Contains hs h → IsKind target seen at next h)
    → AllByRecursion (λ a. first_shared target a.pair.cell ≡ at) (front_from seen (contents_at at hs))
new_part target seen at next hs kinds =
    every_front (λ a. first_shared target a.pair.cell ≡ at) seen (contents_at at hs)
    (every_content (λ a. seen ≤ first_of a.pair.cell → first_shared target a.pair.cell ≡ at) at hs (λ h held over late.
    elim (kinds h held) [
      | inl new ↦ new.met
      | inr other ↦
          elim other [
            | inl later ↦ absurd (both_ways (covers at h) later.off (covers-from at h over))
            | inr done ↦ absurd (let e = done.early over in omega arith)
          ]
    ]))

later_part : (target : List CellId) (next : ℕ) (hs : Collection)
    → AllByRecursion (λ b. next ≤ first_shared target b.pair.cell) (meeting_from target next hs)
unfolding meeting_from
later_part target next hs =
    every_choice (λ b. next ≤ first_shared target b.pair.cell) (is_met_from target next) (meeting_key target) hs (λ h held t.
    leb-true next (first_shared target h.pair.cell)
    (and_parts (leb next (first_shared target h.pair.cell)) (ltb (first_shared target h.pair.cell) leaf_end) t).0)

same_key_test : (target : List CellId) (x a : Held) → first_shared target x.pair.cell ≡ first_shared target a.pair.cell
    → ltb (meeting_key target x) (meeting_key target a) ≡ ltb (depth_key x) (depth_key a)
unfolding meeting_key
same_key_test target x a e = test (first_shared target x.pair.cell) (first_shared target a.pair.cell) (depth_key x) (depth_key a) e
  where
    test : (f g d e : ℕ) → f ≡ g → ltb (f * 68719476736 + d) (g * 68719476736 + e) ≡ ltb d e
    test f g d e same = grind (arith, nat_tests)

lower_key : (target : List CellId) (x a : Held) → first_shared target x.pair.cell < first_shared target a.pair.cell
    → meeting_key target x < meeting_key target a
unfolding meeting_key
lower_key target x a lt =
    let b = depth_bound x in below (first_shared target x.pair.cell) (first_shared target a.pair.cell) (depth_key x) (depth_key a) lt b
  where
    below : (f g d e : ℕ) → f < g → d < 68719476736 → f * 68719476736 + d < g * 68719476736 + e
    below f g d e lt b = omega arith

-- the meeting list from `seen` on: what is new here, and what comes later
pub met_here : (target : List CellId) (seen at next : ℕ) (hs : Collection) → at < leaf_end → seen ≤ at → at < next
    → ((h : Held) → Contains hs h → IsKind target seen at next h)
    → meeting_from target seen hs ≡ front_from seen (contents_at at hs) ++ meeting_from target next hs
unfolding meeting_from contents_at choice front_from
met_here target seen at next [] on reached after kinds = refl
met_here target seen at next (h ∷ hs) on reached after kinds =
    let rest = met_here target seen at next hs on reached after (λ x held. kinds x (in_tail h hs x held)) in
    let news = new_part target seen at next hs (λ x held. kinds x (in_tail h hs x held)) in
    let laters = later_part target next hs in
    let over = every_content (λ a. IsOver a at) at hs (λ a held o. o) in
    elim (kinds h (at_head h hs)) [
      | inl new ↦
          (let e = new.met in
          meeting_in target seen h hs (met_from target seen h (omega arith) (omega arith))
          ∙ ap (insertion (meeting_key target) h) rest
          ∙ insertion_left (meeting_key target) depth_key h (front_from seen (contents_at at hs)) (meeting_from target next hs)
          (every_weaker (λ a. first_shared target a.pair.cell ≡ at)
          (λ a. ltb (meeting_key target h) (meeting_key target a) ≡ ltb (depth_key h) (depth_key a))
          (λ a f. same_key_test target h a (e ∙ sym f)) (front_from seen (contents_at at hs)) news)
          (every_weaker (λ b. next ≤ first_shared target b.pair.cell) (λ b. meeting_key target h < meeting_key target b)
          (λ b f. lower_key target h b (omega arith)) (meeting_from target next hs) laters)
          ∙ ap (λ zs. zs ++ meeting_from target next hs)
          (sym (ap (front_from seen) (contents_in at h hs (covers-from at h new.over))
          ∙ front_new at seen h (contents_at at hs) new.over new.begins over))
          ∙ ap (λ zs. front_from seen (contents_at at (h ∷ hs)) ++ zs)
          (sym (meeting_out target next h hs (met_before target next h (omega arith)))))
      | inr other ↦
          elim other [
            | inl later ↦
                (let m = later.met in
                let c = later.on_curve in
                meeting_in target seen h hs (met_from target seen h (omega arith) c)
                ∙ ap (insertion (meeting_key target) h) rest
                ∙ insertion_right (meeting_key target) h (front_from seen (contents_at at hs)) (meeting_from target next hs)
                (every_weaker (λ a. first_shared target a.pair.cell ≡ at) (λ a. meeting_key target a ≤ meeting_key target h)
                (λ a f. let l = lower_key target a h (omega arith) in omega arith) (front_from seen (contents_at at hs)) news)
                ∙ ap (λ zs. front_from seen zs ++ insertion (meeting_key target) h (meeting_from target next hs))
                (sym (contents_out at h hs later.off))
                ∙ ap (λ zs. front_from seen (contents_at at (h ∷ hs)) ++ zs)
                (sym (meeting_in target next h hs (met_from target next h m c))))
            | inr done ↦
                meeting_out target seen h hs done.not_seen ∙ rest
                ∙ ap (λ zs. zs ++ meeting_from target next hs)
                (elim (cases_Bool (covers at h)) [
                  | inl t ↦
                      sym (ap (front_from seen) (contents_in at h hs t)
                      ∙ front_old at seen h (contents_at at hs) (over-true at h t) (done.early (over-true at h t)) over)
                  | inr f ↦ ap (front_from seen) (sym (contents_out at h hs f))
                ])
                ∙ ap (λ zs. front_from seen (contents_at at (h ∷ hs)) ++ zs) (sym (meeting_out target next h hs done.not_next))
          ]
    ]

pub step_meets : (target : List CellId) (held : Collection) (seen at next : ℕ) → IsStep target held seen at next
    → meeting_from target seen held ≡ front_from seen (contents_at at held) ++ meeting_from target next held
step_meets target held seen at next step =
    met_here target seen at next held step.on_curve step.reached step.after (λ h in_held. kind_of target held seen at next h step in_held)

-- if no leaf of the target is left, nothing more is met
pub none_meets : (target : List CellId) (held : Collection) (seen : ℕ) → ((q : ℕ) → Covers target q → q < seen)
    → meeting_from target seen held ≡ []
unfolding meeting_from
none_meets target held seen past =
    choice_none (is_met_from target seen) (meeting_key target) held (λ h.
    elim (cases_lt (first_shared target h.pair.cell) leaf_end) [
      | inl on ↦ met_before target seen h (past (first_shared target h.pair.cell) (shared_is target h.pair.cell on).covered)
      | inr never ↦ met_never target seen h never
    ])
