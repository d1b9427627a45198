-- A sweep on its way: what stands before and after each of its steps.
use Rattle.std.proofs.Common.{◌≡◌, ℕ, ◌+◌, ◌%◌, ◌<◌, ◌≤◌, ◌⊎◌, inl, inr, true, false, cond, ltb, Some, List, [], ◌∷◌, ◌++◌, length, map, slice_get, set, refl, sym, ◌∙◌, ap, arith, Contains, subst, lt-ltb, le-ltb}
use Rattle.std.proofs.lemmas.Option.{get_or_from_slice_get, slice_get-get_or, slice_get_within}
use Rattle.std.proofs.lemmas.Bool.{cases_lt, cases_eq, cases_order, cases_Bool, cond-true, cond-false}
use Rattle.std.proofs.lemmas.List.{map-append, length-set, get_or-set_same, get_or-set_other}
use Rattle.s2id_core.specs.CellId.{first_of, end_of}
use Rattle.s2id_core.proofs.Lists.{cons_cases, in_tail}
use Rattle.s2ix_bag_pairs.specs.Collection.{Collection, IsCollection}
use Rattle.s2ix_bag_pairs.specs.Pair.{rank_of}
use Rattle.s2ix_bag_pairs.specs.declared.pair.Held.{Held}
use Rattle.s2ix_bag_pairs.proofs.CutAtRank.{ranks_rise}
use Rattle.s2ix_table_walk.specs.Contents.{contents_at, depth_key}
use Rattle.s2ix_table_walk.specs.Bounds.{IsBound}
use Rattle.s2ix_table_walk.proofs.Over.{span_of}
use Rattle.s2ix_table_walk.proofs.Tables.{IsTable, IsRangeFrom, changes_at, table_push}
use Rattle.s2ix_table_spans.specs.Chains.{is_on_chain, chain_of, AreFirsts}
use Rattle.s2ix_table_spans.specs.Order.{sweep_key}
use Rattle.s2ix_table_spans.specs.Pass.{Progress, written}
use Rattle.s2ix_table_spans.specs.Starts.{ranges_from}
use Rattle.s2ix_table_spans.proofs.Chains.{on_at, outward-true, outward-from, outward_self, outward_ends, contents_are_chain, chain_cons, in_chain, chain_has}
use Rattle.s2ix_table_spans.proofs.Keys.{first_by_key, depth_by_key, depth_before, inner_nested, over_first, same_by_depth, same_by_key}
use Rattle.s2ix_table_spans.proofs.Ranges.{row_from, ranges_push}

pub contains_at : (held : Collection) (place : ℕ) (h : Held) → slice_get held place ≡ Some h → Contains held h
contains_at held place h is = (place, slice_get_within held place h is, get_or_from_slice_get held place h h is)

-- the cells that begin by a key of the sweep and end after a leaf are on the chain from a place, and no others
pub record IsOpen (held : Collection) (last at top : ℕ) : Type 0 where
  pub begun : (h : Held) → Contains held h → sweep_key h ≤ last → first_of h.pair.cell ≤ at
  pub still : (h : Held) → Contains held h → sweep_key h ≤ last → at < end_of h.pair.cell → is_on_chain held top h ≡ true
  pub known : (h : Held) → Contains held h → is_on_chain held top h ≡ true → sweep_key h ≤ last
  pub ends : (h : Held) → Contains held h → is_on_chain held top h ≡ true → at ≤ end_of h.pair.cell
  pub later : (h : Held) → Contains held h → last < sweep_key h → at ≤ first_of h.pair.cell

-- each place of a cell that has begun leads to the next one outwards
abbrev pub AreOuterTo : Collection → ℕ → List ℕ → Type 0
AreOuterTo held last outer =
    (place next : ℕ) (h : Held) → slice_get held place ≡ Some h → slice_get outer place ≡ Some next → sweep_key h ≤ last → chain_of held place ≡ h ∷ chain_of held next

pub record IsPassing (held : Collection) (from to last room : ℕ) (outer : List ℕ) (s : Progress) : Type 0 where
  pub open_cells : IsOpen held last s.at s.top
  pub outer_to : AreOuterTo held last outer
  pub begins : from ≤ s.at
  pub within : s.at ≤ to
  pub odd : s.at % 2 ≡ 1
  pub is_bound : from < s.at → s.at < to → IsBound held s.at
  pub table : IsTable held from (ranges_from held s.starts s.at) s.at
  pub firsts : AreFirsts held s.starts s.firsts
  pub rows : s.count + length (chain_of held s.top) ≤ room

-- a bound up to which nothing begins or ends
pub record CanReach (held : Collection) (to last : ℕ) (s : Progress) (bound : ℕ) : Type 0 where
  pub ahead : s.at ≤ bound
  pub within : bound ≤ to
  pub odd : bound % 2 ≡ 1
  pub is_bound : bound < to → IsBound held bound
  pub later : (h : Held) → Contains held h → last < sweep_key h → bound ≤ first_of h.pair.cell
  pub stays : (h : Held) → Contains held h → is_on_chain held s.top h ≡ true → bound ≤ end_of h.pair.cell

-- ---- a range is written

open_contents : (held : Collection) (to last : ℕ) (s : Progress) (bound q : ℕ) → IsOpen held last s.at s.top → CanReach held to last s bound
    → s.at ≤ q → q < bound → contents_at q held ≡ chain_of held s.top
open_contents held to last s bound q o reach from before =
    contents_are_chain held q s.top
    (λ h i over.
    elim (cases_lt last (sweep_key h)) [
      | inl lt ↦ absurd (let l = reach.later h i lt in let f = over.from in omega arith)
      | inr le ↦ (let e = over.to in o.still h i le (omega arith))
    ])
    (λ h i on.
    let b = o.begun h i (o.known h i on) in
    let e = reach.stays h i on in
    record { from = omega arith; to = omega arith })

abbrev written_more : ℕ → Progress → Progress
written_more bound s =
    record { count = s.count + 1; at = bound; top = s.top; starts = s.starts ++ s.at ∷ []; firsts = s.firsts ++ s.top ∷ [] }

pub written_at : (bound : ℕ) (s : Progress) → s.at ≤ bound → (written bound s).at ≡ bound
written_at bound s le =
    elim (cases_lt s.at bound) [
      | inl lt ↦ ap (λ (p : Progress). p.at) (cond-true (ltb s.at bound) (written_more bound s) s (lt-ltb s.at bound lt))
      | inr ge ↦ ap (λ (p : Progress). p.at) (cond-false (ltb s.at bound) (written_more bound s) s (le-ltb s.at bound ge)) ∙ (let e : s.at ≡ bound = omega arith in e)
    ]

pub written_top : (bound : ℕ) (s : Progress) → (written bound s).top ≡ s.top
written_top bound s =
    elim (ltb s.at bound) as (λ b. (cond b (written_more bound s) s).top ≡ s.top) [ true ↦ refl | false ↦ refl ]

passes_more : (held : Collection) (from to last room : ℕ) (outer : List ℕ) (s : Progress) (bound : ℕ)
    → IsPassing held from to last room outer s → CanReach held to last s bound → s.at < bound
    → IsPassing held from to last (room + 1) outer (written_more bound s)
passes_more held from to last room outer s bound p reach lt =
    let o = p.open_cells in
    let r1 = p.rows in
    let w = reach.within in
    let b = p.begins in
    let same : (q : ℕ) → s.at ≤ q → q < bound → contents_at q held ≡ chain_of held s.top = λ q. open_contents held to last s bound q o reach in
    let is_range : IsRangeFrom held s.at (row_from held s.at bound) = record {
      start = refl;
      odd = p.odd;
      rises = lt;
      shared = λ q odd le less. same q le less ∙ sym (same s.at (omega arith) lt);
    } in
    let pushed = table_push held from (ranges_from held s.starts s.at) s.at (row_from held s.at bound) p.table is_range
    (λ q le two. let odd = p.odd in changes_at held q s.at (omega arith) two (p.is_bound (omega arith) (omega arith))) in
    record {
      open_cells = record {
        begun = λ h i le. let f = o.begun h i le in omega arith;
        still = λ h i le e. o.still h i le (omega arith);
        known = o.known;
        ends = reach.stays;
        later = reach.later;
      };
      outer_to = p.outer_to;
      begins = omega arith;
      within = reach.within;
      odd = reach.odd;
      is_bound = λ _ less. reach.is_bound less;
      table = subst (λ rs. IsTable held from rs bound) (sym (ranges_push held s.starts s.at bound)) pushed;
      firsts = map-append (chain_of held) s.firsts (s.top ∷ [])
          ∙ ap (λ cs. cs ++ chain_of held s.top ∷ []) p.firsts
          ∙ ap (λ c. map (λ start. contents_at start held) s.starts ++ c ∷ []) (sym (same s.at (omega arith) lt))
          ∙ sym (map-append (λ start. contents_at start held) s.starts (s.at ∷ []));
      rows = omega arith;
    }

more_room : (held : Collection) (from to last room : ℕ) (outer : List ℕ) (s : Progress) → IsPassing held from to last room outer s
    → IsPassing held from to last (room + 1) outer s
more_room held from to last room outer s p = record {
  open_cells = p.open_cells;
  outer_to = p.outer_to;
  begins = p.begins;
  within = p.within;
  odd = p.odd;
  is_bound = p.is_bound;
  table = p.table;
  firsts = p.firsts;
  rows = let r = p.rows in omega arith;
}

pub written_passes : (held : Collection) (from to last room : ℕ) (outer : List ℕ) (s : Progress) (bound : ℕ)
    → IsPassing held from to last room outer s → CanReach held to last s bound
    → IsPassing held from to last (room + 1) outer (written bound s)
written_passes held from to last room outer s bound p reach =
    elim (cases_lt s.at bound) [
      | inl lt ↦
          subst (IsPassing held from to last (room + 1) outer) (sym (cond-true (ltb s.at bound) (written_more bound s) s (lt-ltb s.at bound lt))) (passes_more held from to last room outer s bound p reach lt)
      | inr ge ↦
          subst (IsPassing held from to last (room + 1) outer) (sym (cond-false (ltb s.at bound) (written_more bound s) s (le-ltb s.at bound ge))) (more_room held from to last room outer s p)
    ]

-- ---- a cell is taken off where it ends

abbrev pub with_top : ℕ → Progress → Progress
with_top top s = record { count = s.count; at = s.at; top = top; starts = s.starts; firsts = s.firsts }

pub popped_chain : (held : Collection) (from to last room : ℕ) (outer : List ℕ) (s : Progress) (x : Held) (next : ℕ)
    → IsPassing held from to last room outer s → slice_get held s.top ≡ Some x → slice_get outer s.top ≡ Some next → Contains held x
    → chain_of held s.top ≡ x ∷ chain_of held next
popped_chain held from to last room outer s x next p is leads is_held =
    p.outer_to s.top next x is leads (p.open_cells.known x is_held (on_at held s.top x x is ∙ outward-from x x (outward_self x)))

pub popped : (held : Collection) (from to last room : ℕ) (outer : List ℕ) (s : Progress) (x : Held) (next : ℕ)
    → IsPassing held from to last (room + 1) outer s → slice_get held s.top ≡ Some x → slice_get outer s.top ≡ Some next → Contains held x
    → s.at ≡ end_of x.pair.cell → IsPassing held from to last room outer (with_top next s)
popped held from to last room outer s x next p is leads is_held ends =
    let o = p.open_cells in
    let chain = popped_chain held from to last (room + 1) outer s x next p is leads is_held in
    let len = ap length chain in
    let r = p.rows in
    let before : (h : Held) → Contains held h → is_on_chain held next h ≡ true → is_on_chain held s.top h ≡ true = λ h i on.
    (in_chain held s.top h (subst (λ cs. Contains cs h) (sym chain) (in_tail x (chain_of held next) h (chain_has held next h i on)))).1 in
    record {
      open_cells = record {
        begun = o.begun;
        still = λ h i le less.
            elim (cons_cases x (chain_of held next) h (subst (λ cs. Contains cs h) chain (chain_has held s.top h i (o.still h i le less)))) [
              | inl e ↦ absurd (let f = ap (λ (y : Held). end_of y.pair.cell) e in omega arith)
              | inr there ↦ (in_chain held next h there).1
            ];
        known = λ h i on. o.known h i (before h i on);
        ends = λ h i on. o.ends h i (before h i on);
        later = o.later;
      };
      outer_to = p.outer_to;
      begins = p.begins;
      within = p.within;
      odd = p.odd;
      is_bound = p.is_bound;
      table = p.table;
      firsts = p.firsts;
      rows = omega arith;
    }

-- the bound of the innermost cell can be reached
pub can_pop : (held : Collection) (from to last room : ℕ) (outer : List ℕ) (s : Progress) (x : Held) (bound : ℕ)
    → IsPassing held from to last room outer s → slice_get held s.top ≡ Some x → Contains held x → end_of x.pair.cell ≤ bound → bound ≤ to
    → ((h : Held) → Contains held h → last < sweep_key h → bound ≤ first_of h.pair.cell) → CanReach held to last s (end_of x.pair.cell)
can_pop held from to last room outer s x bound p is is_held by within later =
    let o = p.open_cells in
    let on_x = on_at held s.top x x is ∙ outward-from x x (outward_self x) in
    record {
      ahead = o.ends x is_held on_x;
      within = omega arith;
      odd = (span_of x).odd_end;
      is_bound = λ _. (x, is_held, inr refl);
      later = λ h i lt. let l = later h i lt in omega arith;
      stays = λ h i on. outward_ends x h (outward-true x h (sym (on_at held s.top x h is) ∙ on));
    }

-- ---- a cell is put on where it begins

chain_put : (held : Collection) (from to last room p : ℕ) (x : Held) (outer : List ℕ) (s : Progress) → IsCollection held
    → IsPassing held from to last room outer s → slice_get held p ≡ Some x → Contains held x → last < sweep_key x
    → s.at ≡ first_of x.pair.cell → ((h : Held) → Contains held h → is_on_chain held s.top h ≡ true → s.at < end_of h.pair.cell)
    → ((h : Held) → Contains held h → last < sweep_key h → sweep_key x ≤ sweep_key h) → chain_of held p ≡ x ∷ chain_of held s.top
chain_put held from to last room p x outer s c passing is is_held new at_first ends next =
    let o = passing.open_cells in
    let above : (h : Held) → Contains held h → is_on_chain held s.top h ≡ true → depth_key x < depth_key h = λ h i on.
    (let before : sweep_key h < sweep_key x = let k = o.known h i on in omega arith in
    let e = ends h i on in
    let le = first_by_key h x (omega arith) in
    elim (cases_lt (first_of h.pair.cell) (first_of x.pair.cell)) [
      | inl lt ↦ (inner_nested h x lt (omega arith)).0
      | inr ge ↦ depth_before h x (let same : first_of h.pair.cell ≡ first_of x.pair.cell = omega arith in same) before
    ]) in
    chain_cons held p s.top x c is_held is
    (elim (cases_Bool (is_on_chain held s.top x)) [ inl t ↦ absurd (let k = o.known x is_held t in omega arith) | inr f ↦ f ])
    (λ h i on.
    let k = o.known h i on in
    let le = first_by_key h x (omega arith) in
    let e = ends h i on in
    let a = above h i on in
    record { over = record { from = le; to = omega arith }; depth = omega arith })
    (λ h i out.
    elim (cases_lt last (sweep_key h)) [
      | inl lt ↦
          (let le = first_by_key x h (next h i lt) in
          let ge = out.over.from in
          let same : first_of x.pair.cell ≡ first_of h.pair.cell = omega arith in
          let d = depth_by_key x h same (next h i lt) in
          let e = out.depth in
          inl (same_by_depth (first_of x.pair.cell) held h x c i is_held out.over (over_first x) (omega arith)))
      | inr le ↦ inr (let e = out.over.to in o.still h i le (omega arith))
    ]) above

-- a place in a collection has a pair of its own
pub same_place : (held : Collection) (i j : ℕ) (x : Held) → IsCollection held → slice_get held i ≡ Some x → slice_get held j ≡ Some x
    → i ≡ j
same_place held i j x c is_i is_j =
    let wi = slice_get_within held i x is_i in
    let wj = slice_get_within held j x is_j in
    let ri = ap (λ (y : Held). rank_of y.pair) (get_or_from_slice_get held i x x is_i) in
    let rj = ap (λ (y : Held). rank_of y.pair) (get_or_from_slice_get held j x x is_j) in
    elim (cases_order i j) [
      | inl e ↦ e
      | inr o ↦
          elim o [
            | inl lt ↦ absurd (let r = ranks_rise 0 held i j x c lt wj in omega arith)
            | inr gt ↦ absurd (let r = ranks_rise 0 held j i x c gt wi in omega arith)
          ]
    ]

pub put_on : (held : Collection) (from to last room p : ℕ) (x : Held) (outer : List ℕ) (s : Progress) → IsCollection held
    → IsPassing held from to last room outer s → slice_get held p ≡ Some x → Contains held x → last < sweep_key x
    → s.at ≡ first_of x.pair.cell → ((h : Held) → Contains held h → is_on_chain held s.top h ≡ true → s.at < end_of h.pair.cell)
    → ((h : Held) → Contains held h → last < sweep_key h → sweep_key x ≤ sweep_key h) → p < length outer
    → IsPassing held from to (sweep_key x) (room + 1) (set outer p s.top) (with_top p s)
put_on held from to last room p x outer s c passing is is_held new at_first ends next within =
    let o = passing.open_cells in
    let chain = chain_put held from to last room p x outer s c passing is is_held new at_first ends next in
    let len = ap length chain in
    let r = passing.rows in
    let known_or : (h : Held) → Contains held h → sweep_key h ≤ sweep_key x → (h ≡ x) ⊎ (sweep_key h ≤ last) = λ h i le.
    (elim (cases_lt last (sweep_key h)) [
      | inl lt ↦ inl (same_by_key held h x c i is_held (let g = next h i lt in omega arith))
      | inr ge ↦ inr ge
    ]) in
    let on_cases : (h : Held) → Contains held h → is_on_chain held p h ≡ true → (x ≡ h) ⊎ (is_on_chain held s.top h ≡ true) = λ h i on.
    (elim (cons_cases x (chain_of held s.top) h (subst (λ cs. Contains cs h) chain (chain_has held p h i on))) [
      | inl e ↦ inl e
      | inr there ↦ inr (in_chain held s.top h there).1
    ]) in
    record {
      open_cells = record {
        begun = λ h i le. let f = first_by_key h x le in omega arith;
        still = λ h i le less.
            elim (known_or h i le) [
              | inl e ↦ subst (λ (y : Held). is_on_chain held p y ≡ true) (sym e) (on_at held p x x is ∙ outward-from x x (outward_self x))
              | inr old ↦
                  (in_chain held p h (subst (λ cs. Contains cs h) (sym chain) (in_tail x (chain_of held s.top) h (chain_has held s.top h i (o.still h i old less))))).1
            ];
        known = λ h i on.
            elim (on_cases h i on) [
              | inl e ↦ (let f = ap sweep_key e in omega arith)
              | inr u ↦ (let k = o.known h i u in omega arith)
            ];
        ends = λ h i on.
            elim (on_cases h i on) [
              | inl e ↦ (let f = ap (λ (y : Held). end_of y.pair.cell) e in let l = (span_of x).rises in omega arith)
              | inr u ↦ o.ends h i u
            ];
        later = λ h i lt. o.later h i (omega arith);
      };
      outer_to = λ place leads h at_place at_outer le.
          elim (cases_eq place p) [
            | inl e ↦
                (let here : Some h ≡ Some x = sym at_place ∙ ap (slice_get held) e ∙ is in
                let same : h ≡ x = cc in
                let put : slice_get (set outer p s.top) place ≡ Some s.top = ap (slice_get (set outer p s.top)) e ∙ slice_get-get_or (set outer p s.top) p s.top (omega (arith, length-set outer p s.top)) ∙ ap (λ n. Some n) (get_or-set_same outer p s.top s.top within) in
                let there : Some leads ≡ Some s.top = sym at_outer ∙ put in
                let led : leads ≡ s.top = cc in
                ap (chain_of held) e ∙ chain ∙ ap (λ y. y ∷ chain_of held s.top) (sym same) ∙ ap (λ n. h ∷ chain_of held n) (sym led))
            | inr ne ↦
                (let w = slice_get_within (set outer p s.top) place leads at_outer in
                let l = length-set outer p s.top in
                let short : place < length outer = omega arith in
                let got = get_or_from_slice_get (set outer p s.top) place leads leads at_outer in
                let old : slice_get outer place ≡ Some leads = slice_get-get_or outer place leads short ∙ ap (λ n. Some n) (sym (get_or-set_other outer p place s.top leads ne) ∙ got) in
                elim (known_or h (contains_at held place h at_place) le) [
                  | inl e ↦ absurd (ne (same_place held place p x c (at_place ∙ ap (λ (y : Held). Some y) e) is))
                  | inr before ↦ passing.outer_to place leads h at_place old before
                ])
          ];
      begins = passing.begins;
      within = passing.within;
      odd = passing.odd;
      is_bound = passing.is_bound;
      table = passing.table;
      firsts = passing.firsts;
      rows = omega arith;
    }
