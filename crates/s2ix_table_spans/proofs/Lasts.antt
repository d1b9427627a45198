-- The last numbers in the open cells, beside their chain.
use Rattle.std.proofs.Common.{◌≡◌, ℕ, zero, suc, ◌+◌, ◌-◌, ◌<◌, ◌≤◌, inl, inr, Some, List, [], ◌∷◌, length, get_or, slice_get, set, refl, sym, ◌∙◌, ap, arith, subst}
use Rattle.std.proofs.lemmas.Option.{none-some, same_Some, slice_get-get_or, slice_get_cases, slice_get_within}
use Rattle.std.proofs.lemmas.Grind.{get_or-set_at}
use Rattle.std.proofs.lemmas.List.{length-set, get_or-set_same, get_or-set_other}
use Rattle.s2id_core.specs.CellId.{end_of}
use Rattle.s2ix_bag_pairs.specs.Collection.{Collection}
use Rattle.s2ix_bag_pairs.specs.declared.pair.Held.{Held}
use Rattle.s2ix_table_walk.proofs.Over.{span_of}
use Rattle.s2ix_table_spans.specs.Chains.{chain_of}
use Rattle.s2ix_table_spans.specs.Pass.{Progress}
use Rattle.s2ix_table_spans.proofs.Chains.{chain_none}
use Rattle.s2ix_table_spans.proofs.Passing.{IsPassing, popped_chain, contains_at}

-- the last numbers in the cells of a chain, the innermost at its length, after one that stands for none: no bound lies after it
pub record AreLasts (held chain : Collection) (depth : ℕ) (lasts : List ℕ) : Type 0 where
  pub room : length lasts ≡ length held + 1
  pub depth_is : depth ≡ length chain
  pub none : get_or lasts 0 0 ≡ 18446744073709551615
  pub each : (j : ℕ) (h : Held) → slice_get chain j ≡ Some h → get_or lasts (depth - j) 0 ≡ end_of h.pair.cell - 1

-- if no cell is open, the one that stands for none is there
pub none_open : (held : Collection) (lasts : List ℕ) → length lasts ≡ length held + 1
    → AreLasts held [] 0 (set lasts 0 18446744073709551615)
none_open held lasts room = record {
  room = length-set lasts 0 18446744073709551615 ∙ room;
  depth_is = refl;
  none = get_or-set_same lasts 0 18446744073709551615 0 (omega arith);
  each = λ j h is. absurd (none-some h is);
}

-- the cell of a place ends here, by a bound
pub record IsEndBy (held : Collection) (place bound end : ℕ) : Type 0 where
  pub within : place < length held
  pub by : end ≤ bound
  pub is : (h : Held) → slice_get held place ≡ Some h → end_of h.pair.cell ≡ end

-- the cell of a place, if it is one, ends after a bound
abbrev pub EndsAfter : Collection → ℕ → ℕ → Type 0
EndsAfter held place bound = (h : Held) → slice_get held place ≡ Some h → bound < end_of h.pair.cell

-- ---- the innermost one

lasts_head : (held chain : Collection) (x : Held) (depth : ℕ) (lasts : List ℕ) → AreLasts held (x ∷ chain) depth lasts
    → get_or lasts depth 0 ≡ end_of x.pair.cell - 1
lasts_head held chain x depth lasts l = ap (λ k. get_or lasts k 0) (let e : depth ≡ depth - 0 = omega arith in e) ∙ l.each 0 x refl

-- the pair of a place is the first of its chain
pub chain_head : (held : Collection) (from to last room : ℕ) (outer : List ℕ) (s : Progress) (x : Held)
    → IsPassing held from to last room outer s → length outer ≡ length held → slice_get held s.top ≡ Some x
    → chain_of held s.top ≡ x ∷ chain_of held (get_or outer s.top 0)
chain_head held from to last room outer s x passes size at =
    popped_chain held from to last room outer s x (get_or outer s.top 0) passes at (slice_get-get_or outer s.top 0 (let w = slice_get_within held s.top x at in omega arith)) (contains_at held s.top x at)

-- if the last number of the innermost cell is below a bound, that cell ends by it
pub last_below : (held : Collection) (from to last room bound depth : ℕ) (outer lasts : List ℕ) (s : Progress)
    → IsPassing held from to last room outer s → length outer ≡ length held → AreLasts held (chain_of held s.top) depth lasts
    → bound ≤ 18446744073709551615 → get_or lasts depth 0 < bound → IsEndBy held s.top bound (get_or lasts depth 0 + 1)
last_below held from to last room bound depth outer lasts s passes size l fits below =
    elim ((slice_get_cases held s.top).1) [
      | inl (x, lt, at, got) ↦
          (let head = lasts_head held (chain_of held (get_or outer s.top 0)) x depth lasts (subst (λ cs. AreLasts held cs depth lasts) (chain_head held from to last room outer s x passes size at) l) in
          let rises = (span_of x).rises in
          record {
            within = lt;
            by = omega arith;
            is = λ h is. let same = ap (λ y. end_of y.pair.cell) (same_Some h x (sym is ∙ at)) in omega arith;
          })
      | inr past ↦
          absurd (let none = l.none in
          let d = l.depth_is ∙ ap length (chain_none held s.top past.1) in
          let e = ap (λ k. get_or lasts k 0) d in
          omega arith)
    ]

-- if it is not, that cell ends after the bound
pub last_after : (held : Collection) (from to last room bound depth : ℕ) (outer lasts : List ℕ) (s : Progress)
    → IsPassing held from to last room outer s → length outer ≡ length held → AreLasts held (chain_of held s.top) depth lasts
    → bound ≤ get_or lasts depth 0 → EndsAfter held s.top bound
last_after held from to last room bound depth outer lasts s passes size l ahead x at =
    let head = lasts_head held (chain_of held (get_or outer s.top 0)) x depth lasts (subst (λ cs. AreLasts held cs depth lasts) (chain_head held from to last room outer s x passes size at) l) in
    let rises = (span_of x).rises in
    omega arith

-- ---- a cell is taken off, or put on

pub lasts_popped : (held chain : Collection) (x : Held) (depth : ℕ) (lasts : List ℕ) → AreLasts held (x ∷ chain) depth lasts
    → AreLasts held chain (depth - 1) lasts
lasts_popped held chain x depth lasts l = record {
  room = l.room;
  depth_is = let d = l.depth_is in omega arith;
  none = l.none;
  each = λ j h is. ap (λ k. get_or lasts k 0) (let e : depth - 1 - j ≡ depth - suc j = omega arith in e) ∙ l.each (suc j) h is;
}

pub lasts_put : (held chain : Collection) (x : Held) (depth last : ℕ) (lasts : List ℕ) → AreLasts held chain depth lasts
    → depth < length held → last ≡ end_of x.pair.cell - 1 → AreLasts held (x ∷ chain) (depth + 1) (set lasts (depth + 1) last)
lasts_put held chain x depth last lasts l lt is =
    let room = l.room in
    record {
      room = length-set lasts (depth + 1) last ∙ room;
      depth_is = let d = l.depth_is in omega arith;
      none = get_or-set_other lasts (depth + 1) 0 last 0 (λ e. omega arith) ∙ l.none;
      each = each;
    }
  where
    each : (j : ℕ) (h : Held) → slice_get (x ∷ chain) j ≡ Some h
        → get_or (set lasts (depth + 1) last) (depth + 1 - j) 0 ≡ end_of h.pair.cell - 1
    each zero h e =
        get_or-set_at lasts (depth + 1) (depth + 1 - 0) last 0 (omega arith) (let room = l.room in omega arith) ∙ is ∙ ap (λ (y : Held). end_of y.pair.cell - 1) (same_Some x h e)
    each (suc j) h e =
        let short = slice_get_within chain j h e in
        let d = l.depth_is in
        get_or-set_other lasts (depth + 1) (depth + 1 - suc j) last 0 (λ same. omega arith)
        ∙ ap (λ k. get_or lasts k 0) (let f : depth + 1 - suc j ≡ depth - j = omega arith in f)
        ∙ l.each j h e
