-- A sweep along its order: what its loops keep.
use Rattle.std.proofs.Common.{◌≡◌, ℕ, map, [], ◌%◌, ◌<◌, ◌≤◌, ◌⊎◌, inl, inr, Option, Some, None, List, length, slice_get, option_map, refl, sym, ◌∙◌, ap, arith, Contains, subst, true}
use Rattle.std.specs.Option.{unwrap_or}
use Rattle.std.proofs.lemmas.Option.{get_or_from_slice_get, slice_get_cases, slice_get_past}
use Rattle.std.proofs.lemmas.Bool.{both_ways}
use Rattle.s2id_core.specs.CellId.{first_of, end_of}
use Rattle.s2ix_bag_pairs.specs.Collection.{Collection}
use Rattle.s2ix_bag_pairs.specs.declared.pair.Held.{Held}
use Rattle.s2ix_table_walk.specs.Contents.{contents_at}
use Rattle.s2ix_table_walk.specs.Table.{leaf_end}
use Rattle.s2ix_table_walk.proofs.Over.{span_of}
use Rattle.s2ix_table_walk.proofs.Tables.{IsTable}
use Rattle.s2ix_table_spans.specs.Chains.{is_on_chain, chain_of}
use Rattle.s2ix_table_spans.specs.Order.{sweep_key, begin_at, IsSweepOrder}
use Rattle.s2ix_table_spans.specs.Pass.{Progress}
use Rattle.s2ix_table_spans.specs.Starts.{ranges_from}
use Rattle.s2ix_table_spans.specs.SpanTable.{IsInSpan}
use Rattle.s2ix_table_spans.specs.Sweep.{start_at}
use Rattle.s2ix_table_spans.proofs.Chains.{on_at, none_on, outward-true, outward_ends, chain_none}
use Rattle.s2ix_table_spans.proofs.Keys.{first_by_key, key_some}
use Rattle.s2ix_table_spans.proofs.Orders.{at_is, key_is, reached, to_come}
use Rattle.s2ix_table_spans.proofs.Passing.{IsPassing, CanReach, contains_at}
use Rattle.s2ix_table_spans.proofs.Lasts.{EndsAfter}

-- what stands before a sweep
pub fresh_passes : (held : Collection) (from to : ℕ) (outer : List ℕ) (s : Progress) → IsInSpan held from to → s.at ≡ from → s.count ≡ 0
    → s.top ≡ length held → s.starts ≡ [] → s.firsts ≡ [] → IsPassing held from to 0 0 outer s
fresh_passes held from to outer s span at count top starts firsts =
    let none : slice_get held s.top ≡ None = slice_get_past held s.top (omega arith) in
    let some = span.some in
    let odd = span.odd in
    let closed : (h : Held) → is_on_chain held s.top h ≡ true → ⊥ = λ h on. both_ways (is_on_chain held s.top h) (none_on held s.top h none) on in
    record {
      open_cells = record {
        begun = λ h i le. absurd (let k = key_some h in omega arith);
        still = λ h i le e. absurd (let k = key_some h in omega arith);
        known = λ h i on. absurd (closed h on);
        ends = λ h i on. absurd (closed h on);
        later = λ h i lt. let b = span.begins h i in omega arith;
      };
      outer_to = λ place next h is leads le. absurd (let k = key_some h in omega arith);
      begins = omega arith;
      within = omega arith;
      odd = ap (λ n. n % 2) at ∙ odd;
      is_bound = λ lt less. absurd (omega arith);
      table = subst (λ ss. IsTable held from (ranges_from held ss s.at) s.at) (sym starts) (sym at);
      firsts = ap (map (chain_of held)) firsts ∙ sym (ap (map (λ start. contents_at start held)) starts);
      rows = let len = ap length (chain_none held s.top none) in omega arith;
    }

-- where a sweep goes next
pub record IsNext (held : Collection) (to last bound : ℕ) : Type 0 where
  pub within : bound ≤ to
  pub odd : bound % 2 ≡ 1
  pub later : (h : Held) → Contains held h → last < sweep_key h → bound ≤ first_of h.pair.cell
  pub is : (bound ≡ to) ⊎ ((h : Held) × Contains held h × (first_of h.pair.cell ≡ bound))

pub start_is : (held : Collection) (order : List ℕ) (to k p : ℕ) (h : Held) → slice_get order k ≡ Some p → slice_get held p ≡ Some h
    → start_at held order to k ≡ first_of h.pair.cell
start_is held order to k p h is at =
    ap (λ (o : Option ℕ). unwrap_or (option_map (begin_at held) o) to) is ∙ at_is (λ x. first_of x.pair.cell) held p h at

pub start_end : (held : Collection) (order : List ℕ) (to k : ℕ) → slice_get order k ≡ None → start_at held order to k ≡ to
start_end held order to k is = ap (λ (o : Option ℕ). unwrap_or (option_map (begin_at held) o) to) is

pub next_is : (held : Collection) (order : List ℕ) (from to k : ℕ) → IsSweepOrder held order → IsInSpan held from to → k ≤ length order
    → IsNext held to (reached held order k) (start_at held order to k)
next_is held order from to k o span within =
    elim ((slice_get_cases order k).1) [
      | inl (p, short, is, read) ↦
          elim ((slice_get_cases held p).1) [
            | inl (h, there, at, got) ↦
                (let start = start_is held order to k p h is at in
                let i = contains_at held p h at in
                let s = span_of h in
                let s1 = s.rises in
                let e = span.ends h i in
                record {
                  within = omega arith;
                  odd = ap (λ n. n % 2) start ∙ s.odd;
                  later = λ x j lt.
                      let t = (to_come held order k x o within j lt).1 p is in
                      let key = key_is held p h at in
                      let f = first_by_key h x (omega arith) in
                      omega arith;
                  is = inr (h, i, sym start);
                })
            | inr past ↦ absurd (let q = o.places.to p (k, short, get_or_from_slice_get order k p p is) in let ge = past.0 in omega arith)
          ]
      | inr past ↦
          (let e = start_end held order to k past.1 in
          record {
            within = omega arith;
            odd = ap (λ n. n % 2) e ∙ span.odd_end;
            later = λ x j lt. absurd (let t = (to_come held order k x o within j lt).0 in let ge = past.0 in omega arith);
            is = inl e;
          })
    ]

-- and what is on the chain ends after a bound if its innermost cell does
pub ends_past : (held : Collection) (top bound : ℕ) (h : Held) → EndsAfter held top bound → is_on_chain held top h ≡ true
    → bound < end_of h.pair.cell
ends_past held top bound h after on =
    elim ((slice_get_cases held top).1) [
      | inl (x, lt, at, got) ↦
          (let e = outward_ends x h (outward-true x h (sym (on_at held top x h at) ∙ on)) in
          let b = after x at in
          omega arith)
      | inr past ↦ absurd (both_ways (is_on_chain held top h) (none_on held top h past.1) on)
    ]

-- the bound can be reached once what ends by it was taken off
pub can_reach : (held : Collection) (from to last room bound : ℕ) (outer : List ℕ) (s : Progress) → IsPassing held from to last room outer s
    → IsNext held to last bound → s.at ≤ bound → EndsAfter held s.top bound → CanReach held to last s bound
can_reach held from to last room bound outer s passing next ahead after = record {
  ahead = ahead;
  within = next.within;
  odd = next.odd;
  is_bound = λ lt. elim next.is [ inl e ↦ absurd (omega arith) | inr h ↦ (h.0, h.1, inl h.2) ];
  later = next.later;
  stays = λ h i on. let lt = ends_past held s.top bound h after on in omega arith;
}

-- all cells lie in the span of all leaves
pub in_all : (held : Collection) → IsInSpan held 1 leaf_end
in_all held = record {
  odd = refl;
  odd_end = refl;
  some = omega arith;
  begins = λ h i. (span_of h).begins;
  ends = λ h i. (span_of h).ends;
}
