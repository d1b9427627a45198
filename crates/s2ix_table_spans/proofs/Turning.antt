-- The turns of a sweep.
use Rattle.std.proofs.Common.{◌≡◌, ℕ, ◌+◌, ◌-◌, ◌*◌, ◌<◌, ◌≤◌, inl, inr, true, Some, List, [], ◌∷◌, length, get_or, take, slice_get, set, sym, ◌∙◌, ap, arith, Contains, subst}
use Rattle.std.proofs.lemmas.Option.{get_or_from_slice_get, slice_get-get_or, slice_get_within, slice_get_cases, slice_get_past}
use Rattle.std.proofs.lemmas.Bool.{cases_lt}
use Rattle.std.proofs.lemmas.List.{length-set, get_or-set_same}
use Rattle.s2id_core.specs.CellId.{end_of}
use Rattle.s2ix_bag_pairs.specs.Collection.{Collection, IsCollection}
use Rattle.s2ix_table_walk.proofs.Tables.{IsTable, places_from_table}
use Rattle.s2ix_table_spans.specs.declared.pass.Pass.{Pass}
use Rattle.s2ix_table_spans.specs.Chains.{is_on_chain, chain_of}
use Rattle.s2ix_table_spans.specs.Order.{sweep_key, IsSweepOrder}
use Rattle.s2ix_table_spans.specs.Pass.{Progress, progress_of, with_frontier, written, IsWritten}
use Rattle.s2ix_table_spans.specs.Starts.{ranges_from}
use Rattle.s2ix_table_spans.specs.SpanTable.{IsInSpan}
use Rattle.s2ix_table_spans.specs.Sweep.{IsFresh, IsSwept, start_at, last_at}
use Rattle.s2ix_table_spans.proofs.Chains.{chain_none}
use Rattle.s2ix_table_spans.proofs.Orders.{reached, reached_next, reached_less, to_come, at_is, key_is}
use Rattle.s2ix_table_spans.proofs.Passing.{IsPassing, CanReach, written_passes, written_at, written_top, with_top, popped, popped_chain, can_pop, put_on, contains_at}
use Rattle.s2ix_table_spans.proofs.Lasts.{AreLasts, IsEndBy, EndsAfter, none_open, chain_head, last_below, last_after, lasts_popped, lasts_put}
use Rattle.s2ix_table_spans.proofs.Sweeping.{fresh_passes, IsNext, next_is, start_is, start_end, can_reach, ends_past}

-- the first k cells of the order have begun
pub record IsOnWay (held : Collection) (order : List ℕ) (from to k depth : ℕ) (lasts : List ℕ) (pass : Pass) : Type 0 where
  pub within : k ≤ length order
  pub shallow : depth ≤ k
  pub lasts_are : AreLasts held (chain_of held pass.frontier.top) depth lasts
  pub passes : IsPassing held from to (reached held order k) (2 * k) pass.outer.items (progress_of pass)
  pub size : length pass.outer.items ≡ length held
  pub starts_room : length pass.starts.items ≡ 2 * length held + 1
  pub firsts_room : length pass.firsts.items ≡ 2 * length held + 1

contains_place : (order : List ℕ) (k p : ℕ) → slice_get order k ≡ Some p → Contains order p
contains_place order k p is = (k, slice_get_within order k p is, get_or_from_slice_get order k p p is)

way_written : (held : Collection) (from to last room bound : ℕ) (old mid : Pass)
    → IsPassing held from to last room old.outer.items (progress_of old) → CanReach held to last (progress_of old) bound
    → IsWritten bound old mid → IsPassing held from to last (room + 1) mid.outer.items (progress_of mid)
way_written held from to last room bound old mid passes reach w =
    subst (IsPassing held from to last (room + 1) mid.outer.items) (sym w.progress) (subst (λ os. IsPassing held from to last (room + 1) os (written bound (progress_of old))) (sym w.outer) (written_passes held from to last room old.outer.items (progress_of old) bound passes reach))

pub top_written : (bound : ℕ) (old mid : Pass) → IsWritten bound old mid → mid.frontier.top ≡ old.frontier.top
top_written bound old mid w = ap (λ (p : Progress). p.top) w.progress ∙ written_top bound (progress_of old)

at_written : (bound : ℕ) (old mid : Pass) → old.frontier.at ≤ bound → IsWritten bound old mid → mid.frontier.at ≡ bound
at_written bound old mid le w = ap (λ (p : Progress). p.at) w.progress ∙ written_at bound (progress_of old) le

-- ---- before the first turn

pub way_begins : (held : Collection) (order : List ℕ) (from to : ℕ) (lasts : List ℕ) (pass : Pass) → IsInSpan held from to
    → pass.frontier.at ≡ from → IsFresh held pass → length lasts ≡ length held + 1
    → IsOnWay held order from to 0 0 (set lasts 0 18446744073709551615) pass
way_begins held order from to lasts pass span at fresh room = record {
  within = omega arith;
  shallow = omega arith;
  lasts_are = subst (λ cs. AreLasts held cs 0 (set lasts 0 18446744073709551615)) (sym (chain_none held pass.frontier.top (slice_get_past held pass.frontier.top (let top = fresh.top in omega arith)))) (none_open held lasts room);
  passes = fresh_passes held from to pass.outer.items (progress_of pass) span at fresh.count fresh.top (none pass.starts.items) (none pass.firsts.items);
  size = fresh.outer;
  starts_room = fresh.starts;
  firsts_room = fresh.firsts;
}
  where
    none : (xs : List ℕ) → take pass.frontier.count xs ≡ []
    none xs = ap (λ n. take n xs) fresh.count

pub way_next : (held : Collection) (order : List ℕ) (from to k depth : ℕ) (lasts : List ℕ) (pass : Pass) → IsSweepOrder held order
    → IsInSpan held from to → IsOnWay held order from to k depth lasts pass → pass.frontier.at ≤ start_at held order to k
way_next held order from to k depth lasts pass o span way =
    let within = way.passes.within in
    elim ((slice_get_cases order k).1) [
      | inr past ↦ (let e = start_end held order to k past.1 in omega arith)
      | inl (p, short, is, read) ↦
          elim ((slice_get_cases held p).1) [
            | inr past ↦ absurd (let lt = o.places.to p (contains_place order k p is) in let ge = past.0 in omega arith)
            | inl (h, there, at, got) ↦
                (let e = start_is held order to k p h is at in
                let l = way.passes.open_cells.later h (contains_at held p h at) (reached_less held order k p h o is at) in
                omega arith)
          ]
    ]

-- ---- a cell is taken off

abbrev pub topped : ℕ → Pass → Pass
topped top pass = with_frontier (record { count = pass.frontier.count; at = pass.frontier.at; top = top }) pass

-- a turn of the inner loop
pub record IsTakenOff (held : Collection) (order : List ℕ) (from to k depth bound next : ℕ) (lasts : List ℕ) (old mid : Pass) : Type 0 where
  pub by : mid.frontier.at ≤ bound
  pub way : IsOnWay held order from to k (depth - 1) lasts (topped next mid)
  pub fewer : length (chain_of held next) < length (chain_of held old.frontier.top)

-- if the last number of the innermost cell is below the bound, that cell ends by it
pub ends_by : (held : Collection) (order : List ℕ) (from to k depth bound : ℕ) (lasts : List ℕ) (pass : Pass)
    → IsOnWay held order from to k depth lasts pass → bound ≤ 18446744073709551615 → get_or lasts depth 0 < bound
    → IsEndBy held pass.frontier.top bound (get_or lasts depth 0 + 1)
ends_by held order from to k depth bound lasts pass way fits below =
    last_below held from to (reached held order k) (2 * k) bound depth pass.outer.items lasts (progress_of pass) way.passes way.size way.lasts_are fits below

pub taken_off : (held : Collection) (order : List ℕ) (from to k depth bound next : ℕ) (lasts : List ℕ) (old mid : Pass)
    → IsSweepOrder held order → IsInSpan held from to → IsOnWay held order from to k depth lasts old → bound ≡ start_at held order to k
    → bound ≤ 18446744073709551615 → get_or lasts depth 0 < bound → IsWritten (get_or lasts depth 0 + 1) old mid
    → next ≡ get_or mid.outer.items mid.frontier.top next → IsTakenOff held order from to k depth bound next lasts old mid
taken_off held order from to k depth bound next lasts old mid o span way is_bound fits below w leads =
    let end = get_or lasts depth 0 + 1 in
    let by = ends_by held order from to k depth bound lasts old way fits below in
    elim ((slice_get_cases held old.frontier.top).1) [
      | inr past ↦ absurd (let lt = by.within in let ge = past.0 in omega arith)
      | inl (x, lt, at, got) ↦
          (let last = reached held order k in
          let next_bound = next_is held order from to k o span way.within in
          let later = next_bound.later in
          let within = next_bound.within in
          let i = contains_at held old.frontier.top x at in
          let ends = by.is x at in
          let le = by.by in
          let reach_x = can_pop held from to last (2 * k) old.outer.items (progress_of old) x bound way.passes at i (omega arith) (omega arith) (λ h j less. let l = later h j less in omega arith) in
          let reach = subst (CanReach held to last (progress_of old)) ends reach_x in
          let passes = way_written held from to last (2 * k) end old mid way.passes reach w in
          let top = top_written end old mid w in
          let at_end = at_written end old mid reach.ahead w in
          let at_mid : slice_get held mid.frontier.top ≡ Some x = ap (slice_get held) top ∙ at in
          let short : mid.frontier.top < length mid.outer.items = let s = way.size in let e = ap (λ (os : List ℕ). length os) w.outer in omega arith in
          let led : slice_get mid.outer.items mid.frontier.top ≡ Some next = slice_get-get_or mid.outer.items mid.frontier.top next short ∙ ap (λ n. Some n) (sym leads) in
          let chain = popped_chain held from to last (2 * k + 1) mid.outer.items (progress_of mid) x next passes at_mid led i in
          let len = ap length chain in
          let same = ap (chain_of held) top in
          let same_len = ap length same in
          let l = subst (λ cs. AreLasts held cs depth lasts) (sym same ∙ chain) way.lasts_are in
          let deep = l.depth_is in
          let shallow = way.shallow in
          record {
            by = omega arith;
            way = record {
              within = way.within;
              shallow = omega arith;
              lasts_are = lasts_popped held (chain_of held next) x depth lasts l;
              passes = popped held from to last (2 * k) mid.outer.items (progress_of mid) x next passes at_mid led i (at_end ∙ sym ends);
              size = ap (λ (os : List ℕ). length os) w.outer ∙ way.size;
              starts_room = w.starts_room ∙ way.starts_room;
              firsts_room = w.firsts_room ∙ way.firsts_room;
            };
            fewer = omega arith;
          })
    ]

-- ---- a cell is put on

-- if it is not, that cell ends after the bound
ends_after : (held : Collection) (order : List ℕ) (from to k depth bound : ℕ) (lasts : List ℕ) (pass : Pass)
    → IsOnWay held order from to k depth lasts pass → bound ≤ get_or lasts depth 0 → EndsAfter held pass.frontier.top bound
ends_after held order from to k depth bound lasts pass way above =
    last_after held from to (reached held order k) (2 * k) bound depth pass.outer.items lasts (progress_of pass) way.passes way.size way.lasts_are above

way_reaches : (held : Collection) (order : List ℕ) (from to k depth bound : ℕ) (lasts : List ℕ) (old mid : Pass) → IsSweepOrder held order
    → IsInSpan held from to → IsOnWay held order from to k depth lasts old → bound ≡ start_at held order to k → old.frontier.at ≤ bound
    → EndsAfter held old.frontier.top bound → IsWritten bound old mid
    → IsPassing held from to (reached held order k) (2 * k + 1) mid.outer.items (progress_of mid)
way_reaches held order from to k depth bound lasts old mid o span way is_bound ahead after w =
    let last = reached held order k in
    let next = subst (IsNext held to last) (sym is_bound) (next_is held order from to k o span way.within) in
    way_written held from to last (2 * k) bound old mid way.passes (can_reach held from to last (2 * k) bound old.outer.items (progress_of old) way.passes next ahead after) w

pub put_next : (held : Collection) (order : List ℕ) (from to k depth bound place number : ℕ) (lasts : List ℕ) (old mid : Pass)
    → IsCollection held → IsSweepOrder held order → IsInSpan held from to → IsOnWay held order from to k depth lasts old
    → bound ≡ start_at held order to k → old.frontier.at ≤ bound → bound ≤ get_or lasts depth 0 → IsWritten bound old mid
    → slice_get order k ≡ Some place → number ≡ last_at held place → (new : Pass)
    → new.outer.items ≡ set mid.outer.items place mid.frontier.top → new.starts.items ≡ mid.starts.items → new.firsts.items ≡ mid.firsts.items
    → progress_of new ≡ with_top place (progress_of mid) → IsOnWay held order from to (k + 1) (depth + 1) (set lasts (depth + 1) number) new
put_next held order from to k depth bound place number lasts old mid c o span way is_bound ahead above w is is_number new outers starts firsts progress =
    let last = reached held order k in
    let after = ends_after held order from to k depth bound lasts old way above in
    let passes = way_reaches held order from to k depth bound lasts old mid o span way is_bound ahead after w in
    let top = top_written bound old mid w in
    let at_bound = at_written bound old mid ahead w in
    let within = slice_get_within order k place is in
    let short = o.places.to place (contains_place order k place is) in
    let size = ap (λ (os : List ℕ). length os) w.outer ∙ way.size in
    elim ((slice_get_cases held place).1) [
      | inr past ↦ absurd (let ge = past.0 in omega arith)
      | inl (x, lt, at, got) ↦
          (let i = contains_at held place x at in
          let start = start_is held order to k place x is at in
          let put = put_on held from to last (2 * k + 1) place x mid.outer.items (progress_of mid) c passes at i (reached_less held order k place x o is at) (omega arith)
          (λ h j on. let e = ends_past held old.frontier.top bound h after (subst (λ n. is_on_chain held n h ≡ true) top on) in omega arith)
          (λ h j less. let t = (to_come held order k h o way.within j less).1 place is in let key = key_is held place x at in omega arith)
          (omega arith) in
          let key : sweep_key x ≡ reached held order (k + 1) = sym (reached_next held order k place is ∙ key_is held place x at) in
          let rooms : 2 * k + 1 + 1 ≡ 2 * (k + 1) = omega arith in
          let step1 = subst (λ l. IsPassing held from to l (2 * k + 1 + 1) (set mid.outer.items place mid.frontier.top) (with_top place (progress_of mid))) key put in
          let step2 = subst (λ r. IsPassing held from to (reached held order (k + 1)) r (set mid.outer.items place mid.frontier.top) (with_top place (progress_of mid))) rooms step1 in
          let step3 = subst (λ os. IsPassing held from to (reached held order (k + 1)) (2 * (k + 1)) os (with_top place (progress_of mid))) (sym outers) step2 in
          let now_passes = subst (IsPassing held from to (reached held order (k + 1)) (2 * (k + 1)) new.outer.items) (sym progress) step3 in
          let now_size = ap (λ (os : List ℕ). length os) outers ∙ length-set mid.outer.items place mid.frontier.top ∙ size in
          let now_top : new.frontier.top ≡ place = ap (λ (s : Progress). s.top) progress in
          let head = chain_head held from to (reached held order (k + 1)) (2 * (k + 1)) new.outer.items (progress_of new) x now_passes now_size (ap (slice_get held) now_top ∙ at) in
          let outwards : get_or new.outer.items new.frontier.top 0 ≡ old.frontier.top = ap (λ (os : List ℕ). get_or os new.frontier.top 0) outers ∙ ap (λ n. get_or (set mid.outer.items place mid.frontier.top) n 0) now_top ∙ get_or-set_same mid.outer.items place mid.frontier.top 0 (omega arith) ∙ top in
          let chain : chain_of held new.frontier.top ≡ x ∷ chain_of held old.frontier.top = head ∙ ap (λ n. x ∷ chain_of held n) outwards in
          let shallow = way.shallow in
          let all = o.size in
          record {
            within = omega arith;
            shallow = omega arith;
            lasts_are = subst (λ cs. AreLasts held cs (depth + 1) (set lasts (depth + 1) number)) (sym chain) (lasts_put held (chain_of held old.frontier.top) x depth number lasts way.lasts_are (omega arith) (is_number ∙ at_is (λ h. end_of h.pair.cell - 1) held place x at));
            passes = now_passes;
            size = now_size;
            starts_room = ap (λ (os : List ℕ). length os) starts ∙ w.starts_room ∙ way.starts_room;
            firsts_room = ap (λ (os : List ℕ). length os) firsts ∙ w.firsts_room ∙ way.firsts_room;
          })
    ]

-- ---- after the last turn

pub way_ends : (held : Collection) (order : List ℕ) (from to k depth bound : ℕ) (lasts : List ℕ) (old mid : Pass) → IsSweepOrder held order
    → IsInSpan held from to → IsOnWay held order from to k depth lasts old → bound ≡ start_at held order to k → old.frontier.at ≤ bound
    → bound ≤ get_or lasts depth 0 → IsWritten bound old mid → length order ≤ k → IsSwept held from to mid
way_ends held order from to k depth bound lasts old mid o span way is_bound ahead above w past =
    let after = ends_after held order from to k depth bound lasts old way above in
    let passes = way_reaches held order from to k depth bound lasts old mid o span way is_bound ahead after w in
    let at_bound = at_written bound old mid ahead w in
    let end = start_end held order to k (slice_get_past order k past) in
    let at_to : mid.frontier.at ≡ to = omega arith in
    let rows = passes.rows in
    let k_within = way.within in
    let all = o.size in
    record {
      outer = λ place next h is leads.
          passes.outer_to place next h is leads
          (elim (cases_lt (reached held order k) (sweep_key h)) [
            | inl lt ↦ absurd (let t = (to_come held order k h o way.within (contains_at held place h is) lt).0 in omega arith)
            | inr le ↦ le
          ]);
      size = ap (λ (os : List ℕ). length os) w.outer ∙ way.size;
      firsts = passes.firsts;
      table = places_from_table held from to (ranges_from held (progress_of mid).starts to) span.some (subst (λ n. IsTable held from (ranges_from held (progress_of mid).starts n) n) at_to passes.table);
      within_limit = omega arith;
      starts_room = w.starts_room ∙ way.starts_room;
      firsts_room = w.firsts_room ∙ way.firsts_room;
    }
