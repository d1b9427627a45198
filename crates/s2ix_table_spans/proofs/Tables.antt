-- What a table reads of its nodes.
use Rattle.std.proofs.Common.{◌≡◌, ℕ, ◌<◌, ◌≤◌, Some, List, [], ◌∷◌, take, drop, length, get_or, slice_get, sym, ◌∙◌, ap, arith, subst}
use Rattle.std.proofs.lemmas.Option.{slice_get-get_or, slice_get_within}
use Rattle.std.proofs.lemmas.List.{length-take}
use Rattle.s2ix_bag_pairs.specs.Collection.{Collection, IsCollection}
use Rattle.s2ix_bag_pairs.specs.declared.pair.Held.{Held}
use Rattle.s2ix_table_walk.specs.Table.{IsTableOver}
use Rattle.s2ix_table_spans.specs.declared.pass.Pass.{Pass}
use Rattle.s2ix_table_spans.specs.Chains.{chain_of, AreOuter, AreFirsts}
use Rattle.s2ix_table_spans.specs.Nodes.{AreNodes}
use Rattle.s2ix_table_spans.specs.SpanTable.{IsInSpan}
use Rattle.s2ix_table_spans.specs.Starts.{ranges_from}
use Rattle.s2ix_table_spans.specs.Sweep.{IsSwept}

-- the chain from the next place outwards is all but the innermost pair
pub outer_leads : (held : Collection) (outer : List ℕ) (place next : ℕ) (x : Held) → AreOuter held outer → slice_get held place ≡ Some x
    → slice_get outer place ≡ Some next → chain_of held next ≡ drop 1 (chain_of held place)
outer_leads held outer place next x are is leads = sym (ap (drop 1) (are place next x is leads))

pub headed : (held : Collection) (outer : List ℕ) (place : ℕ) (x : Held) → length outer ≡ length held → AreOuter held outer
    → slice_get held place ≡ Some x → chain_of held place ≡ x ∷ drop 1 (chain_of held place)
headed held outer place x size are is =
    let leads = slice_get-get_or outer place 0 (let w = slice_get_within held place x is in omega arith) in
    let e = are place (get_or outer place 0) x is leads in
    e ∙ ap (λ cs. x ∷ drop 1 cs) (sym e)

pub outer_at : (held : Collection) (outer : List ℕ) (place next : ℕ) → length outer ≡ length held → AreOuter held outer
    → place < length held → next ≡ get_or outer place next → chain_of held next ≡ drop 1 (chain_of held place)
outer_at [] outer place next size are lt is = absurd (omega arith)
outer_at (h ∷ hs) outer place next size are lt is =
    let there = slice_get-get_or outer place next (omega arith) ∙ ap (λ n. Some n) (sym is) in
    outer_leads (h ∷ hs) outer place next (get_or (h ∷ hs) place h) are (slice_get-get_or (h ∷ hs) place h lt) there

-- what a sweep has written, once the room that is left is given back
pub nodes_of_pass : (held : Collection) (from to : ℕ) (pass : Pass) (starts firsts : List ℕ) → IsCollection held → length held ≤ 1000000
    → IsInSpan held from to → IsSwept held from to pass → starts ≡ take pass.frontier.count pass.starts.items
    → firsts ≡ take pass.frontier.count pass.firsts.items → AreNodes held from to pass.outer.items starts firsts
nodes_of_pass held from to pass starts firsts rises within_limit within swept starts_are firsts_are =
    record {
      rises = rises;
      within_limit = within_limit;
      within = within;
      table = subst (λ (ss : List ℕ). IsTableOver held from to (ranges_from held ss to)) (sym starts_are) swept.table;
      ranges_few =
          let short = ap length starts_are ∙ length-take pass.frontier.count pass.starts.items in
          let count = swept.within_limit in
          omega arith;
      size = swept.size;
      outwards = swept.outer;
      leads =
          subst (λ (ss : List ℕ). AreFirsts held ss firsts) (sym starts_are)
          (subst (λ (fs : List ℕ). AreFirsts held (take pass.frontier.count pass.starts.items) fs) (sym firsts_are) swept.firsts);
    }
