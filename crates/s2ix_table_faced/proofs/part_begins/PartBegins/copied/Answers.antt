use Rattle.std.proofs.Common.{ℕ, ◌+◌, ◌*◌, ◌^◌, ◌<◌, List, AllPairs, length, slice_index_or, sym, ◌∙◌, subst, subst₂}
use Rattle.s2ix_table_spans.specs.Starts.{IsLastStart}
use Rattle.s2ix_table_faced.specs.Blocks.{AreBlocks}
use Rattle.s2ix_table_faced.specs.FirstParts.{AreFirstParts}
use Rattle.s2ix_table_faced.proofs.part_begins.PartBegins.copied.Goals as goal

pub invariant_of-result : goal.invariant_of-result
invariant_of-result c =
    let own = c.args.self.now in
    let blocks = c.in_ok-blocks.ensures in
    let starts = sym (c.in_ok-starts.ensures.items ∙ c.deref.ensures.value) in
    let blocked = subst₂ (λ (ls : List ℕ) (s : ℕ). (b : ℕ) → b < length ls → IsLastStart own.starts.items (b * 2 ^ s + 1) (slice_index_or ls b 0))
    (sym blocks.lasts) (sym blocks.shift) own.blocked in
    record {
      rises = subst (λ (ns : List ℕ). AllPairs (λ a b. a < b) ns) starts own.rises;
      blocked = subst (λ (ns : List ℕ). AreBlocks ns c.in_ok-blocks.blocks) starts blocked;
      firsts = subst (λ (ns : List ℕ). AreFirstParts ns own.faces) starts own.firsts;
    }

pub returns-clause-starts : goal.returns-clause-starts
returns-clause-starts c = c.in_ok-starts.ensures.items ∙ c.deref.ensures.value
