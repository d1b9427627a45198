use Rattle.std.proofs.Common.{ℕ, ◌<◌, List, AllPairs, Contains, slice_index_or, ◌∙◌, ap, subst, sym}
use Rattle.s2ix_table_faced.specs.Blocks.{AreBlocks}
use Rattle.s2ix_table_faced.specs.FirstParts.{AreFirstParts}
use Rattle.s2ix_table_parts.specs.FaceSpans.{face_begin}
use Rattle.s2ix_table_faced.proofs.LeafBlocks.{some_number}
use Rattle.s2ix_table_faced.proofs.part_begins.PartBegins.new.Goals as goal

pub new-requires-clause-some : goal.new-requires-clause-some
new-requires-clause-some c = some_number c.deref.result.now (ap (λ (ns : List ℕ). slice_index_or ns 0 0) c.deref.ensures.value ∙ c.requires.first)

pub new-requires-clause-first : goal.new-requires-clause-first
new-requires-clause-first c = ap (λ (ns : List ℕ). slice_index_or ns 0 0) c.deref.ensures.value ∙ c.requires.first

pub first_parts-faces-requires-clause-rises : goal.first_parts-faces-requires-clause-rises
first_parts-faces-requires-clause-rises c =
    subst (λ (ns : List ℕ). AllPairs (λ a b. a < b) ns) (sym c.deref-2.ensures.value) c.requires.rises

pub first_parts-faces-requires-clause-begins : goal.first_parts-faces-requires-clause-begins
first_parts-faces-requires-clause-begins c =
    λ face lt. subst (λ (ns : List ℕ). Contains ns (face_begin face)) (sym c.deref-2.ensures.value) (c.requires.begins face lt)

pub first_parts-faces-requires-clause-first : goal.first_parts-faces-requires-clause-first
first_parts-faces-requires-clause-first c = ap (λ (ns : List ℕ). slice_index_or ns 0 0) c.deref-2.ensures.value ∙ c.requires.first

pub invariant_of-result : goal.invariant_of-result
invariant_of-result c = record {
  rises = c.requires.rises;
  blocked = subst (λ (ns : List ℕ). AreBlocks ns c.in_ok-blocks.blocks) c.deref.ensures.value c.in_ok-blocks.ensures;
  firsts = subst (λ (ns : List ℕ). AreFirstParts ns c.first_parts-faces.result) c.deref-2.ensures.value c.first_parts-faces.ensures;
}
