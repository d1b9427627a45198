-- What the new chunk takes is no longer left.
use Rattle.std.proofs.Common.{◌≡◌, ◌∷◌, [], ◌++◌, List, take, length, sym, ap, ap₂, ◌∙◌, subst, arith}
use Rattle.s2ix_bag_lists.specs.Faces.{all_of}
use Rattle.s2ix_bag_lists.specs.Parts.{AreFilled}
use Rattle.s2ix_bag_lists.proofs.Joins.{filled_append}
use Rattle.s2ix_bag_pairs.specs.Collection.{Collection}
use Rattle.s2ix_table_heavy.specs.Chunks.{IsOfOneCell}
use Rattle.s2ix_table_heavy.proofs.Cutting.{AreOfOneCell, all_more, one_cell_more}
use Rattle.s2ix_table_heavy.proofs.cut.cut_into_chunks.Goals as goal

pub loop-rest-preserved : goal.loop-rest-preserved
loop-rest-preserved c =
    let chunks = c.loop-rest.chunks.items in
    let rest = c.loop-rest.rest.now in
    let k = c.chunk_len.result in
    let chunk = c.in_ok-new.field-0 in
    let copied = c.in_ok-new.ensures ∙ c.in_ok-from_slice.ensures.items in
    let own : chunk ≡ take k rest = copied ∙ c.split_at.ensures.front in
    let long : length chunk ≡ k = ap (λ (x : Collection). length x) copied ∙ c.split_at.ensures.front_len in
    let pushed = c.in_ok-push.ensures.items in
    let was = c.loop-rest.invariant in
    let some = c.chunk_len.ensures.some in
    let unpushed = sym {A = List Collection} pushed in (
      ap₂ (λ (x : List Collection) (y : Collection). all_of x ++ y) pushed c.split_at.ensures.back ∙ all_more chunks chunk k rest own ∙ was.0,
      subst AreFilled unpushed (filled_append chunks (chunk ∷ []) was.1 (omega arith, tt)),
      subst AreOfOneCell unpushed (one_cell_more chunks chunk was.2 (subst IsOfOneCell (sym own) c.chunk_len.ensures.one_cell)),
    )
