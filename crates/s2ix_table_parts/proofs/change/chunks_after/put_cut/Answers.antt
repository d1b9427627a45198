-- The pairs to append are those that the entries make.
use Rattle.std.proofs.Common.{◌≤◌, ◌++◌, length, sym, ◌∙◌, subst}
use Rattle.s2ix_bag_lists.specs.Faces.{all_of}
use Rattle.s2ix_bag_pairs.specs.Collection.{Collection, IsCollection}
use Rattle.s2ix_table_parts.proofs.change.chunks_after.put_cut.Goals as goal

pub put_chunks-requires-clause-rises : goal.put_chunks-requires-clause-rises
put_chunks-requires-clause-rises c =
    subst (λ (hs : Collection). IsCollection (all_of c.args.chunks.now.items ++ hs)) (sym (c.as_slice.ensures.value ∙ c.in_ok-held.ensures))
    c.requires.rises

pub put_chunks-requires-clause-within_limit : goal.put_chunks-requires-clause-within_limit
put_chunks-requires-clause-within_limit c =
    subst (λ (hs : Collection). length (all_of c.args.chunks.now.items ++ hs) ≤ 1000000)
    (sym (c.as_slice.ensures.value ∙ c.in_ok-held.ensures)) c.requires.within_limit
