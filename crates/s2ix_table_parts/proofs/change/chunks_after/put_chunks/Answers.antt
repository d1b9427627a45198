-- The new chunks come behind the others.
use Rattle.s2ix_bag_lists.specs.Faces.{all_of}
use Rattle.s2ix_bag_lists.proofs.Joins.{back_rises}
use Rattle.s2ix_table_parts.proofs.ChunksChanged.{behind_few, chunks_joined}
use Rattle.s2ix_table_parts.proofs.change.chunks_after.put_chunks.Goals as goal

pub cut_into_chunks-requires-clause-rises : goal.cut_into_chunks-requires-clause-rises
cut_into_chunks-requires-clause-rises c = back_rises 0 (all_of c.args.chunks.now.items) c.args.held.now c.requires.rises

pub cut_into_chunks-requires-clause-within_limit : goal.cut_into_chunks-requires-clause-within_limit
cut_into_chunks-requires-clause-within_limit c = behind_few (all_of c.args.chunks.now.items) c.args.held.now c.requires.within_limit

pub returns-clause-chunks : goal.returns-clause-chunks
returns-clause-chunks c =
    (chunks_joined c.args.chunks.now.items c.append.new.self.items c.in_ok-new.new.items c.args.held.now c.requires.chunks
    c.in_ok-new.ensures.chunks c.in_ok-new.ensures.whole c.requires.rises c.requires.within_limit c.in_ok-append.ensures.items).0

pub returns-clause-pairs : goal.returns-clause-pairs
returns-clause-pairs c =
    (chunks_joined c.args.chunks.now.items c.append.new.self.items c.in_ok-new.new.items c.args.held.now c.requires.chunks
    c.in_ok-new.ensures.chunks c.in_ok-new.ensures.whole c.requires.rises c.requires.within_limit c.in_ok-append.ensures.items).1
