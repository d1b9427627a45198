-- The run goes to one of both layers.
use Rattle.std.proofs.Common.{sym, ap, ◌∙◌, subst}
use Rattle.s2ix_bag_lists.specs.Faces.{all_of}
use Rattle.s2ix_bag_pairs.specs.Collection.{Collection}
use Rattle.s2ix_table_parts.specs.Layers.{joined_layers}
use Rattle.s2ix_table_parts.specs.Split.{AreSplit}
use Rattle.s2ix_table_parts.proofs.Splitting.{heavy_few, heavy_rises, put_heavy, put_light}
use Rattle.s2ix_table_parts.proofs.split.Layers.put.Goals as goal

pub put_chunks-requires-clause-rises : goal.put_chunks-requires-clause-rises
put_chunks-requires-clause-rises c =
    heavy_rises c.args.self.now.light.items c.args.run.now c.args.self.now.chunks.items c.requires.split c.requires.next

pub put_chunks-requires-clause-within_limit : goal.put_chunks-requires-clause-within_limit
put_chunks-requires-clause-within_limit c =
    heavy_few c.args.self.now.light.items c.args.run.now c.args.self.now.chunks.items c.requires.split c.requires.next

pub returns-in_ok-put_chunks-clause-split : goal.returns-in_ok-put_chunks-clause-split
returns-in_ok-put_chunks-clause-split c =
    (put_heavy c.args.self.now.light.items c.args.run.now c.args.self.now.chunks.items c.put_chunks.new.chunks.items c.requires.split
    c.requires.next c.in_ok-put_chunks.ensures.chunks c.in_ok-put_chunks.ensures.pairs).0

pub returns-in_ok-put_chunks-clause-pairs : goal.returns-in_ok-put_chunks-clause-pairs
returns-in_ok-put_chunks-clause-pairs c =
    (put_heavy c.args.self.now.light.items c.args.run.now c.args.self.now.chunks.items c.put_chunks.new.chunks.items c.requires.split
    c.requires.next c.in_ok-put_chunks.ensures.chunks c.in_ok-put_chunks.ensures.pairs).1

pub returns-in_ok-extend_from_slice-clause-split : goal.returns-in_ok-extend_from_slice-clause-split
returns-in_ok-extend_from_slice-clause-split c =
    subst (λ (hs : Collection). AreSplit hs c.args.self.now.chunks.items) (sym c.in_ok-extend_from_slice.ensures.items)
    (put_light c.args.self.now.light.items c.args.run.now c.args.self.now.chunks.items c.requires.split c.requires.next).0

pub returns-in_ok-extend_from_slice-clause-pairs : goal.returns-in_ok-extend_from_slice-clause-pairs
returns-in_ok-extend_from_slice-clause-pairs c =
    ap (λ (hs : Collection). joined_layers hs (all_of c.args.self.now.chunks.items)) c.in_ok-extend_from_slice.ensures.items
    ∙ (put_light c.args.self.now.light.items c.args.run.now c.args.self.now.chunks.items c.requires.split c.requires.next).1
