-- What was gathered is put.
use Rattle.s2ix_text_write.proofs.Gathered.{all_put}
use Rattle.s2ix_text_write.proofs.block.Block.make_room.Goals as goal

pub returns-clause-gathered : goal.returns-clause-gathered
returns-clause-gathered g c = all_put c.in_ok-put.ensures
