use Rattle.s2id_cube.proofs.LevelTables.{place_entry_from}
use Rattle.s2id_cube.proofs.curve.place_entry.Goals as goal

pub returns-clause-steps : goal.returns-clause-steps
returns-clause-steps c = (place_entry_from c.args.start c.args.square c.requires.start c.requires.whole c.requires.square).steps

pub returns-clause-corner : goal.returns-clause-corner
returns-clause-corner c = (place_entry_from c.args.start c.args.square c.requires.start c.requires.whole c.requires.square).corner

pub returns-clause-next : goal.returns-clause-next
returns-clause-next c = (place_entry_from c.args.start c.args.square c.requires.start c.requires.whole c.requires.square).next
