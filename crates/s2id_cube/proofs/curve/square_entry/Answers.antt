use Rattle.s2id_cube.proofs.LevelTables.{square_entry_from}
use Rattle.s2id_cube.proofs.curve.square_entry.Goals as goal

pub returns-clause-steps : goal.returns-clause-steps
returns-clause-steps c = (square_entry_from c.args.start c.args.positions c.requires.start c.requires.whole c.requires.positions).steps

pub returns-clause-column : goal.returns-clause-column
returns-clause-column c = (square_entry_from c.args.start c.args.positions c.requires.start c.requires.whole c.requires.positions).column

pub returns-clause-row : goal.returns-clause-row
returns-clause-row c = (square_entry_from c.args.start c.args.positions c.requires.start c.requires.whole c.requires.positions).row

pub returns-clause-next : goal.returns-clause-next
returns-clause-next c = (square_entry_from c.args.start c.args.positions c.requires.start c.requires.whole c.requires.positions).next
