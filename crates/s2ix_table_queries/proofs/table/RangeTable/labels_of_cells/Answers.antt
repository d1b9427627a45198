use Rattle.s2ix_table_walk.specs.Meeting.{meeting_of}
use Rattle.s2ix_table_walk.proofs.LabelList.{is_label_list}
use Rattle.s2ix_table_queries.proofs.Labelling.{label_list_from_rising}
use Rattle.s2ix_table_queries.proofs.table.RangeTable.labels_of_cells.Goals as goal

pub returns-clause-labels : goal.returns-clause-labels
returns-clause-labels g c =
    label_list_from_rising (meeting_of c.args.cells.now (g.Self.RangeTable.pairs c.args.self.now)) c.in_ok-labels.labels.items
    c.make_rising.new.labels.items c.in_ok-labels.ensures c.in_ok-make_rising.ensures.rise c.in_ok-make_rising.ensures.same

pub returns-clause-list : goal.returns-clause-list
returns-clause-list g c =
    is_label_list (meeting_of c.args.cells.now (g.Self.RangeTable.pairs c.args.self.now)) c.make_rising.new.labels.items
    (returns-clause-labels g c)
