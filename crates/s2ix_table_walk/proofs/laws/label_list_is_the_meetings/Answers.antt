use Rattle.s2ix_table_walk.proofs.LabelList.{label_list_is, is_label_list}
use Rattle.s2ix_table_walk.proofs.laws.label_list_is_the_meetings.Goals as goal

pub returns-clause-list : goal.returns-clause-list
returns-clause-list c = label_list_is

pub returns-clause-only : goal.returns-clause-only
returns-clause-only c = is_label_list
