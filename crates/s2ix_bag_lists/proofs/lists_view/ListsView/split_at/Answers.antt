use Rattle.s2ix_bag_lists.specs.View.{all_in}
use Rattle.s2ix_bag_lists.proofs.Views.{view_back}
use Rattle.s2ix_bag_lists.proofs.lists_view.ListsView.split_at.Goals as goal

pub returns-clause-back : goal.returns-clause-back
returns-clause-back c = view_back c.args.self.first c.args.self.end c.args.place (all_in c.args.self) c.requires
