-- What is copied rises, as the bag does.
use Rattle.std.proofs.Common.{◌-◌}
use Rattle.s2ix_table_kept.proofs.ReadBlocks.{between_rises, between_few}
use Rattle.s2ix_table_kept.proofs.bag_reader.BagReader.listed.Goals as goal

pub new-requires-clause-rises : goal.new-requires-clause-rises
new-requires-clause-rises c =
    between_rises c.args.self.now.bag.now.held c.in_ok-copied.field-0.items c.args.from (c.args.to - c.args.from) c.args.self.now.rises
    c.in_ok-copied.ensures

pub new-requires-clause-within_limit : goal.new-requires-clause-within_limit
new-requires-clause-within_limit c =
    between_few c.args.self.now.bag.now.held c.in_ok-copied.field-0.items c.args.from c.args.to c.args.self.now.within_limit c.requires.rises
    c.requires.within c.in_ok-copied.ensures
