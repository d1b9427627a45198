-- The line of a pair, with colons between its parts.
use Rattle.std.proofs.Common.{◌++◌, take, ap, ◌∙◌}
use Rattle.s2ix_text_write.proofs.Placed.{held_line_between}
use Rattle.s2ix_text_write.proofs.list.HeldListItem.line_at.Goals as goal

pub returns-clause-line : goal.returns-clause-line
returns-clause-line c =
    c.pair_at.ensures.line ∙ ap (λ line. take c.args.place c.args.room.now ++ line) (held_line_between c.args.self)
