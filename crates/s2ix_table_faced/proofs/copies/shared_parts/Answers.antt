-- Clones of parts are the same parts.
use Rattle.std.proofs.Common.{◌++◌, ◌∙◌, ap}
use Rattle.s2ix_table_parts.proofs.Shared.{cloned_behind}
use Rattle.s2ix_table_faced.proofs.copies.shared_parts.Goals as goal

pub returns : goal.returns
returns c =
    let parts = c.args.parts.now in
    cloned_behind c.in_ok-copy.copy.items c.extend_from_slice.new.self.items parts c.in_ok-extend_from_slice.ensures.items
    ∙ ap (λ ts. ts ++ parts) c.in_ok-copy.ensures.items
