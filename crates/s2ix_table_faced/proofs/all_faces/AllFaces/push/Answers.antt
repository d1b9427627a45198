-- Parts that stay, new ones between them.
use Rattle.std.proofs.Common.{◌++◌, take, drop, ◌∙◌, ap, ap₂, append_assoc}
use Rattle.s2ix_table_parts.proofs.Shared.{cloned_behind}
use Rattle.s2ix_table_faced.proofs.all_faces.AllFaces.push.Goals as goal

pub returns-clause-parts : goal.returns-clause-parts
returns-clause-parts c =
    let new = c.args.new in
    let before = c.args.before.now in
    let old = c.args.self.now.parts.items in
    let front = cloned_behind old c.extend_from_slice.new.self.items c.split_at.result.0.now c.in_ok-extend_from_slice.ensures.items
    ∙ ap (λ ts. old ++ ts) c.split_at.ensures.front in
    cloned_behind c.append.new.self.items c.extend_from_slice-2.new.self.items c.split_at-2.result.1.now c.in_ok-extend_from_slice-2.ensures.items
    ∙ ap₂ (λ ts us. ts ++ us) (c.in_ok-append.ensures.items ∙ ap (λ ts. ts ++ new.parts.items) front) c.split_at-2.ensures.back
    ∙ append_assoc (old ++ take new.first before) new.parts.items (drop new.end before)
    ∙ append_assoc old (take new.first before) (new.parts.items ++ drop new.end before)
