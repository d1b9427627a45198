use Rattle.std.proofs.Common.{◌+◌, ◌<◌, ◌≤◌, List, take, drop, sym, ap, ◌∙◌, subst, Contains}
use Rattle.s2id_core.specs.CellId.{face_of}
use Rattle.s2ix_bag_pairs.specs.Change.{IsChangeList}
use Rattle.s2ix_bag_pairs.specs.declared.pair.Entry.{Entry}
use Rattle.s2ix_table_faced.proofs.ChangedOnFaces.{change_after, change_up_to, stand_together}
use Rattle.s2ix_table_faced.proofs.entries_on.entries_on.Goals as goal

pub before_face-requires-2 : goal.before_face-requires-2
before_face-requires-2 c =
    subst IsChangeList (sym c.split_at.ensures.back) (change_after c.before_face.result 0 c.args.entries.now c.requires.rises)

pub returns-clause-entries : goal.returns-clause-entries
returns-clause-entries c =
    let es = c.args.entries.now in
    let later = c.split_at.ensures.back in
    let b = c.before_face-2.result in
    c.split_at-2.ensures.front ∙ ap (take b) later
    ∙ stand_together c.args.face c.before_face.result b es c.before_face.ensures.before c.before_face.ensures.from
    (subst (λ (xs : List Entry). (x : Entry) → Contains (take b xs) x → face_of x.pair.cell < c.args.face + 1) later c.before_face-2.ensures.before)
    (subst (λ (xs : List Entry). (x : Entry) → Contains (drop b xs) x → c.args.face + 1 ≤ face_of x.pair.cell) later c.before_face-2.ensures.from)

pub returns-clause-rises : goal.returns-clause-rises
returns-clause-rises c =
    subst IsChangeList (sym (c.split_at-2.ensures.front ∙ ap (take c.before_face-2.result) c.split_at.ensures.back))
    (change_up_to c.before_face-2.result 0 (drop c.before_face.result c.args.entries.now)
    (change_after c.before_face.result 0 c.args.entries.now c.requires.rises))
