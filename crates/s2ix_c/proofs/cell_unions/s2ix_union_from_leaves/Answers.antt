-- Equal bounds give no cells.
use Rattle.std.proofs.Common.{◌≤◌, arith, subst}
use Rattle.s2id_union.specs.declared.error.RangeError.{RangeError}
use Rattle.s2id_union.specs.Range.{IsRangeRefusal}
use Rattle.s2ix_c.proofs.OfNone.{no_leaves}
use Rattle.s2ix_c.proofs.cell_unions.s2ix_union_from_leaves.Goals as goal

pub returns-in-Err-OutOfMemory-2 : goal.returns-in-Err-OutOfMemory-2
returns-in-Err-OutOfMemory-2 c =
    let none : c.args.limit ≤ c.args.start = omega arith in
    let range = subst (λ (e : RangeError). IsRangeRefusal e c.args.start c.args.limit) c.in-Err-OutOfMemory.field-0-is c.in-Err-OutOfMemory.ensures.refused in
    no_leaves c.args.start c.args.limit c.args.out.now range none
