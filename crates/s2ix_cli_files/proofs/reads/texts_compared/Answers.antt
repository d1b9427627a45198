-- Each step's refusal decides, and the next step goes on from what it came to.
use Rattle.std.proofs.Common.{Ok, ap, inl}
use Rattle.std.proofs.lemmas.Result.{err_from_is_err_and}
use Rattle.s2ix_cli_files.specs.Reads.{ComesToChange, DumpReads, SecondReads, Then}
use Rattle.s2ix_cli_files.proofs.Joined.{refused_first, refused_next}
use Rattle.s2ix_cli_files.proofs.reads.texts_compared.Goals as goal

pub returns-in_err-new-clause-refused : goal.returns-in_err-new-clause-refused
returns-in_err-new-clause-refused c =
    let p = err_from_is_err_and c.from_residual-in_err-new.result c.from_residual-in_err-new.ensures.1 in
    let old = c.in_ok-old.old in
    rw (p.1, p.2) (refused_next (DumpReads c.args.limits c.args.first.now)
    (λ from. Then (SecondReads c.args.limits c.args.second.now) (ComesToChange from)) old c.in_err-new.field-0.0 c.in_ok-old.ensures.bag
    (refused_first (SecondReads c.args.limits c.args.second.now) (ComesToChange old) c.in_err-new.field-0.0 c.in_err-new.ensures.refused))

pub returns-in-Ok-clause-change : goal.returns-in-Ok-clause-change
returns-in-Ok-clause-change c =
    inl (c.in_ok-old.old, c.in_ok-old.ensures.bag, inl (c.in_ok-new.new, c.in_ok-new.ensures.bag, ap Ok c.in-Ok.ensures))
