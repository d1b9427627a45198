-- Each step's refusal decides, and the next step goes on from what it came to.
use Rattle.std.proofs.lemmas.Result.{err_from_is_err_and}
use Rattle.s2ix_bag.specs.Replay.{replay_refusal}
use Rattle.s2ix_cli_files.specs.Reads.{ReplayLeads}
use Rattle.s2ix_cli_files.proofs.Joined.{read_as_slice, refused_journal, refused_leading, texts_lead}
use Rattle.s2ix_cli_files.proofs.reads.texts_replayed.Goals as goal

pub returns-in_err-changes-clause-refused : goal.returns-in_err-changes-clause-refused
returns-in_err-changes-clause-refused c =
    let p = err_from_is_err_and c.from_residual-in_err-changes.result c.from_residual-in_err-changes.ensures.1 in
    rw (p.1, p.2) (refused_journal ReplayLeads c.args.limits c.args.dump.now c.args.journal.now c.in_ok-bag.bag c.in_err-changes.field-0.0
    c.in_ok-bag.ensures.bag c.in_err-changes.ensures.refused)

pub returns-in_err-replay-clause-refused : goal.returns-in_err-replay-clause-refused
returns-in_err-replay-clause-refused c =
    let p = err_from_is_err_and c.from_residual-in_err-replay.result c.from_residual-in_err-replay.ensures.1 in
    let changes = c.as_slice.result.now in
    let read = read_as_slice c.args.limits c.args.journal.now _ changes c.as_slice.ensures.value c.in_ok-changes.ensures.changes in
    rw (p.1, p.2) (refused_leading ReplayLeads c.args.limits c.args.dump.now c.args.journal.now c.in_ok-bag.bag changes
    (replay_refusal c.in_ok-bag.bag changes) c.in_err-replay.field-0.0 (λ refusal is. is) c.in_ok-bag.ensures.bag read
    c.in_err-replay.ensures.refused)

pub returns-clause-bag : goal.returns-clause-bag
returns-clause-bag c =
    let changes = c.as_slice.result.now in
    let read = read_as_slice c.args.limits c.args.journal.now _ changes c.as_slice.ensures.value c.in_ok-changes.ensures.changes in
    texts_lead ReplayLeads c.args.limits c.args.dump.now c.args.journal.now c.in_ok-bag.bag changes _ c.in_ok-bag.ensures.bag read
    (c.in_ok-replay.ensures.accepted, c.in_ok-replay.ensures.bag)
