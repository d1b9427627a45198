-- Each step's refusal decides, and the next step goes on from what it came to.
use Rattle.std.proofs.Common.{ℕ, Option, sym, subst, refl}
use Rattle.std.proofs.lemmas.Result.{IfErr-weaker, IfOk-weaker, err_from_is_err_and}
use Rattle.s2ix_bag.specs.Replay.{rewound}
use Rattle.s2ix_text_parts.specs.LineFaults.{IsFromLine}
use Rattle.s2ix_text.specs.declared.dump_error.DumpFault.{DumpFault}
use Rattle.s2ix_cli_files.specs.Reads.{DumpReads, JournalReads, RewindLeads, Then}
use Rattle.s2ix_cli_files.proofs.Joined.{if_ok, refused_journal, refused_next, texts_lead}
use Rattle.s2ix_cli_files.proofs.Led.{recordable_of}
use Rattle.s2ix_cli_files.proofs.reads.texts_resumed.Goals as goal

pub store_led-requires : goal.store_led-requires
store_led-requires g c = record {
  recordable =
      recordable_of c.args.limits c.in_ok-bag.bag c.in_ok-changes.changes.items c.in_ok-bag.ensures.bag.1 c.in_ok-changes.ensures.changes.0;
}

pub returns-in_err-changes-clause-refused : goal.returns-in_err-changes-clause-refused
returns-in_err-changes-clause-refused g c =
    let p = err_from_is_err_and c.from_residual-in_err-changes.result c.from_residual-in_err-changes.ensures.1 in
    rw (p.1, p.2) (refused_journal RewindLeads c.args.limits c.args.dump.now c.args.journal.now c.in_ok-bag.bag c.in_err-changes.field-0.0
    c.in_ok-bag.ensures.bag c.in_err-changes.ensures.refused)

pub returns-clause-store : goal.returns-clause-store
returns-clause-store g c =
    IfOk-weaker c.store_led.result _ _
    (λ store is. (c.in_ok-bag.bag, c.in_ok-changes.changes.items, c.in_ok-bag.ensures.bag, c.in_ok-changes.ensures.changes, is))
    c.store_led.ensures.store

pub returns-clause-first : goal.returns-clause-first
returns-clause-first g c =
    let bag = c.in_ok-bag.bag in
    let changes = c.in_ok-changes.changes.items in
    if_ok c.store_led.result _ _
    (λ taken. (
      rewound bag changes,
      texts_lead RewindLeads c.args.limits c.args.dump.now c.args.journal.now bag changes (rewound bag changes)
          c.in_ok-bag.ensures.bag c.in_ok-changes.ensures.changes (taken, refl),
    )) c.store_led.ensures.accepted

pub returns-clause-refused : goal.returns-clause-refused
returns-clause-refused g c =
    let bag = c.in_ok-bag.bag in
    IfErr-weaker c.store_led.result _ _
    (λ error refused.
    refused_next (DumpReads c.args.limits c.args.dump.now) (λ from. Then (JournalReads c.args.limits c.args.journal.now) (RewindLeads from)) bag
    error c.in_ok-bag.ensures.bag
    (refused_next (JournalReads c.args.limits c.args.journal.now) (RewindLeads bag) c.in_ok-changes.changes.items error
    c.in_ok-changes.ensures.changes refused)) c.store_led.ensures.refused

pub returns-clause-memory : goal.returns-clause-memory
returns-clause-memory g c =
    IfErr-weaker c.store_led.result _ _
    (λ error refused. λ wanted. subst (λ (found : Option (ℕ × DumpFault)). IsFromLine 2 found) (sym c.in_ok-bag.ensures.accepted) tt)
    c.store_led.ensures.refused
