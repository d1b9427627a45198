-- A script that begins with a dump and ends with a journal.
use Rattle.std.proofs.Common.{◌≡◌, ℕ, true, List, [], ◌∷◌, ◌++◌, Some, get_or, reverse, sym, ap, ◌∙◌, subst, append-nil, arith}
use Rattle.std.specs.List.{slice_get}
use Rattle.std.proofs.lemmas.List.Elements.{All-head, All-tail}
use Rattle.std.proofs.lemmas.Option.{slice_get-get_or}
use Rattle.s2ix_edit_plan.specs.State.{State, earlier, history_of, later}
use Rattle.s2ix_edit_store.specs.Standing.{first_collection}
use Rattle.s2ix_edit_store.specs.Store.{IsStore}
use Rattle.s2ix_edit_store.proofs.Along.{length_of_history}
use Rattle.s2ix_text_write.specs.Dump.{dump_text}
use Rattle.s2ix_text_write.specs.Journal.{journal_text}
use Rattle.s2ix_cli_files.specs.Answers.{ReplayAnswers, RewindAnswers}
use Rattle.s2ix_cli_files.specs.Widest.{widest}
use Rattle.s2ix_cli_files.proofs.Replayed.{done_is_replayed, done_is_rewound}
use Rattle.s2ix_cli_script.specs.declared.instruction.Instruction.TheVariants as asks
use Rattle.s2ix_cli_run.specs.Asking.{AsksFor}
use Rattle.s2ix_cli_run.specs.Step.{Step, step_of}
use Rattle.s2ix_cli_run.proofs.Asked.{step_asked}
use Rattle.s2ix_cli_run.proofs.Kept.{StaysIn, line_stays, stays_put}
use Rattle.s2ix_cli.specs.Laws.{JournalLeadsBack, JournalLeadsOn, NoneForgets}
use Rattle.s2ix_cli_run.specs.Script.{after, output_of}

-- lines of which none forgets what was done
lines_stay : (s : State) (lines : List (List ℕ)) → IsStore s → NoneForgets lines → StaysIn s (after s lines)
lines_stay s [] st keep = stays_put s st
lines_stay s (line ∷ lines) st keep =
    let Keeps : List ℕ → Type 0 = λ l. ¬ AsksFor l asks.Forget in
    let one = line_stays s line st (All-head Keeps line lines keep) in
    let rest = lines_stay (step_of s line).after lines one.store (All-tail Keeps line lines keep) in
    record { store = rest.store; first = rest.first ∙ one.first }

-- a store that has done nothing stands at the start of its history
first_is_held : (s : State) → s.done ≡ [] → first_collection s ≡ s.bag.held
first_is_held s none = ap (λ ess. get_or (earlier s.bag.held (reverse ess) ++ s.bag.held ∷ later s.bag.held (reverse s.undone)) 0 []) none

dump_printed : (s : State) (dump : List ℕ) → AsksFor dump asks.Dump → output_of s (dump ∷ []) ≡ dump_text s.bag.held
dump_printed s dump asked = ap (λ (t : Step). t.answer ++ []) (step_asked s dump asks.Dump asked) ∙ append-nil (dump_text s.bag.held)

journal_printed : (s : State) (journal : List ℕ) → AsksFor journal asks.Journal → output_of s (journal ∷ []) ≡ journal_text s.done
journal_printed s journal asked =
    ap (λ (t : Step). t.answer ++ []) (step_asked s journal asks.Journal asked) ∙ append-nil (journal_text s.done)

-- the dump at the start is that of the first collection of the history in which the store then stands
first_stays : (s : State) (lines : List (List ℕ)) → IsStore s → s.done ≡ [] → NoneForgets lines
    → slice_get (history_of (after s lines)).collections 0 ≡ Some s.bag.held
first_stays s lines st none keep =
    let t = after s lines in
    slice_get-get_or (history_of t).collections 0 [] (omega (arith, length_of_history t))
    ∙ ap Some ((lines_stay s lines st keep).first ∙ first_is_held s none)

-- what is answered to the texts that three lines print
answers_printed : (Answers : List ℕ → List ℕ → List ℕ → Type 0) (from from' changes changes' to to' : List ℕ) → from' ≡ from
    → changes' ≡ changes → to' ≡ to → Answers from changes to → Answers from' changes' to'
answers_printed Answers from from' changes changes' to to' from_is changes_is to_is answers =
    subst (λ text. Answers text changes' to') (sym from_is)
    (subst (λ text. Answers from text to') (sym changes_is) (subst (λ text. Answers from changes text) (sym to_is) answers))

pub journal_leads_on : JournalLeadsOn
journal_leads_on s lines dump journal st none keep is_dump is_journal =
    let t = after s lines in
    answers_printed (λ from changes to. ReplayAnswers widest from changes (record { text = to; accepted = true })) _ _ _ _ _ _
    (dump_printed s dump is_dump) (journal_printed t journal is_journal) (dump_printed t dump is_dump)
    (done_is_replayed t s.bag.held (lines_stay s lines st keep).store (first_stays s lines st none keep))

pub journal_leads_back : JournalLeadsBack
journal_leads_back s lines dump journal st none keep is_dump is_journal =
    let t = after s lines in
    answers_printed (λ from changes to. RewindAnswers widest from changes (record { text = to; accepted = true })) _ _ _ _ _ _
    (dump_printed t dump is_dump) (journal_printed t journal is_journal) (dump_printed s dump is_dump)
    (done_is_rewound t s.bag.held (lines_stay s lines st keep).store (first_stays s lines st none keep))
