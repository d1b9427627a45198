-- The dump of a history's first collection and the journal of a store, replayed to the dump of its bag and rewound from it.
use Rattle.std.proofs.Common.{◌≡◌, Some, true, refl, sym, subst}
use Rattle.std.specs.List.{slice_get}
use Rattle.std.proofs.lemmas.Option.{get_or_from_slice_get, slice_get_within}
use Rattle.s2ix_bag_pairs.specs.Collection.{Collection, IsBag}
use Rattle.s2ix_edit_plan.specs.State.{State, history_of}
use Rattle.s2ix_edit_store.specs.Steps.{with_held}
use Rattle.s2ix_edit_store.specs.Store.{IsStore}
use Rattle.s2ix_edit_store.proofs.Along.{history_within}
use Rattle.s2ix_text_write.specs.Dump.{dump_text}
use Rattle.s2ix_text_write.specs.Journal.{journal_text}
use Rattle.s2ix_text_write.proofs.Dumps.{bag_dump}
use Rattle.s2ix_cli_files.specs.Answers.{ReplayAnswers, RewindAnswers}
use Rattle.s2ix_cli_files.specs.Reads.{ReplayLeads, RewindLeads}
use Rattle.s2ix_cli_files.specs.Widest.{widest}
use Rattle.s2ix_edit_store.proofs.Journals.{done_is_taken_back, done_leads, done_leads_back}
use Rattle.s2ix_cli_files.proofs.Recorded.{done_has_journal, done_is_journal}
use Rattle.s2ix_cli_files.proofs.There.{leads_home}
use Rattle.s2ix_cli_files.proofs.Widened.{widened, widened_is_store}

-- the first collection is within the limits
first_is_bag : (s : State) (first : Collection) → IsStore s → slice_get (history_of s).collections 0 ≡ Some first
    → IsBag (with_held s.bag first)
first_is_bag s first st is =
    let hss = (history_of s).collections in
    subst (λ (hs : Collection). IsBag (with_held s.bag hs)) (get_or_from_slice_get hss 0 first first is)
    (history_within s st 0 first (slice_get_within hss 0 first is))

pub done_is_replayed : (s : State) (first : Collection) → IsStore s → slice_get (history_of s).collections 0 ≡ Some first
    → ReplayAnswers widest (dump_text first) (journal_text s.done) (record { text = dump_text s.bag.held; accepted = true })
done_is_replayed s first st is =
    let wide = widened s in
    let wide_st = widened_is_store s st in
    let start = with_held wide.bag first in
    let start_is = first_is_bag wide first wide_st is in
    let leads = done_leads wide first wide_st is in
    leads_home ReplayLeads widest (dump_text first) (journal_text s.done) wide.bag start s.done
    (start_is, refl, bag_dump start start_is) (done_is_journal wide wide_st, done_has_journal wide wide_st) (leads.0, sym leads.1)

pub done_is_rewound : (s : State) (first : Collection) → IsStore s → slice_get (history_of s).collections 0 ≡ Some first
    → RewindAnswers widest (dump_text s.bag.held) (journal_text s.done) (record { text = dump_text first; accepted = true })
done_is_rewound s first st is =
    let wide = widened s in
    let wide_st = widened_is_store s st in
    let start = with_held wide.bag first in
    leads_home RewindLeads widest (dump_text s.bag.held) (journal_text s.done) start wide.bag s.done
    (wide_st.bag, refl, bag_dump wide.bag wide_st.bag) (done_is_journal wide wide_st, done_has_journal wide wide_st)
    (done_is_taken_back wide wide_st, sym (done_leads_back wide first wide_st is))
