-- The changes of a journal may be recorded.
use Rattle.std.proofs.Common.{◌≡◌, ℕ, ◌+◌, Bool, cond, List, [], ◌∷◌, length, Option, Some, None, All, refl, sym, ap₂, subst, arith, le-ltb, ◌∙◌}
use Rattle.std.specs.Option.{option_map}
use Rattle.std.proofs.lemmas.List.Elements.{All-head, All-tail}
use Rattle.s2ix_bag_pairs.specs.Collection.{LimitedCollection}
use Rattle.s2ix_bag_pairs.specs.Limits.{changes_limit}
use Rattle.s2ix_bag_pairs.specs.declared.limits.Limits.{Limits}
use Rattle.s2ix_bag_pairs.specs.declared.pair.Entry.{Entry}
use Rattle.s2ix_edit_store.specs.declared.history_error.HistoryError.{HistoryError}
use Rattle.s2ix_edit_store.specs.declared.history_error.HistoryError.TheVariants as history
use Rattle.s2ix_edit_store.specs.Given.{first_empty_from, record_refusal}
use Rattle.s2ix_text_write.specs.Journal.{IsWritable}
use Rattle.s2ix_text.specs.Journals.{IsJournal}

none_at : (number : ℕ) (es : List Entry) (rest : List (List Entry)) → IsWritable es
    → first_empty_from number (es ∷ rest) ≡ first_empty_from (number + 1) rest
none_at number [] rest is = let some = is.some in absurd (omega (arith, some))
none_at number (e ∷ es) rest is = refl

none_empty : (number : ℕ) (changes : List (List Entry)) → All IsWritable changes → first_empty_from number changes ≡ None
none_empty number [] all = refl
none_empty number (es ∷ rest) all =
    none_at number es rest (All-head IsWritable es rest all) ∙ none_empty (number + 1) rest (All-tail IsWritable es rest all)

-- the refusal for what can't be recorded, by what each test finds
abbrev unrecorded : Bool → Option ℕ → Option HistoryError
unrecorded full empty = cond full (Some history.JournalFull) (option_map history.NoChange empty)

pub journal_is_recordable : (limits : Limits) (changes : List (List Entry)) → IsJournal limits changes
    → record_refusal (changes_limit limits) changes ≡ None
journal_is_recordable limits changes is =
    ap₂ unrecorded (le-ltb (changes_limit limits) (length changes) is.within.within_limit) (none_empty 1 changes is.within.writable)

pub recordable_of : (limits : Limits) (bag : LimitedCollection) (changes : List (List Entry)) → bag.limits ≡ limits
    → IsJournal limits changes → record_refusal (changes_limit bag.limits) changes ≡ None
recordable_of limits bag changes same is =
    subst (λ (l : Limits). record_refusal (changes_limit l) changes ≡ None) (sym same) (journal_is_recordable limits changes is)
