-- What clap's answer says of the words.
use Rattle.std.proofs.Common.{◌≡◌, ◌∙◌, List, [], ◌∷◌, Option, None, Bool, true, false, inl, inr, refl, ap, sym, subst, true≢false}
use Rattle.std.specs.Prelude.{◌⊎◌}
use Rattle.clap.specs.Words.{App, HasMatchesOf, IsAmong, Kinds, Row, Text, fault_of, is_simple, is_simple_and_free, subcommand_of, subcommand_rows_of}
use Rattle.clap.specs.declared.error.ErrorKind.{ErrorKind}
use Rattle.clap.specs.declared.error.ErrorKind.TheVariants as kind
use Rattle.clap.specs.declared.parser.ArgMatches.{ArgMatches}
use Rattle.clap.proofs.OnLiterals.{clap_on_literals}
use Rattle.s2ix_cli_words.specs.Tree.{program}
use Rattle.s2ix_cli_words.specs.Words.{AreRefused, IsMet, IsToldAs, Refuses, asked, without_fault}
use Rattle.s2ix_cli_words.specs.declared.command.Command.{Command}
use Rattle.s2ix_cli_words.specs.declared.words_fault.WordsFault.{WordsFault}
use Rattle.s2ix_cli_words.specs.declared.words_fault.WordsFault.TheVariants.{Usage, HelpAsked, VersionAsked, OutOfMemory}

is_program_simple : is_simple program ≡ true
unfolding clap_on_literals
is_program_simple = refl

pub is_free : is_simple_and_free program ≡ true
unfolding clap_on_literals
is_free = refl

no_fault : {X : Type 0} (faults : Kinds) (o : Option X) → faults ≡ [] → o ≡ without_fault faults o
no_fault faults o none = rw none refl

has_fault : {X : Type 0} (k : ErrorKind) (faults : Kinds) (o : Option X) → IsAmong k faults → without_fault faults o ≡ None
has_fault k [] o among = absurd among
has_fault k (l ∷ ls) o among = refl

is_empty : Kinds → Bool
is_empty [] = true
is_empty _ = false

not_alone : (faults : Kinds) (k : ErrorKind) → faults ≡ [] → faults ≡ k ∷ [] → ⊥
unfolding is_empty
not_alone faults k none one = true≢false (ap is_empty (sym none ∙ one))

pub without_faults : (app : App) (words : List Text) → app ≡ program → (is_simple_and_free app ≡ true → fault_of app words ≡ [])
    → fault_of program words ≡ []
without_faults app words is none = subst (λ a. is_simple_and_free a ≡ true → fault_of a words ≡ []) is none is_free

pub is_asked : (app : App) (words : List Text) (m : ArgMatches) → app ≡ program → HasMatchesOf app words m → fault_of program words ≡ []
    → subcommand_rows_of m ≡ asked words
is_asked app words m is has none =
    (subst (λ a. HasMatchesOf a words m) is has is_program_simple).1 ∙ no_fault (fault_of program words) (subcommand_of program words) none

pub met_refused : (words : List Text) (met : Option (Text × List Row)) (fault : WordsFault) → met ≡ asked words
    → fault_of program words ≡ []
    → Refuses (IsMet met) fault → AreRefused words fault
met_refused words met (Usage text) is none refuses = (
  subst (λ m. (command : Command) → IsMet m command → ⊥) is refuses,
  λ help. not_alone (fault_of program words) kind.DisplayHelp none help,
  λ version. not_alone (fault_of program words) kind.DisplayVersion none version,
)
met_refused words met (HelpAsked text) is none refuses = absurd refuses
met_refused words met (VersionAsked text) is none refuses = absurd refuses
met_refused words met OutOfMemory is none refuses = tt

is_help : ErrorKind → Bool
is_help kind.DisplayHelp = true
is_help _ = false

is_version : ErrorKind → Bool
is_version kind.DisplayVersion = true
is_version _ = false

alone : (k l : ErrorKind) → IsAmong k (l ∷ []) → k ≡ l
alone k l (inl same) = same
alone k l (inr none) = elim none [ ]

pub told_refused : (words : List Text) (why : ErrorKind) (fault : WordsFault) → IsToldAs why fault
    → (why ≡ kind.OutOfMemory) ⊎ IsAmong why (fault_of program words) → AreRefused words fault
unfolding is_help is_version
told_refused words why (Usage text) told (inl memory) = absurd (told.2 memory)
told_refused words why (Usage text) told (inr among) = (
  λ command asks. subst (λ m. IsMet m command) (has_fault why (fault_of program words) (subcommand_of program words) among) asks,
  λ help. told.0 (alone why kind.DisplayHelp (subst (IsAmong why) help among)),
  λ version. told.1 (alone why kind.DisplayVersion (subst (IsAmong why) version among)),
)
told_refused words why (HelpAsked text) told (inl memory) = absurd (true≢false (ap is_help (sym told ∙ memory)))
told_refused words why (HelpAsked text) told (inr among) = subst (λ k. IsAmong k (fault_of program words)) told among
told_refused words why (VersionAsked text) told (inl memory) = absurd (true≢false (ap is_version (sym told ∙ memory)))
told_refused words why (VersionAsked text) told (inr among) = subst (λ k. IsAmong k (fault_of program words)) told among
told_refused words why OutOfMemory told has = tt
