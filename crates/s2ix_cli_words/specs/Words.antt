-- What the program's words ask for.
use Rattle.std.specs.Prelude.{◌≡◌, ◌≢◌, ◌<◌, ◌^◌, ⊤, ℕ, List, [], ◌∷◌, Option, Some, None, codes, IsTrue, IsSomeAnd, ◌↔◌, String, string_bytes}
use Rattle.std.specs.declared.alloc.Global.{Global}
use Rattle.std.specs.Str.Parse.{IsNumeral, digits_value, without_leading_plus}
use Rattle.clap.specs.Words.{Row, Text, fault_of, first_of, subcommand_of, IsAmong, Kinds}
use Rattle.clap.specs.declared.error.ErrorKind.{ErrorKind}
use Rattle.clap.specs.declared.error.ErrorKind.TheVariants as kind
use Rattle.s2ix_bag_pairs.specs.Limits.{changes_limit, count_limit, pairs_limit}
use Rattle.s2ix_bag_pairs.specs.declared.limits.Limits.{Limits}
use Rattle.s2ix_cli_words.specs.Tree.{program}
use Rattle.s2ix_cli_words.specs.declared.command.Command.{Command}
use Rattle.s2ix_cli_words.specs.declared.command.Command.TheVariants.{Run, Check, Replay, Rewind, Diff}
use Rattle.s2ix_cli_words.specs.declared.command.Start.{Start}
use Rattle.s2ix_cli_words.specs.declared.command.Start.TheVariants.{Empty, Dump, History}
use Rattle.s2ix_cli_words.specs.declared.words_fault.WordsFault.{WordsFault}
use Rattle.s2ix_cli_words.specs.declared.words_fault.WordsFault.TheVariants.{Usage, HelpAsked, VersionAsked, OutOfMemory}

-- ---- what was given

-- the text is this number, as Rust reads a `u32`: digits, and a plus before them if any
abbrev pub IsNumber : Text → ℕ → Type 0
IsNumber text n = IsNumeral 10 (without_leading_plus text) × (n ≡ digits_value 10 (without_leading_plus text)) × (n < 2 ^ 32)

-- the number is the one given, or the default if none is
abbrev pub IsGiven : ℕ → Option Text → ℕ → Type 0
IsGiven default None n = n ≡ default
IsGiven default (Some text) n = IsNumber text n

-- the limits are those given; one that is not is as wide as it may be
abbrev pub AreGiven : List Row → Limits → Type 0
AreGiven given limits = IsGiven 1000000 (first_of (codes "max-pairs") given) (pairs_limit limits)
    × IsGiven 4294967295 (first_of (codes "max-count") given) (count_limit limits)
    × IsGiven 100000 (first_of (codes "max-changes") given) (changes_limit limits)

-- the file has the name given
abbrev pub IsFile : Text → List Row → String Global → Type 0
IsFile name given file = first_of name given ≡ Some (string_bytes file)

-- a run begins with what was given: with a journal only if a dump is
abbrev pub BeginsWith : List Row → Start → Type 0
BeginsWith given Empty = (first_of (codes "load") given ≡ None) × (first_of (codes "journal") given ≡ None)
BeginsWith given (Dump dump) = IsFile (codes "load") given dump × (first_of (codes "journal") given ≡ None)
BeginsWith given (History dump journal) = IsFile (codes "load") given dump × IsFile (codes "journal") given journal

-- ---- commands

-- the word of a command
abbrev pub word_of : Command → Text
word_of (Run start limits stop) = codes "run"
word_of (Check file) = codes "check"
word_of (Replay dump journal) = codes "replay"
word_of (Rewind dump journal) = codes "rewind"
word_of (Diff first second) = codes "diff"

-- the command has what was given after its word
abbrev pub Has : List Row → Command → Type 0
Has given (Run start limits stop) = BeginsWith given start
    × AreGiven given limits
    × (IsTrue stop ↔ (first_of (codes "stop") given ≡ Some (codes "true")))
Has given (Check file) = IsFile (codes "FILE") given file
Has given (Replay dump journal) = IsFile (codes "DUMP") given dump × IsFile (codes "JOURNAL") given journal
Has given (Rewind dump journal) = IsFile (codes "DUMP") given dump × IsFile (codes "JOURNAL") given journal
Has given (Diff first second) = IsFile (codes "FIRST") given first × IsFile (codes "SECOND") given second

-- the command is that of this word and what was given after it
abbrev pub IsOf : Text → List Row → Command → Type 0
IsOf word given command = (word ≡ word_of command) × Has given command

-- what was met, if there is no fault
abbrev pub without_fault : {X : Type 0} → Kinds → Option X → Option X
without_fault [] met = met
without_fault (fault ∷ faults) met = None

-- the subcommand that the words name, with what they give it; none if clap refuses the words or is asked for help or the version
abbrev pub asked : List Text → Option (Text × List Row)
asked words = without_fault (fault_of program words) (subcommand_of program words)

-- the command is that of the subcommand that was met
abbrev pub IsMet : Option (Text × List Row) → Command → Type 0
IsMet met command = IsSomeAnd met (λ it. IsOf it.0 it.1 command)

-- the words ask for this command
abbrev pub AskFor : List Text → Command → Type 0
AskFor words command = IsMet (asked words) command

-- ---- refusals

-- the fault is usage only if nothing of the kind is asked for, and never help or the version; it may always be want of memory
abbrev pub Refuses : {A : Type 0} → (A → Type 0) → WordsFault → Type 0
Refuses {A} Asks (Usage text) = (asked_for : A) → Asks asked_for → ⊥
Refuses Asks (HelpAsked text) = ⊥
Refuses Asks (VersionAsked text) = ⊥
Refuses Asks OutOfMemory = ⊤

-- the fault is usage only if no file of this name was given, and never help or the version; it may always be want of memory
abbrev pub Lacks : Text → List Row → WordsFault → Type 0
Lacks name given (Usage text) = first_of name given ≡ None
Lacks name given (HelpAsked text) = ⊥
Lacks name given (VersionAsked text) = ⊥
Lacks name given OutOfMemory = ⊤

-- the fault is usage or want of memory
abbrev pub IsUsage : WordsFault → Type 0
IsUsage (HelpAsked text) = ⊥
IsUsage (VersionAsked text) = ⊥
IsUsage _ = ⊤

-- clap's refusals as the program's
abbrev pub IsToldAs : ErrorKind → WordsFault → Type 0
IsToldAs why (Usage text) = (why ≢ kind.DisplayHelp) × (why ≢ kind.DisplayVersion) × (why ≢ kind.OutOfMemory)
IsToldAs why (HelpAsked text) = why ≡ kind.DisplayHelp
IsToldAs why (VersionAsked text) = why ≡ kind.DisplayVersion
IsToldAs why OutOfMemory = ⊤

-- the fault is usage only if the words ask for no command and not for help or the version alone, and help or the version only if
-- they ask for it; it may always be want of memory
abbrev pub AreRefused : List Text → WordsFault → Type 0
AreRefused words (Usage text) = ((command : Command) → AskFor words command → ⊥)
    × (fault_of program words ≢ kind.DisplayHelp ∷ [])
    × (fault_of program words ≢ kind.DisplayVersion ∷ [])
AreRefused words (HelpAsked text) = IsAmong kind.DisplayHelp (fault_of program words)
AreRefused words (VersionAsked text) = IsAmong kind.DisplayVersion (fault_of program words)
AreRefused words OutOfMemory = ⊤
