-- The words that the program knows, as clap counts them.
use Rattle.std.specs.Prelude.{◌≡◌, List, [], ◌∷◌, Some, codes, true, false}
use Rattle.clap.specs.Words.{App, Rule, Shape, Text, app_of, new_app, new_rule, shape_of}
use Rattle.clap.specs.declared.builder.ArgAction.TheVariants.{SetTrue}
use Rattle.clap.specs.declared.builder.Command.{Command}
use Rattle.clap.specs.declared.builder.Command.TheViews.{out-Command}

-- what is named after two dashes
abbrev pub dashed_rule : Text → Rule
dashed_rule name = record (new_rule name) { long = Some name }

-- `--NAME VALUE`, which may be left out
abbrev pub option_rule : Text → Rule
option_rule name = record (dashed_rule name) { value_names = 1 }

-- `--NAME`, which may be left out
abbrev pub flag_rule : Text → Rule
flag_rule name = record (dashed_rule name) { action = Some SetTrue }

-- the name of a file, which must be given
abbrev pub file_rule : Text → Rule
file_rule name = record (new_rule name) { required = true }

-- a subcommand with these arguments
abbrev pub with_words : Text → List Rule → Shape
with_words name rules = record (new_app name).top { rules = rules }

-- `run [--load FILE] [--journal FILE] [--max-pairs N] [--max-count N] [--max-changes N] [--stop]`
abbrev pub run_words : Shape
run_words = with_words (codes "run") (option_rule (codes "load") ∷ option_rule (codes "journal") ∷ option_rule (codes "max-pairs")
    ∷ option_rule (codes "max-count") ∷ option_rule (codes "max-changes") ∷ flag_rule (codes "stop") ∷ [])

-- `check FILE`
abbrev pub check_words : Shape
check_words = with_words (codes "check") (file_rule (codes "FILE") ∷ [])

-- `NAME DUMP JOURNAL`
abbrev pub texts_words : Text → Shape
texts_words name = with_words name (file_rule (codes "DUMP") ∷ file_rule (codes "JOURNAL") ∷ [])

-- `diff FIRST SECOND`
abbrev pub diff_words : Shape
diff_words = with_words (codes "diff") (file_rule (codes "FIRST") ∷ file_rule (codes "SECOND") ∷ [])

-- all the words: one of the subcommands must be named unless help or the version is asked, and the program's own name is not among the
-- words
abbrev pub program : App
program = record {
  top = record (new_app (codes "s2ix")).top { no_binary_name = true; has_version = true; subcommand_required = true; is_leaf = false };
  subs = run_words ∷ check_words ∷ texts_words (codes "replay") ∷ texts_words (codes "rewind") ∷ diff_words ∷ [];
}

-- the program's own words, without its subcommands
abbrev pub own_words : App
own_words = record {
  top = record (new_app (codes "s2ix")).top { no_binary_name = true; has_version = true; subcommand_required = true };
  subs = [];
}

-- clap was told of a command with these words
abbrev pub IsCommand : App → Command → Type 0
IsCommand words command = (app_of command ≡ words) × ((out-Command command).has_globals ≡ false)

-- clap was told of a subcommand with these words
abbrev pub IsSubcommand : Shape → Command → Type 0
IsSubcommand words command = (shape_of command ≡ words) × ((out-Command command).has_globals ≡ false)
