use Rattle.s2ix_cli_files.specs.Answers.{ReplayAnswers, RewindAnswers}
use Rattle.s2ix_cli_files.proofs.There.{bytes_back, rewind_replayed}
use Rattle.s2ix_cli_files.proofs.laws.rewind_takes_replayed_text_back.Goals as goal

pub returns-clause-collection : goal.returns-clause-collection
returns-clause-collection c = rewind_replayed

pub returns-clause-bytes : goal.returns-clause-bytes
returns-clause-bytes c = bytes_back ReplayAnswers RewindAnswers rewind_replayed
