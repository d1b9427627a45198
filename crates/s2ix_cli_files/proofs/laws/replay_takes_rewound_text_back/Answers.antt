use Rattle.s2ix_cli_files.specs.Answers.{ReplayAnswers, RewindAnswers}
use Rattle.s2ix_cli_files.proofs.There.{bytes_back, replay_rewound}
use Rattle.s2ix_cli_files.proofs.laws.replay_takes_rewound_text_back.Goals as goal

pub returns-clause-collection : goal.returns-clause-collection
returns-clause-collection c = replay_rewound

pub returns-clause-bytes : goal.returns-clause-bytes
returns-clause-bytes c = bytes_back RewindAnswers ReplayAnswers replay_rewound
