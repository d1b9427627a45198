use Rattle.s2ix_cli_files.proofs.Replayed.{done_is_replayed, done_is_rewound}
use Rattle.s2ix_cli_files.proofs.laws.journals_lead_along_a_history.Goals as goal

pub returns : goal.returns
returns c = record { replay = done_is_replayed; rewind = done_is_rewound }
