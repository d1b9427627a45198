use Rattle.s2ix_cli_files.proofs.Diffs.{diffs_lead}
use Rattle.s2ix_cli_files.proofs.laws.diffs_lead_from_dump_to_dump.Goals as goal

pub returns : goal.returns
returns c = diffs_lead
