use Rattle.s2ix_cli.proofs.Replayed.{journal_leads_back, journal_leads_on}
use Rattle.s2ix_cli.proofs.laws.journal_leads_from_dump_to_dump.Goals as goal

pub returns : goal.returns
returns c = record { replay = journal_leads_on; rewind = journal_leads_back }
