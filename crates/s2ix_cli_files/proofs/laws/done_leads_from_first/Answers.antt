use Rattle.s2ix_edit_store.proofs.Journals.{done_leads}
use Rattle.s2ix_cli_files.proofs.laws.done_leads_from_first.Goals as goal

pub returns : goal.returns
returns c = done_leads
