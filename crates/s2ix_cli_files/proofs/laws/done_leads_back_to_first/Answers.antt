use Rattle.s2ix_edit_store.proofs.Journals.{done_is_taken_back, done_leads_back}
use Rattle.s2ix_cli_files.proofs.laws.done_leads_back_to_first.Goals as goal

pub returns : goal.returns
returns c = λ s first st is. (done_is_taken_back s st, done_leads_back s first st is)
