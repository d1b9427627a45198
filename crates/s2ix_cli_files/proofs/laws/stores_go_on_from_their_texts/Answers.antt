use Rattle.s2ix_cli_files.proofs.Gone.{texts_are_accepted, texts_resume, texts_resume_one}
use Rattle.s2ix_cli_files.proofs.laws.stores_go_on_from_their_texts.Goals as goal

pub returns : goal.returns
returns c = record { accepted = texts_are_accepted; store = texts_resume; one = texts_resume_one }
