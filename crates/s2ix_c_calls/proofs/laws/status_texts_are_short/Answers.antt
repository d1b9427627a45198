use Rattle.s2ix_c_calls.proofs.StatusTexts.{short_text}
use Rattle.s2ix_c_calls.proofs.laws.status_texts_are_short.Goals as goal

pub returns : goal.returns
returns c = short_text
