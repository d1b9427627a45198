use Rattle.s2ix_edit_store.proofs.Histories.{history_led, stands_led, store_is_led}
use Rattle.s2ix_edit_store.proofs.laws.histories_come_back.Goals as goal

pub returns : goal.returns
returns c = record { accepted = store_is_led; history = λ s st. history_led s; store = stands_led }
