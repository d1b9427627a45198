use Rattle.s2id_union.proofs.NormalForm.{form_normal, form_same_region, form_itself, one_form}
use Rattle.s2id_union.proofs.Shortest.{shortest}
use Rattle.s2id_union.proofs.laws.normal_form_is_normal.Goals as goal

pub returns-clause-normal : goal.returns-clause-normal
returns-clause-normal c = form_normal

pub returns-clause-region : goal.returns-clause-region
returns-clause-region c = form_same_region

pub returns-clause-at_most : goal.returns-clause-at_most
returns-clause-at_most c = λ cells. shortest _ cells (form_normal cells) (form_same_region cells)

pub returns-clause-itself : goal.returns-clause-itself
returns-clause-itself c = form_itself

pub returns-clause-same : goal.returns-clause-same
returns-clause-same c = one_form
