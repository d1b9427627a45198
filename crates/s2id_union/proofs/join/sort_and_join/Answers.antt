use Rattle.std.proofs.Common.{◌↔◌, ℕ}
use Rattle.std.proofs.lemmas.Result.{MatchResult-weaker}
use Rattle.s2id_union.specs.Covers.{Covers}
use Rattle.s2id_union.proofs.Joining.{covers_permutation}
use Rattle.s2id_union.proofs.join.sort_and_join.Goals as goal

pub returns-clause-covers : goal.returns-clause-covers
returns-clause-covers c =
    let same = covers_permutation c.args.cells.now c.sort_by_first.new.cells c.sort_by_first.ensures.permutation in
    MatchResult-weaker c.join_spans.result {P' = λ list. (q : ℕ) → Covers list.items q ↔ Covers c.args.cells.now q} c.join_spans.ensures.covers (λ list made q. ((λ v. (same q).0 ((made q).0 v)), (λ v. (made q).1 ((same q).1 v)))) (λ error none. none)
