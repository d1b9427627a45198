use Rattle.std.proofs.Common.{sym, ◌∙◌, subst, IsUtf8, rules}
use Rattle.s2id_core.proofs.Canonical.{text-canonical_token}
use Rattle.s2id_core.proofs.display.CellIdDisplay.fmt.Goals as goal

pub unreachable-requires : goal.unreachable-requires
unreachable-requires g c =
    let text = c.as_bytes.ensures ∙ c.token-token.ensures in
    c.in-Err.ensures.cases.0 (subst IsUtf8 (sym text) (text-canonical_token c.args.self.now.raw))

pub returns-clause-writes : goal.returns-clause-writes
returns-clause-writes g c = search rules

pub returns-clause-styled : goal.returns-clause-styled
returns-clause-styled g c = search rules
