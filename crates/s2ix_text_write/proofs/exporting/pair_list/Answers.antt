-- A token is text.
use Rattle.std.proofs.Common.{sym, ◌∙◌, subst, IsUtf8}
use Rattle.s2id_core.proofs.Canonical.{text-canonical_token}
use Rattle.s2ix_text_write.proofs.exporting.pair_list.Goals as goal

pub unreachable-requires : goal.unreachable-requires
unreachable-requires c =
    let text = c.as_bytes.ensures ∙ c.token-token.ensures in
    c.in-Err.ensures.cases.0 (subst IsUtf8 (sym text) (text-canonical_token c.args.held.pair.cell.raw))
