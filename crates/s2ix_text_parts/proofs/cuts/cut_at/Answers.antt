-- The first byte of the kind ends the first piece.
use Rattle.std.proofs.Common.{◌+◌}
use Rattle.std.proofs.lemmas.List.{take_rest}
use Rattle.s2ix_text_parts.proofs.Pieces.{cut_parts, pieces_cut, pieces_none}
use Rattle.s2ix_text_parts.proofs.cuts.cut_at.Goals as goal

pub returns-in_err-place-clause-none : goal.returns-in_err-place-clause-none
returns-in_err-place-clause-none c = rw c.from_residual.ensures (pieces_none c.args.end c.args.text.now c.in_err-place.ensures)

pub returns-clause-cut : goal.returns-clause-cut
returns-clause-cut c =
    rw (take_rest c.args.text.now (c.in_ok-place.place + 1))
    (cut_parts c.args.end c.args.text.now c.in_ok-place.place c.in_ok-place.ensures)

pub returns-clause-piece : goal.returns-clause-piece
returns-clause-piece c =
    rw (take_rest c.args.text.now (c.in_ok-place.place + 1))
    (pieces_cut c.args.end c.args.text.now c.in_ok-place.place c.in_ok-place.ensures)
