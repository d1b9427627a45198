use Rattle.std.proofs.Common.{subst}
use Rattle.s2ix_table_spans.specs.Starts.{IsLastStart}
use Rattle.s2ix_table_parts.specs.FaceSpans.{face_begin}
use Rattle.s2ix_table_faced.proofs.FirstParts.{start_found}
use Rattle.s2ix_table_faced.proofs.starts.first_part.Goals as goal

pub returns-clause-begins : goal.returns-clause-begins
returns-clause-begins c =
    let starts = c.args.starts.now in
    let last = subst (λ begin. IsLastStart starts begin c.last_by.result) c.face_begin.ensures c.last_by.ensures in
    start_found starts (face_begin c.args.face) c.last_by.result c.requires.rises c.requires.begins last
