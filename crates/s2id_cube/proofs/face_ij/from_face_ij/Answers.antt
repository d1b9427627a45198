use Rattle.std.proofs.Common.{rules}
use Rattle.s2id_cube.proofs.face_ij.from_face_ij.Goals as goal

pub returns-then-j-level-clause-found : goal.returns-then-j-level-clause-found
returns-then-j-level-clause-found c = search rules

pub returns-then-j-level-clause-face : goal.returns-then-j-level-clause-face
returns-then-j-level-clause-face c = search rules

pub returns-then-j-level-clause-i : goal.returns-then-j-level-clause-i
returns-then-j-level-clause-i c = search rules

pub returns-then-j-level-clause-j : goal.returns-then-j-level-clause-j
returns-then-j-level-clause-j c = search rules

pub returns-then-j-level-clause-level : goal.returns-then-j-level-clause-level
returns-then-j-level-clause-level c = search rules

pub returns-else-face-lt6-clause-found : goal.returns-else-face-lt6-clause-found
returns-else-face-lt6-clause-found c = search rules

pub returns-else-face-lt6-clause-face : goal.returns-else-face-lt6-clause-face
returns-else-face-lt6-clause-face c = search rules

pub returns-else-face-lt6-clause-i : goal.returns-else-face-lt6-clause-i
returns-else-face-lt6-clause-i c = search rules

pub returns-else-face-lt6-clause-j : goal.returns-else-face-lt6-clause-j
returns-else-face-lt6-clause-j c = search rules

pub returns-else-face-lt6-clause-level : goal.returns-else-face-lt6-clause-level
returns-else-face-lt6-clause-level c = search rules
