use Rattle.std.proofs.Common.{◌≡◌, [], ◌∷◌, rules}
use Rattle.s2ix_table_walk.specs.Meetings.{left_in}
use Rattle.s2ix_table_queries.proofs.Labelling.{next_gathered, all_gathered}
use Rattle.s2ix_table_queries.proofs.labels.gather.Goals as goal

pub loop-held-preserved : goal.loop-held-preserved
loop-held-preserved g c =
    let is : left_in c.loop-held.meeting ≡ c.in-Some.held ∷ left_in c.advance.new.self = search rules in
    next_gathered _ (left_in c.loop-held.meeting) (left_in c.advance.new.self) c.in-Some.held c.loop-held.labels.items _ is
    c.in_ok-put.ensures c.loop-held.invariant

pub returns : goal.returns
returns g c =
    let is : left_in c.loop-held.meeting ≡ [] = search rules in
    all_gathered _ (left_in c.loop-held.meeting) c.loop-held.labels.items is c.loop-held.invariant
