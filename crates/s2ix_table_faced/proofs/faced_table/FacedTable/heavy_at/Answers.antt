use Rattle.std.proofs.Common.{◌≡◌, List, [], ◌∷◌, drop, sym, arith, subst}
use Rattle.std.proofs.lemmas.List.{get_or_default}
use Rattle.s2ix_bag_pairs.specs.Collection.{Collection}
use Rattle.s2ix_table_walk.specs.Places.{IsPlace}
use Rattle.s2ix_table_heavy.specs.HeavyChains.{heavy_chain}
use Rattle.s2ix_table_faced.proofs.HeavyOnce.{on_some_face}
use Rattle.s2ix_table_faced.proofs.faced_table.FacedTable.heavy_at.Goals as goal

pub offset_bounds-self-place : goal.offset_bounds-self-place
offset_bounds-self-place c =
    let lt = on_some_face c.args.self.now.heavy c.args.place c.args.self.now.layered.six c.requires in
    omega arith

pub listed : goal.listed
listed c =
    let lt = on_some_face c.args.self.now.heavy c.args.place c.args.self.now.layered.six c.requires in
    let six = c.args.self.now.layered.six in
    omega arith

pub bounds-self-place : goal.bounds-self-place
bounds-self-place c = on_some_face c.args.self.now.heavy c.args.place c.args.self.now.layered.six c.requires

pub held_at-requires : goal.held_at-requires
held_at-requires c =
    let lt = on_some_face c.args.self.now.heavy c.args.place c.args.self.now.layered.six c.requires in
    let six = c.args.self.now.layered.six in
    subst (λ (chunks : List Collection). IsPlace (heavy_chain chunks) c.args.place.place)
    (sym (get_or_default c.args.self.now.heavy c.args.place.face c.index-self-place.result [] (omega arith))) c.requires

pub returns : goal.returns
returns c =
    let lt = on_some_face c.args.self.now.heavy c.args.place c.args.self.now.layered.six c.requires in
    let six = c.args.self.now.layered.six in
    subst (λ (chunks : List Collection). heavy_chain chunks c.args.place.place ≡ c.held_at.result ∷ drop 1 (heavy_chain chunks c.args.place.place))
    (get_or_default c.args.self.now.heavy c.args.place.face c.index-self-place.result [] (omega arith)) c.held_at.ensures
