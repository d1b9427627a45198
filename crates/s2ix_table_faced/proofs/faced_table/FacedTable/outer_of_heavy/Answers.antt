use Rattle.std.proofs.Common.{List, [], Some, None, drop, sym, arith, subst}
use Rattle.std.proofs.lemmas.List.{get_or_default}
use Rattle.s2ix_bag_pairs.specs.Collection.{Collection}
use Rattle.s2ix_table_walk.specs.Places.{IsPlace, LeadsTo}
use Rattle.s2ix_table_heavy.specs.HeavyChains.{heavy_chain}
use Rattle.s2ix_table_parts.specs.FaceSpans.{spans_of}
use Rattle.s2ix_table_faced.proofs.HeavyOnce.{leads_out, on_some_face}
use Rattle.s2ix_table_faced.proofs.faced_table.FacedTable.outer_of_heavy.Goals as goal

pub offset_bounds-self-face : goal.offset_bounds-self-face
offset_bounds-self-face c =
    let lt = on_some_face c.args.self.now.heavy c.args.place c.args.self.now.layered.six c.requires in
    omega arith

pub listed : goal.listed
listed c =
    let lt = on_some_face c.args.self.now.heavy c.args.place c.args.self.now.layered.six c.requires in
    let six = c.args.self.now.layered.six in
    omega arith

pub bounds-self-face : goal.bounds-self-face
bounds-self-face c = on_some_face c.args.self.now.heavy c.args.place c.args.self.now.layered.six c.requires

pub outer-requires : goal.outer-requires
outer-requires c =
    let lt = on_some_face c.args.self.now.heavy c.args.place c.args.self.now.layered.six c.requires in
    let six = c.args.self.now.layered.six in
    subst (λ (chunks : List Collection). IsPlace (heavy_chain chunks) c.args.place.place)
    (sym (get_or_default c.args.self.now.heavy c.args.place.face c.index-self-face.result [] (omega arith))) c.requires

pub returns-in-Some : goal.returns-in-Some
returns-in-Some c =
    let t = c.args.self.now in
    let place = c.args.place in
    let lt = on_some_face t.heavy place t.layered.six c.requires in
    let six = t.layered.six in
    let same = get_or_default t.heavy place.face c.index-self-face.result [] (omega arith) in
    leads_out (spans_of t.parts.items) t.heavy place (Some c.in-Some.place)
    (subst (λ (chunks : List Collection). LeadsTo (heavy_chain chunks) (Some c.in-Some.place) (drop 1 (heavy_chain chunks place.place))) same c.in-Some.ensures)

pub returns-in-None : goal.returns-in-None
returns-in-None c =
    let t = c.args.self.now in
    let place = c.args.place in
    let lt = on_some_face t.heavy place t.layered.six c.requires in
    let six = t.layered.six in
    let same = get_or_default t.heavy place.face c.index-self-face.result [] (omega arith) in
    leads_out (spans_of t.parts.items) t.heavy place None
    (subst (λ (chunks : List Collection). LeadsTo (heavy_chain chunks) None (drop 1 (heavy_chain chunks place.place))) same c.in-None.ensures)
