-- What a call that may drop its values is told of the drops of the allocator and of a store.
use Rattle.std.proofs.Common.{[], ◌∷◌, refl}
use mir.Syntax.{Dict, Dicts, Callee, impl, method, no_args, tcons, tnil, dcons, dnil, a_type}
use base.Logic.{ex, sep, emp, emp∗, comm∗, via}
use base.Fml.{ftrue, fsep}
use prog.Model.{Model}
use prog.Wired.{Wired}
use seplogic.Ra.Ura.{Ura}
use types.Logic.{Logic, sem}
use types.Kit.{raw, ◌$◌, ◌∵◌, !, qed, keep, join, show, done}
use contract.Running.{Running}
use contract.Lifetimes.{toks}
use denote.Laid.Entry.{statics, wholes, free_toks}
use denote.Plain.{Nothing}
use denote.Signature.{Signature, plain}
use denote.Param.{layout, bounded, param}
use denote.Exit.{no}
use denote.Param.Laws.{IsCopy, Laws, arg_copy}
use mir.Raw.{raw as bare}
use denote.RattleType.{RattleType}
use denote.Param.Glue.{Met}
use denote.Steps.{nothing}
use denote.Triple.Carry.{beside, lent, needless, spared}
use denote.Triple.Spec.{Spec, triple_of}
use denote.Triple.Table.{run_framed, widened}
use Rattle.std.below.core.specs.contracts.clone.Clone.TheBound as Cloned
use Rattle.std.below.core.specs.contracts.clone.Clone+copy.TheImpl as clones
use Rattle.std.specs.contracts.fmt.Debug.TheBound as Shown
use Rattle.s2ix_table_queries.specs.contracts.table.RangeTable.TheBound as Ranges
use Rattle.s2ix_table_kept.specs.contracts.kept_table.KeptTable.TheBound as Follows
use Rattle.s2ix_table_faced.specs.contracts.faced_table.FacedTable as table
use Rattle.s2ix_table_faced.specs.contracts.faced_table.FacedTableDebug.TheImpl as shown
use Rattle.s2ix_table_faced.specs.contracts.faced_table.FacedTableKeptTable.TheImpl as follows
use Rattle.s2ix_table_faced.specs.contracts.faced_table.FacedTableRangeTable.TheImpl as ranges
use Rattle.s2ix_table_faced.specs.contracts.part_place.FacedPlace as place
use Rattle.s2ix_table_faced.proofs.faced_table.FacedTable.TheLaws as table_laws
use Rattle.s2ix_table_faced.proofs.part_place.FacedPlace.TheLaws as place_laws
use Rattle.s2ix_c_calls.proofs.AddressSteps.{Given, given_laws, Heap, Stored}
use Rattle.s2ix_c_calls.specs.contracts.s2ix_table_faced++faced_table++FacedTable+Destruct.drop as table_f
use Rattle.s2ix_c_calls.proofs.s2ix_table_faced++faced_table++FacedTable+Destruct.drop.Symbol as table_symbol
use Rattle.s2ix_c_calls.proofs.s2ix_table_faced++faced_table++FacedTable+Destruct.drop.Met as table_met
use Rattle.s2ix_c_calls.specs.contracts.s2ix_edit_store++store++Store+Destruct.drop as f
use Rattle.s2ix_c_calls.proofs.s2ix_edit_store++store++Store+Destruct.drop.Symbol as symbol
use Rattle.s2ix_c_calls.proofs.s2ix_edit_store++store++Store+Destruct.drop.Met.{met}

abbrev pub kept : Dict
kept = impl ("s2ix_c_calls::Destruct++none::drop" ∷ []) (tcons (layout (Given Heap)) tnil) dnil

-- a table as a call is given it
abbrev pub Table : RattleType
Table = Given table.the_row

abbrev pub given_table_laws : Laws Table
given_table_laws = given_laws table.the_row table_laws.the_row_laws refl

-- and so a place in it, which is copied
abbrev pub Place : RattleType
Place = Given place.the_row

abbrev pub given_place_laws : Laws Place
given_place_laws = given_laws place.the_row place_laws.the_row_laws refl

abbrev pub given_place_copy : IsCopy Place
given_place_copy = arg_copy (bare (layout place.the_row)) no place.the_row place_laws.the_row_copy refl

abbrev pub table_freed : Dict
table_freed = impl ("s2ix_c_calls::s2ix_table_faced++faced_table++FacedTable+Destruct::drop" ∷ []) tnil dnil

-- what a store is told of its table: how it follows changes, how it is asked, how its places are cloned, how it is printed and dropped
abbrev pub told : Dicts
told = dcons follows.dict (dcons ranges.dict (dcons (clones.dict Place) (dcons shown.dict (dcons table_freed dnil))))

abbrev pub freed : Dict
freed = impl ("s2ix_c_calls::s2ix_edit_store++store++Store+Destruct::drop" ∷ []) (tcons (layout Table) (tcons (layout Place) tnil)) told

pub drops_table : {M : Type 1} {𝓤 : Ura M} (𝓛 : Logic 𝓤) (𝓜 : Model 𝓤 𝓛.H) (𝓡 : Running 𝓤 𝓛.H 𝓜) → Wired 𝓡.env table_symbol.code → Met 𝓛 𝓜 𝓡 𝓡.env Table table_freed
drops_table {𝓤 = 𝓤} 𝓛 𝓜 𝓡 wired =
    let S = table_f.signature in let k : Callee = method table_freed 0 no_args in let run = 𝓡.run (𝓡.env k) in let framed = run_framed 𝓤 𝓛.H 𝓜 𝓡 (𝓡.env k) in
    let said = table_f.spec 𝓛 𝓜.mem 𝓡.returns in let Gone = λ (ws : Unit {0} × Unit {0}). sep 𝓤 (sem 𝓛 (fsep ftrue ftrue)) (emp 𝓤) in
    let spent : Spec 𝓤 S = λ κs a. record { ghost = Unit {0}; requires = λ _. emp 𝓤; ensures = λ _ r. ex 𝓤 Gone } in
    spared 𝓛 S run framed 1 (Table.lives, tt) spent
    (beside 𝓛 S run framed said spent (λ κs a x. x) (λ κs a x. emp 𝓤) (λ κs a x. via 𝓤 (sep 𝓤 (emp 𝓤) (emp 𝓤)) (emp∗ 𝓤 (emp 𝓤)) (comm∗ 𝓤 (emp 𝓤) (emp 𝓤)))
    (λ κs a x r. qed 𝓛 (raw ((said κs a).ensures x r) ∷ raw (emp 𝓤) ∷ []) ∵ keep ! [] $ show ! Gone (tt, tt) $ nothing ! $ nothing ! $ nothing ! $ join ! $ done !)
    (widened 𝓤 𝓛.H (triple_of 𝓛 S said) 𝓜 𝓡 𝓡.env (𝓡.env table_symbol.name) (𝓡.env k) (table_symbol.as_method 𝓡.env wired k refl) (table_met.met 𝓤 𝓛 𝓜 𝓡 wired)))

pub drops_store : {M : Type 1} {𝓤 : Ura M} (𝓛 : Logic 𝓤) (𝓜 : Model 𝓤 𝓛.H) (𝓡 : Running 𝓤 𝓛.H 𝓜) → Wired 𝓡.env symbol.code
    → Follows.Met 𝓛 𝓜 𝓡 𝓡.env Table Place follows.ghosts follows.dict ranges.ghosts ranges.dict (clones.ghosts Place) (clones.dict Place)
    shown.ghosts shown.dict
    → Ranges.Met 𝓛 𝓜 𝓡 𝓡.env Table Place ranges.ghosts ranges.dict (clones.ghosts Place) (clones.dict Place)
    → Cloned.Met 𝓛 𝓜 𝓡 𝓡.env Place (clones.ghosts Place) (clones.dict Place)
    → Shown.Met 𝓛 𝓜 𝓡 𝓡.env Table shown.ghosts shown.dict
    → Met 𝓛 𝓜 𝓡 𝓡.env Table table_freed
    → Met 𝓛 𝓜 𝓡 𝓡.env (Given Stored) freed
drops_store {𝓤 = 𝓤} 𝓛 𝓜 𝓡 wired is_followed is_asked are_cloned is_shown is_dropped =
    let S : Signature = record { lifetimes = 0; outlives = []; params = plain (λ _. param 0 (Given Stored)) ∷ []; result = plain (λ _. Nothing) } in
    let k : Callee = method freed 0 no_args in let run = 𝓡.run (𝓡.env k) in let framed = run_framed 𝓤 𝓛.H 𝓜 𝓡 (𝓡.env k) in
    let longer = f.signature Table Place follows.ghosts follows.dict ranges.ghosts ranges.dict (clones.ghosts Place) (clones.dict Place) shown.ghosts
    shown.dict table_freed in
    let all = f.spec Table Place follows.ghosts follows.dict ranges.ghosts ranges.dict (clones.ghosts Place) (clones.dict Place) shown.ghosts
    shown.dict table_freed 𝓛 𝓜.mem 𝓡.returns in
    let said : Spec 𝓤 S = λ κs a. record { ghost = Unit {0}; requires = λ _. emp 𝓤; ensures = λ x r. (all (statics 2) a).ensures x r } in
    let Gone = λ (ws : Unit {0} × Unit {0}). sep 𝓤 (sem 𝓛 (fsep ftrue ftrue)) (emp 𝓤) in
    let spent : Spec 𝓤 S = λ κs a. record { ghost = Unit {0}; requires = λ _. emp 𝓤; ensures = λ _ r. ex 𝓤 Gone } in
    let drops = widened 𝓤 𝓛.H (triple_of 𝓛 longer all) 𝓜 𝓡 𝓡.env (𝓡.env (symbol.name (bounded (a_type ∷ a_type ∷ []) (Table, (Place, tt)) told))) (𝓡.env k)
    (symbol.as_method 𝓡.env wired k refl)
    (met 𝓤 𝓛 𝓜 𝓡 wired Table Place given_table_laws given_place_laws given_place_copy follows.ghosts follows.dict ranges.ghosts ranges.dict
    (clones.ghosts Place) (clones.dict Place) shown.ghosts shown.dict table_freed is_followed is_asked are_cloned is_shown is_dropped) in
    spared 𝓛 S run framed 1 (Stored.lives, tt) spent
    (beside 𝓛 S run framed said spent (λ κs a x. x) (λ κs a x. emp 𝓤) (λ κs a x. via 𝓤 (sep 𝓤 (emp 𝓤) (emp 𝓤)) (emp∗ 𝓤 (emp 𝓤)) (comm∗ 𝓤 (emp 𝓤) (emp 𝓤)))
    (λ κs a x r. qed 𝓛 (raw ((said κs a).ensures x r) ∷ raw (emp 𝓤) ∷ []) ∵ keep ! [] $ show ! Gone (tt, tt) $ nothing ! $ nothing ! $ nothing ! $ join ! $ done !)
    (needless 𝓛 S run framed (toks 𝓛 2 (statics 2)) (wholes 2) (free_toks 𝓛 𝓜 2) said
    (λ z. lent 𝓛 S run framed 2 (Table.lives, (Place.lives, tt)) said drops ((statics 2, z.1.0, z.0.2, z.0.3, z.0.4), z.1.1)
    (table_laws.the_within [], (place_laws.the_within [], tt)))))
