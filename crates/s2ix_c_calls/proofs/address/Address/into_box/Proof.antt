-- The pointer becomes a box again, which owns what the address owned.
use Rattle.s2ix_c_calls.proofs.AddressSteps.{[], ◌∷◌, ◌++◌, ◌∙◌, ◌≡◌, List, refl, sym, ap, subst, proved_at, Option, Some, IsSome, ftrue, Val, WpFn, tables, ‵, raw, ◌⊛◌, some, later, prop, at_ret, ◌$◌, ◌∵◌, !, qed, done, move, drop, use0, use1, pick, await, split, join, fsplit, fjoin, feq_i, regoal, rewrite, suffices, sub, whole, enter, of_opd, and_then, no_more, stop, fld, first, blocks, exec, returns, alloc_all, pass_all, free_all, look_at, get, get_in, sets, lands_last, env, lft_new, yes, owns, ptr_val, plain, nothing, only, heard, calls_at_last, triple_of, framed, Stays, walk_of, says, stay_dropped, Goes-dropped, ends_at, Given, given_laws, Heap, Stored, stored_laws, stored_within, Boxed, IsOf, fields_fit, start_fits, start_typed, box_is, opens_address, state_of}
use base.Fraction.{full_share}
use base.Logic.{emp, id⊢}
use base.Fml.{flft}
use contract.BorrowLft.{◌⊑◌}
use contract.Lifetimes.{Lfts}
use contract.Monad.{fact, fact_i}
use denote.Param.{layout}
use denote.Param.NoDrop.{glues}
use denote.Triple.Clauses.{Lasts, lasts}
use Rattle.std.specs.contracts.impls.GlobalAllocator.TheImpl as heap
use Rattle.std.proofs.impls.GlobalAllocator.TheImpl.Met.{passed}
use Rattle.std.proofs.alloc.Global.TheLaws as heap_laws
use Rattle.s2ix_edit_plan.specs.State.{State}
use Rattle.std.specs.contracts.boxed.Box.from_raw as g
use Rattle.std.proofs.boxed.Box.from_raw.Met.{met}
use Rattle.s2ix_c_calls.proofs.Dropped.{kept}
use Rattle.s2ix_c_calls.proofs.Destruct++none.drop.Code as dropped
use Rattle.s2ix_c_calls.specs.Address.{owned_at}
use Rattle.s2ix_c_calls.specs.contracts.address.Address.{the_row as Place}
use Rattle.s2ix_c_calls.specs.contracts.address.Address.into_box as f
use Rattle.s2ix_c_calls.proofs.address.Address.into_box.Statement.{statement}
use Rattle.s2ix_c_calls.proofs.address.Address.into_box.Code as code

abbrev stayed : Stays f.ended.signature.params f.ended.kept
stayed = (stay_dropped _ yes, tt)

pub into_box_spec : {M : Type 1} → statement M
unfolding dropped.code
into_box_spec {M = M} 𝓤 𝓛 𝓜 𝓡 wired =
    let c = f.clauses 𝓛 𝓜.mem 𝓡.returns in let W = walk_of 𝓛 f.ended stayed c in let 𝓣 = tables 𝓤 𝓛.H 𝓜 𝓡 𝓡.env in
    proved_at 𝓛 f.ended stayed c 𝓜 𝓡 (Goes-dropped 𝓛 0 (plain (λ _. Place)) yes (λ κs x w. refl), tt) f.Key.name code.function (code.unfolded 𝓤 𝓛.H 𝓜 𝓡 wired) (λ y are.
    let a = y.0.3.0 in
    qed 𝓛 ((‵ ftrue ⊛ ‵ (owns (Place ∷ []) (a, tt) y.0.4)) ∷ raw (fact 𝓤 (IsSome a.state)) ∷ []) ∵ split ! $ drop ! $ move ! (1 ∷ []) $ heard ! _ (λ there.
    let s = state_of a.state there in
    fsplit ! $ opens_address ! a y.0.4.0 (λ v e fits. move ! (1 ∷ []) $ rewrite ! 0 (λ (o : Option State). ‵ (owned_at o a.alloc a.start)) s.1 refl $
    regoal ! (λ us. prop (WpFn 𝓤 𝓛.H 𝓣.C 𝓣.Λ code.function (us ++ []) (W.post y))) e refl $
    enter ! _ _ _ _ _ $ alloc_all ! (λ l. pass_all ! refl (fields_fit a.start v fits, tt) $
    sets ! (of_opd ! (get_in ! (fld ! refl (stop !)) (sub ! 0 refl (whole !)))) refl (start_typed a.start, start_fits a.start) $
    sets ! (of_opd ! (get_in ! (fld ! refl (stop !)) (sub ! 1 refl (whole !)))) refl fits $
    first ! $ blocks ! $ sets ! (of_opd ! (get ! refl)) refl (start_typed a.start, start_fits a.start) $
    lft_new ! tt (λ α. lft_new ! tt (λ β.
    let κs : Lfts 2 = (α ∷ [], (β ∷ [], tt)) in
    let G = triple_of 𝓛 (g.signature (Given Stored) (Given Heap) heap.ghosts heap.dict kept) (g.spec (Given Stored) (Given Heap) heap.ghosts heap.dict kept 𝓛 𝓜.mem 𝓡.returns) in
    let z : G.Ghost = ((κs, (full_share, (full_share, tt)), tt, (a.alloc, (a.start, tt)), (v ∷ [], (ptr_val a.start ∷ [], tt))), s.0) in
    nothing ! $ move ! (1 ∷ 0 ∷ []) $ join ! $ move ! (1 ∷ 0 ∷ []) $ join ! $ move ! (2 ∷ []) $
    nothing ! $ feq_i ! (List Val) (ptr_val a.start ∷ []) (ptr_val a.start ∷ []) refl $ fjoin ! $ move ! (1 ∷ 0 ∷ []) $ fjoin ! $ move ! (1 ∷ 0 ∷ []) $ join ! $ move ! (1 ∷ []) $
    use0 𝓛 (raw (fact 𝓤 ((β ∷ []) ⊑ Heap.lives))) (fact_i 𝓤 _ (emp 𝓤) (heap_laws.the_within (β ∷ []))) $ join ! $
    use0 𝓛 (raw (fact 𝓤 ((α ∷ []) ⊑ Stored.lives))) (fact_i 𝓤 _ (emp 𝓤) (stored_within (α ∷ []))) $ join ! $
    move ! (1 ∷ 0 ∷ []) $ join ! $ use1 𝓛 (raw (G.pre z)) (id⊢ 𝓤 _) $
    calls_at_last ! (framed 𝓤 𝓛.H 𝓜 𝓣) G (met 𝓤 𝓛 𝓜 𝓡 (code.calls-std::boxed::Box::from_raw 𝓡.env wired) (Given Stored) (Given Heap) (given_laws Stored stored_laws refl) (given_laws Heap heap_laws.the_row_laws refl) heap.ghosts heap.dict kept
    (passed 𝓡.env (code.calls-std::impls::GlobalAllocator::allocate 𝓡.env wired) (code.calls-std::impls::GlobalAllocator::deallocate 𝓡.env wired) (code.calls-std::impls::GlobalAllocator::grow 𝓡.env wired) (code.calls-std::impls::GlobalAllocator::shrink 𝓡.env wired) M 𝓤 𝓛 𝓜 𝓡)
    (glues "s2ix_c_calls::Destruct++none::drop" 𝓡.env (code.calls-s2ix_c_calls::Destruct++none::drop 𝓡.env wired) (Given Heap) (given_laws Heap heap_laws.the_row_laws refl) M 𝓤 𝓛 𝓜 𝓡)) z (and_then ! (get ! refl) (and_then ! (get ! refl) (no_more !))) (λ u.
    use1 𝓛 (later (some (λ (r : Boxed.Denot). ((‵ (flft (α ∷ []) full_share) ⊛ ‵ (flft (β ∷ []) full_share) ⊛ ‵ ftrue) ⊛ ‵ (Boxed.own_val r (u ∷ []))) ⊛
    some (λ (ls : Lasts (g.ended (Given Stored) (Given Heap) heap.ghosts heap.dict kept) κs z.0.3). ‵ (lasts (g.ended (Given Stored) (Given Heap) heap.ghosts heap.dict kept) κs z.0.3 ls) ⊛
    (raw (fact 𝓤 (r.value ≡ s.0)) ⊛ raw (fact 𝓤 (r.alloc ≡ a.alloc))))))) (id⊢ 𝓤 _) $
    await ! tt $ pick ! (λ r. split ! $ move ! (1 ∷ []) $ pick ! (λ ls. split ! $ drop ! $ split ! $ heard ! _ (λ same. drop ! $ split ! $ drop ! $ box_is ! r (u ∷ []) (λ w e' fits'.
    rewrite ! 0 (λ (us : List Val). ‵ (Boxed.own_val r us)) (sym e') refl $
    let good : IsOf (layout Boxed) u = subst (IsOf (layout Boxed)) (sym (ap only e')) fits' in
    lands_last ! refl good $ exec ! 𝓣.C 𝓣.Λ (env code.Mir.locals l) code.Mir.t-4 (at_ret _ (W.post y)) $ sets ! (of_opd ! (get ! refl)) refl good $
    returns ! (look_at ! 0 refl) $ free_all ! refl $ move ! (1 ∷ []) $ drop ! $
    suffices ! _ (ends_at 𝓛 f.ended stayed c y u r (tt, tt) (tt, tt)) $ says ! (s.1 ∙ ap (λ (t : State). Some t) (sym same)) $
    nothing ! $ nothing ! $ join ! $ nothing ! $ done !)))))))))))
