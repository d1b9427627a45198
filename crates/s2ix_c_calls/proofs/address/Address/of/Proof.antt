-- The box becomes a pointer, and what it owned is what the address owns.
use Rattle.s2ix_c_calls.proofs.AddressSteps.{[], ◌∷◌, ◌++◌, refl, ap, proved_at, Some, ftrue, WpFn, tables, ‵, raw, ◌⊛◌, some, later, prop, ◌$◌, ◌∵◌, !, qed, done, move, drop, use0, use1, pick, await, split, join, fsplit, fjoin, feq_l, regoal, suffices, agg, enter, of_opd, and_then, no_more, returns, alloc_all, pass_all, free_all, look_at, get, sets, lands_as, lft_new, yes, owns, Ptr, ptr_val, plain, nothing, only, calls_at, triple_of, framed, Stays, walk_of, says, stay_dropped, Goes-dropped, ends_at, RawPtr, Given, given_laws, Heap, Stored, stored_laws, stored_within, Boxed, fields, fields_fit, start_fits, start_typed, heap_is, box_is, makes_address}
use base.Fraction.{full_share}
use base.Logic.{emp, id⊢}
use base.Fml.{flft}
use contract.BorrowLft.{◌⊑◌}
use contract.Lifetimes.{Lfts}
use contract.Monad.{fact, fact_i}
use denote.Triple.Clauses.{Lasts, lasts}
use denote.Param.NoDrop.{glues}
use Rattle.std.specs.contracts.impls.GlobalAllocator.TheImpl as heap
use Rattle.std.proofs.impls.GlobalAllocator.TheImpl.Met.{passed}
use Rattle.std.proofs.alloc.Global.TheLaws as heap_laws
use Rattle.std.specs.contracts.boxed.Box.into_raw as g
use Rattle.std.proofs.boxed.Box.into_raw.Met.{met}
use Rattle.std.below.core.proofs.clone.Clone+copy.TheImpl.Met as are_cloned
use Rattle.s2ix_table_faced.proofs.faced_table.FacedTableDebug.TheImpl.Met as is_shown
use Rattle.s2ix_table_faced.proofs.faced_table.FacedTableKeptTable.TheImpl.Met as is_followed
use Rattle.s2ix_table_faced.proofs.faced_table.FacedTableRangeTable.TheImpl.Met as is_asked
use Rattle.s2ix_c_calls.proofs.Dropped.{kept, freed, drops_store, drops_table, Place, given_place_laws, given_place_copy}
use Rattle.s2ix_c_calls.proofs.Destruct++none.drop.Code as dropped
use Rattle.s2ix_c_calls.specs.Address.{owned_at}
use Rattle.s2ix_c_calls.specs.contracts.address.Address.of as f
use Rattle.s2ix_c_calls.proofs.address.Address.of.Statement.{statement}
use Rattle.s2ix_c_calls.proofs.address.Address.of.Code as code

abbrev stayed : Stays f.ended.signature.params f.ended.kept
stayed = (stay_dropped _ yes, (stay_dropped _ yes, tt))

pub of_spec : {M : Type 1} → statement M
unfolding dropped.code
of_spec {M = M} 𝓤 𝓛 𝓜 𝓡 wired =
    let c = f.clauses 𝓛 𝓜.mem 𝓡.returns in let W = walk_of 𝓛 f.ended stayed c in let 𝓣 = tables 𝓤 𝓛.H 𝓜 𝓡 𝓡.env in
    proved_at 𝓛 f.ended stayed c 𝓜 𝓡 (Goes-dropped 𝓛 0 (plain (λ _. Heap)) yes (λ κs x w. refl), (Goes-dropped 𝓛 0 (plain (λ _. Boxed)) yes (λ κs x w. refl), tt)) f.Key.name code.function (code.unfolded 𝓤 𝓛.H 𝓜 𝓡 wired) (λ y are.
    let follows = is_followed.bound 𝓡.env (code.calls-s2ix_table_faced::faced_table::FacedTableKeptTable::rebuild 𝓡.env wired)
    (code.calls-s2ix_table_faced::faced_table::FacedTableKeptTable::rebuilt 𝓡.env wired) M 𝓤 𝓛 𝓜 𝓡 in
    let asks = is_asked.bound 𝓡.env (code.calls-s2ix_table_faced::faced_table::FacedTableRangeTable::build 𝓡.env wired)
    (code.calls-s2ix_table_faced::faced_table::FacedTableRangeTable::range_count 𝓡.env wired)
    (code.calls-s2ix_table_faced::faced_table::FacedTableRangeTable::range 𝓡.env wired)
    (code.calls-s2ix_table_faced::faced_table::FacedTableRangeTable::window 𝓡.env wired)
    (code.calls-s2ix_table_faced::faced_table::FacedTableRangeTable::border 𝓡.env wired)
    (code.calls-s2ix_table_faced::faced_table::FacedTableRangeTable::border_start 𝓡.env wired)
    (code.calls-s2ix_table_faced::faced_table::FacedTableRangeTable::stretch 𝓡.env wired)
    (code.calls-s2ix_table_faced::faced_table::FacedTableRangeTable::first 𝓡.env wired)
    (code.calls-s2ix_table_faced::faced_table::FacedTableRangeTable::read_near 𝓡.env wired)
    (code.calls-s2ix_table_faced::faced_table::FacedTableRangeTable::held_at 𝓡.env wired)
    (code.calls-s2ix_table_faced::faced_table::FacedTableRangeTable::outer 𝓡.env wired)
    (code.calls-s2ix_table_faced::faced_table::FacedTableRangeTable::find 𝓡.env wired)
    (code.calls-s2ix_table_faced::faced_table::FacedTableRangeTable::first_over 𝓡.env wired)
    (code.calls-s2ix_table_faced::faced_table::FacedTableRangeTable::look_for 𝓡.env wired)
    (code.calls-s2ix_table_faced::faced_table::FacedTableRangeTable::contents_near 𝓡.env wired) M 𝓤 𝓛 𝓜 𝓡 in
    let clones = are_cloned.bound 𝓡.env (code.calls-core::clone::Clone+copy::clone 𝓡.env wired) Place given_place_laws given_place_copy M 𝓤 𝓛 𝓜 𝓡 in
    let alloc = y.0.3.0 in let b = y.0.3.1.0 in
    qed 𝓛 ((‵ ftrue ⊛ ‵ (owns (Heap ∷ Boxed ∷ []) (alloc, (b, tt)) y.0.4)) ∷ ‵ ftrue ∷ []) ∵ split ! $ drop ! $ fsplit ! $ heap_is ! alloc y.0.4.0 (λ v e fits. move ! (1 ∷ []) $ fsplit ! $ box_is ! b y.0.4.1.0 (λ w e' fits'.
    regoal ! (λ us. prop (WpFn 𝓤 𝓛.H 𝓣.C 𝓣.Λ code.function (us ++ (y.0.4.1.0 ++ [])) (W.post y))) e refl $
    regoal ! (λ us. prop (WpFn 𝓤 𝓛.H 𝓣.C 𝓣.Λ code.function (v ∷ us ++ []) (W.post y))) e' refl $
    enter ! _ _ _ _ _ $ alloc_all ! (λ l. pass_all ! refl (fits, (fits', tt)) $
    sets ! (of_opd ! (get ! refl)) refl fits' $ fjoin ! $
    lft_new ! tt (λ α. lft_new ! tt (λ β.
    let κs : Lfts 2 = (α ∷ [], (β ∷ [], tt)) in
    let G = triple_of 𝓛 (g.signature (Given Stored) (Given Heap) heap.ghosts heap.dict kept freed) (g.spec (Given Stored) (Given Heap) heap.ghosts heap.dict kept freed 𝓛 𝓜.mem 𝓡.returns) in
    let z : G.Ghost = ((κs, (full_share, (full_share, tt)), tt, (b, tt), (w ∷ [], tt)), tt) in
    nothing ! $ move ! (1 ∷ 0 ∷ []) $ join ! $ move ! (1 ∷ 0 ∷ []) $ join ! $ join ! $
    nothing ! $ use0 𝓛 (raw (fact 𝓤 ((β ∷ []) ⊑ Heap.lives))) (fact_i 𝓤 _ (emp 𝓤) (heap_laws.the_within (β ∷ []))) $ join ! $
    use0 𝓛 (raw (fact 𝓤 ((α ∷ []) ⊑ Stored.lives))) (fact_i 𝓤 _ (emp 𝓤) (stored_within (α ∷ []))) $ join ! $
    move ! (1 ∷ 0 ∷ []) $ join ! $ use1 𝓛 (raw (G.pre z)) (id⊢ 𝓤 _) $
    calls_at ! (framed 𝓤 𝓛.H 𝓜 𝓣) G (met 𝓤 𝓛 𝓜 𝓡 (code.calls-std::boxed::Box::into_raw 𝓡.env wired) (Given Stored) (Given Heap) (given_laws Stored stored_laws refl) (given_laws Heap heap_laws.the_row_laws refl) heap.ghosts heap.dict kept freed
    (passed 𝓡.env (code.calls-std::impls::GlobalAllocator::allocate 𝓡.env wired) (code.calls-std::impls::GlobalAllocator::deallocate 𝓡.env wired) (code.calls-std::impls::GlobalAllocator::grow 𝓡.env wired) (code.calls-std::impls::GlobalAllocator::shrink 𝓡.env wired) M 𝓤 𝓛 𝓜 𝓡)
    (glues "s2ix_c_calls::Destruct++none::drop" 𝓡.env (code.calls-s2ix_c_calls::Destruct++none::drop 𝓡.env wired) (Given Heap) (given_laws Heap heap_laws.the_row_laws refl) M 𝓤 𝓛 𝓜 𝓡)
    (drops_store 𝓛 𝓜 𝓡 (code.calls-s2ix_c_calls::s2ix_edit_store++store++Store+Destruct::drop 𝓡.env wired)
    (record { Self-Place-lives = follows.Self-Place-lives; rebuild = follows.rebuild; rebuilt = follows.rebuilt })
    (record {
      is_collection = asks.is_collection;
      is_table = asks.is_table;
      are_borders = asks.are_borders;
      within_limit = asks.within_limit;
      Self-Place-lives = asks.Self-Place-lives;
      build = asks.build;
      range_count = asks.range_count;
      range = asks.range;
      window = asks.window;
      border = asks.border;
      border_start = asks.border_start;
      stretch = asks.stretch;
      first = asks.first;
      read_near = asks.read_near;
      held_at = asks.held_at;
      outer = asks.outer;
      find = asks.find;
      first_over = asks.first_over;
      look_for = asks.look_for;
      contents_near = asks.contents_near;
    })
    (record { clone = clones.clone })
    (is_shown.passed 𝓡.env (code.calls-s2ix_table_faced::faced_table::FacedTableDebug::fmt 𝓡.env wired) M 𝓤 𝓛 𝓜 𝓡)
    (drops_table 𝓛 𝓜 𝓡 (code.calls-s2ix_c_calls::s2ix_table_faced++faced_table++FacedTable+Destruct::drop 𝓡.env wired)))) z (and_then ! (get ! refl) (no_more !)) (λ u.
    use1 𝓛 (later (some (λ (at : Ptr). ((‵ (flft (α ∷ []) full_share) ⊛ ‵ (flft (β ∷ []) full_share) ⊛ ‵ ftrue) ⊛ ‵ (RawPtr.own_val at (u ∷ []))) ⊛
    some (λ (ls : Lasts (g.ended (Given Stored) (Given Heap) heap.ghosts heap.dict kept freed) κs z.0.3). ‵ (lasts (g.ended (Given Stored) (Given Heap) heap.ghosts heap.dict kept freed) κs z.0.3 ls) ⊛ ‵ (owned_at (Some b.value) alloc at))))) (id⊢ 𝓤 _) $
    await ! tt $ pick ! (λ at. split ! $ move ! (1 ∷ []) $ pick ! (λ ls. split ! $ drop ! $ move ! (1 ∷ []) $ split ! $ drop ! $ feq_l ! (λ answered.
    lands_as ! (ap only answered) refl (start_typed at, start_fits at) $
    sets ! (of_opd ! (get ! refl)) refl (start_typed at, start_fits at) $
    sets ! (agg ! (and_then ! (get ! refl) (and_then ! (get ! refl) (no_more !)))) refl (fields_fit at v fits) $
    returns ! (look_at ! 0 refl) $ free_all ! refl $ move ! (1 ∷ 0 ∷ []) $ makes_address ! (Some b.value) alloc at v $ move ! (1 ∷ []) $ drop ! $
    suffices ! _ (ends_at 𝓛 f.ended stayed c y (fields (ptr_val at) v) (record { start = at; alloc = alloc; state = Some b.value }) (tt, (tt, tt)) (tt, (tt, tt))) $ says ! refl $
    nothing ! $ nothing ! $ join ! $ nothing ! $ join ! $ nothing ! $ done !))))))))))
