-- The null address owns its allocator and nothing besides.
use Rattle.s2ix_c_calls.proofs.AddressSteps.{[], ◌∷◌, ◌++◌, refl, proved_at, None, ftrue, WpFn, tables, ‵, ◌⊛◌, prop, ◌$◌, ◌∵◌, !, qed, done, move, drop, split, join, fsplit, regoal, suffices, agg, enter, lit, and_then, no_more, returns, alloc_all, pass_all, free_all, look_at, get, sets, yes, owns, null_ptr, ptr_val, plain, nothing, Stays, walk_of, says, stay_dropped, Goes-dropped, ends_at, Heap, fields, fields_fit, heap_is, makes_address}
use Rattle.s2ix_c_calls.specs.contracts.address.Address.null as f
use Rattle.s2ix_c_calls.proofs.address.Address.null.Statement.{statement}
use Rattle.s2ix_c_calls.proofs.address.Address.null.Code as code

abbrev stayed : Stays f.ended.signature.params f.ended.kept
stayed = (stay_dropped _ yes, tt)

pub null_spec : {M : Type 1} → statement M
null_spec 𝓤 𝓛 𝓜 𝓡 wired =
    let c = f.clauses 𝓛 𝓜.mem 𝓡.returns in let W = walk_of 𝓛 f.ended stayed c in let 𝓣 = tables 𝓤 𝓛.H 𝓜 𝓡 𝓡.env in
    proved_at 𝓛 f.ended stayed c 𝓜 𝓡 (Goes-dropped 𝓛 0 (plain (λ _. Heap)) yes (λ κs x w. refl), tt) f.Key.name code.function (code.unfolded 𝓤 𝓛.H 𝓜 𝓡 wired) (λ y are.
    let alloc = y.0.3.0 in
    qed 𝓛 ((‵ ftrue ⊛ ‵ (owns (Heap ∷ []) (alloc, tt) y.0.4)) ∷ ‵ ftrue ∷ []) ∵ split ! $ drop ! $ fsplit ! $ heap_is ! alloc y.0.4.0 (λ v e fits.
    regoal ! (λ us. prop (WpFn 𝓤 𝓛.H 𝓣.C 𝓣.Λ code.function (us ++ []) (W.post y))) e refl $
    enter ! _ _ _ _ _ $ alloc_all ! (λ l. pass_all ! refl (fits, tt) $
    sets ! (agg ! (and_then ! (lit ! tt) (and_then ! (get ! refl) (no_more !)))) refl (fields_fit null_ptr v fits) $
    returns ! (look_at ! 0 refl) $ free_all ! refl $ makes_address ! None alloc null_ptr v $ move ! (1 ∷ []) $ drop ! $
    suffices ! _ (ends_at 𝓛 f.ended stayed c y (fields (ptr_val null_ptr) v) (record { start = null_ptr; alloc = alloc; state = None }) (tt, tt) (tt, tt)) $ says ! refl $
    nothing ! $ nothing ! $ join ! $ nothing ! $ done !)))
