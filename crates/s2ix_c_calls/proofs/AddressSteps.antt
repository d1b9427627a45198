-- What the three proofs by hand share: the steps of walks, and how the two fields of an address lie in the machine.
pub use Rattle.std.proofs.Common.{◌≡◌, ℕ, List, [], ◌∷◌, ◌++◌, ◌∙◌, refl, sym, ap, subst, lit<, arith}
pub use Rattle.std.proofs.raw_atomic.Walks.{proved_at}
pub use Rattle.std.specs.Prelude.{Option, Some, None, IsSome}
pub use base.Fml.{Fml, ftrue}
use base.Fml.{Lft}
use contract.BorrowLft.{◌⊑◌}
pub use mir.Val.{Val, vcons, vnil, vstruct, of_list, has_ty, WT}
pub use prog.Wp.{WpFn}
pub use contract.Running.{tables}
pub use types.Kit.{Item, Goal, Seq, Step, step, ‵, raw, ◌⊛◌, some, later, prop, at_ret, ◌$◌, ◌∵◌, !, qed, done, move, drop, use0, use1, pick, await, split, join, fsplit, fjoin, fpick, fpack, feq_i, feq_l, regoal, rewrite, suffices}
pub use types.Part.{agg, sub, whole}
pub use types.Run.{enter, of_opd, lit, and_then, no_more, stop, fld, first, blocks, exec, returns}
pub use types.ByLocal.{alloc_all, pass_all, free_all, look_at, get, get_in, sets, lands_as, lands_last, env}
pub use types.Tokens.{lft_new}
pub use denote.Exit.{yes, no}
pub use denote.RattleType.{owns, Valss}
pub use denote.RawPtr.{Ptr, RawPtr, block_ptr, null_ptr, ptr_val}
pub use denote.Signature.{plain}
pub use denote.Steps.{nothing, only, heard}
pub use denote.Struct.Owning.{shape}
pub use denote.Struct.Struct.{within}
pub use denote.Triple.Call.{calls_at, calls_at_last}
pub use denote.Triple.Spec.{triple_of}
pub use denote.Triple.Table.{framed}
pub use denote.Triple.Walked.{Stays, walk_of, says, stay_dropped, Goes-dropped, ends_at}
use lib.Dec.{T}
use mir.Syntax.{impl, tnil, dnil}
use seplogic.Ra.Ura.{Ura}
use types.Logic.{Logic}
use denote.Param.{layout, arg}
use denote.Param.Laws.{Laws, arg_laws}
use mir.Raw.{raw as bare}
use Rattle.std.proofs.ResultValues.{and_tt}
use Rattle.std.proofs.alloc.Calls.{Al, handle_tells}
use Rattle.std.proofs.alloc.Global.TheLaws as laws
use Rattle.std.specs.Global.{Global}
use Rattle.std.specs.contracts.impls.GlobalAllocator.TheImpl.{ghosts}
use Rattle.std.specs.contracts.boxed.Box as box
use Rattle.std.proofs.boxed.Box.TheLaws as box_laws
use Rattle.s2ix_table_faced.specs.contracts.faced_table.FacedTable as table
use Rattle.s2ix_table_faced.specs.contracts.faced_table.FacedTableDebug.TheImpl as shown
use Rattle.s2ix_table_faced.specs.contracts.faced_table.FacedTableRangeTable.TheImpl as ranges
use Rattle.s2ix_table_faced.specs.contracts.part_place.FacedPlace as place
use Rattle.s2ix_table_faced.proofs.faced_table.FacedTable.TheLaws as table_laws
use Rattle.s2ix_table_faced.proofs.part_place.FacedPlace.TheLaws as place_laws
use Rattle.s2ix_edit_store.proofs.store.Store.TheLaws as store_laws
use denote.RattleType.{RattleType}
use Rattle.s2ix_edit_plan.specs.State.{State}
pub use Rattle.s2ix_c_calls.specs.Address.{Stored}
use Rattle.s2ix_c_calls.specs.Address.{owned_at}
use Rattle.s2ix_c_calls.specs.declared.address.Address.{Address}
use Rattle.s2ix_c_calls.specs.contracts.address.Address as address
pub use Rattle.std.specs.contracts.alloc.Global.{the_row as Heap}

-- what holds of a store's type
abbrev pub stored_laws : Laws Stored
stored_laws = store_laws.the_row_laws table.the_row place.the_row ranges.ghosts shown.ghosts table_laws.the_row_laws place_laws.the_row_laws

-- a store borrows nothing, since its table doesn't
pub stored_within : (κ : Lft) → κ ⊑ Stored.lives
stored_within κ = store_laws.the_within table.the_row place.the_row ranges.ghosts shown.ghosts κ (table_laws.the_within κ) (place_laws.the_within κ)

-- a type as a call is given it: its layout stands without names
abbrev pub Given : RattleType → RattleType
Given R = arg (bare (layout R)) no R

abbrev pub given_laws : (R : RattleType) → Laws R → bare (bare (layout R)) ≡ bare (layout R) → Laws (Given R)
given_laws R = arg_laws (bare (layout R)) no R

-- a boxed store
abbrev pub Boxed : RattleType
Boxed = box.the_row Stored Heap ghosts

-- a value is one of its type
abbrev pub IsOf : mir.Syntax.Ty → Val → Type 0
IsOf ty v = T (has_ty ty v) × WT v

-- the fields of an address
abbrev pub fields : Val → Val → Val
fields start alloc = vstruct (vcons start (vcons alloc vnil))

-- a pointer is one value
pub start_fits : (at : Ptr) → WT (ptr_val at)
start_fits (block_ptr b o) = tt
start_fits null_ptr = record { fits = lit< tt }

pub start_typed : (at : Ptr) → T (has_ty mir.Syntax.ty_ptr (ptr_val at))
start_typed (block_ptr b o) = tt
start_typed null_ptr = tt

pub fields_fit : (at : Ptr) (v : Val) → IsOf (layout Heap) v → IsOf (layout address.the_row) (fields (ptr_val at) v)
fields_fit (block_ptr b o) v fits = (and_tt (has_ty (layout Heap) v) fits.0, (start_fits (block_ptr b o), (fits.1, tt)))
fields_fit null_ptr v fits = (and_tt (has_ty (layout Heap) v) fits.0, (start_fits null_ptr, (fits.1, tt)))

abbrev heap : Al
heap = record { row = Heap; laws = laws.the_row_laws; g = ghosts; d = impl [] tnil dnil; drops = impl [] tnil dnil }

module _ {M : Type 1} {𝓤 : Ura M} {𝓛 : Logic 𝓤} {K : Type 0} {Γ : List (Item 𝓤)} {G : Goal 𝓤 𝓛.H} where
  -- what is owned of an allocator is one value
  pub heap_is : K → (alloc : Global) (vs : List Val) → ((v : Val) → vs ≡ v ∷ [] → IsOf (layout Heap) v → Seq K 𝓛 (‵ (Heap.own_val alloc (v ∷ [])) ∷ Γ) G)
      → Seq K 𝓛 (‵ (Heap.own_val alloc vs) ∷ Γ) G
  heap_is = handle_tells heap

  -- so of a box
  pub box_is : K → (b : Boxed.Denot) (vs : List Val) → ((v : Val) → vs ≡ v ∷ [] → IsOf (layout Boxed) v → Seq K 𝓛 (‵ (Boxed.own_val b (v ∷ [])) ∷ Γ) G)
      → Seq K 𝓛 (‵ (Boxed.own_val b vs) ∷ Γ) G
  box_is = handle_tells (record { row = Boxed; laws = box_laws.the_row_laws Stored Heap ghosts stored_laws laws.the_row_laws; g = record { dealloc_token = λ b ty at. ftrue }; d = impl [] tnil dnil; drops = impl [] tnil dnil })

  -- an address is made of what lies there and of the allocator
  pub makes_address : K → (state : Option State) (alloc : Global) (at : Ptr) (v : Val)
      → Step K 𝓛 (‵ (address.the_row.own_val (record { start = at; alloc = alloc; state = state }) (fields (ptr_val at) v ∷ [])) ∷ Γ) G
      (‵ (Heap.own_val alloc (v ∷ [])) ∷ ‵ (owned_at state alloc at) ∷ Γ) G
  makes_address t state alloc at v = step (λ rest. let made : Val = fields (ptr_val at) v in
      nothing t $ move t (1 ∷ 0 ∷ []) $ fjoin t $ feq_i t (List Val) (ptr_val at ∷ []) (ptr_val at ∷ []) refl $ fjoin t $ feq_i t (List Val) (made ∷ []) (made ∷ []) refl $ fjoin t $
      fpack t (Valss (RawPtr ∷ Heap ∷ [])) (within (shape address.the_type) (at, (((tt, tt), tt), tt)) (made ∷ [])) (ptr_val at ∷ [], (v ∷ [], tt)) $ fjoin t $ rest)

module _ {M : Type 1} {𝓤 : Ura M} {𝓛 : Logic 𝓤} {K : Type 0} {Γ : List (Item 𝓤)} {G : Goal 𝓤 𝓛.H} where
  -- and an address owns these
  pub opens_address : K → (a : Address) (vs : List Val)
      → ((v : Val) → vs ≡ fields (ptr_val a.start) v ∷ [] → IsOf (layout Heap) v → Seq K 𝓛 (‵ (Heap.own_val a.alloc (v ∷ [])) ∷ ‵ (owned_at a.state a.alloc a.start) ∷ Γ) G)
      → Seq K 𝓛 (‵ (address.the_row.own_val a vs) ∷ Γ) G
  opens_address t a vs rest =
      fsplit t $ fpick t (λ parts. fsplit t $ feq_l t (λ all. fsplit t $ feq_l t (λ start. fsplit t $ heap_is t a.alloc parts.1.0 (λ v alloc fits. move t (1 ∷ []) $ drop t $
      rest v (all ∙ ap (λ (us : List Val). vstruct (of_list (us ++ (parts.1.0 ++ []))) ∷ []) start ∙ ap (λ (us : List Val). vstruct (of_list (ptr_val a.start ∷ (us ++ []))) ∷ []) alloc) fits))))

-- the state that is there
pub state_of : (o : Option State) → IsSome o → (s : State) × (o ≡ Some s)
state_of (Some s) there = (s, refl)
state_of None none = grind arith
