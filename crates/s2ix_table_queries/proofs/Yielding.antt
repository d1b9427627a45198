-- Iterators whose state shows what is left.
use Rattle.std.proofs.Common.{◌≡◌, ◌<◌, ℕ, List, length, get_or, Option, Some, None, ap, subst}
use Rattle.std.specs.Iterator.{AlwaysYields, Yields, YieldsFirst}
use Rattle.std.proofs.lemmas.Iterator.{YieldsList}
use Rattle.std.proofs.lemmas.Iterator.Consumers.{YieldsList-from_first, YieldsList-from_shown, YieldsList-turn, YieldsList-end, YieldsList-at}
use Rattle.s2ix_table_queries.specs.declared.iter.RangeIter.{RangeIter}
use Rattle.s2ix_table_walk.specs.declared.row.RangeRow.{RangeRow}
use Rattle.s2ix_table_queries.specs.Iterators.{StepsOn, ranges_left}
use Rattle.s2ix_table_walk.specs.Table.{Range}

pub yields_rest : {S A : Type 0} (rest : S → List A) (s : S) (xs : List A) → rest s ≡ xs → AlwaysYields (YieldsFirst rest) (λ x. x) s xs
yields_rest {S} {A} rest s xs e = (YieldsList-from_first (λ (x : A). x) rest {s = s} xs e).runs

-- a loop over an iterator took `done` of the list that it gives: the item that it takes next
pub yields_turn : {S A : Type 0} (rest : S → List A) (given s t u : S) (all done : List A) (r : Option A) (x : A)
    → AlwaysYields (YieldsFirst rest) (λ y. y) given all → s ≡ given → Yields (YieldsFirst rest) s done t → r ≡ Some x
    → YieldsFirst rest t r u → (length done < length all) × (x ≡ get_or all (length done) x)
yields_turn {S} {A} rest given s t u all done r x gives same took is step =
    let road : YieldsList (YieldsFirst rest) (λ (y : A). y) given all = record { runs = gives } in
    YieldsList-turn (YieldsList-at same road) done t took r u x is step

-- a loop over an iterator came to its end: it took as many as the list has
pub yields_end : {S A : Type 0} (rest : S → List A) (given s t u : S) (all done : List A) (r : Option A)
    → AlwaysYields (YieldsFirst rest) (λ y. y) given all → s ≡ given → Yields (YieldsFirst rest) s done t → r ≡ None
    → YieldsFirst rest t r u → length done ≡ length all
yields_end {S} {A} rest given s t u all done r gives same took is step =
    let road : YieldsList (YieldsFirst rest) (λ (y : A). y) given all = record { runs = gives } in
    (YieldsList-end (YieldsList-at same road) done t took r u is step).1

-- the iterator over ranges gives what it has left
pub yields_ranges : {T : Type 0} (ranges : T → List Range) (it : RangeIter T) (rows : List (ℕ × RangeRow)) → ranges_left ranges it ≡ rows
    → AlwaysYields (StepsOn ranges) (λ row. row) it rows
yields_ranges {T} ranges it rows e =
    let all = YieldsList-from_shown (StepsOn ranges) (λ (row : ℕ × RangeRow). row) (ranges_left ranges)
    (λ s t step. ap length step.yields.0) (λ s row t step. step.yields) it in
    subst (AlwaysYields (StepsOn ranges) (λ (row : ℕ × RangeRow). row) it) e all.runs
