-- Answers that lead to a chain.
use Rattle.std.proofs.Common.{◌≡◌, ◌<◌, Some, None, [], length, sym, subst}
use Rattle.s2ix_bag_pairs.specs.Collection.{Collection}
use Rattle.s2ix_table_walk.specs.Places.{LeadsTo}

pub leads_some : {P : Type 0} (chain : P → Collection) (p : P) (pairs : Collection) → chain p ≡ pairs → 0 < length pairs
    → LeadsTo chain (Some p) pairs
leads_some {P} chain p pairs is some = record {
  pairs_are = is;
  place = λ q e. let same : p ≡ q = cc in
      subst (λ (x : P). 0 < length (chain x)) same (subst (λ (xs : Collection). 0 < length xs) (sym is) some);
}

pub leads_none : {P : Type 0} (chain : P → Collection) (pairs : Collection) → pairs ≡ [] → LeadsTo chain None pairs
leads_none {P} chain pairs is = record { pairs_are = sym is; place = λ q e. absurd (cc) }
