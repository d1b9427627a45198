-- That a table keeps a pair once, and that it is the table of its span, has one proof: what a type keeps of it in a ghost field tells no
-- two of its values apart.
use Rattle.std.specs.Prelude.{◌≡◌, ℕ, ◌+◌, ◌<◌, [], ◌∷◌, drop, length, Contains}
use Rattle.std.specs.Coded.{Coded-set, coded_ℕ}
use Rattle.std.proofs.Common.{zero, suc, ap, arith}
use Rattle.std.proofs.Props.{props}
use mathlib.Core.HLevel.{Σ_prop_path}
use Rattle.s2ix_bag_pairs.specs.Collection.{Collection}
use Rattle.s2ix_bag_pairs.specs.declared.pair.Held.{Held}
use Rattle.s2ix_bag_pairs.specs.OneProof.{IsCollection-prop}
use Rattle.s2ix_table_spans.specs.Chains.{chain_of}
use Rattle.s2ix_table_spans.specs.Once.{IsHeldAt, KeepsOnce}
use Rattle.s2ix_table_spans.specs.SpanTable.{SpanRanges, IsSpanTable}

held_before : (k : ℕ) (hs : Collection) → 0 < length (drop k hs) → k + length (drop k hs) ≡ length hs
held_before zero hs some = omega arith
held_before (suc k) [] some = absurd (omega arith)
held_before (suc k) (h ∷ hs) some = let e = held_before k hs some in omega arith

-- an end of a list that has a pair begins at one place of it
one_begin : (j k : ℕ) (hs end : Collection) → 0 < length end → drop j hs ≡ end → drop k hs ≡ end → j ≡ k
one_begin j k hs end some one two =
    let a = ap length one in
    let b = ap length two in
    let c = held_before j hs (omega arith) in
    let d = held_before k hs (omega arith) in
    omega arith

lists_prop : (hs ks : Collection) → IsProp (hs ≡ ks)
lists_prop hs ks = hlevel props

IsHeldAt-prop : {P : Type 0} (chain : P → Collection) (start : P) (h : Held) (place : P) → IsProp (IsHeldAt chain start h place)
IsHeldAt-prop chain start h place x y =
    let some : 0 < length (chain place) = let e = ap length x.pair in omega arith in
    let one = one_begin x.rest.0 y.rest.0 (chain start) (chain place) some x.rest.1 y.rest.1 in
    let rest : x.rest ≡ y.rest = Σ_prop_path (λ k. lists_prop (drop k (chain start)) (chain place)) one in
    λ i. record {
      pair = lists_prop (chain place) (h ∷ drop 1 (chain place)) x.pair y.pair i;
      rest = rest i;
    }

-- two proofs name the same place of a pair, since it has one
pub KeepsOnce-prop : {P : Type 0} → IsSet P → (chain : P → Collection) → IsProp (KeepsOnce chain)
KeepsOnce-prop {P} set chain x y =
    let place : (start : P) (h : Held) (is : Contains (chain start) h) → x.place start h is ≡ y.place start h is = λ start h is.
    let one = x.place start h is in
    let two = y.place start h is in
    Σ_prop_path (λ p. IsHeldAt-prop chain start h p) (x.same start start one.0 two.0 h one.1 two.1) in
    λ i. record {
      place = λ start h is. place start h is i;
      same = λ start other p q h one two. set p q (x.same start other p q h one two) (y.same start other p q h one two) i;
    }

pub chains_once-prop : (held : Collection) → IsProp (KeepsOnce (chain_of held))
chains_once-prop held = KeepsOnce-prop (Coded-set coded_ℕ) (chain_of held)

pub IsSpanTable-prop : (span : SpanRanges) → IsProp (IsSpanTable span)
IsSpanTable-prop span = hlevel (props, IsCollection-prop 0 span.held, chains_once-prop span.held)
