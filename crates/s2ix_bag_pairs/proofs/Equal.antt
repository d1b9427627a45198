-- What is equal is one: labels and limits by their numbers, pairs and what has them by their parts.
use Rattle.std.proofs.Common.{◌≡◌, ℕ, Bool, true, ap, subst, arith}
use Rattle.std.specs.Bool.{Decides}
use Rattle.std.specs.Cmp.{IsEquivalence}
use Rattle.std.proofs.lemmas.Bool.Decides.{nat_tests}
use denote.Struct.Props.{props}
use Rattle.s2ix_bag_pairs.specs.Ranges.{AreLimits}
use Rattle.s2ix_bag_pairs.specs.Limits.{pairs_limit, count_limit, changes_limit}
use Rattle.s2ix_bag_pairs.specs.declared.label.Label.{Label}
use Rattle.s2ix_bag_pairs.specs.declared.limits.Limits.{Limits}
use Rattle.s2ix_bag_pairs.specs.declared.pair.Pair.{Pair}
use Rattle.s2ix_bag_pairs.specs.declared.pair.Held.{Held}
use Rattle.s2ix_bag_pairs.specs.declared.pair.Entry.{Entry}
use Rattle.s2ix_bag_pairs.specs.contracts.label.LabelPartialEq.TheImpl.{eq-value as label_test}
use Rattle.s2ix_bag_pairs.specs.contracts.limits.LimitsPartialEq.TheImpl.{eq-value as limits_test}
use Rattle.s2ix_bag_pairs.specs.contracts.pair.PairPartialEq.TheImpl.{eq-value as pair_test}
use Rattle.s2ix_bag_pairs.specs.contracts.pair.HeldPartialEq.TheImpl.{eq-value as held_test}
use Rattle.s2ix_bag_pairs.specs.contracts.pair.EntryPartialEq.TheImpl.{eq-value as entry_test}
use Rattle.s2ix_bag_pairs.specs.contracts.label.LabelEq.TheImpl.Laws as of_labels
use Rattle.s2ix_bag_pairs.specs.contracts.limits.LimitsEq.TheImpl.Laws as of_limits
use Rattle.s2ix_bag_pairs.specs.contracts.pair.PairEq.TheImpl.Laws as of_pairs
use Rattle.s2ix_bag_pairs.specs.contracts.pair.HeldEq.TheImpl.Laws as of_held
use Rattle.s2ix_bag_pairs.specs.contracts.pair.EntryEq.TheImpl.Laws as of_entries
use Rattle.s2ix_bag_pairs.proofs.Changes.{same_entry}
use Rattle.s2ix_bag_pairs.proofs.Pairs.{same_label, same_pair, same_held}

AreLimits-prop : (pairs count changes : ℕ) → IsProp (AreLimits pairs count changes)
AreLimits-prop pairs count changes = hlevel props

made : (pairs count changes : ℕ) → AreLimits pairs count changes → Limits
made p n c r = record { pairs = p; count = n; changes = c; in_range = r }

same_made : (p n c q m d : ℕ) (r : AreLimits p n c) → p ≡ q → n ≡ m → c ≡ d → (s : AreLimits q m d) → made p n c r ≡ made q m d s
same_made p n c q m d r e f g =
    subst (λ x. (s : AreLimits x m d) → made p n c r ≡ made x m d s) e
    (subst (λ y. (s : AreLimits p y d) → made p n c r ≡ made p y d s) f
    (subst (λ z. (s : AreLimits p n z) → made p n c r ≡ made p n z s) g (λ s. ap (made p n c) (AreLimits-prop p n c r s))))

-- limits with equal numbers are one
pub same_limits : (l m : Limits) → pairs_limit l ≡ pairs_limit m → count_limit l ≡ count_limit m → changes_limit l ≡ changes_limit m → l ≡ m
unfolding made
same_limits l m e f g = same_made l.pairs l.count l.changes m.pairs m.count m.changes l.in_range e f g m.in_range

-- ---- what `==` answers

one_label : (l m : Label) → label_test.it l m ≡ true → l ≡ m
one_label l m h = same_label l m (grind (arith, nat_tests))

one_limits : (l m : Limits) → limits_test.it l m ≡ true → l ≡ m
one_limits l m h = same_limits l m (grind (arith, nat_tests)) (grind (arith, nat_tests)) (grind (arith, nat_tests))

one_pair : (p q : Pair) → pair_test.it p q ≡ true → p ≡ q
one_pair p q h = same_pair p q (grind (arith, nat_tests))

one_held : (h k : Held) → held_test.it h k ≡ true → h ≡ k
one_held h k e = same_held h k (grind (arith, nat_tests)) (grind (arith, nat_tests))

one_entry : (e f : Entry) → entry_test.it e f ≡ true → e ≡ f
one_entry e f h = same_entry e f (grind (arith, nat_tests)) (grind (arith, nat_tests)) (grind (arith, nat_tests))

-- a test that holds of one thing with itself, and of no two, decides whether two are one
decided : {K : Type 0} {E : K → K → Bool} → IsEquivalence E → ((x y : K) → E x y ≡ true → x ≡ y) → (x y : K) → Decides (E x y) (x ≡ y)
decided {K} {E} laws one x y = (one x y, λ e. subst (λ z. E x z ≡ true) e (laws.refl x))

pub labels_decided : (l m : Label) → Decides (label_test.it l m) (l ≡ m)
labels_decided = decided of_labels.laws-law one_label

pub limits_decided : (l m : Limits) → Decides (limits_test.it l m) (l ≡ m)
limits_decided = decided of_limits.laws-law one_limits

pub pairs_decided : (p q : Pair) → Decides (pair_test.it p q) (p ≡ q)
pairs_decided = decided of_pairs.laws-law one_pair

pub held_decided : (h k : Held) → Decides (held_test.it h k) (h ≡ k)
held_decided = decided of_held.laws-law one_held

pub entries_decided : (e f : Entry) → Decides (entry_test.it e f) (e ≡ f)
entries_decided = decided of_entries.laws-law one_entry
