-- How many pairs a collection holds if counts are set, and how many entries a change has.
use Rattle.std.proofs.Common.{ℕ, zero, suc, ◌+◌, ◌≤◌, ◌==◌, nat_lt, if◌then◌else◌, Bool, true, false, List, [], ◌∷◌, length, arith}
use Rattle.s2id_core.specs.declared.cell_id.CellId.{CellId}
use Rattle.s2ix_bag_pairs.specs.declared.label.Label.{Label}
use Rattle.s2ix_bag_pairs.specs.declared.pair.Entry.{Entry}
use Rattle.s2ix_bag_pairs.specs.declared.pair.Pair.{Pair}
use Rattle.s2ix_bag_pairs.specs.Change.{change_between, differences, joined}
use Rattle.s2ix_bag_pairs.specs.Collection.{Collection, count_in, held_with, set_count}
use Rattle.s2ix_bag_pairs.specs.Pair.{rank_of}
use Rattle.s2ix_edit_plan.specs.Edit.{pair_of, with_each, with_more}

short_either : (b : Bool) (hs ks : Collection) (n : ℕ) → length hs ≤ n → length ks ≤ n → length (if b then hs else ks) ≤ n
short_either true hs ks n first second = first
short_either false hs ks n first second = second

few_either : (b : Bool) (es ds : List Entry) (n : ℕ) → length es ≤ n → length ds ≤ n → length (if b then es else ds) ≤ n
few_either true es ds n first second = first
few_either false es ds n first second = second

pub length_held : (p : Pair) (n : ℕ) (hs : Collection) → length (held_with p n hs) ≤ length hs + 1
length_held p zero hs = omega arith
length_held p (suc n) hs = omega arith

pub length_set : (p : Pair) (n : ℕ) (hs : Collection) → length (set_count p n hs) ≤ length hs + 1
length_set p n [] = length_held p n []
length_set p n (h ∷ hs) =
    let rest = length_set p n hs in
    short_either (nat_lt (rank_of p) (rank_of h.pair)) (held_with p n (h ∷ hs))
    (if rank_of p == rank_of h.pair then held_with p n hs else h ∷ set_count p n hs) (length (h ∷ hs) + 1)
    (length_held p n (h ∷ hs))
    (short_either (rank_of p == rank_of h.pair) (held_with p n hs) (h ∷ set_count p n hs) (length (h ∷ hs) + 1)
    (omega (arith, length_held p n hs))
    (omega (arith, rest)))

length_joined : (hs ks : Collection) → length (joined hs ks) ≤ length hs + length ks
length_joined hs [] = omega arith
length_joined hs (k ∷ ks) = omega (arith, length_joined (set_count k.pair k.count hs) ks, length_set k.pair k.count hs)

length_differences : (old new hs : Collection) → length (differences old new hs) ≤ length hs
length_differences old new [] = omega arith
length_differences old new (h ∷ hs) =
    let rest = length_differences old new hs in
    few_either (count_in old h.pair == count_in new h.pair) (differences old new hs)
    (record { pair = h.pair; before = count_in old h.pair; after = count_in new h.pair } ∷ differences old new hs) (length (h ∷ hs))
    (omega (arith, rest))
    (omega (arith, rest))

-- a change between two collections has at most as many entries as both hold pairs
pub length_between : (old new : Collection) → length (change_between old new) ≤ length old + length new
length_between old new = omega (arith, length_differences old new (joined old new), length_joined old new)

-- ---- one copy more for each cell

pub length_each : (label : Label) (cs : List CellId) (hs : Collection) → length (with_each label cs hs) ≤ length hs + length cs
length_each label [] hs = omega arith
length_each label (c ∷ cs) hs =
    let p = pair_of c label in
    omega (arith, length_each label cs (with_more p 1 hs), length_set p (count_in hs p + 1) hs)
