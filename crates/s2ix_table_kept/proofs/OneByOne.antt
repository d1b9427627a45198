-- Pairs read one by one, in order.
use Rattle.std.proofs.Common.{◌≡◌, ℕ, suc, ◌+◌, ◌-◌, ◌<◌, ◌≤◌, [], ◌∷◌, ◌++◌, Some, length, take, drop, get_or, slice_get, refl, sym, ap, ◌∙◌, arith}
use Rattle.std.proofs.Math.Seq.{take-suc}
use Rattle.std.proofs.lemmas.List.{get_or-drop, length-drop}
use Rattle.std.proofs.lemmas.Option.{get_or_from_slice_get}
use Rattle.s2ix_bag_pairs.specs.Collection.{Collection}
use Rattle.s2ix_bag_pairs.specs.declared.pair.Held.{Held}
use Rattle.s2ix_table_kept.specs.Reading.{HasRead, with_read, with_reads}
use Rattle.s2ix_table_kept.proofs.ReadBlocks.{HasCopied}

-- a reader has read the pairs from one place to before another one by one, of those that end before a third
pub record IsReading (hs : Collection) (from to place : ℕ) (held shown : Collection) (before after : ℕ) : Type 0 where
  pub copied : HasCopied hs from to place held
  pub same : shown ≡ hs
  pub counts : after ≡ with_reads (place - from) before

read_next : (hs : Collection) (from m place : ℕ) (x : Held) → place ≡ from + m → place < length hs → slice_get hs place ≡ Some x
    → take m (drop from hs) ++ x ∷ [] ≡ take (suc m) (drop from hs)
read_next hs from m place x here within is =
    let left = length-drop from hs in
    let found : get_or (drop from hs) m x ≡ x =
    get_or-drop from hs m x ∙ ap (λ (n : ℕ). get_or hs n x) (sym here) ∙ get_or_from_slice_get hs place x x is in
    ap (λ (y : Held). take m (drop from hs) ++ y ∷ []) (sym found) ∙ sym (take-suc (drop from hs) m x (omega arith))

-- one pair more
pub read_more : (hs held shown next_shown more : Collection) (from to place before after next_after : ℕ) (x : Held) → to ≤ length hs
    → IsReading hs from to place held shown before after → place < to → slice_get shown place ≡ Some x → next_shown ≡ shown
    → next_after ≡ with_read after → more ≡ held ++ x ∷ [] → IsReading hs from to (place + 1) more next_shown before next_after
read_more hs held shown next_shown more from to place before after next_after x within was short is same counts made =
    let begins = was.copied.begins in
    let m : ℕ = place - from in
    let number : suc m ≡ place + 1 - from = omega arith in
    let found = ap (λ (xs : Collection). slice_get xs place) (sym was.same) ∙ is in
    record {
      copied = record {
        begins = omega arith;
        ends = omega arith;
        pairs = made ∙ ap (λ (xs : Collection). xs ++ x ∷ []) was.copied.pairs
            ∙ read_next hs from m place x (omega arith) (omega arith) found
            ∙ ap (λ (n : ℕ). take n (drop from hs)) number;
      };
      same = same ∙ was.same;
      counts = counts ∙ ap (λ (n : ℕ). with_read n) was.counts ∙ ap (λ (n : ℕ). with_reads n before) number;
    }

-- what was read by then
pub read_so_far : (hs : Collection) (from to place : ℕ) (held shown : Collection) (before after : ℕ)
    → IsReading hs from to place held shown before after → HasRead 0 (to - from) before after
read_so_far hs from to place held shown before after is =
    let begins = is.copied.begins in
    let ends = is.copied.ends in
    record { made = place - from; counts = is.counts; some = omega arith; within_limit = omega arith }

-- and one read more, whose pair was not kept
pub with_next : (hs : Collection) (from to place : ℕ) (held shown : Collection) (before after next_after : ℕ)
    → IsReading hs from to place held shown before after → place < to → next_after ≡ with_read after
    → HasRead 0 (to - from) before next_after
with_next hs from to place held shown before after next_after is short counts =
    let begins = is.copied.begins in
    record {
      made = suc (place - from);
      counts = counts ∙ ap (λ (n : ℕ). with_read n) is.counts;
      some = omega arith;
      within_limit = omega arith;
    }

-- nothing is read yet
pub none_yet : (hs : Collection) (from to : ℕ) (held : Collection) (before : ℕ) → from ≤ to → held ≡ []
    → IsReading hs from to from held hs before before
none_yet hs from to held before rises none =
    let nothing : 0 ≡ from - from = omega arith in
    record {
      copied = record { begins = omega arith; ends = rises; pairs = none ∙ ap (λ (n : ℕ). take n (drop from hs)) nothing };
      same = refl;
      counts = ap (λ (n : ℕ). with_reads n before) nothing;
    }
