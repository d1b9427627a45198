-- A block of a list goes out to a buffer, behind the blocks that are out.
use Rattle.std.proofs.Common.{◌≡◌, ◌≤◌, ◌+◌, ◌-◌, ◌∙◌, ℕ, List, [], ◌++◌, length, map, take, drop, ap, sym, arith, length-append, length-drop}
use Rattle.std.proofs.Math.Seq.{drop-append-add, drop-drop, take-append-add}
use Rattle.std.proofs.lemmas.List.{append-nil, length-take, length-take-le, map-append, take_all}
use Rattle.s2ix_bag_pairs.specs.Collection.{Collection}
use Rattle.s2ix_bag_pairs.specs.declared.pair.Held.{Held}
use Rattle.s2ix_table_kept.proofs.ReadBlocks.{with_block}
use Rattle.s2ix_c_calls.proofs.Filling.{empty}

-- the first `n` items of a buffer's part from `count` on were written
module _ {A : Type 0} (out part new : List A) (count n : ℕ) (within : count ≤ length out)
    (same : length part ≡ length (take (length out - count) (drop count out))) (room : n ≤ length out - count)
    (is : new ≡ take count out ++ (part ++ drop (length out - count) (drop count out))) where
  long : length part ≡ length out - count
  long = omega (arith, same, length-take (length out - count) (drop count out), length-drop count out)

  no_more : drop (length out - count) (drop count out) ≡ []
  no_more = empty (drop (length out - count) (drop count out))
      (omega (arith, length-drop (length out - count) (drop count out), length-drop count out))

  front_long : length (take count out) ≡ count
  front_long = length-take-le count out within

  new_is : new ≡ take count out ++ part
  new_is = is ∙ ap (λ l. take count out ++ (part ++ l)) no_more ∙ ap (λ l. take count out ++ l) (append-nil part)

  pub block_front : take (count + n) new ≡ take count out ++ take n part
  block_front =
      ap (take (count + n)) new_is ∙ ap (λ m. take (m + n) (take count out ++ part)) (sym front_long) ∙ take-append-add (take count out) part n

  pub block_after : drop n part ≡ drop n (take (length out - count) (drop count out)) → drop (count + n) new ≡ drop (count + n) out
  block_after after =
      ap (drop (count + n)) new_is ∙ ap (λ m. drop (m + n) (take count out ++ part)) (sym front_long) ∙ drop-append-add (take count out) part n
      ∙ after
      ∙ ap (drop n) (take_all (length out - count) (drop count out) (omega (arith, length-drop count out)))
      ∙ drop-drop n count out

  pub block_long : length new ≡ length out
  block_long = omega (arith, ap length new_is, length-append (take count out) part, front_long, long)

-- the rows of a page as far as they are out, and those of one block more, up to an end in the part that begins before the block
pub page_more : {B : Type 0} (f : Held → B) (hs part : Collection) (front block : List B) (from put before end : ℕ) → before ≤ from + put
    → from + put ≤ before + end → end ≤ length part → take (length part) (drop before hs) ≡ part → front ≡ map f (take put (drop from hs))
    → block ≡ map f (take (end - (from + put - before)) (drop (from + put - before) part))
    → front ++ block ≡ map f (take (put + (end - (from + put - before))) (drop from hs))
page_more f hs part front block from put before end begins ends within own front_is block_is =
    let a : ℕ = from + put - before in
    let k : ℕ = end - a in
    ap (λ l. l ++ block) front_is ∙ ap (λ l. map f (take put (drop from hs)) ++ l) block_is
    ∙ sym (map-append f (take put (drop from hs)) (take k (drop a part)))
    ∙ ap (map f) (with_block hs part from put before a k (omega arith) (omega arith) own)

pub after_more : {A : Type 0} (out old : List A) (put n : ℕ) → drop put out ≡ drop put old → drop (put + n) out ≡ drop (put + n) old
after_more out old put n same = sym (drop-drop n put out) ∙ ap (drop n) same ∙ drop-drop n put old
