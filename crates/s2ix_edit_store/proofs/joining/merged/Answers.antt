-- Each step moves the entry that comes first, or what the two make of one pair.
use Rattle.std.proofs.Common.{◌≡◌, ◌⊎◌, ◌+◌, ◌≤◌, ◌++◌, List, inl, inr, length, sym, ap, ap₂, ◌∙◌, subst, arith, ⊎_elim}
use Rattle.std.proofs.lemmas.Bool.{cases_order}
use Rattle.s2ix_bag_pairs.specs.declared.pair.Entry.{Entry}
use Rattle.s2ix_bag_pairs.specs.Pair.{rank_of}
use Rattle.s2ix_edit_store.proofs.Merging.{Merging, all_out, both_out, newer_out, older_out}
use Rattle.s2ix_edit_store.proofs.joining.merged.Goals as goal
use Rattle.s2ix_edit_store.proofs.joining.merged.Goals.{then-loop-i-test+else-k-newer, else-loop-i-test}

pub loop-i-preserved-then-is_before : goal.loop-i-preserved-then-is_before
loop-i-preserved-then-is_before c =
    let Next : List Entry → Type 0 = λ out. Merging c.args.older.now c.args.newer.now out (c.loop-i.i + 1) c.loop-i.k in (
      subst Next (sym c.push_reserved.ensures.items)
          (older_out c.args.older.now c.args.newer.now c.loop-i.out.items c.loop-i.i c.loop-i.k c.index-older-i.result c.index-newer-k.result
          c.requires.newer_rises c.loop-i.invariant.0 (omega arith) (omega arith) c.index-older-i.is c.index-newer-k.is
          (c.is_before.ensures.0 c.if-is_before.true)),
      omega arith,
    )

pub loop-i-preserved-then-is_before-2 : goal.loop-i-preserved-then-is_before-2
loop-i-preserved-then-is_before-2 c =
    let Next : List Entry → Type 0 = λ out. Merging c.args.older.now c.args.newer.now out c.loop-i.i (c.loop-i.k + 1) in (
      subst Next (sym c.push_reserved-then-is_before-2.ensures.items)
          (newer_out c.args.older.now c.args.newer.now c.loop-i.out.items c.loop-i.i c.loop-i.k c.index-older-i.result c.index-newer-k.result
          c.requires.newer_rises c.loop-i.invariant.0 (omega arith) (omega arith) c.index-older-i.is c.index-newer-k.is
          (c.is_before-else-is_before.ensures.0 c.if-is_before-2.true)),
      omega arith,
    )

pub loop-i-preserved : goal.loop-i-preserved
loop-i-preserved c =
    let e = c.index-older-i.result in
    let f = c.index-newer-k.result in
    let same : rank_of f.pair ≡ rank_of e.pair =
    ⊎_elim
    (λ eq. eq)
    (λ order. ⊎_elim
    (λ lt. let yes = c.is_before-else-is_before.ensures.1 lt in let no = c.if-is_before-2.false in cc)
    (λ lt. let yes = c.is_before.ensures.1 lt in let no = c.if-is_before.false in cc)
    order)
    (cases_order (rank_of f.pair) (rank_of e.pair)) in
    let Next : List Entry → Type 0 = λ out. Merging c.args.older.now c.args.newer.now out (c.loop-i.i + 1) (c.loop-i.k + 1) in (
      subst Next (sym c.push_both.ensures.pushed)
          (both_out c.args.older.now c.args.newer.now c.loop-i.out.items c.loop-i.i c.loop-i.k e f
          c.requires.newer_rises c.loop-i.invariant.0 (omega arith) (omega arith) c.index-older-i.is c.index-newer-k.is same),
      omega arith,
    )

pub returns : goal.returns
returns c =
    let past : (length c.args.older.now ≤ c.loop-i.i) ⊎ (length c.args.newer.now ≤ c.loop-i.k) = elim c.loop-i-test.branch [
      | then-loop-i-test+else-k-newer w ↦ inr (omega (arith, w.if-k-newer.false))
      | else-loop-i-test w ↦ inl (omega (arith, w.loop-i-test.false))
    ] in
    c.in_ok-extend_from_slice-2.ensures.items
    ∙ ap₂ (λ (x y : List Entry). x ++ y)
    (c.in_ok-extend_from_slice.ensures.items ∙ ap (λ x. c.loop-i.out.items ++ x) c.split_at.ensures.back) c.split_at-2.ensures.back
    ∙ all_out c.args.older.now c.args.newer.now c.loop-i.out.items c.loop-i.i c.loop-i.k c.requires.newer_rises c.loop-i.invariant.0 past
