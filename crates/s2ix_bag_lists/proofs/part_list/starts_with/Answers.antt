-- The starts before the window stay, and those behind it move by as much as the window has grown.
use Rattle.std.proofs.Common.{◌≡◌, ℕ, ◌++◌, List, take, drop, get_or, ap, ◌∙◌, arith}
use Rattle.s2ix_bag_lists.specs.Parts.{starts_from}
use Rattle.s2ix_bag_lists.specs.View.{lists_in}
use Rattle.s2ix_bag_lists.proofs.Places.{starts_is, starts_long}
use Rattle.s2ix_bag_lists.proofs.Running.{length_parted, length_spliced, spliced_starts}
use Rattle.s2ix_bag_lists.proofs.part_list.starts_with.Goals as goal

pub split_at-requires : goal.split_at-requires
split_at-requires c =
    omega (arith, starts_long c.args.starts.now (lists_in c.args.parts) c.requires.counted, c.requires.some, c.requires.within)

pub bounds-starts-first : goal.bounds-starts-first
bounds-starts-first c =
    omega (arith, starts_long c.args.starts.now (lists_in c.args.parts) c.requires.counted, c.requires.some, c.requires.within)

pub push_starts-requires : goal.push_starts-requires
push_starts-requires c =
    let ps = lists_in c.args.parts in
    let first = c.args.replaced.0 in
    let start = starts_is c.args.starts.now ps first c.requires.counted (omega (arith, c.requires.some, c.requires.within)) in
    omega (arith, start, length_spliced ps c.args.made.now first c.args.replaced.1, c.requires.within_limit)

pub push_later_starts-requires-clause-within_limit : goal.push_later_starts-requires-clause-within_limit
push_later_starts-requires-clause-within_limit c =
    let ps = lists_in c.args.parts in
    let first = c.args.replaced.0 in
    let start = starts_is c.args.starts.now ps first c.requires.counted (omega (arith, c.requires.some, c.requires.within)) in
    let all = length_spliced ps c.args.made.now first c.args.replaced.1 in
    omega (arith, start, all, c.in_ok-now.ensures.end, c.requires.within_limit)

pub overflow_sub-result : goal.overflow_sub-result
overflow_sub-result c =
    omega (arith, c.pairs_before-was.ensures, c.requires.whole, length_parted (lists_in c.args.parts) c.args.replaced.1)

pub overflow_add-result : goal.overflow_add-result
overflow_add-result c =
    let ps = lists_in c.args.parts in
    let first = c.args.replaced.0 in
    let start = starts_is c.args.starts.now ps first c.requires.counted (omega (arith, c.requires.some, c.requires.within)) in
    let all = length_spliced ps c.args.made.now first c.args.replaced.1 in
    omega (
      arith,
      start,
      all,
      c.in_ok-now.ensures.end,
      c.requires.within_limit,
      c.pairs_before-was.ensures,
      c.requires.whole,
      length_parted ps c.args.replaced.1,
    )

pub returns-clause-starts : goal.returns-clause-starts
returns-clause-starts c =
    let ps = lists_in c.args.parts in
    let starts = c.args.starts.now in
    let made = c.args.made.now in
    let first = c.args.replaced.0 in
    let end = c.args.replaced.1 in
    let start = get_or starts first 0 in
    let now = c.in_ok-now.now in
    let front : c.extend_from_slice.new.self.items ≡ take first starts =
    c.in_ok-extend_from_slice.ensures.items
    ∙ ap (λ (x : List ℕ). x ++ c.split_at.result.0.now) c.in_ok-all.ensures.items
    ∙ c.split_at.ensures.front in
    c.in_ok-push_later_starts.ensures
    ∙ ap (λ (x : List ℕ). x ++ starts_from now (drop end ps))
    (c.in_ok-now.ensures.starts ∙ ap (λ (x : List ℕ). x ++ starts_from start made) front)
    ∙ spliced_starts starts ps made first end start now c.requires.counted
    (starts_is starts ps first c.requires.counted (omega (arith, c.requires.some, c.requires.within))) c.in_ok-now.ensures.end

pub returns-clause-len : goal.returns-clause-len
returns-clause-len c =
    let ps = lists_in c.args.parts in
    let first = c.args.replaced.0 in
    let start = starts_is c.args.starts.now ps first c.requires.counted (omega (arith, c.requires.some, c.requires.within)) in
    let all = length_spliced ps c.args.made.now first c.args.replaced.1 in
    omega (
      arith,
      start,
      all,
      c.in_ok-now.ensures.end,
      c.pairs_before-was.ensures,
      c.requires.whole,
      length_parted ps c.args.replaced.1,
    )
