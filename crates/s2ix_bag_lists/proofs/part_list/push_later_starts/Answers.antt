-- As many pairs more, or fewer, come before each later part as before the first of them.
use Rattle.std.proofs.Common.{◌≡◌, ℕ, ◌+◌, ◌-◌, ◌<◌, ◌++◌, [], ◌∷◌, List, take, drop, get_or, length, sym, ap, ◌∙◌, arith, append_assoc}
use Rattle.std.proofs.lemmas.List.{length-drop}
use Rattle.s2ix_bag_lists.specs.Faces.{all_of}
use Rattle.s2ix_bag_lists.specs.Parts.{starts_from}
use Rattle.s2ix_bag_lists.specs.View.{lists_in}
use Rattle.s2ix_bag_lists.proofs.Places.{starts_long}
use Rattle.s2ix_bag_lists.proofs.Running.{later_start, length_parted, starts_one_more}
use Rattle.s2ix_bag_lists.proofs.part_list.push_later_starts.Goals as goal

pub bounds-starts-part : goal.bounds-starts-part
bounds-starts-part c =
    let ps = lists_in c.args.parts in
    omega (arith, starts_long c.args.starts.now ps c.requires.counted, c.loop-part-test.true, c.len.ensures.number)

pub overflow_sub-starts : goal.overflow_sub-starts
overflow_sub-starts c =
    let ps = lists_in c.args.parts in
    let part = c.loop-part.part in
    let within : part < length ps = omega (arith, c.loop-part-test.true, c.len.ensures.number) in
    let start =
    later_start c.args.starts.now ps c.args.end part c.args.was c.requires.counted c.loop-part.invariant.0 within c.requires.was in
    omega (arith, start)

pub overflow_add-starts : goal.overflow_add-starts
overflow_add-starts c =
    let ps = lists_in c.args.parts in
    let part = c.loop-part.part in
    let within : part < length ps = omega (arith, c.loop-part-test.true, c.len.ensures.number) in
    let start =
    later_start c.args.starts.now ps c.args.end part c.args.was c.requires.counted c.loop-part.invariant.0 within c.requires.was in
    let rest = length_parted (drop c.args.end ps) (part - c.args.end) in
    omega (arith, start, rest, c.requires.within_limit)

pub loop-part-preserved : goal.loop-part-preserved
loop-part-preserved c =
    let ps = lists_in c.args.parts in
    let part = c.loop-part.part in
    let end = c.args.end in
    let now = c.args.now in
    let later = drop end ps in
    let was = c.loop-part.invariant in
    let within : part < length ps = omega (arith, c.loop-part-test.true, c.len.ensures.number) in
    let start = later_start c.args.starts.now ps end part c.args.was c.requires.counted was.0 within c.requires.was in
    let value : get_or c.args.starts.now part 0 - c.args.was + now ≡ now + length (all_of (take (part - end) later)) = omega (arith, start) in
    let inside : part - end < length later = omega (arith, within, was.0, length-drop end ps) in
    let next : part - end + 1 ≡ part + 1 - end = omega (arith, was.0) in
    let before = starts_from now (take (part - end) later) in (
      omega (arith, was.0),
      omega (arith, within),
      c.in_ok-push.ensures.items
          ∙ ap (λ (x : List ℕ). x ++ (get_or c.args.starts.now part 0 - c.args.was + now) ∷ []) was.2
          ∙ append_assoc c.args.all.now.items before ((get_or c.args.starts.now part 0 - c.args.was + now) ∷ [])
          ∙ ap (λ (k : ℕ). c.args.all.now.items ++ (before ++ k ∷ [])) value
          ∙ ap (λ (x : List ℕ). c.args.all.now.items ++ x)
          (sym (starts_one_more now (part - end) later inside) ∙ ap (λ (k : ℕ). starts_from now (take k later)) next),
    )
