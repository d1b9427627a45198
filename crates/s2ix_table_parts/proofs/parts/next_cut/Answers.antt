use Rattle.std.proofs.Common.{◌≡◌, ◌+◌, ◌<◌, ◌≤◌, ℕ, List, [], take, drop, get_or, length, sym, ap, ◌∙◌, subst, arith}
use Rattle.std.proofs.lemmas.List.{take_all, get_or_default}
use Rattle.s2ix_bag_lists.specs.Faces.{all_of}
use Rattle.s2ix_bag_lists.specs.View.{lists_in}
use Rattle.s2ix_bag_pairs.specs.Collection.{Collection}
use Rattle.s2ix_table_parts.specs.Parts.{EndsBy, BeginsFrom}
use Rattle.s2ix_table_spans.specs.SpanTable.{IsInSpan}
use Rattle.s2ix_table_parts.proofs.Parting.{seams_count, seam_at, last_seam, begins_front, ends_append, ends_later, one_more, split_lists}
use Rattle.s2ix_table_parts.proofs.parts.next_cut.Goals as goal

-- one list more ends by the greater end
ends_more : (ls : List Collection) (k end later : ℕ) (list : Collection) → k < length ls → EndsBy (all_of (take k ls)) end → end ≤ later
    → list ≡ get_or ls k [] → EndsBy list later → EndsBy (all_of (take (k + 1) ls)) later
ends_more ls k end later list within front le is own =
    let here : EndsBy (get_or ls k []) later = subst (λ hs. EndsBy hs later) is own in
    subst (λ hs. EndsBy hs later) (sym (one_more k ls [] within))
    (ends_append later (all_of (take k ls)) (get_or ls k []) (ends_later end later (all_of (take k ls)) le front) here)

pub bounds-seams-count : goal.bounds-seams-count
bounds-seams-count c =
    let many = seams_count (lists_in c.args.held) c.args.seams.now c.args.to c.requires.seams in
    let within = c.loop-count-test.true in
    omega arith

pub loop-count-preserved : goal.loop-count-preserved
loop-count-preserved c =
    let within : c.loop-count.count < length (lists_in c.args.held) = subst (λ n. c.loop-count.count < n) c.len.ensures.number c.loop-count-test.true in (
      omega arith,
      ends_more (lists_in c.args.held) c.loop-count.count c.loop-count.end c.greatest_end-end.result c.as_slice.result.now within
          c.loop-count.invariant.1 c.greatest_end-end.ensures.from (c.as_slice.ensures ∙ c.at.ensures) c.greatest_end-end.ensures.ends,
    )

pub returns-then-seam-to-clause-span : goal.returns-then-seam-to-clause-span
returns-then-seam-to-clause-span c =
    let held = lists_in c.args.held in
    let bs = c.args.seams.now in
    let k : ℕ = c.loop-count.count + 1 in
    let to = c.args.to in
    let one : c.loop-count.count < length held = subst (λ n. c.loop-count.count < n) c.len.ensures.number c.loop-count-test.true in
    let within : k ≤ length held = omega arith in
    let many = seams_count held bs to c.requires.seams in
    let seam = seam_at k held bs to to c.requires.span.odd_end within c.requires.seams in
    let end = c.greatest_end-end.result in
    let some = c.if-from-end.true in
    let by = c.if-end-seam.true in
    let read : get_or bs k to ≡ get_or bs k 0 = get_or_default bs k to 0 (omega arith) in
    let ends =
    ends_more held c.loop-count.count c.loop-count.end end c.as_slice.result.now one
    c.loop-count.invariant.1 c.greatest_end-end.ensures.from (c.as_slice.ensures ∙ c.at.ensures) c.greatest_end-end.ensures.ends in
    record {
      odd = c.requires.span.odd;
      odd_end = seam.odd;
      some = omega arith;
      begins = begins_front c.args.from (all_of (take k held)) (all_of (drop k held))
          (subst (λ hs. BeginsFrom hs c.args.from) (sym (split_lists k held)) c.requires.span.begins);
      ends = ends_later end (get_or bs k to) (all_of (take k held)) (omega arith) ends;
    }

pub returns-clause-span : goal.returns-clause-span
returns-clause-span c =
    let held = lists_in c.args.held in
    let bs = c.args.seams.now in
    let k = c.loop-count.count in
    let to = c.args.to in
    let all : k ≡ length held = (let le = c.loop-count-test.false in let by = c.loop-count.invariant.0 in omega arith) in
    let last : get_or bs k to ≡ to = ap (λ n. get_or bs n to) all ∙ last_seam held bs to to c.requires.seams in
    let lists : take k held ≡ held = take_all k held (omega arith) in
    subst (λ (n : ℕ). IsInSpan (all_of (take k held)) c.args.from n) (sym last)
    (subst (λ (ls : List Collection). IsInSpan (all_of ls) c.args.from to) (sym lists) c.requires.span)
