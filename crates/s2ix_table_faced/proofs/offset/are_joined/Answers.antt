-- The two ranges are one if nothing light lies over either of them, and the same heavy pairs.
use Rattle.std.proofs.Common.{sym, ◌∙◌}
use Rattle.std.proofs.lemmas.Bool.{false≢true}
use Rattle.s2ix_table_faced.proofs.Seams.{leads_no_more, leads_on, none_after, seam_apart, seam_joined}
use Rattle.s2ix_table_faced.proofs.offset.are_joined.Goals.{then-not-same_over-via-then-not-same_over, then-not-same_over-via-else-not-same_over+then-is_some}
use Rattle.s2ix_table_faced.proofs.offset.are_joined.Goals as goal

pub returns-then-not-same_over : goal.returns-then-not-same_over
returns-then-not-same_over c = λ over next_over same_over.
    let one = c.ranges_are_those_of_the_span.ensures in
    let other = c.ranges_are_those_of_the_span-2.ensures in
    elim c.then-not-same_over.branch [
      | then-not-same_over-via-then-not-same_over w ↦
          sym (seam_apart c.args.table.now c.args.next.now over next_over one other c.requires.neighbours same_over.apart same_over.next_apart
          (λ last first same. false≢true (sym w.if-not-same_over.true ∙ same_over.decided.1 same)))
      | then-not-same_over-via-else-not-same_over+then-is_some w ↦
          sym (seam_apart c.args.table.now c.args.next.now over next_over one other c.requires.neighbours same_over.apart same_over.next_apart
          (λ last first same. leads_on _ _ _ w.first_at_end.ensures (sym w.is_some.ensures ∙ w.if-is_some.true) last))
    ]

pub returns : goal.returns
returns c = λ over next_over same_over.
    let t = c.args.table.now in
    let u = c.args.next.now in
    let one = c.ranges_are_those_of_the_span.ensures in
    let other = c.ranges_are_those_of_the_span-2.ensures in
    let last = leads_no_more _ _ _ c.first_at_end.ensures (sym c.is_some.ensures ∙ c.if-is_some.false) in
    let same = same_over.decided.0 c.if-not-same_over.false in
    none_after _ c.is_none.result _ c.is_none.ensures
    (λ some. seam_apart t u over next_over one other c.requires.neighbours same_over.apart same_over.next_apart (λ before first e. leads_on _ _ _ c.first_at_start.ensures some first))
    (λ none. seam_joined t u over next_over one other last (leads_no_more _ _ _ c.first_at_start.ensures none) same)
