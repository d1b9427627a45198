use Rattle.std.proofs.Common.{ℕ, ◌<◌, ◌≤◌, ◌+◌, ◌++◌, length, sym, ◌∙◌, ap, subst}
use Rattle.s2ix_table_walk.specs.Contents.{contents_at}
use Rattle.s2ix_table_walk.specs.Links.{AreLinked}
use Rattle.s2ix_table_walk.specs.Table.{range_at, IsFound}
use Rattle.s2ix_table_spans.specs.Chains.{chain_of}
use Rattle.s2ix_table_spans.specs.SpanTable.{SpanRanges}
use Rattle.s2ix_table_parts.specs.FaceSpans.{spans_of, table_of}
use Rattle.s2ix_table_faced.specs.Joined.{joined_ranges}
use Rattle.s2ix_table_faced.specs.Layout.{covered, heavy_in}
use Rattle.s2ix_table_faced.specs.Offsets.{place_on}
use Rattle.s2ix_table_faced.proofs.Reading.{found_in, place_of, same_contents}
use Rattle.s2ix_table_faced.proofs.faced_table.FacedTable.contents_in.Goals as goal

pub returns-clause-contents : goal.returns-clause-contents
returns-clause-contents c =
    let t = c.args.self.now in
    let spans = spans_of t.parts.items in
    let part = c.args.bookmark.part in
    let own = c.args.bookmark.range in
    let has = c.requires in
    let here = c.span-span.ensures in
    let table = c.span-span.result.now in
    record {
      listed = chain_of table.held;
      linked = subst (λ hs. AreLinked hs c.outers.result.now (chain_of table.held)) (sym c.held.ensures) c.outers.ensures;
      place = c.over.ensures.place;
      over = λ leaf odd from to.
          let own_found : IsFound table.ranges own leaf = record {
            within = subst (λ (s : SpanRanges). own < length s.ranges) (sym here) has.within;
            start = subst (λ n. n ≤ leaf) c.range-row.ensures.start from;
            limit = subst (λ n. leaf < n) c.range-row.ensures.limit to;
          } in
          let found : IsFound (joined_ranges (covered (heavy_in t.heavy) spans)) (place_on t.offsets.items part own) leaf =
          subst (λ (p : ℕ). IsFound (joined_ranges (covered (heavy_in t.heavy) spans)) (p + own) leaf) (sym (place_of part 0 t.joined has.listed))
          (found_in part own leaf table t.joined has.listed here own_found) in
          let light = ap (λ (s : SpanRanges). (range_at s.ranges own).contents) (sym here) ∙ sym c.innermost.ensures in
          t.table.shared (place_on t.offsets.items part own) leaf found.within odd found.start found.limit
          ∙ same_contents part own t.joined has
          ∙ ap (λ hs. hs ++ contents_at (table_of spans part).from (heavy_in t.heavy)) light
          ∙ ap (λ hs. chain_of table.held c.innermost.result ++ hs) (sym c.over.ensures.pairs_are);
    }
