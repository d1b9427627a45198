-- Pairs in lists, and the seams at which they can be cut: leaf numbers that no cell goes over.
use Rattle.std.specs.Prelude.{◌≡◌, ℕ, ◌%◌, ◌<◌, ◌≤◌, List, [], ◌∷◌, ◌++◌, length, take, drop, Contains}
use Rattle.s2id_core.specs.CellId.{first_of, end_of}
use Rattle.s2ix_bag_lists.specs.Faces.{all_of}
use Rattle.s2ix_bag_pairs.specs.Change.{IsChangeList, changed}
use Rattle.s2ix_bag_pairs.specs.Collection.{Collection, IsCollection}
use Rattle.s2ix_bag_pairs.specs.declared.pair.Entry.{Entry}
use Rattle.s2ix_bag_pairs.specs.declared.pair.Held.{Held}
use Rattle.s2ix_table_spans.specs.SpanTable.{SpanRanges}
use Rattle.s2ix_table_parts.specs.FaceSpans.{table_of}
use Rattle.s2ix_table_parts.specs.Neighbours.{held_in, AreNeighbours}

-- cells end by a leaf number
abbrev pub EndsBy : Collection → ℕ → Type 0
EndsBy held leaf = (h : Held) → Contains held h → end_of h.pair.cell ≤ leaf

-- cells begin at a leaf number or later
abbrev pub BeginsFrom : Collection → ℕ → Type 0
BeginsFrom held leaf = (h : Held) → Contains held h → leaf ≤ first_of h.pair.cell

-- a seam, at most `to`, and all these cells begin there or later
pub record IsSeam (held : Collection) (to seam : ℕ) : Type 0 where
  pub odd : seam % 2 ≡ 1
  pub by : seam ≤ to
  pub begins : BeginsFrom held seam

-- for each of some lists a seam before it and all lists that follow it, and then `to`
abbrev pub AreSeams : List Collection → List ℕ → ℕ → Type 0
AreSeams [] seams to = seams ≡ to ∷ []
AreSeams (list ∷ lists) [] to = ⊥
AreSeams (list ∷ lists) (seam ∷ seams) to = IsSeam (list ++ all_of lists) to seam × AreSeams lists seams to

-- ---- after a change

-- the cells of entries end by a leaf number
abbrev pub EntriesEndBy : List Entry → ℕ → Type 0
EntriesEndBy entries leaf = (e : Entry) → Contains entries e → end_of e.pair.cell ≤ leaf

-- the cells of entries begin at a leaf number or later
abbrev pub EntriesBeginFrom : List Entry → ℕ → Type 0
EntriesBeginFrom entries leaf = (e : Entry) → Contains entries e → leaf ≤ first_of e.pair.cell

-- a leaf number for each of some entries, from which on its cell and those of all entries after it begin, and one more
abbrev pub AreBegins : List Entry → List ℕ → Type 0
AreBegins [] begins = 0 < length begins
AreBegins (e ∷ es) [] = ⊥
AreBegins (e ∷ es) (begin ∷ begins) = EntriesBeginFrom (e ∷ es) begin × AreBegins es begins

-- parts, of which those with numbers from `first` on and before `end` give way to others
abbrev pub with_parts : List SpanRanges → ℕ → ℕ → List SpanRanges → List SpanRanges
with_parts parts first end made = take first parts ++ (made ++ drop end parts)

-- lists hold what entries make of what neighbouring tables hold, over the leaves from one number up to another
pub record IsChangedSpan (tables : List SpanRanges) (lists : List Collection) (entries : List Entry) (from to : ℕ) : Type 0 where
  pub neighbours : AreNeighbours from tables to
  pub made : changed (held_in tables) entries ≡ all_of lists
  pub entries_rise : IsChangeList entries
  pub rises : IsCollection (all_of lists)
  pub within_limit : length (all_of lists) ≤ 1000000
  pub begins : BeginsFrom (all_of lists) from
  pub ends : EndsBy (all_of lists) to

-- a change that is cut in two at a seam: before it there are so many of the tables, of the lists and of the entries
pub record IsCut (tables : List SpanRanges) (lists : List Collection) (entries : List Entry) (from to : ℕ) (place list_count entry_count seam : ℕ) : Type 0 where
  pub tables_fit : place ≤ length tables
  pub lists_fit : list_count ≤ length lists
  pub entries_fit : entry_count ≤ length entries
  pub own : IsChangedSpan (take place tables) (take list_count lists) (take entry_count entries) from seam
  pub later : IsChangedSpan (drop place tables) (drop list_count lists) (drop entry_count entries) seam to

-- parts with numbers from `first` on and before `end`, of parts that end by `last`, go over the leaves from one number up to another, and
-- the cells of all entries lie there
pub record AreTouched (parts : List SpanRanges) (entries : List Entry) (last first end from to : ℕ) : Type 0 where
  pub some : first < end
  pub within : end ≤ length parts
  pub begins : from ≡ (table_of parts first).from
  pub ends : end < length parts → to ≡ (table_of parts end).from
  pub ends_all : end ≡ length parts → to ≡ last
  pub entries_begin : EntriesBeginFrom entries from
  pub entries_end : EntriesEndBy entries to
