-- How marks are made, and that they rise.
use Rattle.std.proofs.Common.{◌≡◌, ℕ, suc, ◌+◌, ◌*◌, ◌≤◌, inl, inr, Some, List, [], ◌∷◌, ◌++◌, length, get_or, slice_get, refl, sym, ◌∙◌, ap, arith, Contains, subst}
use Rattle.std.proofs.lemmas.Bool.{cases_lt}
use Rattle.std.proofs.lemmas.List.{length_push}
use Rattle.std.proofs.lemmas.Option.{slice_get_within}
use Rattle.s2id_core.specs.CellId.{raw_of}
use Rattle.s2id_core.proofs.Lists.{at_head}
use Rattle.s2ix_bag_lists.specs.Faces.{all_of}
use Rattle.s2ix_bag_lists.specs.Parts.{AreFilled}
use Rattle.s2ix_bag_lists.proofs.Joins.{back_rises}
use Rattle.s2ix_bag_lists.proofs.Windows.{filled_count}
use Rattle.s2ix_bag_pairs.specs.Collection.{Collection, IsCollection, IsCollectionFrom}
use Rattle.s2ix_bag_pairs.specs.Pair.{rank_of}
use Rattle.s2ix_bag_pairs.specs.declared.pair.Held.{Held}
use Rattle.s2ix_table_spans.proofs.BlockChains.{read_front, read_after}
use Rattle.s2ix_table_spans.proofs.Numbers.{raw_by_rank}
use Rattle.s2ix_table_heavy.specs.Chunks.{AreChunks, AreMarks, IsMark}
use Rattle.s2ix_table_heavy.proofs.Chunked.{ranks_across}
use Rattle.s2ix_table_heavy.proofs.Outwards.{same_some}

-- ---- one after the other

-- the marks of the first chunks
pub record AreFirstMarks (chunks : List Collection) (count : ℕ) (marks : Collection) : Type 0 where
  pub size : length marks ≡ count
  pub each : (k : ℕ) (mark : Held) → slice_get marks k ≡ Some mark → IsMark (get_or chunks k []) k mark

pub no_marks : (chunks : List Collection) → AreFirstMarks chunks 0 []
no_marks chunks = record { size = refl; each = λ k mark is. absurd (cc) }

pub mark_more : (chunks : List Collection) (count : ℕ) (marks : Collection) (mark : Held) → AreFirstMarks chunks count marks
    → IsMark (get_or chunks count []) count mark → AreFirstMarks chunks (count + 1) (marks ++ mark ∷ [])
mark_more chunks count marks mark first own = record {
  size = let size = first.size in let more = length_push marks mark in omega arith;
  each = λ k m is. elim (cases_lt k (length marks)) [
    | inl lt ↦ first.each k m (sym (read_front marks (mark ∷ []) k lt) ∙ is)
    | inr ge ↦
        (let within = slice_get_within (marks ++ mark ∷ []) k m is in
        let more = length_push marks mark in
        let size = first.size in
        let at : k ≡ count = omega arith in
        let last : mark ≡ m = same_some mark m (sym (read_after marks (mark ∷ []) k 0 (omega arith)) ∙ is) in
        subst (λ n. IsMark (get_or chunks n []) n m) (sym at) (subst (IsMark (get_or chunks count []) count) last own))
  ];
}

pub all_marks : (chunks : List Collection) (count : ℕ) (marks : Collection) → AreFirstMarks chunks count marks → count ≡ length chunks
    → AreMarks chunks marks
all_marks chunks count marks first e = record { size = first.size ∙ e; each = first.each }

-- ---- they rise

numbers_rise : (r s v : ℕ) → r ≤ s → r * 2147483648 + v ≤ s * 2147483648 + v
numbers_rise r s v le = omega arith

-- a list of chunks whose numbers begin with n, and whose cells are not before r
marks_rise : (r n low : ℕ) (chunks : List Collection) (marks : Collection) → length marks ≡ length chunks
    → ((k : ℕ) (mark : Held) → slice_get marks k ≡ Some mark → IsMark (get_or chunks k []) (n + k) mark) → AreFilled chunks
    → IsCollectionFrom low (all_of chunks) → ((h : Held) → Contains (all_of chunks) h → r ≤ raw_of h.pair.cell)
    → IsCollectionFrom (r * 2147483648 + n) marks
marks_rise r n low chunks [] size each filled rises least = tt
marks_rise r n low [] (m ∷ ms) size each filled rises least = absurd (omega arith)
marks_rise r n low ([] ∷ cs) (m ∷ ms) size each filled rises least = absurd (let some = filled.0 in omega arith)
marks_rise r n low ((h ∷ hs) ∷ cs) (m ∷ ms) size each filled rises least =
    let own = each 0 m refl in
    let raw = ap raw_of (own.cell h (at_head h hs)) in
    let from : r ≤ raw_of m.pair.cell = let le = least h (at_head h (hs ++ all_of cs)) in omega arith in
    let label = own.label in
    let count = own.count in
    let up = numbers_rise r (raw_of m.pair.cell) n from in
    let next : raw_of m.pair.cell * 2147483648 + (n + 1) ≡ rank_of m.pair + 1 = omega arith in
    let rest = marks_rise (raw_of m.pair.cell) (n + 1) low cs ms (omega arith)
    (λ k mark is.
    let later = each (suc k) mark is in
    let number = later.label in
    record { cell = later.cell; label = omega arith; count = later.count })
    filled.1 (back_rises low (h ∷ hs) (all_of cs) rises)
    (λ x i. let le = raw_by_rank h x (ranks_across low (h ∷ hs) (all_of cs) h x rises (at_head h hs) i) in omega arith) in
    (omega arith, omega arith, subst (λ k. IsCollectionFrom k ms) next rest)

pub marks_are_collection : (chunks : List Collection) (marks : Collection) → AreChunks chunks → AreMarks chunks marks → IsCollection marks
marks_are_collection chunks marks are mark =
    marks_rise 0 0 0 chunks marks mark.size
    (λ k m is. let own = mark.each k m is in let label = own.label in record { cell = own.cell; label = omega arith; count = own.count })
    are.filled are.rises (λ h i. omega arith)

pub marks_few : (chunks : List Collection) (marks : Collection) → AreChunks chunks → AreMarks chunks marks → length marks ≤ 1000000
marks_few chunks marks are mark =
    let size = mark.size in
    let within_limit = are.within_limit in
    let less = filled_count chunks are.filled in
    omega arith
