-- The marks of chunks, and the chunks that marks stand for.
use Rattle.std.proofs.Common.{◌≡◌, ℕ, ◌<◌, ◌≤◌, inl, inr, Some, List, [], ◌∷◌, length, get_or, slice_get, flat_map, sym, ◌∙◌, ap, arith, Contains, subst}
use Rattle.std.proofs.lemmas.Bool.{cases_order}
use Rattle.std.proofs.lemmas.Option.{slice_get-get_or}
use Rattle.std.proofs.lemmas.List.{get_or_default}
use Rattle.std.proofs.lemmas.List.Elements.{Contains-append_left, Contains-append_right, Contains-append_cases}
use Rattle.s2id_core.specs.CellId.{raw_of, first_of, end_of, level_of}
use Rattle.s2id_core.specs.declared.cell_id.CellId.{CellId}
use Rattle.s2id_core.proofs.Lists.{head_pairs, tail_pairs, cons_cases, in_tail, at_head, none_in_nil}
use Rattle.s2id_core.proofs.Nested.{same_from_level}
use Rattle.s2ix_bag_lists.specs.Faces.{all_of}
use Rattle.s2ix_bag_lists.proofs.Joins.{filled_at}
use Rattle.s2ix_bag_pairs.specs.Collection.{Collection, IsCollection}
use Rattle.s2ix_bag_pairs.specs.Label.{value_of}
use Rattle.s2ix_bag_pairs.specs.declared.pair.Held.{Held}
use Rattle.s2ix_table_walk.specs.Contents.{contents_at, depth_key}
use Rattle.s2ix_table_walk.proofs.Lists.{deeper_from_key}
use Rattle.s2ix_table_walk.proofs.Over.{IsOver, nested_over, in_contents, contents_has}
use Rattle.s2ix_table_heavy.specs.Chunks.{AreChunks, AreMarks}
use Rattle.s2ix_table_heavy.proofs.Chunked.{in_chunks, of_chunks, ranks_apart, below_by_rank, below_by_level, chunk_outwards}
use Rattle.s2ix_table_heavy.proofs.Outwards.{IsBelow, Outwards, same_members, append_outwards, contents_outwards, same_some}

-- the chunk that a mark stands for
abbrev pub chunk_of : List Collection → Held → Collection
chunk_of chunks mark = get_or chunks (value_of mark.pair.label) []

-- a pair, and the mark of its chunk
pub record HasMark (chunks : List Collection) (marks : Collection) (h : Held) : Type 0 where
  pub mark : Held
  pub is_mark : Contains marks mark
  pub own : Contains (chunk_of chunks mark) h
  pub cell : h.pair.cell ≡ mark.pair.cell

pub mark_at : (chunks : List Collection) (marks : Collection) → AreMarks chunks marks → (k : ℕ) (mark h : Held) → slice_get marks k ≡ Some mark
    → Contains (get_or chunks k []) h → Contains (chunk_of chunks mark) h × (h.pair.cell ≡ mark.pair.cell)
mark_at chunks marks are k mark h is i =
    let m = are.each k mark is in
    (subst (λ n. Contains (get_or chunks n []) h) (sym m.label) i, m.cell h i)

pub has_mark : (chunks : List Collection) (marks : Collection) → AreMarks chunks marks → (h : Held) → Contains (all_of chunks) h
    → HasMark chunks marks h
has_mark chunks marks are h i =
    let w = of_chunks chunks h i in
    let lt : w.0 < length marks = let l = w.1 in let size = are.size in omega arith in
    let mark = get_or marks w.0 h in
    let own = mark_at chunks marks are w.0 mark h (slice_get-get_or marks w.0 h lt) w.2 in
    record { mark = mark; is_mark = (w.0, lt, get_or_default marks w.0 mark h lt); own = own.0; cell = own.1 }

pub of_mark : (chunks : List Collection) (marks : Collection) → AreMarks chunks marks → (mark h : Held) → Contains marks mark
    → Contains (chunk_of chunks mark) h → h.pair.cell ≡ mark.pair.cell
of_mark chunks marks are mark h (k, lt, e) i =
    let m = are.each k mark (slice_get-get_or marks k mark lt ∙ ap (λ (x : Held). Some x) e) in
    m.cell h (subst (λ n. Contains (get_or chunks n []) h) m.label i)

pub over_too : (q : ℕ) (a b : Held) → a.pair.cell ≡ b.pair.cell → IsOver a q → IsOver b q
over_too q a b e o = record {
  from = subst (λ (c : CellId). first_of c ≤ q) e o.from;
  to = subst (λ (c : CellId). q < end_of c) e o.to;
}

-- ---- order

-- the pairs of a mark's chunk are below those of an outer mark over the same leaf
pub below_by_marks : (chunks : List Collection) (marks : Collection) → AreChunks chunks → AreMarks chunks marks → (q : ℕ) (m n a b : Held)
    → Contains marks m → Contains marks n → IsOver m q → IsOver n q → depth_key m < depth_key n → Contains (chunk_of chunks m) a
    → Contains (chunk_of chunks n) b → depth_key a < depth_key b
below_by_marks chunks marks are mark q m n a b is_m is_n over_m over_n lt i j =
    let cell_a = of_mark chunks marks mark m a is_m i in
    let cell_b = of_mark chunks marks mark n b is_n j in
    elim (deeper_from_key m n lt) [
      | inl finer ↦
          (let x = ap level_of cell_a in
          let y = ap level_of cell_b in
          below_by_level a b (omega arith))
      | inr labels ↦
          (let nested = nested_over q m n over_m over_n (omega arith) in
          let raws = same_from_level (raw_of m.pair.cell) (raw_of n.pair.cell) m.pair.cell.valid n.pair.cell.valid nested labels.0 in
          below_by_rank a b (ap raw_of cell_a ∙ raws ∙ sym (ap raw_of cell_b))
          (ranks_apart 0 chunks (value_of m.pair.label) (value_of n.pair.label) a b are.rises labels.1 i j))
    ]

-- ---- chunks in the place of marks

abbrev pub chunks_of : List Collection → Collection → Collection
chunks_of chunks marks = flat_map (chunk_of chunks) marks

pub in_chunks_of : (chunks : List Collection) (ms : Collection) (h : Held) → Contains (chunks_of chunks ms) h
    → (m : Held) × Contains ms m × Contains (chunk_of chunks m) h
in_chunks_of chunks [] h i = absurd (none_in_nil h i)
in_chunks_of chunks (m ∷ ms) h i =
    elim (Contains-append_cases (chunk_of chunks m) (chunks_of chunks ms) h i) [
      | inl j ↦ (m, at_head m ms, j)
      | inr j ↦ (let w = in_chunks_of chunks ms h j in (w.0, in_tail m ms w.0 w.1, w.2))
    ]

pub chunks_of_has : (chunks : List Collection) (ms : Collection) (m h : Held) → Contains ms m → Contains (chunk_of chunks m) h
    → Contains (chunks_of chunks ms) h
chunks_of_has chunks [] m h is i = absurd (none_in_nil m is)
chunks_of_has chunks (x ∷ xs) m h is i =
    elim (cons_cases x xs m is) [
      | inl e ↦
          Contains-append_left (chunk_of chunks x) (chunks_of chunks xs) h (subst (λ (y : Held). Contains (chunk_of chunks y) h) (sym e) i)
      | inr j ↦ Contains-append_right (chunk_of chunks x) (chunks_of chunks xs) h (chunks_of_has chunks xs m h j i)
    ]

-- marks over one leaf, by depth: so are the pairs of their chunks
pub chunks_of_outwards : (chunks : List Collection) (marks : Collection) → AreChunks chunks → AreMarks chunks marks → (q : ℕ) (ms : Collection)
    → Outwards ms → ((m : Held) → Contains ms m → Contains marks m × IsOver m q) → Outwards (chunks_of chunks ms)
chunks_of_outwards chunks marks are mark q [] rise each = λ i j d lt within. absurd (omega arith)
chunks_of_outwards chunks marks are mark q (m ∷ ms) rise each =
    append_outwards (chunk_of chunks m) (chunks_of chunks ms) (chunk_outwards chunks are (value_of m.pair.label))
    (chunks_of_outwards chunks marks are mark q ms (tail_pairs IsBelow m ms rise) (λ x i. each x (in_tail m ms x i)))
    (λ a b i j.
    let w = in_chunks_of chunks ms b j in
    let first = each m (at_head m ms) in
    let later = each w.0 (in_tail m ms w.0 w.1) in
    below_by_marks chunks marks are mark q m w.0 a b first.0 later.0 first.1 later.1 (head_pairs IsBelow m ms rise w.0 w.1) i w.2)

-- ---- what lies over a leaf

-- the pairs over a leaf are those of the chunks whose marks lie over it, in the order of the marks
pub contents_by_marks : (chunks : List Collection) (marks : Collection) → AreChunks chunks → AreMarks chunks marks → IsCollection marks
    → (q : ℕ) → contents_at q (all_of chunks) ≡ chunks_of chunks (contents_at q marks)
contents_by_marks chunks marks are mark rises q =
    same_members (contents_at q (all_of chunks)) (chunks_of chunks (contents_at q marks)) (contents_outwards q (all_of chunks) are.rises)
    (chunks_of_outwards chunks marks are mark q (contents_at q marks) (contents_outwards q marks rises) (λ m i. in_contents q marks m i))
    (λ h i.
    let held = in_contents q (all_of chunks) h i in
    let w = has_mark chunks marks mark h held.0 in
    chunks_of_has chunks (contents_at q marks) w.mark h
    (contents_has q marks w.mark w.is_mark (over_too q h w.mark w.cell held.1)) w.own)
    (λ h i.
    let w = in_chunks_of chunks (contents_at q marks) h i in
    let m = in_contents q marks w.0 w.1 in
    contents_has q (all_of chunks) h (in_chunks chunks (value_of w.0.pair.label) h w.2)
    (over_too q w.0 h (sym (of_mark chunks marks mark w.0 h m.0 w.2)) m.1))

-- ---- what chunks tell of their marks

-- a mark is where its label says
numbered : (chunks : List Collection) (marks : Collection) → AreMarks chunks marks → (mark : Held) → Contains marks mark
    → (slice_get marks (value_of mark.pair.label) ≡ Some mark) × (value_of mark.pair.label < length chunks)
numbered chunks marks are mark (k, lt, e) =
    let at = slice_get-get_or marks k mark lt ∙ ap (λ (x : Held). Some x) e in
    let label = (are.each k mark at).label in
    let size = are.size in
    (subst (λ n. slice_get marks n ≡ Some mark) (sym label) at, omega arith)

-- chunks that share a pair have one mark
same_mark : (chunks : List Collection) (marks : Collection) → AreChunks chunks → AreMarks chunks marks → (m n h : Held) → Contains marks m
    → Contains marks n → Contains (chunk_of chunks m) h → Contains (chunk_of chunks n) h → m ≡ n
same_mark chunks marks are mark m n h is_m is_n i j =
    let k = value_of m.pair.label in
    let l = value_of n.pair.label in
    elim (cases_order k l) [
      | inl e ↦
          (let at_m = (numbered chunks marks mark m is_m).0 in
          let at_n = (numbered chunks marks mark n is_n).0 in
          same_some m n (sym at_m ∙ ap (slice_get marks) e ∙ at_n))
      | inr (inl lt) ↦ absurd (let apart = ranks_apart 0 chunks k l h h are.rises lt i j in omega arith)
      | inr (inr gt) ↦ absurd (let apart = ranks_apart 0 chunks l k h h are.rises gt j i in omega arith)
    ]

-- marks are among others if their chunks are
marks_among : (chunks : List Collection) (marks : Collection) → AreChunks chunks → AreMarks chunks marks → (ms ns : Collection)
    → ((m : Held) → Contains ms m → Contains marks m) → ((n : Held) → Contains ns n → Contains marks n)
    → chunks_of chunks ms ≡ chunks_of chunks ns → (m : Held) → Contains ms m → Contains ns m
marks_among chunks marks are mark ms ns each_m each_n same m i =
    let is_m = each_m m i in
    let own = chunk_of chunks m in
    let some : 0 < length own = filled_at chunks (value_of m.pair.label) [] (numbered chunks marks mark m is_m).1 are.filled in
    let first = get_or own 0 m in
    let held : Contains own first = (0, some, get_or_default own 0 first m some) in
    let w = in_chunks_of chunks ns first (subst (λ (c : Collection). Contains c first) same (chunks_of_has chunks ms m first i held)) in
    subst (Contains ns) (sym (same_mark chunks marks are mark m w.0 first is_m (each_n w.0 w.1) held w.2)) w.1

-- marks by depth that stand for the same pairs are the same
pub same_marks : (chunks : List Collection) (marks : Collection) → AreChunks chunks → AreMarks chunks marks → (ms ns : Collection) → Outwards ms
    → Outwards ns → ((m : Held) → Contains ms m → Contains marks m) → ((n : Held) → Contains ns n → Contains marks n)
    → chunks_of chunks ms ≡ chunks_of chunks ns → ms ≡ ns
same_marks chunks marks are mark ms ns ms_rise ns_rise each_m each_n same =
    same_members ms ns ms_rise ns_rise (marks_among chunks marks are mark ms ns each_m each_n same)
    (marks_among chunks marks are mark ns ms each_n each_m (sym same))

-- over two leaves with the same pairs lie the same marks
pub marks_over : (chunks : List Collection) (marks : Collection) → AreChunks chunks → AreMarks chunks marks → IsCollection marks → (q r : ℕ)
    → contents_at q (all_of chunks) ≡ contents_at r (all_of chunks) → contents_at q marks ≡ contents_at r marks
marks_over chunks marks are mark rises q r same =
    same_marks chunks marks are mark (contents_at q marks) (contents_at r marks) (contents_outwards q marks rises) (contents_outwards r marks rises)
    (λ m i. (in_contents q marks m i).0) (λ m i. (in_contents r marks m i).0)
    (sym (contents_by_marks chunks marks are mark rises q) ∙ same ∙ contents_by_marks chunks marks are mark rises r)
