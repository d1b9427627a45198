-- Ranges read by their starts.
use Rattle.std.proofs.Common.{◌≡◌, ℕ, zero, suc, ◌+◌, ◌<◌, List, [], ◌∷◌, ◌++◌, length, map, get_or, refl, sym, ◌∙◌, ap, arith}
use Rattle.std.proofs.lemmas.List.{length-map, get_or-map}
use Rattle.s2ix_bag_pairs.specs.Collection.{Collection}
use Rattle.s2ix_table_walk.specs.Contents.{contents_at}
use Rattle.s2ix_table_walk.specs.Table.{Range, range_at}
use Rattle.s2ix_table_spans.specs.Chains.{chain_of, AreFirsts}
use Rattle.s2ix_table_spans.specs.Starts.{ranges_from}

pub length_ranges : (held : Collection) (starts : List ℕ) (to : ℕ) → length (ranges_from held starts to) ≡ length starts
length_ranges held [] to = refl
length_ranges held (s ∷ ss) to = ap suc (length_ranges held ss to)

abbrev pub row_from : Collection → ℕ → ℕ → Range
row_from held start limit = record { start = start; limit = limit; contents = contents_at start held }

-- starts one after the other
pub ranges_append : (held : Collection) (starts more : List ℕ) (to : ℕ)
    → ranges_from held (starts ++ more) to ≡ ranges_from held starts (get_or more 0 to) ++ ranges_from held more to
ranges_append held [] more to = refl
ranges_append held (s ∷ []) more to = refl
ranges_append held (s ∷ t ∷ ts) more to = ap (λ rs. row_from held s t ∷ rs) (ranges_append held (t ∷ ts) more to)

-- one start more at the end
pub ranges_push : (held : Collection) (starts : List ℕ) (start to : ℕ)
    → ranges_from held (starts ++ start ∷ []) to ≡ ranges_from held starts start ++ row_from held start to ∷ []
ranges_push held starts start to = ranges_append held starts (start ∷ []) to

pub range_start : (held : Collection) (starts : List ℕ) (to k d : ℕ) → k < length starts
    → (range_at (ranges_from held starts to) k).start ≡ get_or starts k d
range_start held [] to k d lt = absurd (omega arith)
range_start held (s ∷ ss) to zero d lt = refl
range_start held (s ∷ ss) to (suc k) d lt = range_start held ss to k d (omega arith)

pub all_starts : (held : Collection) (starts : List ℕ) (to : ℕ) → map (λ (r : Range). r.start) (ranges_from held starts to) ≡ starts
all_starts held [] to = refl
all_starts held (s ∷ ss) to = ap (λ more. s ∷ more) (all_starts held ss to)

pub range_contents : (held : Collection) (starts : List ℕ) (to k d : ℕ) → k < length starts
    → (range_at (ranges_from held starts to) k).contents ≡ contents_at (get_or starts k d) held
range_contents held [] to k d lt = absurd (omega arith)
range_contents held (s ∷ ss) to zero d lt = refl
range_contents held (s ∷ ss) to (suc k) d lt = range_contents held ss to k d (omega arith)

pub range_limit : (held : Collection) (starts : List ℕ) (to k j d : ℕ) → j ≡ k + 1 → j < length starts
    → (range_at (ranges_from held starts to) k).limit ≡ get_or starts j d
range_limit held [] to k j d e lt = absurd (omega arith)
range_limit held (s ∷ []) to k j d e lt = absurd (omega arith)
range_limit held (s ∷ t ∷ ts) to zero zero d e lt = absurd (omega arith)
range_limit held (s ∷ t ∷ ts) to zero (suc zero) d e lt = refl
range_limit held (s ∷ t ∷ ts) to zero (suc (suc j)) d e lt = absurd (omega arith)
range_limit held (s ∷ t ∷ ts) to (suc k) zero d e lt = absurd (omega arith)
range_limit held (s ∷ t ∷ ts) to (suc k) (suc j) d e lt = range_limit held (t ∷ ts) to k j d (omega arith) (omega arith)

pub last_limit : (held : Collection) (starts : List ℕ) (to k : ℕ) → k + 1 ≡ length starts
    → (range_at (ranges_from held starts to) k).limit ≡ to
last_limit held [] to k e = absurd (omega arith)
last_limit held (s ∷ []) to zero e = refl
last_limit held (s ∷ []) to (suc k) e = absurd (omega arith)
last_limit held (s ∷ t ∷ ts) to zero e = absurd (omega arith)
last_limit held (s ∷ t ∷ ts) to (suc k) e = last_limit held (t ∷ ts) to k (omega arith)

-- ---- the places beside the starts

pub as_many_firsts : (held : Collection) (starts firsts : List ℕ) → AreFirsts held starts firsts → length firsts ≡ length starts
as_many_firsts held starts firsts same =
    sym (length-map firsts (chain_of held)) ∙ ap length same ∙ length-map starts (λ start. contents_at start held)

pub first_leads : (held : Collection) (starts firsts : List ℕ) (k d : ℕ) → AreFirsts held starts firsts → k < length starts
    → chain_of held (get_or firsts k d) ≡ contents_at (get_or starts k d) held
first_leads held starts firsts k d same lt =
    let none : Collection = [] in
    let many = as_many_firsts held starts firsts same in
    sym (get_or-map (chain_of held) firsts k d none (omega arith)) ∙ ap (λ (cs : List Collection). get_or cs k none) same
    ∙ get_or-map (λ start. contents_at start held) starts k d none lt
