-- Every 16th start.
use Rattle.std.proofs.Common.{◌≡◌, ℕ, ◌+◌, ◌-◌, ◌*◌, ◌<◌, ◌≤◌, inl, inr, List, [], ◌∷◌, ◌++◌, length, drop, slice_index_or, AllPairs, refl, sym, ◌∙◌, ap, add-one, arith}
use Rattle.std.proofs.lemmas.Bool.{cases_lt}
use Rattle.std.proofs.Math.ListN.{get_or-append}
use Rattle.std.proofs.Math.Seq.{get_or-append_seam}
use Rattle.std.proofs.lemmas.List.{get_or_default, length-append}
use Rattle.s2ix_table_walk.specs.Stretches.{IsSample}

-- a sample of no start
pub none_sampled : (count : ℕ) (starts : List ℕ) → IsSample count starts []
none_sampled count starts = record { within = λ j lt. absurd (omega arith); each = λ j lt. absurd (omega arith) }

after_first : (starts : List ℕ) (k : ℕ) → slice_index_or (drop 1 starts) k 0 ≡ slice_index_or starts (k + 1) 0
after_first [] k = refl
after_first (s ∷ ss) k = ap (λ n. slice_index_or (s ∷ ss) n 0) (sym (add-one k))

-- a sample and one start more
pub one_more : (starts sample : List ℕ) (count k : ℕ) → IsSample count (drop 1 starts) sample → k ≡ length sample * 16 + 16 → k ≤ count
    → IsSample count (drop 1 starts) (sample ++ slice_index_or starts k 0 ∷ [])
one_more starts sample count k is at lt =
    let start = slice_index_or starts k 0 in
    let many = length-append sample (start ∷ []) in
    record {
      within = λ j less. elim (cases_lt j (length sample)) [ inl old ↦ is.within j old | inr new ↦ omega arith ];
      each = λ j less.
          elim (cases_lt j (length sample)) [
            | inl old ↦ get_or-append sample (start ∷ []) 0 j old ∙ is.each j old
            | inr new ↦
                (let last : j ≡ length sample = omega arith in
                let place : k ≡ j * 16 + 15 + 1 = omega arith in
                ap (λ n. slice_index_or (sample ++ start ∷ []) n 0) last
                ∙ get_or-append_seam sample start [] 0
                ∙ ap (λ n. slice_index_or starts n 0) place
                ∙ sym (after_first starts (j * 16 + 15)))
          ];
    }

-- ---- a search that begins with the sample

at_sample : (starts sample : List ℕ) (j : ℕ) → IsSample (length starts - 2) (drop 1 starts) sample → j < length sample
    → slice_index_or sample j 0 ≡ slice_index_or starts (j * 16 + 15 + 1) 0
at_sample starts sample j is lt = is.each j lt ∙ after_first starts (j * 16 + 15)

pub sample_rises : (starts sample : List ℕ) → IsSample (length starts - 2) (drop 1 starts) sample → AllPairs (λ a b. a < b) starts
    → AllPairs (λ a b. a < b) sample
sample_rises starts sample is rises i j d lt within =
    let last = is.within j within in
    let a = get_or_default sample i d 0 (omega arith) in
    let b = get_or_default sample j d 0 within in
    let e = at_sample starts sample i is (omega arith) in
    let f = at_sample starts sample j is within in
    let r = rises (i * 16 + 15 + 1) (j * 16 + 15 + 1) 0 (omega arith) (omega arith) in
    omega arith
