-- A search among bundles by the first pairs of their first lists.
use Rattle.std.proofs.Common.{◌≡◌, ℕ, zero, suc, ◌+◌, ◌-◌, ◌<◌, ◌≤◌, List, [], ◌∷◌, All, take, drop, get_or, length, slice_get, Some, sym, ap, ◌∙◌, subst, ⊎_elim, arith, length-append}
use Rattle.std.proofs.lemmas.Bool.{cases_lt}
use Rattle.std.proofs.lemmas.List.{get_or-take, get_or-drop, length-take-le, length-drop}
use Rattle.std.proofs.lemmas.List.Elements.{All-get_or}
use Rattle.s2ix_bag_pairs.specs.Collection.{Collection, IsCollection, IsCollectionFrom, AreBelow}
use Rattle.s2ix_bag_pairs.specs.Pair.{rank_of}
use Rattle.s2ix_bag_pairs.specs.declared.pair.Held.{Held}
use Rattle.s2ix_bag_lists.specs.Bundles.{HasList, IsBundleAt, IsSpan, lists_between, lists_of}
use Rattle.s2ix_bag_lists.specs.Faces.{all_of}
use Rattle.s2ix_bag_lists.specs.Parts.{AreAround, AreFilled}
use Rattle.s2ix_bag_lists.proofs.Bundles.{from_of, length_upto, read_in_bundle}
use Rattle.s2ix_bag_lists.proofs.Joins.{filled_at}
use Rattle.s2ix_bag_lists.proofs.Searches.{Narrowed, narrowed_low, narrowed_high, narrowed_start}
use Rattle.s2ix_bag_lists.proofs.Views.{drop_take, view_inner}

-- ---- where bundles start

starts_rise : (gs : List (List Collection)) (i j : ℕ) → i ≤ j → length (lists_of (take i gs)) ≤ length (lists_of (take j gs))
starts_rise gs zero j le = omega arith
starts_rise gs (suc i) zero le = absurd (omega arith)
starts_rise [] (suc i) (suc j) le = omega arith
starts_rise (g ∷ gs) (suc i) (suc j) le =
    omega (
      arith,
      starts_rise gs i j (omega arith),
      length-append g (lists_of (take i gs)),
      length-append g (lists_of (take j gs)),
    )

-- more lists come before the next bundle
starts_grow : (gs : List (List Collection)) (i j : ℕ) → All HasList gs → i < length gs → j ≡ i + 1
    → length (lists_of (take i gs)) < length (lists_of (take j gs))
starts_grow gs i j filled within next =
    let upto = ap (λ (k : ℕ). length (lists_of (take k gs))) next ∙ length_upto gs i within in
    omega (arith, upto, All-get_or HasList gs i [] within filled)

-- the first list of a bundle among those from the number `first` on
pub first_list : (gs : List (List Collection)) (i start first end : ℕ) → All HasList gs → i < length gs
    → start ≡ length (lists_of (take i gs)) → first ≤ start → start < end
    → get_or (get_or gs i []) 0 [] ≡ get_or (lists_between first end (lists_of gs)) (start - first) []
first_list gs i start first end filled within is from up_to =
    let ls = lists_of gs in
    let at : IsBundleAt gs start i start =
    record {
      within = within;
      counted = is;
      begins = omega arith;
      ends = omega (arith, All-get_or HasList gs i [] within filled);
    } in
    let none : 0 ≡ start - start = omega arith in
    let there : start ≡ first + (start - first) = omega (arith, from) in
    ap (λ (k : ℕ). get_or (get_or gs i []) k []) none
    ∙ read_in_bundle gs start i start at
    ∙ ap (λ (k : ℕ). get_or ls k []) there
    ∙ sym (get_or-take (end - first) (drop first ls) (start - first) [] (omega (arith, from, up_to)) ∙ get_or-drop first ls (start - first) [])

-- ---- the search

-- the pair lies in the lists from the number low on and before high, and these lie in the bundles from `bundle` on and before `behind`
pub record Spanned (gs : List (List Collection)) (rank first end bundle behind low high : ℕ) : Type 0 where
  pub some : bundle < behind
  pub within : behind ≤ length gs
  pub from : first ≤ low
  pub up_to : high ≤ end
  pub narrowed : Narrowed (lists_between first end (lists_of gs)) rank (low - first) (high - first)
  pub begins : length (lists_of (take bundle gs)) ≤ low
  pub next : low < length (lists_of (take (bundle + 1) gs))
  pub last : length (lists_of (take (behind - 1) gs)) < high
  pub ends : high ≤ length (lists_of (take behind gs))

pub between_length : (first end : ℕ) (ls : List Collection) → end ≤ length ls → length (lists_between first end ls) ≡ end - first
between_length first end ls le =
    let left = length-drop first ls in
    length-take-le (end - first) (drop first ls) (omega (arith, left, le))

pub spanned_start : (gs : List (List Collection)) (rank first end i before j ahead : ℕ) → first < end → end ≤ length (lists_of gs)
    → IsBundleAt gs first i before → IsBundleAt gs (end - 1) j ahead → Spanned gs rank first end i (j + 1) first end
spanned_start gs rank first end i before j ahead some within first_at last_at =
    let from = length_upto gs i first_at.within in
    let upto = length_upto gs j last_at.within in
    let same : j + 1 - 1 ≡ j = omega arith in
    let start = ap (λ (k : ℕ). length (lists_of (take k gs))) same in
    let begins : length (lists_of (take i gs)) ≤ first = omega (arith, first_at.counted, first_at.begins) in
    let ends : end ≤ length (lists_of (take (j + 1) gs)) = omega (arith, last_at.counted, last_at.ends, upto) in
    record {
      some = ⊎_elim (λ lt. lt) (λ le. absurd (omega (arith, starts_rise gs (j + 1) i le, begins, ends, some))) (cases_lt i (j + 1));
      within = omega (arith, last_at.within);
      from = omega arith;
      up_to = omega arith;
      narrowed = narrowed_start (lists_between first end (lists_of gs)) rank (first - first) (end - first) (omega arith)
          (sym (between_length first end (lists_of gs) within)) (omega (arith, some));
      begins = begins;
      next = omega (arith, first_at.counted, first_at.ends, from);
      last = omega (arith, start, last_at.counted, last_at.begins, some);
      ends = ends;
    }

-- a bundle between the first and the last one, with its start and its lists
pub record IsMiddle (gs : List (List Collection)) (bundle behind middle start : ℕ) (own : List Collection) : Type 0 where
  pub above : bundle < middle
  pub under : middle < behind
  pub counted : start ≡ length (lists_of (take middle gs))
  pub read : own ≡ get_or gs middle []

-- it starts between low and high
start_between : (gs : List (List Collection)) (rank first end bundle behind low high middle start : ℕ) (own : List Collection)
    → Spanned gs rank first end bundle behind low high → IsMiddle gs bundle behind middle start own → (low < start) × (start < high)
start_between gs rank first end bundle behind low high middle start own was is = (
  omega (arith, was.next, is.counted, starts_rise gs (bundle + 1) middle (omega (arith, is.above))),
  omega (arith, was.last, is.counted, starts_rise gs middle (behind - 1) (omega (arith, is.under))),
)

-- its first list
first_read : (gs : List (List Collection)) (rank first end bundle behind low high middle start : ℕ) (own : List Collection)
    → All HasList gs → Spanned gs rank first end bundle behind low high → IsMiddle gs bundle behind middle start own
    → get_or own 0 [] ≡ get_or (lists_between first end (lists_of gs)) (start - first) []
first_read gs rank first end bundle behind low high middle start own filled was is =
    let between = start_between gs rank first end bundle behind low high middle start own was is in
    ap (λ (x : List Collection). get_or x 0 []) is.read
    ∙ first_list gs middle start first end filled (omega (arith, is.under, was.within)) is.counted (omega (arith, between.0, was.from))
    (omega (arith, between.1, was.up_to))

pub first_filled : (gs : List (List Collection)) (rank first end bundle behind low high middle start : ℕ) (own : List Collection)
    → All HasList gs → AreFilled (lists_between first end (lists_of gs)) → Spanned gs rank first end bundle behind low high
    → IsMiddle gs bundle behind middle start own → 0 < length (get_or own 0 [])
first_filled gs rank first end bundle behind low high middle start own has filled was is =
    let between = start_between gs rank first end bundle behind low high middle start own was is in
    let some = filled_at (lists_between first end (lists_of gs)) (start - first) []
    (omega (arith, between.1, was.from, between.0, was.narrowed.within)) filled in
    omega (arith, some, ap (λ (x : Collection). length x) (first_read gs rank first end bundle behind low high middle start own has was is))

pub spanned_low : (gs : List (List Collection)) (rank first end bundle behind low high middle start : ℕ) (own : List Collection) (h : Held)
    → All HasList gs → IsCollection (all_of (lists_between first end (lists_of gs))) → Spanned gs rank first end bundle behind low high
    → IsMiddle gs bundle behind middle start own → slice_get (get_or own 0 []) 0 ≡ Some h → rank_of h.pair ≤ rank
    → Spanned gs rank first end middle behind start high
spanned_low gs rank first end bundle behind low high middle start own h has rises was is begins le =
    let between = start_between gs rank first end bundle behind low high middle start own was is in
    let within : middle < length gs = omega (arith, is.under, was.within) in
    let same = first_read gs rank first end bundle behind low high middle start own has was is in
    record {
      some = is.under;
      within = was.within;
      from = omega (arith, between.0, was.from);
      up_to = was.up_to;
      narrowed = narrowed_low (lists_between first end (lists_of gs)) rank (low - first) (high - first) (start - first) h rises was.narrowed
          (omega (arith, between.0, between.1, was.from)) (subst (λ (x : Collection). slice_get x 0 ≡ Some h) same begins) le;
      begins = omega (arith, is.counted);
      next = omega (arith, is.counted, starts_grow gs middle (middle + 1) has within (omega arith));
      last = was.last;
      ends = was.ends;
    }

pub spanned_high : (gs : List (List Collection)) (rank first end bundle behind low high middle start : ℕ) (own : List Collection) (h : Held)
    → All HasList gs → IsCollection (all_of (lists_between first end (lists_of gs))) → Spanned gs rank first end bundle behind low high
    → IsMiddle gs bundle behind middle start own → slice_get (get_or own 0 []) 0 ≡ Some h → rank < rank_of h.pair
    → Spanned gs rank first end bundle middle low start
spanned_high gs rank first end bundle behind low high middle start own h has rises was is begins after =
    let between = start_between gs rank first end bundle behind low high middle start own was is in
    let within : middle < length gs = omega (arith, is.under, was.within) in
    let same = first_read gs rank first end bundle behind low high middle start own has was is in
    record {
      some = is.above;
      within = omega (arith, within);
      from = was.from;
      up_to = omega (arith, between.1, was.up_to);
      narrowed = narrowed_high (lists_between first end (lists_of gs)) rank (low - first) (high - first) (start - first) h rises was.narrowed
          (omega (arith, between.0, was.from)) (omega (arith, between.0, between.1, was.from))
          (subst (λ (x : Collection). slice_get x 0 ≡ Some h) same begins) after;
      begins = was.begins;
      next = was.next;
      last = omega (arith, is.counted, starts_grow gs (middle - 1) middle has (omega (arith, within)) (omega (arith, is.above)));
      ends = omega (arith, is.counted);
    }

-- all are of one bundle
pub spanned_end : (gs : List (List Collection)) (rank first end bundle behind low high : ℕ) → Spanned gs rank first end bundle behind low high
    → behind ≤ bundle + 1 → IsSpan gs bundle low high
spanned_end gs rank first end bundle behind low high was one =
    let within : bundle < length gs = omega (arith, was.some, was.within) in
    let next : behind ≡ bundle + 1 = omega (arith, was.some, one) in
    let upto = ap (λ (k : ℕ). length (lists_of (take k gs))) next ∙ length_upto gs bundle within in
    record {
      within = within;
      some = omega (arith, was.narrowed.some);
      begins = was.begins;
      ends = omega (arith, was.ends, upto);
    }

-- what is cut out of the bundle
pub span_around : (gs : List (List Collection)) (rank first end bundle low high start : ℕ) (own : List Collection)
    → end ≤ length (lists_of gs) → IsSpan gs bundle low high → start ≡ length (lists_of (take bundle gs)) → first ≤ low → high ≤ end
    → own ≡ drop (low - start) (take (high - start) (get_or gs bundle []))
    → AreBelow rank (all_of (take (low - first) (lists_between first end (lists_of gs))))
    → IsCollectionFrom (rank + 1) (all_of (drop (high - first) (lists_between first end (lists_of gs))))
    → AreAround (lists_between first end (lists_of gs)) rank (low - first) own
span_around gs rank first end bundle low high start own within span is from up_to own_is below rest =
    let g = get_or gs bundle [] in
    let ps = lists_between first end (lists_of gs) in
    let k = high - low in
    let fits = length-take-le (high - start) g (omega (arith, span.ends, is)) in
    let cut = length-drop (low - start) (take (high - start) g) in
    let long : length own ≡ k =
    ap (λ (x : List Collection). length x) own_is ∙ omega (arith, fits, cut, is, span.begins, span.some, span.ends) in
    let at : IsBundleAt gs low bundle start =
    record {
      within = span.within;
      counted = is;
      begins = omega (arith, is, span.begins);
      ends = omega (arith, is, span.some, span.ends);
    } in
    let as_many : high - start - (low - start) ≡ k = omega (arith, is, span.begins, span.some) in
    let left = length-drop (low - start) g in
    let same : own ≡ take k (drop (low - start) g) =
    own_is
    ∙ sym (drop_take (low - start) (high - start) g (omega (arith, span.some)))
    ∙ ap (λ (n : ℕ). take n (drop (low - start) g)) as_many in
    let behind : high - first ≡ low - first + length own = omega (arith, long, from, span.some) in
    let all = between_length first end (lists_of gs) within in
    record {
      some = omega (arith, long, span.some);
      within = omega (arith, long, from, up_to, span.some, all);
      follow = same
          ∙ from_of gs low bundle start k at (omega (arith, left, is, span.begins, span.ends))
          ∙ view_inner first end low high (lists_of gs) from (omega (arith, span.some)) up_to
          ∙ ap (λ (n : ℕ). take n (drop (low - first) ps)) (sym long);
      below = below;
      rest = subst (λ (n : ℕ). IsCollectionFrom (rank + 1) (all_of (drop n ps))) behind rest;
    }
