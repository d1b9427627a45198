-- Lists of pairs in bundles, one after the other.
use Rattle.std.specs.Prelude.{◌≡◌, ℕ, ◌+◌, ◌-◌, ◌<◌, ◌≤◌, List, [], ◌∷◌, take, drop, length, flat_map, slice_index_or, All}
use Rattle.s2ix_bag_pairs.specs.Collection.{Collection}

-- the lists of some bundles, one after the other
abbrev pub lists_of : List (List Collection) → List Collection
lists_of bundles = flat_map (λ bundle. bundle) bundles

-- how many lists come before each bundle, if n come before the first
abbrev pub bundle_starts : ℕ → List (List Collection) → List ℕ
bundle_starts n [] = []
bundle_starts n (bundle ∷ bundles) = n ∷ bundle_starts (n + length bundle) bundles

-- the lists from the number `first` on and before `end`
abbrev pub lists_between : ℕ → ℕ → List Collection → List Collection
lists_between first end lists = take (end - first) (drop first lists)

-- a bundle has a list
abbrev pub HasList : List Collection → Type 0
HasList bundle = 0 < length bundle

-- each bundle has a list, and the running numbers and the length are those of the bundles
pub record AreBundles (bundles : List (List Collection)) (starts : List ℕ) (len : ℕ) : Type 0 where
  pub filled : All HasList bundles
  pub counted : starts ≡ bundle_starts 0 bundles
  pub whole : len ≡ length (lists_of bundles)
  pub within_limit : len ≤ 1000000

-- the bundle that has the list at a place, and how many lists come before it
pub record IsBundleAt (bundles : List (List Collection)) (place bundle before : ℕ) : Type 0 where
  pub within : bundle < length bundles
  pub counted : before ≡ length (lists_of (take bundle bundles))
  pub begins : before ≤ place
  pub ends : place < before + length (slice_index_or bundles bundle [])

-- lists of one bundle, from the number `first` on and before `end` among all lists
pub record IsSpan (bundles : List (List Collection)) (bundle first end : ℕ) : Type 0 where
  pub within : bundle < length bundles
  pub some : first < end
  pub begins : length (lists_of (take bundle bundles)) ≤ first
  pub ends : end ≤ length (lists_of (take bundle bundles)) + length (slice_index_or bundles bundle [])
