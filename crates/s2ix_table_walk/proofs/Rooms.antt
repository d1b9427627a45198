-- How many ranges a search by borders may leave.
use Rattle.std.proofs.Common.{◌≡◌, ℕ, zero, suc, ◌+◌, ◌-◌, ◌*◌, ◌/◌, ◌^◌, ◌<◌, ◌≤◌, List, length, ap, refl, ◌∙◌, arith}
use Rattle.std.proofs.Math.Nat.{pow-suc, one-le-pow}
use Rattle.s2id_core.specs.BinaryDigits.{binary_digits}
use Rattle.s2id_core.proofs.BinaryDigits.{digits_above, digits_below, digits_rise, digits_step}
use Rattle.s2ix_bag_pairs.specs.Collection.{Collection}
use Rattle.s2ix_table_walk.specs.Searching.{IsNarrowing, IsWindow}
use Rattle.s2ix_table_walk.specs.Shown.{Shown}
use Rattle.s2ix_table_walk.specs.Table.{Range, IsRangeTable}
use Rattle.s2ix_table_walk.specs.declared.search_state.Narrowing.{Narrowing}
use Rattle.s2ix_table_walk.proofs.WalkSteps.{range_fits}

-- the end of a window fits a word
pub window_fits : (hs : Collection) (ranges : List Range) (leaf first size : ℕ) → IsRangeTable hs ranges → IsWindow ranges leaf first size
    → first + size < 2 ^ 64
window_fits hs ranges leaf first size t w =
    let some = w.some in
    let within = w.within in
    let fits = range_fits hs ranges t (first + size - 1) (omega arith) in
    omega arith

-- after a probe there is half the room, and one digit less
pub record IsHalfRoom (room half : ℕ) : Type 0 where
  pub fewer : binary_digits room ≡ binary_digits half + 1
  pub power : half ≡ 2 ^ binary_digits half / 2
  pub all : room ≡ 2 ^ binary_digits half
  pub twice : 2 ^ binary_digits room ≡ room * 2

half_by_digits : (digits room size : ℕ) → binary_digits room ≡ digits → room ≡ 2 ^ digits / 2 → size ≤ 2 ^ digits → 1 < size
    → IsHalfRoom room (room / 2)
half_by_digits zero room size is power most more = absurd (omega arith)
half_by_digits (suc k) room size is power most more =
    let twice = pow-suc 2 k in
    let some = one-le-pow k 2 (omega arith) in
    let same : room ≡ 2 ^ k = omega arith in
    let step = digits_step room (omega arith) in
    let left : k ≡ binary_digits (room / 2) = omega arith in
    let all : room ≡ 2 ^ binary_digits (room / 2) = same ∙ ap (λ (n : ℕ). 2 ^ n) left in
    let whole = ap (λ (n : ℕ). 2 ^ n) is in
    record { fewer = step; power = omega arith; all = all; twice = omega arith }

pub half_room : (room size : ℕ) → room ≡ 2 ^ binary_digits room / 2 → size ≤ 2 ^ binary_digits room → 1 < size → IsHalfRoom room (room / 2)
half_room room size power most more = half_by_digits (binary_digits room) room size refl power most more

-- the greatest power of two that is not above a number has room for that number
pub record IsFirstRoom (room number : ℕ) : Type 0 where
  pub digits : binary_digits room ≤ binary_digits (number + 1)
  pub power : room ≡ 2 ^ binary_digits room / 2
  pub most : number ≤ 2 ^ binary_digits room

pub first_room : (k room number : ℕ) → room ≡ 2 ^ k → 2 ^ k ≤ number → number < 2 ^ k * 2 → IsFirstRoom room number
first_room k room number is by most =
    let twice = pow-suc 2 k in
    let some = one-le-pow k 2 (omega arith) in
    let least = digits_above k room (omega arith) in
    let below = digits_below k in
    let greatest = digits_rise room (2 ^ suc k - 1) (omega arith) in
    let whole = digits_below (suc k) in
    let digits : binary_digits room ≡ suc k = omega arith in
    let same = ap (λ (n : ℕ). 2 ^ n) digits in
    let rise = digits_rise room (number + 1) (omega arith) in
    record { digits = rise; power = omega arith; most = omega arith }

-- a search by borders after a probe
pub after_probe : {P : Type 0} (shown : Shown P) (leaf : ℕ) (at next : Narrowing) → IsNarrowing shown leaf at → 1 < at.among.size
    → IsWindow shown.ranges leaf next.among.first next.among.size → next.low ≤ next.high → next.high ≤ length shown.borders
    → next.room ≡ at.room / 2 → next.among.size ≤ at.room
    → IsNarrowing shown leaf next × (binary_digits next.room + 1 ≡ binary_digits at.room)
after_probe shown leaf at next is more window order within halved most =
    let half = half_room at.room at.among.size is.power is.most more in
    let digits = ap binary_digits halved in
    let same = ap (λ (n : ℕ). 2 ^ n) digits in
    let power = half.power in
    let all = half.all in
    let fewer = half.fewer in (
      record { window = window; order = order; within = within; most = omega arith; power = omega arith },
      omega arith,
    )

-- what is left is read within the probes that are left
pub left_pays : (size room : ℕ) → size ≤ 2 ^ binary_digits room → binary_digits (size - 1) ≤ binary_digits room
left_pays size room most =
    let rise = digits_rise (size - 1) (2 ^ binary_digits room - 1) (omega arith) in
    let below = digits_below (binary_digits room) in
    omega arith
