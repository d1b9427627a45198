-- Rows removed from a collection.
use Rattle.std.proofs.Common.{◌≡◌, ◌≢◌, ℕ, zero, suc, ◌+◌, ◌-◌, ◌<◌, ◌≤◌, ◌==◌, ◌||◌, nat_lt, is_some, not, Bool, true, false, cond, List, [], ◌∷◌, length, take, Option, Some, None, refl, sym, ap, ◌∙◌, subst, ⊎_elim, arith, eq-eqb, lt-ltb, le-ltb}
use Rattle.std.specs.Prelude.{pos, ◌-ℤ◌}
use Rattle.std.specs.List.{list_any, position_or_len}
use Rattle.std.proofs.lemmas.Bool.{cases_eq, cases_lt, cond-true, cond-false}
use Rattle.std.proofs.lemmas.Int.{ints}
use Rattle.std.proofs.lemmas.Option.{some_pair_parts}
use Rattle.s2ix_bag_pairs.specs.declared.pair.Entry.{Entry}
use Rattle.s2ix_bag_pairs.specs.declared.pair.Held.{Held}
use Rattle.s2ix_bag_pairs.specs.Change.{changed, counts_at, count_after, IsChangeListFrom}
use Rattle.s2ix_bag_pairs.specs.Collection.{Collection, LimitedCollection, IsBag, IsCollection, copies_in, count_at, count_in}
use Rattle.s2ix_bag_pairs.specs.Limits.{count_limit, pairs_limit}
use Rattle.s2ix_bag_pairs.specs.Pair.{rank_of}
use Rattle.s2ix_bag_pairs.specs.TakenBack.{change_back, count_back, first_below_zero, gain_of, is_below_zero, taken_back}
use Rattle.s2ix_bag_pairs.proofs.Changes.{count_changed, counts_head, counts_tail}
use Rattle.s2ix_bag_pairs.proofs.Collections.{count_set_other, count_set_same, same_collection, set_keeps}
use Rattle.s2ix_bag_pairs.proofs.TakenBack.{AreAboveZero, above_from_none, back_keeps, gain_taken, taken_back_keeps}
use Rattle.s2ix_bag_lists.specs.Apply.{AreBefore}
use Rattle.s2ix_bag_lists.specs.Revert.{revert_refusal}
use Rattle.s2ix_bag_lists.specs.declared.errors.RevertError.TheVariants as revert
use Rattle.s2ix_bag_lists.proofs.Refusals.{before_from_no_mismatch, refusal_of_taken}
use Rattle.s2ix_bag_lists.proofs.Reverts.{taken_back_from_none}
use Rattle.s2ix_edit_plan.specs.Refusals.{has_count_above_every_limit}
use Rattle.s2ix_edit_plan.specs.declared.errors.RemoveError.{RemoveError}
use Rattle.s2ix_edit_plan.specs.declared.errors.RemoveError.TheVariants.{NotHeld, NoChange}
use Rattle.s2ix_edit_plan.specs.Removals.{TakesRows, first_not_held, first_not_held_from, removal_plan_refusal, with_fewer, without_rows}
use Rattle.s2ix_edit_plan.specs.Rows.{PlansRows, copies_at, with_rows}
use Rattle.s2ix_edit_plan.proofs.Lesser.{bag_small, no_more_set, small_from_counts}
use Rattle.s2ix_edit_plan.proofs.Revert.{below_by, copies_by, high_back_is, is_high_back, is_many_back, many_back_is, pairs_by, refused_is}
use Rattle.s2ix_edit_plan.proofs.Rows.{copies_none, none_at, other_copies, own_copies, rows_counted, with_rows_keeps}

-- ---- the counts

fewer_keeps : (row : Held) (hs : Collection) → IsCollection hs → IsCollection (with_fewer row.pair row.count hs)
fewer_keeps row hs is = set_keeps row.pair (count_in hs row.pair - row.count) hs is

pub without_rows_keeps : (rows : List Held) (hs : Collection) → IsCollection hs → IsCollection (without_rows rows hs)
without_rows_keeps [] hs is = is
without_rows_keeps (row ∷ rows) hs is = without_rows_keeps rows (with_fewer row.pair row.count hs) (fewer_keeps row hs is)

-- the count of a row's own pair once its copies are taken, and that of another
fewer_own : (row : Held) (hs : Collection) (k : ℕ) → IsCollection hs → rank_of row.pair ≡ k
    → count_at (with_fewer row.pair row.count hs) k ≡ count_at hs k - row.count
fewer_own row hs k is here =
    let left = count_in hs row.pair - row.count in
    sym (ap (λ j. count_at (with_fewer row.pair row.count hs) j) here) ∙ count_set_same 0 row.pair left hs is
    ∙ ap (λ j. count_at hs j - row.count) here

fewer_other : (row : Held) (hs : Collection) (k : ℕ) → (rank_of row.pair ≡ k → ⊥)
    → count_at (with_fewer row.pair row.count hs) k ≡ count_at hs k
fewer_other row hs k other = count_set_other row.pair (count_in hs row.pair - row.count) hs k other

-- each count is less by the copies that the rows have for its pair
pub rows_taken : (rows : List Held) (hs : Collection) (k : ℕ) → IsCollection hs
    → count_at (without_rows rows hs) k ≡ count_at hs k - copies_at rows k
rows_taken [] hs k is = omega arith
rows_taken (row ∷ rows) hs k is =
    let rest = rows_taken rows (with_fewer row.pair row.count hs) k (fewer_keeps row hs is) in
    ⊎_elim
    (λ here. omega (arith, rest, fewer_own row hs k is here, own_copies row rows k here))
    (λ other. omega (arith, rest, fewer_other row hs k other, other_copies row rows k other))
    (cases_eq (rank_of row.pair) k)

-- and no more pairs are held
rows_few : (rows : List Held) (hs : Collection) → IsCollection hs → length (without_rows rows hs) ≤ length hs
rows_few [] hs is = omega arith
rows_few (row ∷ rows) hs is =
    let left = count_in hs row.pair - row.count in
    let one = no_more_set 0 row.pair left hs is (λ none. omega (arith, none)) in
    omega (arith, one, rows_few rows (with_fewer row.pair row.count hs) (fewer_keeps row hs is))

-- ---- rows that find their copies

row_fails : (place : ℕ) (row : Held) (rows : List Held) (hs : Collection) → count_in hs row.pair < row.count
    → first_not_held_from place (row ∷ rows) hs ≡ Some place
row_fails place row rows hs lt = cond-true _ _ _ (lt-ltb _ _ lt)

row_passes : (place : ℕ) (row : Held) (rows : List Held) (hs : Collection) → row.count ≤ count_in hs row.pair
    → first_not_held_from place (row ∷ rows) hs ≡ first_not_held_from (place + 1) rows (with_fewer row.pair row.count hs)
row_passes place row rows hs le = cond-false _ _ _ (le-ltb _ _ le)

-- if each row does, no pair is asked for more copies than it has
pub held_from_none : (place : ℕ) (rows : List Held) (hs : Collection) (k : ℕ) → IsCollection hs
    → first_not_held_from place rows hs ≡ None → copies_at rows k ≤ count_at hs k
held_from_none place [] hs k is none = omega arith
held_from_none place (row ∷ rows) hs k is none =
    ⊎_elim
    (λ lt. let clash : Some place ≡ None = sym (row_fails place row rows hs lt) ∙ none in cc)
    (λ le.
    let rest = held_from_none (place + 1) rows (with_fewer row.pair row.count hs) k (fewer_keeps row hs is)
    (sym (row_passes place row rows hs le) ∙ none) in
    ⊎_elim
    (λ here.
    omega (arith, le, rest, fewer_own row hs k is here, own_copies row rows k here, ap (λ j. count_at hs j) here))
    (λ other. omega (arith, rest, fewer_other row hs k other, other_copies row rows k other))
    (cases_eq (rank_of row.pair) k))
    (cases_lt (count_in hs row.pair) row.count)

-- and the other way round
pub none_from_held : (place : ℕ) (rows : List Held) (hs : Collection) → IsCollection hs → ((k : ℕ) → copies_at rows k ≤ count_at hs k)
    → first_not_held_from place rows hs ≡ None
none_from_held place [] hs is held = refl
none_from_held place (row ∷ rows) hs is held =
    let own : row.count ≤ count_in hs row.pair =
    omega (arith, held (rank_of row.pair), own_copies row rows (rank_of row.pair) refl) in
    row_passes place row rows hs own
    ∙ none_from_held (place + 1) rows (with_fewer row.pair row.count hs) (fewer_keeps row hs is)
    (λ k. ⊎_elim
    (λ here. omega (arith, held k, fewer_own row hs k is here, own_copies row rows k here))
    (λ other. omega (arith, held k, fewer_other row hs k other, other_copies row rows k other))
    (cases_eq (rank_of row.pair) k))

-- if the rows before a place find their copies, and with the row at the place they don't, it is the first that doesn't
pub first_from_fronts : (place more : ℕ) (rows : List Held) (hs : Collection) → first_not_held_from place (take more rows) hs ≡ None
    → first_not_held_from place (take (suc more) rows) hs ≢ None → first_not_held_from place rows hs ≡ Some (place + more)
first_from_fronts place more [] hs fits fails = absurd (fails refl)
first_from_fronts place zero (row ∷ rows) hs fits fails =
    let own : place ≡ place + 0 = omega arith in
    ⊎_elim
    (λ lt. row_fails place row rows hs lt ∙ ap (λ n. Some n) own)
    (λ le. absurd (fails (row_passes place row [] hs le)))
    (cases_lt (count_in hs row.pair) row.count)
first_from_fronts place (suc more) (row ∷ rows) hs fits fails =
    let moved : place + 1 + more ≡ place + suc more = omega arith in
    ⊎_elim
    (λ lt. let clash : Some place ≡ None = sym (row_fails place row (take more rows) hs lt) ∙ fits in cc)
    (λ le.
    row_passes place row rows hs le
    ∙ first_from_fronts (place + 1) more rows (with_fewer row.pair row.count hs)
    (sym (row_passes place row (take more rows) hs le) ∙ fits)
    (λ none. fails (row_passes place row (take (suc more) rows) hs le ∙ none))
    ∙ ap (λ n. Some n) moved)
    (cases_lt (count_in hs row.pair) row.count)

-- ---- the copies of each pair, as a change from no pair

-- a bag with the same limits that holds none
abbrev pub nothing_of : LimitedCollection → LimitedCollection
nothing_of bag = record { limits = bag.limits; held = [] }

before_zero : (es : List Entry) (k before after : ℕ) → AreBefore [] es → counts_at es k ≡ Some (before, after) → before ≡ 0
before_zero [] k before after befores found = cc
before_zero (e ∷ es) k before after befores found =
    ⊎_elim
    (λ here.
    let parts = some_pair_parts e.before before e.after after (sym (counts_head e es k here) ∙ found) in
    omega (arith, parts.0, befores.0))
    (λ other. before_zero es k before after befores.1 (sym (counts_tail e es k other) ∙ found))
    (cases_eq (rank_of e.pair) k)

nothing_counted : (rows : List Held) (k : ℕ) → count_at (with_rows rows []) k ≡ copies_at rows k
nothing_counted rows k =
    let counted : count_at (with_rows rows []) k ≡ 0 + copies_at rows k = rows_counted rows [] k tt in omega (arith, counted)

copies_listed : (bag : LimitedCollection) (rows : List Held) (es : List Entry) (k : ℕ) → PlansRows (nothing_of bag) rows es
    → copies_at rows k ≡ count_after (counts_at es k) 0
copies_listed bag rows es k plans =
    let made : count_at (changed [] es) k ≡ count_after (counts_at es k) 0 = count_changed 0 [] es k tt plans.rises in
    sym (nothing_counted rows k) ∙ sym (ap (λ (hs : Collection). count_at hs k) plans.result) ∙ made

befores : (bag : LimitedCollection) (rows : List Held) (es : List Entry) → PlansRows (nothing_of bag) rows es → AreBefore [] es
befores bag rows es plans = before_from_no_mismatch [] es plans.matches

-- no entry goes below 0 exactly if no count is less than the copies
listed_held : (hs : Collection) (es : List Entry) (k : ℕ) → AreBefore [] es → AreAboveZero hs es
    → count_after (counts_at es k) 0 ≤ count_at hs k
listed_held hs [] k before above = omega arith
listed_held hs (e ∷ es) k before above =
    ⊎_elim
    (λ here.
    let own : count_after (counts_at (e ∷ es) k) 0 ≡ e.after = ap (λ o. count_after o 0) (counts_head e es k here) in
    omega (arith, own, before.0, above.0, ap (λ j. count_at hs j) here))
    (λ other.
    let rest : count_after (counts_at (e ∷ es) k) 0 ≡ count_after (counts_at es k) 0 = ap (λ o. count_after o 0) (counts_tail e es k other) in
    omega (arith, rest, listed_held hs es k before.1 above.1))
    (cases_eq (rank_of e.pair) k)

above_from_listed : (n : ℕ) (hs : Collection) (es : List Entry) → IsChangeListFrom n es
    → ((k : ℕ) → n ≤ k → count_after (counts_at es k) 0 ≤ count_at hs k) → AreAboveZero hs es
above_from_listed n hs [] rises held = tt
above_from_listed n hs (e ∷ es) rises held =
    let k = rank_of e.pair in
    let own : count_after (counts_at (e ∷ es) k) 0 ≡ e.after = ap (λ o. count_after o 0) (counts_head e es k refl) in (
      omega (arith, own, held k rises.0),
      above_from_listed (k + 1) hs es rises.2
          (λ j le.
          let rest : count_after (counts_at (e ∷ es) j) 0 ≡ count_after (counts_at es j) 0 =
          ap (λ o. count_after o 0) (counts_tail e es j (λ here. omega (arith, here, le))) in
          omega (arith, rest, held j (omega (arith, le, rises.0)))),
    )

no_below : (hs : Collection) (es : List Entry) → AreAboveZero hs es → position_or_len (is_below_zero hs) es ≡ length es
no_below hs [] above = refl
no_below hs (e ∷ es) above =
    cond-true (not (is_below_zero hs e)) (1 + position_or_len (is_below_zero hs) es) 0 (ap not (le-ltb _ _ above.0))
    ∙ omega (arith, no_below hs es above.1)

none_below : (hs : Collection) (es : List Entry) → AreAboveZero hs es → first_below_zero hs es ≡ None
none_below hs es above =
    let all : length es ≤ position_or_len (is_below_zero hs) es = omega (arith, no_below hs es above) in cond-false _ _ _ (le-ltb _ _ all)

-- ---- what taking that change back makes

less_by : (count copies left : ℕ) (found : Option (ℕ × ℕ)) → copies ≡ count_after found 0
    → ((before after : ℕ) → found ≡ Some (before, after) → before ≡ 0) → pos left ≡ pos count -ℤ gain_of found → copies ≤ count
    → left ≡ count - copies
less_by count copies left None is zeros gain le = omega (arith, ints, is, gain)
less_by count copies left (Some counts) is zeros gain le = omega (arith, ints, is, gain, le, zeros counts.0 counts.1 refl)

back_is : (bag : LimitedCollection) (rows : List Held) (es : List Entry) → IsBag bag → PlansRows (nothing_of bag) rows es
    → AreAboveZero bag.held es → taken_back bag.held es ≡ without_rows rows bag.held
back_is bag rows es b plans above =
    let before = befores bag rows es plans in
    same_collection (taken_back bag.held es) (without_rows rows bag.held) (taken_back_keeps bag.held es b.rises plans.rises above)
    (without_rows_keeps rows bag.held b.rises)
    (λ p.
    let k = rank_of p in
    let listed = copies_listed bag rows es k plans in
    less_by (count_in bag.held p) (copies_at rows k) (count_in (taken_back bag.held es) p) (counts_at es k) listed
    (λ low high found. before_zero es k low high before found)
    (gain_taken bag.held es p b.rises plans.rises above)
    (omega (arith, listed, listed_held bag.held es k before above))
    ∙ sym (rows_taken rows bag.held k b.rises))

-- no entry goes below 0 exactly if each row finds its copies
above_held : (bag : LimitedCollection) (rows : List Held) (es : List Entry) → IsBag bag → PlansRows (nothing_of bag) rows es
    → AreAboveZero bag.held es → first_not_held rows bag.held ≡ None
above_held bag rows es b plans above =
    none_from_held 0 rows bag.held b.rises
    (λ k. omega (arith, copies_listed bag rows es k plans, listed_held bag.held es k (befores bag rows es plans) above))

held_above : (bag : LimitedCollection) (rows : List Held) (es : List Entry) → IsBag bag → PlansRows (nothing_of bag) rows es
    → first_not_held rows bag.held ≡ None → AreAboveZero bag.held es
held_above bag rows es b plans held =
    above_from_listed 0 bag.held es plans.rises
    (λ k le. omega (arith, copies_listed bag rows es k plans, held_from_none 0 rows bag.held k b.rises held))

-- ---- the answers of a bag that is to take it back

pub takes_rows : (bag : LimitedCollection) (rows : List Held) (es : List Entry) → IsBag bag → PlansRows (nothing_of bag) rows es
    → revert_refusal bag es ≡ None → TakesRows bag rows (change_back bag.held es)
takes_rows bag rows es b plans accepted =
    let back = taken_back_from_none bag es accepted in
    record {
      held = above_held bag rows es b plans back.above;
      rises = back_keeps bag.held es plans.rises back.above;
      taken = refusal_of_taken bag (change_back bag.held es) back.taken;
      result = back_is bag rows es b plans back.above;
    }

pub lacks_rows : (bag : LimitedCollection) (rows : List Held) (es : List Entry) (place : ℕ) → IsBag bag
    → PlansRows (nothing_of bag) rows es → revert_refusal bag es ≡ Some (revert.BelowZero place) → first_not_held rows bag.held ≢ None
lacks_rows bag rows es place b plans refused =
    λ held.
    let some = below_by (is_high_back bag es) (is_many_back bag es) (first_below_zero bag.held es) place (refused_is bag es ∙ refused) in
    let none = ap is_some (none_below bag.held es (held_above bag rows es b plans held)) in
    let clash : true ≡ false = sym some ∙ none in
    cc

none_high : (bag : LimitedCollection) (es : List Entry) → IsBag bag → AreBefore [] es
    → list_any (λ e. nat_lt (count_limit bag.limits) (count_back bag.held e)) es ≡ false
none_high bag [] b before = refl
none_high bag (e ∷ es) b before =
    let small : count_back bag.held e ≤ count_limit bag.limits = omega (arith, before.0, bag_small bag (rank_of e.pair) b) in
    ap (λ t. t || list_any (λ x. nat_lt (count_limit bag.limits) (count_back bag.held x)) es) (le-ltb _ _ small)
    ∙ none_high bag es b before.1

pub never_high : (bag : LimitedCollection) (rows : List Held) (es : List Entry) → IsBag bag → PlansRows (nothing_of bag) rows es
    → revert_refusal bag es ≡ Some revert.TooManyCopies → ⊥
never_high bag rows es b plans refused =
    let told = copies_by (is_high_back bag es) (is_many_back bag es) (first_below_zero bag.held es) (refused_is bag es ∙ refused) in
    let clash : true ≡ false = sym told.1 ∙ high_back_is bag es ∙ none_high bag es b (befores bag rows es plans) in
    cc

pub never_many : (bag : LimitedCollection) (rows : List Held) (es : List Entry) → IsBag bag → PlansRows (nothing_of bag) rows es
    → revert_refusal bag es ≡ Some revert.TooManyPairs → ⊥
never_many bag rows es b plans refused =
    let told = pairs_by (is_high_back bag es) (is_many_back bag es) (first_below_zero bag.held es) (refused_is bag es ∙ refused) in
    let is = ap length (back_is bag rows es b plans (above_from_none bag.held es told.0)) in
    let within_limit : length (taken_back bag.held es) ≤ pairs_limit bag.limits = omega (arith, is, rows_few rows bag.held b.rises, b.within_limit) in
    let clash : true ≡ false = sym told.2 ∙ many_back_is bag es ∙ le-ltb _ _ within_limit in
    cc

-- rows with more copies of a pair than any bag may hold aren't all held
pub lacks_many : (bag : LimitedCollection) (rows : List Held) → IsBag bag → has_count_above_every_limit (with_rows rows []) ≡ true
    → first_not_held rows bag.held ≢ None
lacks_many bag rows b high =
    λ held.
    let range = bag.limits.in_range in
    let low = small_from_counts 4294967295 0 (with_rows rows []) (with_rows_keeps rows [] tt)
    (λ k. omega (arith, range, nothing_counted rows k, held_from_none 0 rows bag.held k b.rises held, bag_small bag k b)) in
    let clash : true ≡ false = sym high ∙ low in
    cc

-- ---- what is removed

-- if rows have copies that are held, some entry takes them
pub some_removed : (bag : LimitedCollection) (rows : List Held) (es : List Entry) → IsBag bag → TakesRows bag rows es
    → (copies_in rows ≡ 0 → ⊥) → 0 < length es
some_removed bag rows [] b takes some =
    absurd (some (copies_none rows
    (λ k. omega (
      arith,
      held_from_none 0 rows bag.held k b.rises takes.held,
      rows_taken rows bag.held k b.rises,
      ap (λ (hs : Collection). count_at hs k) takes.result,
    ))))
some_removed bag rows (e ∷ es) b takes some = omega arith

-- rows that were added are all held, and leave what was there
pub added_again : (rows : List Held) (hs : Collection) → IsCollection hs → without_rows rows (with_rows rows hs) ≡ hs
added_again rows hs is =
    let more = with_rows rows hs in
    let more_is = with_rows_keeps rows hs is in
    same_collection (without_rows rows more) hs (without_rows_keeps rows more more_is) is
    (λ p. omega (arith, rows_taken rows more (rank_of p) more_is, rows_counted rows hs (rank_of p) is))

-- ---- the place found by halving

-- the rows before a place find their copies, and those before a later place don't all
abbrev pub Halved : List Held → Collection → ℕ → ℕ → Type 0
Halved rows hs low high =
    (low < high) × (high ≤ length rows) × (first_not_held (take low rows) hs ≡ None) × (first_not_held (take high rows) hs ≢ None)

pub halving_ends : (rows : List Held) (hs : Collection) (low high : ℕ) → Halved rows hs low high → high - low ≤ 1
    → first_not_held rows hs ≡ Some low
halving_ends rows hs low high halved near =
    let next : high ≡ suc low = omega (arith, halved.0, near) in
    let Fails : ℕ → Type 0 = λ n. first_not_held (take n rows) hs ≢ None in
    let own : 0 + low ≡ low = omega arith in
    first_from_fronts 0 low rows hs halved.2 (subst Fails next halved.3) ∙ ap (λ n. Some n) own

-- ---- rows of no copies

refused_at : Bool → Option ℕ → Option RemoveError
refused_at none (Some place) = Some (NotHeld place)
refused_at none None = cond none (Some NoChange) None

refusal_is : (hs : Collection) (rows : List Held) (found : Option ℕ) → first_not_held rows hs ≡ found
    → removal_plan_refusal hs rows ≡ refused_at (copies_in rows == 0) found
unfolding refused_at
refusal_is hs rows found is = ap (λ o. refused_at (copies_in rows == 0) o) is

-- they are refused because nothing would change
pub refused_for_none : (hs : Collection) (rows : List Held) → IsCollection hs → copies_in rows ≡ 0
    → removal_plan_refusal hs rows ≡ Some NoChange
unfolding refused_at
refused_for_none hs rows is none =
    let held = none_from_held 0 rows hs is (λ k. omega (arith, none, none_at rows k)) in
    refusal_is hs rows None held ∙ cond-true _ _ _ (eq-eqb _ _ none)

-- rows that aren't refused are held, and some have copies
both_held : (none : Bool) (place : Option ℕ) → refused_at none place ≡ None → (place ≡ None) × (none ≡ false)
unfolding refused_at
both_held none (Some place) accepted = cc
both_held true None accepted = cc
both_held false None accepted = (refl, refl)

pub rows_accepted : (hs : Collection) (rows : List Held) → removal_plan_refusal hs rows ≡ None
    → (first_not_held rows hs ≡ None) × ((copies_in rows == 0) ≡ false)
rows_accepted hs rows accepted =
    let found = first_not_held rows hs in
    both_held (copies_in rows == 0) found (sym (refusal_is hs rows found refl) ∙ accepted)
