-- Counts of reads, one after the other.
use Rattle.std.proofs.Common.{◌≡◌, ℕ, zero, suc, ◌+◌, ◌-◌, ◌*◌, ◌^◌, ◌≤◌, Bool, List, length, min, sym, ap, ◌∙◌, arith}
use Rattle.std.proofs.Math.Nat.{min-eq_left, mul-le-mul_right}
use Rattle.std.proofs.lemmas.List.Sums.{length-filter, count_by-le-length}
use Rattle.s2id_core.specs.CellId.{face_of}
use Rattle.s2ix_bag_pairs.specs.Collection.{Collection}
use Rattle.s2ix_bag_pairs.specs.declared.pair.Entry.{Entry}
use Rattle.s2ix_bag_pairs.specs.declared.pair.Held.{Held}
use Rattle.s2id_core.specs.BinaryDigits.{binary_digits}
use Rattle.s2id_core.proofs.BinaryDigits.{digits_below, digits_rise}
use Rattle.s2ix_table_kept.specs.Faces.{faces, faces_of, has_entry_on, changed_count}
use Rattle.s2ix_table_kept.specs.Reading.{with_read, with_reads, HasRead, IsRead, two_searches}

reads_join : (j k n : ℕ) → with_reads (j + k) n ≡ with_reads j (with_reads k n)
reads_join zero k n = let e : 0 + k ≡ k = omega arith in ap (λ (m : ℕ). with_reads m n) e
reads_join (suc j) k n =
    let e : suc j + k ≡ suc (j + k) = omega arith in
    ap (λ (m : ℕ). with_reads m n) e ∙ ap (λ (r : ℕ). with_read r) (reads_join j k n)

-- many reads counted at once
pub reads_at_once : (k n : ℕ) → n ≤ 18446744073709551615 → min (n + k) 18446744073709551615 ≡ with_reads k n
reads_at_once zero n fits = omega arith
reads_at_once (suc k) n fits =
    let one : min (n + suc k) 18446744073709551615 ≡ min (min (n + k) 18446744073709551615 + 1) 18446744073709551615 = omega arith in
    one ∙ ap (λ (r : ℕ). with_read r) (reads_at_once k n fits)

-- nothing was read
pub none_read : (before after : ℕ) → after ≡ before → HasRead 0 0 before after
none_read before after same = record { made = 0; counts = same; some = omega arith; within_limit = omega arith }

-- what was read first and what was read then
pub both_read : (least most more_least more_most before between after : ℕ) → HasRead least most before between
    → HasRead more_least more_most between after → HasRead (least + more_least) (most + more_most) before after
both_read least most more_least more_most before between after first then =
    let first_some = first.some in
    let first_few = first.within_limit in
    let then_some = then.some in
    let then_few = then.within_limit in
    record {
      made = then.made + first.made;
      counts = then.counts ∙ ap (λ (n : ℕ). with_reads then.made n) first.counts ∙ sym (reads_join then.made first.made before);
      some = omega arith;
      within_limit = omega arith;
    }

-- wider bounds
pub read_within : (least most less more before after : ℕ) → less ≤ least → most ≤ more → HasRead least most before after
    → HasRead less more before after
read_within least most less more before after low high r =
    let some = r.some in
    let within_limit = r.within_limit in
    record { made = r.made; counts = r.counts; some = omega arith; within_limit = omega arith }

-- counts that don't stop
reads_are : (k n : ℕ) → k + n ≤ 18446744073709551615 → with_reads k n ≡ k + n
reads_are zero n fits = omega arith
reads_are (suc k) n fits =
    let e : k + n + 1 ≡ suc k + n = omega arith in
    ap (λ (r : ℕ). with_read r) (reads_are k n (omega arith)) ∙ min-eq_left (omega arith) ∙ e

-- if none was read before, the count of reads itself is within the bounds
first_reads : (least most after : ℕ) → most ≤ 18446744073709551615 → HasRead least most 0 after → (least ≤ after) × (after ≤ most)
first_reads least most after fits r =
    let some = r.some in
    let within_limit = r.within_limit in
    let is : after ≡ r.made + 0 = r.counts ∙ reads_are r.made 0 (omega arith) in
    (omega arith, omega arith)

-- two searches, and a read for each pair of a face or for some of them
pub face_reads : (d e p q l m s0 s1 s2 s3 : ℕ) → e ≡ d → q ≡ p → m ≤ l → HasRead 0 d s0 s1 → HasRead 0 e s1 s2 → HasRead l q s2 s3
    → HasRead m (p + 2 * d) s0 s3
face_reads d e p q l m s0 s1 s2 s3 same pairs low first second each =
    read_within (0 + 0 + l) (d + e + q) m (p + 2 * d) s0 s3 (omega arith) (omega arith)
    (both_read (0 + 0) (d + e) l q s0 s2 s3 (both_read 0 d 0 e s0 s1 s2 first second) each)

-- few pairs have few digits
few_digits : (n : ℕ) → n ≤ 1000000 → binary_digits (n + 1) ≤ 40
few_digits n within_limit = omega (arith, digits_below 40, digits_rise (n + 1) (2 ^ 40 - 1) (omega (arith, within_limit)))

-- what the faces of a change take, if none was read before: at least as many as what is known, and few
pub few_reads : (change : List Entry) (held : Collection) (least reads : ℕ) → IsRead held
    → HasRead least (changed_count change held + faces_of change * two_searches held) 0 reads
    → (least ≤ reads) × (reads ≤ changed_count change held + faces_of change * two_searches held)
few_reads change held least reads is r =
    let p : ℕ = changed_count change held in
    let d : ℕ = binary_digits (length held + 1) in
    let within_limit = few_digits (length held) is.within_limit in
    let on : Held → Bool = λ h. has_entry_on change (face_of h.pair.cell) in
    let less : p ≤ length held = omega (arith, length-filter on held, count_by-le-length on held) in
    let all = is.within_limit in
    let six : faces_of change ≤ 6 = count_by-le-length (has_entry_on change) faces in
    let searches : faces_of change * (2 * d) ≤ 6 * (2 * d) = mul-le-mul_right (2 * d) six in
    first_reads least (p + faces_of change * (2 * d)) reads (omega (arith, within_limit, less, all, searches)) r
