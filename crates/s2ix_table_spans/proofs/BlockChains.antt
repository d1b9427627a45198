-- Chains of a collection with a block: from the pairs beside the block, and from those in it.
use Rattle.std.proofs.Common.{◌≡◌, ℕ, zero, suc, ◌+◌, ◌-◌, ◌<◌, ◌≤◌, inl, inr, min, false, ltb, Option, Some, None, List, [], ◌∷◌, ◌++◌, length, drop, slice_get, option_map, refl, sym, ◌∙◌, ap, arith, Contains, subst, lt-ltb, le-ltb, length-append}
use Rattle.std.specs.Option.{unwrap_or}
use Rattle.std.proofs.lemmas.Option.{slice_get_past, slice_get_cases}
use Rattle.std.proofs.lemmas.List.Elements.{Contains-append_left, Contains-append_right}
use Rattle.std.proofs.lemmas.Bool.{cases_lt, both_ways, cond-true, cond-false}
use Rattle.s2id_core.specs.CellId.{first_of}
use Rattle.s2id_core.specs.declared.cell_id.CellId.{CellId}
use Rattle.s2id_core.proofs.Lists.{in_tail, at_head}
use Rattle.s2ix_bag_pairs.specs.Collection.{Collection}
use Rattle.s2ix_bag_pairs.specs.declared.pair.Held.{Held}
use Rattle.s2ix_table_walk.specs.Contents.{depth_key}
use Rattle.s2ix_table_walk.proofs.InOrder.{choice_agree}
use Rattle.s2ix_table_walk.proofs.Over.{in_contents}
use Rattle.s2ix_table_spans.specs.Blocks.{IsBlock, around, IsBeside, moved, placed}
use Rattle.s2ix_table_spans.specs.Chains.{is_outward, is_on_chain, chain_of, AreOuter}
use Rattle.s2ix_table_spans.proofs.Blocks.{block_apart, choice_around, none_outward, outward_within}
use Rattle.s2ix_table_spans.proofs.Chains.{on_at, outward-from, outward_self, in_chain, chain_has, chain_none}
use Rattle.s2ix_table_spans.proofs.Passing.{contains_at}

-- ---- places in lists of three parts

pub read_front : {X : Type 0} (xs ys : List X) (k : ℕ) → k < length xs → slice_get (xs ++ ys) k ≡ slice_get xs k
read_front [] ys k lt = absurd (omega arith)
read_front (x ∷ xs) ys zero lt = refl
read_front (x ∷ xs) ys (suc k) lt = read_front xs ys k (omega arith)

pub read_after : {X : Type 0} (xs ys : List X) (j k : ℕ) → j ≡ length xs + k → slice_get (xs ++ ys) j ≡ slice_get ys k
read_after [] ys j k e = ap (slice_get ys) (let f : j ≡ k = omega arith in f)
read_after (x ∷ xs) ys zero k e = absurd (omega arith)
read_after (x ∷ xs) ys (suc j) k e = read_after xs ys j k (omega arith)

pub read_middle : {X : Type 0} (xs ys zs : List X) (j k : ℕ) → j ≡ length xs + k → k < length ys
    → slice_get (xs ++ (ys ++ zs)) j ≡ slice_get ys k
read_middle xs ys zs j k e lt = read_after xs (ys ++ zs) j k e ∙ read_front ys zs k lt

pub read_last : {X : Type 0} (xs ys zs : List X) (j k : ℕ) → j ≡ length xs + (length ys + k)
    → slice_get (xs ++ (ys ++ zs)) j ≡ slice_get zs k
read_last xs ys zs j k e = read_after xs (ys ++ zs) j (length ys + k) e ∙ read_after ys zs (length ys + k) k refl

-- ---- where a place is moved to

pub moved_before : (start old new count place : ℕ) → place < start → moved start old new count place ≡ place
moved_before start old new count place lt = cond-true (ltb place start) place (min place count - old + new) (lt-ltb place start lt)

pub moved_after : (start old new after place k : ℕ) → place ≡ start + (old + k) → k ≤ after
    → moved start old new (start + (old + after)) place ≡ start + (new + k)
moved_after start old new after place k e le =
    cond-false (ltb place start) place (min place (start + (old + after)) - old + new) (le-ltb place start (omega arith))
    ∙ (let f : min place (start + (old + after)) - old + new ≡ start + (new + k) = omega arith in f)

pub moved_past : (start old new after place : ℕ) → start + (old + after) ≤ place
    → moved start old new (start + (old + after)) place ≡ start + (new + after)
moved_past start old new after place le =
    cond-false (ltb place start) place (min place (start + (old + after)) - old + new) (le-ltb place start (omega arith))
    ∙ (let f : min place (start + (old + after)) - old + new ≡ start + (new + after) = omega arith in f)

-- how far a place lies after a block
pub after_by : (start len place : ℕ) → start + len ≤ place → place ≡ start + (len + (place - (start + len)))
after_by start len place le = omega arith

pub three_long : (before block after : Collection) → length (before ++ (block ++ after)) ≡ length before + (length block + length after)
three_long before block after =
    length-append before (block ++ after) ∙ ap (λ n. length before + n) (length-append block after)

-- a place beside the block has the same pair once it is moved
pub pair_moved : (before old new after : Collection) (place : ℕ) → IsBeside (length before) (length old) place
    → slice_get (before ++ (new ++ after)) (moved (length before) (length old) (length new) (length before + (length old + length after)) place)
    ≡ slice_get (before ++ (old ++ after)) place
pair_moved before old new after place (inl lt) =
    ap (slice_get (before ++ (new ++ after))) (moved_before (length before) (length old) (length new) (length before + (length old + length after)) place lt)
    ∙ read_front before (new ++ after) place lt ∙ sym (read_front before (old ++ after) place lt)
pair_moved before old new after place (inr le) =
    let k = place - (length before + length old) in
    let at = after_by (length before) (length old) place le in
    elim (cases_lt k (length after)) [
      | inl lt ↦
          ap (slice_get (before ++ (new ++ after))) (moved_after (length before) (length old) (length new) (length after) place k at (omega arith))
          ∙ read_last before new after (length before + (length new + k)) k refl ∙ sym (read_last before old after place k at)
      | inr past ↦
          (let all = three_long before new after in
          let old_all = three_long before old after in
          ap (slice_get (before ++ (new ++ after))) (moved_past (length before) (length old) (length new) (length after) place (omega arith))
          ∙ slice_get_past (before ++ (new ++ after)) (length before + (length new + length after)) (omega arith)
          ∙ sym (slice_get_past (before ++ (old ++ after)) place (omega arith)))
    ]

-- a pair beside the block is none of it
pub outside_at : (before block after : Collection) (place : ℕ) (x : Held) → IsBeside (length before) (length block) place
    → slice_get (before ++ (block ++ after)) place ≡ Some x → Contains (before ++ after) x
outside_at before block after place x (inl lt) is =
    Contains-append_left before after x (contains_at before place x (sym (read_front before (block ++ after) place lt) ∙ is))
outside_at before block after place x (inr le) is =
    let k = place - (length before + length block) in
    Contains-append_right before after x
    (contains_at after k x (sym (read_last before block after place k (after_by (length before) (length block) place le)) ∙ is))

-- ---- chains from beside the block

off_chain : (cell : CellId) (before block after : Collection) → IsBlock cell before block after → (o : Option Held)
    → ((x : Held) → o ≡ Some x → Contains (before ++ after) x) → (h : Held) → Contains block h
    → unwrap_or (option_map (λ x. is_outward x h) o) false ≡ false
off_chain cell before block after b None outside h i = refl
off_chain cell before block after b (Some x) outside h i = none_outward cell before block after b x h (outside x refl) i

-- they have no pair of it
pub none_beside : (cell : CellId) (before block after : Collection) → IsBlock cell before block after → (place : ℕ)
    → IsBeside (length before) (length block) place → (h : Held) → Contains block h
    → is_on_chain (before ++ (block ++ after)) place h ≡ false
none_beside cell before block after b place beside h i =
    off_chain cell before block after b (slice_get (before ++ (block ++ after)) place)
    (λ x is. outside_at before block after place x beside is) h i

-- they stay, whatever the block becomes
pub chain_beside : (cell : CellId) (before old new after : Collection) → IsBlock cell before old after → IsBlock cell before new after
    → (place : ℕ) → IsBeside (length before) (length old) place
    → chain_of (before ++ (new ++ after)) (moved (length before) (length old) (length new) (length before + (length old + length after)) place)
    ≡ chain_of (before ++ (old ++ after)) place
unfolding chain_of
chain_beside cell before old new after b c place beside =
    let there = moved (length before) (length old) (length new) (length before + (length old + length after)) place in
    let on = is_on_chain (before ++ (old ++ after)) place in
    let same = pair_moved before old new after place beside in
    choice_agree (is_on_chain (before ++ (new ++ after)) there) on depth_key (before ++ (new ++ after))
    (λ h i. ap (λ (o : Option Held). unwrap_or (option_map (λ x. is_outward x h) o) false) same)
    ∙ choice_around on depth_key before new after
    (λ h i.
    off_chain cell before new after c (slice_get (before ++ (old ++ after)) place)
    (λ x is. outside_at before old after place x beside is) h i)
    ∙ sym (choice_around on depth_key before old after (none_beside cell before old after b place beside))

-- ---- chains from within the block

-- they are those in the block, and after them what lies around
pub chain_within : (cell : CellId) (before block after : Collection) → IsBlock cell before block after → (k : ℕ) → k < length block
    → chain_of (before ++ (block ++ after)) (length before + k) ≡ chain_of block k ++ around cell before after
unfolding chain_of
chain_within cell before block after b k lt =
    let all = before ++ (block ++ after) in
    elim (slice_get_cases block k).1 [
      | inl w ↦
          (let at = read_middle before block after (length before + k) k refl lt ∙ w.2 in
          choice_agree (is_on_chain all (length before + k)) (is_outward w.0) depth_key all (λ h i. on_at all (length before + k) w.0 h at)
          ∙ outward_within cell before block after b w.0 (contains_at block k w.0 w.2)
          ∙ ap (λ more. more ++ around cell before after)
          (choice_agree (is_outward w.0) (is_on_chain block k) depth_key block (λ h i. sym (on_at block k w.0 h w.2))))
      | inr w ↦ absurd (let le = w.0 in omega arith)
    ]

-- the chain of a place of the block, where what leads to no pair of it leads to what lies around
pub chain_placed : (cell : CellId) (before block after : Collection) → IsBlock cell before block after → (base : ℕ)
    → chain_of (before ++ (block ++ after)) base ≡ around cell before after → (k : ℕ)
    → chain_of (before ++ (block ++ after)) (placed (length before) (length block) base k) ≡ chain_of block k ++ around cell before after
chain_placed cell before block after b base on_base k =
    elim (cases_lt k (length block)) [
      | inl lt ↦
          ap (chain_of (before ++ (block ++ after))) (cond-true (ltb k (length block)) (length before + k) base (lt-ltb k (length block) lt))
          ∙ chain_within cell before block after b k lt
      | inr le ↦
          ap (chain_of (before ++ (block ++ after))) (cond-false (ltb k (length block)) (length before + k) base (le-ltb k (length block) le))
          ∙ on_base ∙ ap (λ more. more ++ around cell before after) (sym (chain_none block k (slice_get_past block k le)))
    ]

-- ---- where the places lead

-- a place whose chain has no pair of the block is beside it
pub beside_by_chain : (before block after : Collection) (place : ℕ)
    → ((h : Held) → Contains block h → Contains (chain_of (before ++ (block ++ after)) place) h → ⊥)
    → IsBeside (length before) (length block) place
beside_by_chain before block after place none =
    let all = before ++ (block ++ after) in
    elim (cases_lt place (length before)) [
      | inl lt ↦ inl lt
      | inr ge ↦
          elim (cases_lt place (length before + length block)) [
            | inr le ↦ inr le
            | inl lt ↦
                (let k = place - length before in
                elim (slice_get_cases block k).1 [
                  | inl w ↦
                      (let at = read_middle before block after place k (omega arith) (omega arith) ∙ w.2 in
                      absurd (none w.0 (contains_at block k w.0 w.2)
                      (chain_has all place w.0 (contains_at all place w.0 at) (on_at all place w.0 w.0 at ∙ outward-from w.0 w.0 (outward_self w.0)))))
                  | inr w ↦ absurd (let le = w.0 in omega arith)
                ])
          ]
    ]

-- a place beside the block leads to one beside it
pub leads_beside : (cell : CellId) (before block after : Collection) (outer : List ℕ) → IsBlock cell before block after
    → AreOuter (before ++ (block ++ after)) outer → (place next : ℕ) → IsBeside (length before) (length block) place
    → slice_get outer place ≡ Some next → place < length before + (length block + length after)
    → IsBeside (length before) (length block) next
leads_beside cell before block after outer b leads place next beside to lt =
    let all = before ++ (block ++ after) in
    let long = three_long before block after in
    elim (slice_get_cases all place).1 [
      | inl w ↦
          (let chain = leads place next w.0 w.2 to in
          beside_by_chain before block after next
          (λ h i on.
          both_ways (is_on_chain all place h) (none_beside cell before block after b place beside h i)
          (in_chain all place h (subst (λ hs. Contains hs h) (sym chain) (in_tail w.0 (chain_of all next) h on))).1))
      | inr w ↦ absurd (let le = w.0 in omega arith)
    ]

-- ---- the way out of the block

-- the chain from a place is some pairs of the block, and after them what lies around
pub record LeadsAround (cell : CellId) (before block after : Collection) (place : ℕ) : Type 0 where
  pub inner : Collection
  pub chain : chain_of (before ++ (block ++ after)) place ≡ inner ++ around cell before after
  pub each : (h : Held) → Contains inner h → Contains block h

pub around_first : (cell : CellId) (before block after : Collection) → IsBlock cell before block after → (place : ℕ)
    → length before ≤ place → place < length before + length block → LeadsAround cell before block after place
around_first cell before block after b place ge lt =
    let k = place - length before in
    let at : place ≡ length before + k = omega arith in
    record {
      inner = chain_of block k;
      chain = ap (chain_of (before ++ (block ++ after))) at ∙ chain_within cell before block after b k (omega arith);
      each = λ h i. (in_chain block k h i).0;
    }

around_less : (cell : CellId) (before block after : Collection) → IsBlock cell before block after → (x : Held) → Contains block x
    → (next : ℕ) (inner : Collection)
    → x ∷ chain_of (before ++ (block ++ after)) next ≡ inner ++ around cell before after
    → ((h : Held) → Contains inner h → Contains block h) → LeadsAround cell before block after next
around_less cell before block after b x i next [] e each =
    absurd (block_apart cell before block after b x i
    (in_contents (first_of cell) (before ++ after) x
    (subst (λ hs. Contains hs x) e (at_head x (chain_of (before ++ (block ++ after)) next)))).0)
around_less cell before block after b x i next (y ∷ ys) e each =
    record { inner = ys; chain = ap (drop 1) e; each = λ h j. each h (in_tail y ys h j) }

-- from a place of the block one step further out
pub around_step : (cell : CellId) (before block after : Collection) (outer : List ℕ) → IsBlock cell before block after
    → AreOuter (before ++ (block ++ after)) outer → (place next : ℕ) → length before ≤ place → place < length before + length block
    → slice_get outer place ≡ Some next → LeadsAround cell before block after place → LeadsAround cell before block after next
around_step cell before block after outer b leads place next ge lt to a =
    let k = place - length before in
    elim (slice_get_cases block k).1 [
      | inl w ↦
          (let at = read_middle before block after place k (omega arith) (omega arith) ∙ w.2 in
          around_less cell before block after b w.0 (contains_at block k w.0 w.2) next a.inner (sym (leads place next w.0 at to) ∙ a.chain) a.each)
      | inr w ↦ absurd (let le = w.0 in omega arith)
    ]

none_inner : (cell : CellId) (before block after : Collection) → IsBlock cell before block after → (place : ℕ)
    → IsBeside (length before) (length block) place → (inner : Collection)
    → chain_of (before ++ (block ++ after)) place ≡ inner ++ around cell before after
    → ((h : Held) → Contains inner h → Contains block h) → chain_of (before ++ (block ++ after)) place ≡ around cell before after
none_inner cell before block after b place beside [] e each = e
none_inner cell before block after b place beside (y ∷ ys) e each =
    let all = before ++ (block ++ after) in
    absurd (both_ways (is_on_chain all place y) (none_beside cell before block after b place beside y (each y (at_head y ys)))
    (in_chain all place y (subst (λ hs. Contains hs y) (sym e) (at_head y (ys ++ around cell before after)))).1)

-- the first place out of the block is where what lies around begins
pub around_found : (cell : CellId) (before block after : Collection) → IsBlock cell before block after → (place : ℕ)
    → IsBeside (length before) (length block) place → LeadsAround cell before block after place
    → chain_of (before ++ (block ++ after)) place ≡ around cell before after
around_found cell before block after b place beside a = none_inner cell before block after b place beside a.inner a.chain a.each
