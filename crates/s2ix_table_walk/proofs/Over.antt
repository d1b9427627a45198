-- What lies over a leaf, by the numbers of leaves.
use Rattle.std.proofs.Common.{◌≡◌, ℕ, ◌+◌, ◌-◌, ◌*◌, ◌%◌, ◌<◌, ◌≤◌, true, false, ◌∷◌, length, arith, Contains, le-leb, lt-ltb}
use Rattle.std.specs.List.{AllByRecursion}
use Rattle.std.proofs.lemmas.Bool.{and_parts, and_from, leb-true, ltb-true}
use Rattle.s2id_core.specs.CellId.{raw_of, first_of, end_of, level_of}
use Rattle.s2id_core.proofs.Numbers.{path_of_cell}
use Rattle.s2id_core.specs.Span.{IsNested}
use Rattle.s2id_core.proofs.Nested.{span, nested_by_level}
use Rattle.s2ix_bag_pairs.specs.Label.{value_of}
use Rattle.s2ix_bag_pairs.specs.declared.pair.Held.{Held}
use Rattle.s2ix_bag_pairs.specs.Collection.{Collection}
use Rattle.s2ix_table_walk.specs.InOrder.{insertion, Rises}
use Rattle.s2ix_table_walk.specs.Contents.{covers, depth_key, contents_at}
use Rattle.s2ix_table_walk.specs.Table.{leaf_end}
use Rattle.s2ix_table_walk.proofs.InOrder.{every_choice, in_choice, choice_has, choice_in, choice_out, rises_choice, length_choice}

-- a leaf lies in the span of a pair's cell
pub record IsOver (h : Held) (q : ℕ) : Type 0 where
  pub from : first_of h.pair.cell ≤ q
  pub to : q < end_of h.pair.cell

pub over-true : (q : ℕ) (h : Held) → covers q h ≡ true → IsOver h q
over-true q h t =
    let both = and_parts _ _ t in record { from = leb-true _ _ both.0; to = ltb-true _ _ both.1 }

pub covers-from : (q : ℕ) (h : Held) → IsOver h q → covers q h ≡ true
covers-from q h o = and_from _ _ (le-leb _ _ o.from) (lt-ltb _ _ o.to)

-- the span of a pair's cell, in numbers
pub record HasSpan (h : Held) : Type 0 where
  pub begins : 1 ≤ first_of h.pair.cell
  pub odd : first_of h.pair.cell % 2 ≡ 1
  pub rises : first_of h.pair.cell + 2 ≤ end_of h.pair.cell
  pub ends : end_of h.pair.cell ≤ leaf_end
  pub odd_end : end_of h.pair.cell % 2 ≡ 1

pub span_of : (h : Held) → HasSpan h
span_of h =
    let s = span (raw_of h.pair.cell) h.pair.cell.valid in
    let a = s.from in
    let b = s.to in
    record { begins = s.begins; odd = s.odd; rises = omega arith; ends = s.ends; odd_end = s.odd_end }

-- ---- the contents of a leaf

pub in_contents : (q : ℕ) (hs : Collection) (h : Held) → Contains (contents_at q hs) h → Contains hs h × IsOver h q
unfolding contents_at
in_contents q hs h c = let r = in_choice (covers q) depth_key hs h c in (r.0, over-true q h r.1)

pub contents_has : (q : ℕ) (hs : Collection) (h : Held) → Contains hs h → IsOver h q → Contains (contents_at q hs) h
unfolding contents_at
contents_has q hs h c o = choice_has (covers q) depth_key hs h c (covers-from q h o)

pub every_content : (P : Held → Type 0) (q : ℕ) (hs : Collection) → ((h : Held) → Contains hs h → IsOver h q → P h)
    → AllByRecursion P (contents_at q hs)
unfolding contents_at
every_content P q hs each = every_choice P (covers q) depth_key hs (λ h held t. each h held (over-true q h t))

pub contents_rise : (q : ℕ) (hs : Collection) → Rises depth_key (contents_at q hs)
unfolding contents_at
contents_rise q hs = rises_choice (covers q) depth_key hs

pub length_contents : (q : ℕ) (hs : Collection) → length (contents_at q hs) ≤ length hs
unfolding contents_at
length_contents q hs = length_choice (covers q) depth_key hs

pub contents_in : (q : ℕ) (h : Held) (hs : Collection) → covers q h ≡ true
    → contents_at q (h ∷ hs) ≡ insertion depth_key h (contents_at q hs)
unfolding contents_at
contents_in q h hs t = choice_in (covers q) depth_key h hs t

pub contents_out : (q : ℕ) (h : Held) (hs : Collection) → covers q h ≡ false → contents_at q (h ∷ hs) ≡ contents_at q hs
unfolding contents_at
contents_out q h hs t = choice_out (covers q) depth_key h hs t

-- ---- depth

pub level_at_most : (h : Held) → level_of h.pair.cell ≤ 30
level_at_most h = (path_of_cell (raw_of h.pair.cell) h.pair.cell.valid).at_most

level_from_key : (k l v w : ℕ) → k ≤ 30 → l ≤ 30 → v ≤ 2147483647 → w ≤ 2147483647 → (30 - k) * 2147483648 + v ≤ (30 - l) * 2147483648 + w
    → l ≤ k
level_from_key k l v w a b c d e = omega arith

pub level_by_key : (a b : Held) → depth_key a ≤ depth_key b → level_of b.pair.cell ≤ level_of a.pair.cell
unfolding depth_key
level_by_key a b le =
    level_from_key (level_of a.pair.cell) (level_of b.pair.cell) (value_of a.pair.label) (value_of b.pair.label) (level_at_most a)
    (level_at_most b) a.pair.label.in_range b.pair.label.in_range le

-- of two pairs over a leaf the deeper one lies in the other
pub nested_over : (q : ℕ) (a b : Held) → IsOver a q → IsOver b q → depth_key a ≤ depth_key b
    → IsNested (raw_of a.pair.cell) (raw_of b.pair.cell)
nested_over q a b over_a over_b le =
    nested_by_level (raw_of a.pair.cell) (raw_of b.pair.cell) a.pair.cell.valid b.pair.cell.valid (omega (arith, over_a.from, over_b.to))
    (omega (arith, over_b.from, over_a.to)) (level_by_key a b le)

key_bound : (k v : ℕ) → v ≤ 2147483647 → (30 - k) * 2147483648 + v < 68719476736
key_bound k v a = omega arith

pub depth_bound : (h : Held) → depth_key h < 68719476736
unfolding depth_key
depth_bound h = key_bound (level_of h.pair.cell) (value_of h.pair.label) h.pair.label.in_range
