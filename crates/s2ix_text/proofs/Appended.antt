-- A collection with one held pair more at its end.
use Rattle.std.proofs.Common.{◌≡◌, ℕ, ◌+◌, ◌<◌, ◌≤◌, true, Option, Some, List, [], ◌∷◌, ◌++◌, All, length, refl, sym, subst, arith}
use Rattle.std.proofs.lemmas.Bool.{lt-ltb, ltb-true}
use Rattle.std.proofs.lemmas.List.{length-append, length_push, take_at}
use Rattle.std.proofs.lemmas.List.Elements.{All-cons, All-head, All-nil, All-push, All-tail, All-take}
use Rattle.s2ix_bag_pairs.specs.Collection.{Collection, IsBag, IsCollection, IsCollectionFrom}
use Rattle.s2ix_bag_pairs.specs.Limits.{count_limit, pairs_limit}
use Rattle.s2ix_bag_pairs.specs.Pair.{rank_of}
use Rattle.s2ix_bag_pairs.specs.declared.limits.Limits.{Limits}
use Rattle.s2ix_bag_pairs.specs.declared.pair.Held.{Held}
use Rattle.s2ix_bag_pairs.proofs.CutAtRank.{collection_take}
use Rattle.s2ix_text_write.specs.declared.version.Version.{Version}
use Rattle.s2ix_text_write.specs.Dump.{CanHold}
use Rattle.s2ix_text_write.specs.Version.{dump_header, dump_version, greatest_below}
use Rattle.s2ix_text_write.proofs.Versions.{named_by_dump_header}
use Rattle.s2ix_text.specs.PairLines.{IsDumped, last_pair}
use Rattle.s2ix_text.specs.DumpFaults.{greatest_count}
use Rattle.s2ix_text_parts.specs.Written.{comes_before}
use Rattle.s2ix_text.proofs.PairTexts.{HasCount}

-- ---- the order

rises_after : (n : ℕ) (g : Held) (hs : Collection) (h : Held) → IsCollectionFrom n (g ∷ hs)
    → comes_before (last_pair (g ∷ hs)) (Some h.pair) ≡ true → 0 < h.count → IsCollectionFrom n (g ∷ (hs ++ h ∷ []))
rises_after n g [] h is before some =
    let less : rank_of g.pair < rank_of h.pair = ltb-true (rank_of g.pair) (rank_of h.pair) before in
    (is.0, is.1, (omega (arith, less), some, tt))
rises_after n g (f ∷ hs) h is before some = (is.0, is.1, rises_after (rank_of g.pair + 1) f hs h is.2 before some)

rises_more : (hs : Collection) (h : Held) → IsCollection hs → comes_before (last_pair hs) (Some h.pair) ≡ true → 0 < h.count
    → IsCollection (hs ++ h ∷ [])
rises_more [] h is before some = (omega arith, some, tt)
rises_more (g ∷ hs) h is before some = rises_after 0 g hs h is before some

before_after : (n : ℕ) (g : Held) (hs : Collection) (k : Held) (ks : Collection) → IsCollectionFrom n (g ∷ (hs ++ k ∷ ks))
    → comes_before (last_pair (g ∷ hs)) (Some k.pair) ≡ true
before_after n g [] k ks is = lt-ltb (rank_of g.pair) (rank_of k.pair) (omega (arith, is.2.0))
before_after n g (f ∷ hs) k ks is = before_after (rank_of g.pair + 1) f hs k ks is.2

-- the next pair comes after the last one
pub next_before : (hs : Collection) (k : Held) (ks : Collection) → IsCollection (hs ++ k ∷ ks)
    → comes_before (last_pair hs) (Some k.pair) ≡ true
next_before [] k ks is = refl
next_before (g ∷ hs) k ks is = before_after 0 g hs k ks is

-- ---- the counts

positive : (n : ℕ) (hs : Collection) → IsCollectionFrom n hs → All (λ (h : Held). 0 < h.count) hs
positive n [] is = All-nil (λ (h : Held). 0 < h.count)
positive n (h ∷ hs) is = All-cons (λ (h : Held). 0 < h.count) h hs is.1 (positive (rank_of h.pair + 1) hs is.2)

pub counts_are : (limits : Limits) (header : List ℕ) (hs : Collection) → IsDumped limits header hs → All (HasCount header) hs
counts_are limits header hs is =
    λ k d within.
    let some = positive 0 hs is.bag.rises k d within in
    let small = is.written k d within in
    (omega (arith, some), omega (arith, small))

pub front_has : (P : Held → Type 0) (hs ks : Collection) → All P (hs ++ ks) → All P hs
front_has P hs ks all = subst (All P) (take_at hs ks (length hs) refl) (All-take P (length hs) (hs ++ ks) all)

pub here_has : (P : Held → Type 0) (hs : Collection) (k : Held) (ks : Collection) → All P (hs ++ k ∷ ks) → P k
here_has P [] k ks all = All-head P k ks all
here_has P (h ∷ hs) k ks all = here_has P hs k ks (All-tail P h (hs ++ k ∷ ks) all)

-- ---- the pairs of a dump

-- in a version that can hold them
pub dumped_in : (limits : Limits) (version : Version) (hs : Collection) → IsBag (record { limits = limits; held = hs }) → CanHold version hs
    → IsDumped limits (dump_header version) hs
dumped_in limits version hs is held = record {
  bag = is;
  written =
      subst (λ (found : Option Version). All (λ (h : Held). h.count ≤ greatest_below found) hs) (sym (named_by_dump_header version)) held;
}

-- and below a header each count is one that its version can hold
pub held_in : (limits : Limits) (header : List ℕ) (version : Version) (hs : Collection) → dump_version header ≡ Some version
    → IsDumped limits header hs → CanHold version hs
held_in limits header version hs named is =
    subst (λ (found : Option Version). All (λ (h : Held). h.count ≤ greatest_below found) hs) named is.written

pub dumped_more : (limits : Limits) (header : List ℕ) (hs : Collection) (h : Held) → IsDumped limits header hs → HasCount header h
    → comes_before (last_pair hs) (Some h.pair) ≡ true → h.count ≤ count_limit limits → length hs < pairs_limit limits
    → IsDumped limits header (hs ++ h ∷ [])
dumped_more limits header hs h is counted before small within_limit = record {
  bag = record {
    rises = rises_more hs h is.bag.rises before (omega (arith, counted.0));
    within_limit = omega (arith, length_push hs h, within_limit);
    small = All-push (λ (x : Held). x.count ≤ count_limit limits) hs h is.bag.small small;
  };
  written = All-push (λ (x : Held). x.count ≤ greatest_count header) hs h is.written counted.1;
}

pub front_is_dumped : (limits : Limits) (header : List ℕ) (hs ks : Collection) → IsDumped limits header (hs ++ ks)
    → IsDumped limits header hs
front_is_dumped limits header hs ks is = record {
  bag = record {
    rises = subst IsCollection (take_at hs ks (length hs) refl) (collection_take (length hs) 0 (hs ++ ks) is.bag.rises);
    within_limit = omega (arith, length-append hs ks, is.bag.within_limit);
    small = front_has (λ (h : Held). h.count ≤ count_limit limits) hs ks is.bag.small;
  };
  written = front_has (λ (h : Held). h.count ≤ greatest_count header) hs ks is.written;
}
