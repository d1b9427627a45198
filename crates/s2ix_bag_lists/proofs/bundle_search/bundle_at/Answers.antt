-- The place is within the bundle that is found.
use Rattle.std.proofs.Common.{get_or, refl, arith}
use Rattle.s2ix_bag_lists.proofs.Bundles.{start_is, starts_count, some_bundle, in_bundle}
use Rattle.s2ix_bag_lists.proofs.bundle_search.bundle_at.Goals as goal

pub last_start-bundle-requires-clause-some : goal.last_start-bundle-requires-clause-some
last_start-bundle-requires-clause-some c =
    let gs = c.args.bundles.now in
    let some = some_bundle gs c.args.place c.requires.within in
    omega (arith, some, starts_count c.args.starts.now gs c.requires.counted)

pub last_start-bundle-requires-clause-begins : goal.last_start-bundle-requires-clause-begins
last_start-bundle-requires-clause-begins c =
    let gs = c.args.bundles.now in
    let some = some_bundle gs c.args.place c.requires.within in
    omega (arith, start_is c.args.starts.now gs 0 c.requires.counted some)

pub returns : goal.returns
returns c =
    let starts = c.args.starts.now in
    let i = c.last_start-bundle.result in
    let found = c.last_start-bundle.ensures in
    in_bundle starts c.args.bundles.now c.args.place i (get_or starts i 0) refl c.requires.counted c.requires.within found.within found.begins
    found.ends
