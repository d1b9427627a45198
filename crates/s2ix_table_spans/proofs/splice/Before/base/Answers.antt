use Rattle.std.proofs.Common.{inl, inr, arith}
use Rattle.std.proofs.lemmas.Option.{slice_get-get_or}
use Rattle.std.proofs.lemmas.Bool.{both_ways}
use Rattle.s2ix_table_spans.proofs.Bases.{base_first, base_step, base_found, chain_shortens}
use Rattle.s2ix_table_spans.proofs.splice.Before.base.Goals as goal

pub loop-block-init : goal.loop-block-init
loop-block-init c =
    let b = c.args.block in
    base_first c.args.self.held.now b.cell b.start b.old c.requires.fits c.requires.some c.requires.block

pub loop-block-smaller : goal.loop-block-smaller
loop-block-smaller c =
    let t = c.args.self in
    let b = c.args.block in
    let at = c.has.ensures.has c.loop-block-test.true in
    let lt = at.1 in
    let fits = c.requires.fits in
    chain_shortens t.held.now t.outer.now c.loop-block.place 0 c.requires.nodes.size c.requires.nodes.outwards (omega arith)

pub loop-block-preserved : goal.loop-block-preserved
loop-block-preserved c =
    let t = c.args.self in
    let b = c.args.block in
    let at = c.has.ensures.has c.loop-block-test.true in
    let lt = at.1 in
    let fits = c.requires.fits in
    let many = c.requires.nodes.size in
    base_step t.held.now b.cell b.start b.old t.outer.now c.loop-block.place _ c.requires.fits c.requires.block c.requires.nodes.outwards at.0 at.1
    (slice_get-get_or t.outer.now c.loop-block.place 0 (omega arith)) c.loop-block.invariant

pub returns-clause-around : goal.returns-clause-around
returns-clause-around c =
    let t = c.args.self in
    let b = c.args.block in
    base_found t.held.now b.cell b.start b.old c.loop-block.place c.requires.fits c.requires.block
    (elim c.has.ensures.beside [ inl apart ↦ apart | inr within ↦ absurd (both_ways c.has.result c.loop-block-test.false within) ]) c.loop-block.invariant
