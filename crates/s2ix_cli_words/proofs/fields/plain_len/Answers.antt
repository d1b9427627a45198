use Rattle.std.proofs.Common.{◌≡◌, ◌+◌, ◌-◌, arith, drop, subst, take, true}
use Rattle.std.specs.List.{list_all}
use Rattle.s2ix_cli_words.specs.Fields.{is_plain}
use Rattle.s2ix_cli_words.proofs.PlainFields.{plain-block}
use Rattle.s2ix_cli_words.proofs.fields.plain_len.Goals as goal

pub loop-end-preserved : goal.loop-end-preserved
loop-end-preserved c =
    let size : c.loop-end.end + 16 - c.loop-end.end ≡ 16 = omega arith in
    let block : list_all is_plain (take 16 (drop c.loop-end.end c.args.text.now)) ≡ true =
    subst (λ n. list_all is_plain (take n (drop c.loop-end.end c.args.text.now)) ≡ true) size (c.are_plain.ensures c.if-are_plain.true) in
    (omega arith, plain-block c.args.text.now c.loop-end.end 16 c.loop-end.invariant.1 block)
