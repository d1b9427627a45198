use Rattle.std.proofs.Common.{◌≡◌, ◌+◌, ◌-◌, arith, drop, subst, take, true}
use Rattle.std.specs.List.{list_all}
use Rattle.s2ix_cli_words.specs.Fields.{is_plain}
use Rattle.s2ix_cli_words.proofs.PlainFields.{plain-block}
use Rattle.s2ix_cli_words.proofs.fields.after_block.Goals as goal

pub returns-then-are_plain-clause-plain : goal.returns-then-are_plain-clause-plain
returns-then-are_plain-clause-plain c =
    let size : c.args.end + c.args.size - c.args.end ≡ c.args.size = omega arith in
    let block : list_all is_plain (take c.args.size (drop c.args.end c.args.text.now)) ≡ true =
    subst (λ n. list_all is_plain (take n (drop c.args.end c.args.text.now)) ≡ true) size (c.are_plain.ensures c.if-are_plain.true) in
    plain-block c.args.text.now c.args.end c.args.size c.requires.front block
