use Rattle.s2ix_cli_files.specs.Answers.{counts_line, dump_of, journal_of, no_text}
use Rattle.s2ix_cli_files.specs.Reads.{DumpReads, TextsDiffer, TextsReplay, TextsRewind}
use Rattle.s2ix_cli_files.proofs.One.{one_answer, one_difference, one_dump, one_replayed, one_rewound}
use Rattle.s2ix_cli_files.proofs.laws.texts_have_one_answer.Goals as goal

pub returns : goal.returns
returns c = record {
  load = λ limits text. one_answer no_text (DumpReads limits text) (one_dump limits text);
  check = λ limits text. one_answer counts_line (DumpReads limits text) (one_dump limits text);
  replay = λ limits dump journal. one_answer dump_of (TextsReplay limits dump journal) (one_replayed limits dump journal);
  rewind = λ limits dump journal. one_answer dump_of (TextsRewind limits dump journal) (one_rewound limits dump journal);
  resume = λ limits dump journal. one_answer no_text (TextsRewind limits dump journal) (one_rewound limits dump journal);
  diff = λ limits first second. one_answer journal_of (TextsDiffer limits first second) (one_difference limits first second);
}
