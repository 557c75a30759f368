use Rattle.std.proofs.Common.{is_some, ap}
use Rattle.blocks.specs.Layout.{payload}
use Rattle.files.specs.Layout.{decoded}
use Rattle.files.proofs.Ordering.{sound}
use Rattle.patterns.proofs.Forming.{formed}
use Rattle.judging.proofs.Texts.{decided}
use Rattle.judging.proofs.judgement.Goals as goal

pub returns : goal.returns
returns c = record {
  value = c.judge_file.ensures;
  decided = λ e. let A = decoded (payload c.args.file.now) in decided A (formed A (ap is_some (sound c.args.file.now 64 1024 e).is_pattern));
}
