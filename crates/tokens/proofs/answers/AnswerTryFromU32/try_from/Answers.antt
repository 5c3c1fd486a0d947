use Rattle.std.proofs.Common.{◌≡◌}
use Rattle.std.specs.Option.{ok_or}
use Rattle.tokens.specs.Words.{answer_of}
use Rattle.tokens.proofs.Reading.{answer_read}
use Rattle.tokens.proofs.answers.AnswerTryFromU32.try_from.Goals as goal

pub returns : goal.returns
returns c =
    let e : c.ok_or.result ≡ ok_or (answer_of c.args.word) (record { 0 = c.args.word }) = cc in
    rw e (answer_read c.args.word)
