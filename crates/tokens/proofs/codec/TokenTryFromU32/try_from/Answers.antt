use Rattle.std.proofs.Common.{◌≡◌}
use Rattle.std.specs.Option.{ok_or}
use Rattle.tokens.specs.Words.{token_of}
use Rattle.tokens.proofs.Reading.{token_read}
use Rattle.tokens.proofs.codec.TokenTryFromU32.try_from.Goals as goal

pub returns : goal.returns
returns c =
    let e : c.ok_or.result ≡ ok_or (token_of c.args.word) (record { 0 = c.args.word }) = cc in
    rw e (token_read c.args.word)
