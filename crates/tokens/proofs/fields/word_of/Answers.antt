use Rattle.std.proofs.Common.{ap, ◌∙◌, arith}
use lib.Bits.{bit_or}
use Rattle.std.proofs.lemmas.Nat.{or_shifted, shl_whole}
use Rattle.tokens.proofs.fields.word_of.Goals as goal

pub returns : goal.returns
returns c =
    ap (λ h. bit_or h c.args.low) (shl_whole c.args.kind 4 28 32 c.requires.kind_fits (omega arith))
    ∙ or_shifted c.args.kind 28 c.args.low c.requires.low_fits
