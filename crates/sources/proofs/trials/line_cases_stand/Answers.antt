use Rattle.std.proofs.Common.{refl}
use Rattle.sources.specs.Ahead.{ahead_of}
use Rattle.sources.specs.Trials.{LineCases}
use Rattle.sources.proofs.trials.line_cases_stand.Goals as goal

stand : LineCases
unfolding ahead_of
stand = record {
  empty_text = refl;
  empty_line = refl;
  two_blank_lines = refl;
  blanks = refl;
  blanks_behind_letters = refl;
  blank_behind_symbol = refl;
  invalid_byte = refl;
  active = refl;
  escape_last = refl;
}

pub returns-clause-cases : goal.returns-clause-cases
returns-clause-cases c = stand
