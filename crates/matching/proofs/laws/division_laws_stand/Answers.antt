-- The laws are proved in proofs/Reasons.antt; a worked case holds by computing.
use Rattle.std.proofs.Common.{◌≡◌, true, refl, subst}
use Rattle.tokens.specs.declared.token.Token.{Token}
use Rattle.matching.specs.Braces.{same_token}
use Rattle.matching.specs.Worked.{WorkedCases}
use Rattle.matching.proofs.Depths.{same_token_lem, token_same}
use Rattle.matching.proofs.ParameterTexts.{text_laws}
use Rattle.matching.proofs.Reasons.{laws}
use Rattle.matching.proofs.laws.division_laws_stand.Goals as goal

worked : WorkedCases
worked = record {
  nothing = refl;
  shifted = refl;
  nested = refl;
  empty = refl;
  empty_group = refl;
  two_groups = refl;
  one_group = refl;
  blanks = refl;
  before = refl;
  differs = refl;
  unmatched = refl;
  unmatched_single = refl;
  par_single = refl;
  par_long = refl;
  par_completes = refl;
  par_fails = refl;
  unmatched_first = refl;
  last_token = refl;
  group_too_long = refl;
  none_left_behind = refl;
  delimiter_free = refl;
  brace_last = refl;
}

pub returns : goal.returns
returns c = record {
  laws = λ p long lawful. laws p lawful long;
  texts = text_laws;
  tokens = λ t u. (same_token_lem t u, λ e. subst (λ (v : Token). same_token t v ≡ true) e (token_same t));
  cases = worked;
  count = refl;
}
