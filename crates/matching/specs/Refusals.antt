-- The numbers of refusals.
--   refusal_number   the number of a refusal
use Rattle.std.specs.Prelude.{ℕ}
use Rattle.matching.specs.declared.refusal.MatcherRefusal.{MatcherRefusal}
use Rattle.matching.specs.declared.refusal.MatcherRefusal.TheVariants.{Differs, Unmatched, Par, TooLong}

abbrev pub refusal_number : MatcherRefusal → ℕ
refusal_number Differs = 22
refusal_number Unmatched = 23
refusal_number Par = 24
refusal_number TooLong = 42
