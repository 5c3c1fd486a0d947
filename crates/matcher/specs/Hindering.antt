-- What hinders an argument.
--   hindrance   the refusal of tokens that are in an argument: the name 257 is among them and may not be, or too many count
--   Under       a call's progress agrees with the terms under which an argument is read
use Rattle.std.specs.Prelude.{◌≡◌, ℕ, Bool, cond, not, ◌&&◌, Some, None, Option, nat_le}
use Rattle.matching.specs.declared.refusal.MatcherRefusal.{MatcherRefusal}
use Rattle.matching.specs.declared.refusal.MatcherRefusal.TheVariants.{Par, TooLong}
use Rattle.matching.specs.Matching.{Progress, fewest}
use Rattle.matcher.specs.declared.terms.Terms.{Terms}

abbrev pub hindrance : Bool → Bool → ℕ → Option MatcherRefusal
hindrance long par n = cond (not long && par) (Some Par) (cond (nat_le n 4096) None (Some TooLong))

abbrev pub Under : Terms → Progress → Type 0
Under t p = (p.counted ≡ t.counted) × (fewest p.later ≡ t.few)
