-- Parts of a list of tokens.
--   part_of      the tokens of a span
--   parts_of     the tokens of each span
--   all_within   whether each span ends at n or before
use Rattle.std.specs.Prelude.{ℕ, ◌-◌, Bool, true, ◌&&◌, List, [], ◌∷◌, take, drop, nat_le}
use Rattle.tokens.specs.declared.token.Token.{Token}
use Rattle.matcher.specs.declared.span.Span.{Span}

abbrev pub part_of : List Token → Span → List Token
part_of ts s = take (s.to - s.from) (drop s.from ts)

abbrev pub parts_of : List Token → List Span → List (List Token)
parts_of ts [] = []
parts_of ts (s ∷ ss) = part_of ts s ∷ parts_of ts ss

abbrev pub all_within : ℕ → List Span → Bool
all_within n [] = true
all_within n (s ∷ ss) = nat_le s.from s.to && (nat_le s.to n && all_within n ss)
