-- Lists that grow and shrink at their front.
--   front      the first, if there is one
--   behind     all but the first
--   refronted  another in the place of the first, if there is one
--   joining    one more in front, where there are fewer than the most
use Rattle.std.specs.Prelude.{ℕ, cond, List, [], ◌∷◌, length, Some, None, Option, nat_lt}

module _ {X : Type 0} where
  abbrev pub front : List X → Option X
  front [] = None
  front (x ∷ xs) = Some x

  abbrev pub behind : List X → List X
  behind [] = []
  behind (x ∷ xs) = xs

  abbrev pub refronted : X → List X → List X
  refronted y [] = []
  refronted y (x ∷ xs) = y ∷ xs

  abbrev pub joining : ℕ → X → List X → List X
  joining most x xs = cond (nat_lt (length xs) most) (x ∷ xs) xs
