-- What a source with tokens put back is, given what the source below is.
--   put_back_ahead   the items ahead: the tokens put back, then the items below
--   put_back_place   the place: the one below
--   PutBackReads     what one read makes of it: the first token is taken, and where there is none, the source below is read
--   ReadsBehind      the same, by the tokens that were put back
use Rattle.std.specs.Prelude.{◌≡◌, List, [], ◌∷◌, ◌++◌, map}
use Rattle.tokens.specs.declared.token.Token.{Token}
use Rattle.lines.specs.Line.{Item, ready}
use Rattle.sources.specs.declared.fault.Place.{Place}
use Rattle.piles.specs.declared.put_back.PutBack.{PutBack}
use Rattle.piles.specs.Joins.{Reading}
use Rattle.piles.specs.Helds.{held_tokens}

abbrev pub put_back_ahead : {S : Type 0} → (S → List Item) → PutBack S → List Item
put_back_ahead ahead p = map ready (held_tokens p.held) ++ ahead p.below

abbrev pub put_back_place : {S : Type 0} → (S → Place) → PutBack S → Place
put_back_place place p = place p.below

abbrev pub ReadsBehind : {S : Type 0} → Reading S → List Token → Reading (PutBack S)
ReadsBehind reads [] cs ns p q = (held_tokens q.held ≡ []) × reads cs ns p.below q.below
ReadsBehind reads (t ∷ ts) cs ns p q = (held_tokens q.held ≡ ts) × (q.below ≡ p.below)

abbrev pub PutBackReads : {S : Type 0} → Reading S → Reading (PutBack S)
PutBackReads reads cs ns p q = ReadsBehind reads (held_tokens p.held) cs ns p q
