-- What is put back.
--   held_tokens   the tokens in the order in which they are read
use Rattle.std.specs.Prelude.{List, reverse, vec_items}
use Rattle.tokens.specs.declared.token.Token.{Token}
use Rattle.piles.specs.declared.held.Held.{Held}

abbrev pub held_tokens : Held → List Token
held_tokens h = reverse (vec_items h.tokens.held)
