-- Where a gullet's reading stands, and the tokens ahead of it.
--   Position       where it stands: the names, the tokens put back, and the items of the source below
--   Reader         the position of a call under way, and the tokens that it has read
--   below_stream   the tokens of the source below, nothing being put back any more; some tokens being read already
--   held_stream    the tokens put back, and then more
--   tokens_from    the tokens ahead of a reader under some categories
--   put            the same place in the source, with other tokens put back
use Rattle.std.specs.Prelude.{List, [], ◌∷◌, ◌++◌}
use Rattle.tokens.specs.declared.token.Token.{Token}
use Rattle.lines.specs.Line.{Categories, Item}
use Rattle.names.specs.Naming.{Spellings}
use Rattle.sources.specs.Ahead as ahead
use Rattle.sources.specs.Ahead.{Ahead, ahead_of}
use Rattle.driving.specs.Streams.{Stream, nothing, broken, token}

pub record Position : Type 0 where
  pub names : Spellings
  pub held : List Token
  pub below : List Item

abbrev pub position : Spellings → List Token → List Item → Position
position ns ts is = record { names = ns; held = ts; below = is }

pub record Reader : Type 0 where
  pub stands : Position
  pub read : List Token

abbrev pub reader : Position → List Token → Reader
reader p read = record { stands = p; read = read }

abbrev pub below_stream : List Token → Ahead → Stream Reader
below_stream read (ahead.none ns) = nothing (reader (position ns [] []) read)
below_stream read (ahead.fault e ns is) = broken e (reader (position ns [] is) read)
below_stream read (ahead.token t ns is a) = token t (reader (position ns [] is) (read ++ t ∷ [])) (below_stream (read ++ t ∷ []) a)

abbrev pub held_stream : Spellings → List Token → List Item → List Token → (List Token → Stream Reader) → Stream Reader
held_stream ns [] is read more = more read
held_stream ns (t ∷ ts) is read more = token t (reader (position ns ts is) (read ++ t ∷ [])) (held_stream ns ts is (read ++ t ∷ []) more)

abbrev pub stream_at : Categories → Position → List Token → Stream Reader
stream_at cs p read = held_stream p.names p.held p.below read (λ more. below_stream more (ahead_of cs p.names p.below))

abbrev pub tokens_from : Categories → Reader → Stream Reader
tokens_from cs r = stream_at cs r.stands r.read

abbrev pub put : Position → List Token → Position
put p ts = position p.names ts p.below
