-- Tokens ahead of a reader, and where it stands behind each.
--   Stream      the tokens in order, each with where the reader stands once it is read; ended by nothing or a refused read
--   Standing    where a reader of a source stands: the names then, and the items ahead
--   stream_of   the tokens ahead of a source as a stream
--   Takes       one token is needed and read: what was ahead began with it; where none was, the fault is 25, at the source's place
use Rattle.std.specs.Prelude.{◌≡◌, List, [], Ok, Err, Result}
use Rattle.tokens.specs.declared.token.Token.{Token}
use Rattle.lines.specs.Line.{Categories, Item}
use Rattle.names.specs.Naming.{Spellings}
use Rattle.sources.specs.declared.fault.Place.{Place}
use Rattle.sources.specs.declared.fault.ReadRefusal.{ReadRefusal}
use Rattle.sources.specs.declared.fault.PileRefusal.TheVariants.{Ended}
use Rattle.sources.specs.declared.fault.PileFault.{PileFault}
use Rattle.sources.specs.declared.fault.PileFault.TheVariants.{Line, Pile}
use Rattle.sources.specs.Ahead as ahead
use Rattle.sources.specs.Ahead.{Ahead, ahead_of}

pub data Stream (B : Type 0) : Type 0 where
  nothing : B → Stream B
  broken : ReadRefusal → B → Stream B
  token : Token → B → Stream B → Stream B

pub record Standing : Type 0 where
  pub names : Spellings
  pub items : List Item

abbrev pub standing : Spellings → List Item → Standing
standing ns is = record { names = ns; items = is }

abbrev pub stream_of : Ahead → Stream Standing
stream_of (ahead.none ns) = nothing (standing ns [])
stream_of (ahead.fault e ns is) = broken e (standing ns is)
stream_of (ahead.token t ns is a) = token t (standing ns is) (stream_of a)

-- the stream of a source, by categories, names and items
abbrev pub stream : Categories → Spellings → List Item → Stream Standing
stream cs ns is = stream_of (ahead_of cs ns is)

abbrev pub Takes : Categories → Stream Standing → Place → Result Token PileFault → Spellings → List Item → Type 0
Takes cs s p (Ok t) ns is = s ≡ token t (standing ns is) (stream cs ns is)
Takes cs s p (Err (Line f)) ns is = (s ≡ broken f.refusal (standing ns is)) × (f.place ≡ p)
Takes cs s p (Err (Pile r q)) ns is = (s ≡ nothing (standing ns is)) × (r ≡ Ended) × (q ≡ p)
