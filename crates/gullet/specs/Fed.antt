-- Tokens ahead of a put-back over any source, as the rules see them.
--   position_of   where reading stands, by what is ahead of the source below
--   Onward        what some reads, one after another, make of a source, by the relation of one read
--   Drives        a rule was fed from a source, from its start on: what is answered, which names and items are left, and by which reads
--   Feeds         the same of a put-back over a source, by what the rules say is ahead, whatever was read before
use Rattle.std.specs.Prelude.{◌≡◌, List, Result}
use Rattle.tokens.specs.declared.token.Token.{Token}
use Rattle.matching.specs.Matching.{Move, on}
use Rattle.lines.specs.Line.{Categories, Item}
use Rattle.names.specs.declared.names.Names.{Names}
use Rattle.names.specs.Naming.{Spellings}
use Rattle.names.specs.Spelled.{listed}
use Rattle.piles.specs.declared.put_back.PutBack.{PutBack}
use Rattle.piles.specs.Helds.{held_tokens}
use Rattle.sources.specs.declared.fault.PileFault.{PileFault}
use Rattle.sources.specs.declared.source.Source.{Ghosts}
use Rattle.book.specs.Books.{BookState}
use Rattle.driving.specs.Streams.{stream, standing}
use Rattle.driving.specs.Drives.{drive, stands_at, answer_of, Reached}
use Rattle.rules.specs.Readers.{Position, position, reader, stream_at}
use Rattle.rules.specs.States.{categories_of}

abbrev pub position_of : {S : Type 0} → (S → List Item) → Names → PutBack S → Position
position_of ahead names p = position (listed names) (held_tokens p.held) (ahead p.below)

pub data Onward {S : Type 0} (reads : Spellings → S → S → Type 0) : S → S → Type 0 where
  stays : {x y : S} → y ≡ x → Onward reads x y
  further : {x m y : S} (ns : Spellings) → reads ns x m → Onward reads m y → Onward reads x y

pub record Drives {S P O : Type 0} (source : Ghosts S) (cs : Categories) (ns ms : Spellings) (old new : S) (result : Result O PileFault) (feed : P → Token → Move P O) (start : P) : Type 0 where
  pub answer : result ≡ answer_of (source.place new) (drive feed (on start) (standing ns (source.ahead old)) (stream cs ns (source.ahead old)))
  pub names : ms ≡ (stands_at (drive feed (on start) (standing ns (source.ahead old)) (stream cs ns (source.ahead old)))).names
  pub items : source.ahead new ≡ (stands_at (drive feed (on start) (standing ns (source.ahead old)) (stream cs ns (source.ahead old)))).items
  pub reached : Reached (source.reads cs) feed (on start) ns (stream cs ns (source.ahead old)) old new

pub record Feeds {S P O : Type 0} (source : Ghosts S) (book : BookState) (ns ms : Names) (old new : PutBack S) (result : Result O PileFault) (feed : P → Token → Move P O) (start : P) : Type 0 where
  pub answer : (read : List Token) → result ≡ answer_of (source.place new.below) (drive feed (on start) (reader (position_of source.ahead ns old) read) (stream_at (categories_of book) (position_of source.ahead ns old) read))
  pub stands : (read : List Token) → position_of source.ahead ms new ≡ (stands_at (drive feed (on start) (reader (position_of source.ahead ns old) read) (stream_at (categories_of book) (position_of source.ahead ns old) read))).stands
  pub onward : Onward (source.reads (categories_of book)) old.below new.below
