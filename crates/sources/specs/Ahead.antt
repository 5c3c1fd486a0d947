-- The tokens ahead of a source: what its items give, once names have their numbers.
--   Ahead      the tokens in order, each with the names and the items once it is read; ended by nothing or a refused read
--   numbered   pieces, with numbers for what they spell
--   ahead_of   the tokens ahead, by categories, names and items
--   head_answer, head_names, head_items  what one read answers at a place, and leaves
--   Reads      the same as a relation: what was ahead began with what was read
--   extent     the bytes and ready tokens in a list of items
use Rattle.std.specs.Prelude.{◌≡◌, ℕ, ◌+◌, ◌<◌, List, [], ◌∷◌, length, Some, None, Ok, Err, Option, Result}
use Rattle.tokens.specs.declared.token.Token.{Token}
use Rattle.tokens.specs.declared.token.Token.TheVariants as tokens
use Rattle.lines.specs.Pieces as piece
use Rattle.lines.specs.Pieces.{Shown, character, active, named, nothing}
use Rattle.lines.specs.Line as line
use Rattle.lines.specs.Line.{Categories, Item, ready, rest, Pieces, invalid, given, name, pieces}
use Rattle.names.specs.Naming.{Spellings, Entered, known, refused, enter, names_after}
use Rattle.sources.specs.declared.fault.Place.{Place}
use Rattle.sources.specs.declared.fault.LineRefusal.TheVariants.{Invalid}
use Rattle.sources.specs.declared.fault.ReadRefusal.{ReadRefusal}
use Rattle.sources.specs.declared.fault.ReadRefusal.TheVariants as read
use Rattle.sources.specs.declared.fault.LineFault.{LineFault}
use Rattle.sources.specs.declared.fault.PileFault.{PileFault}
use Rattle.sources.specs.declared.fault.PileFault.TheVariants.{Line}

pub data Ahead : Type 0 where
  none : Spellings → Ahead
  fault : ReadRefusal → Spellings → List Item → Ahead
  token : Token → Spellings → List Item → Ahead → Ahead

-- a name entered among the spellings, with what follows under the spellings then
abbrev pub by_number : Entered → Spellings → List Item → (Spellings → Ahead) → Ahead
by_number (known n ms) ns is more = token (tokens.Name n) ms is (more ms)
by_number (refused f) ns is more = fault (read.Names f) ns is

abbrev pub numbered : Pieces → Spellings → Ahead
numbered line.none ns = none ns
numbered (invalid is) ns = fault (read.Line Invalid) ns is
numbered (given t is ps) ns = token t ns is (numbered ps ns)
numbered (name s is ps) ns = by_number (enter ns s) ns is (λ ms. numbered ps ms)

unfoldable pub ahead_of : Categories → Spellings → List Item → Ahead
ahead_of cs ns is = numbered (pieces cs is) ns

abbrev pub head_answer : Place → Ahead → Result (Option Token) PileFault
head_answer p (none ns) = Ok None
head_answer p (fault e ns is) = Err (Line (record { refusal = e; place = p }))
head_answer p (token t ns is a) = Ok (Some t)

abbrev pub head_names : Ahead → Spellings
head_names (none ns) = ns
head_names (fault e ns is) = ns
head_names (token t ns is a) = ns

abbrev pub head_items : Ahead → List Item
head_items (none ns) = []
head_items (fault e ns is) = is
head_items (token t ns is a) = is

abbrev pub Reads : Categories → Ahead → Result (Option Token) ReadRefusal → Spellings → List Item → Type 0
Reads cs a (Ok None) ns is = (a ≡ none ns) × (is ≡ [])
Reads cs a (Ok (Some t)) ns is = a ≡ token t ns is (ahead_of cs ns is)
Reads cs a (Err e) ns is = a ≡ fault e ns is

abbrev pub extent : List Item → ℕ
extent [] = 0
extent (ready t ∷ is) = 1 + extent is
extent (rest s bs ∷ is) = length bs + extent is

-- one piece of a line

abbrev pub entered_token : Entered → Result (Option Token) ReadRefusal
entered_token (known n ms) = Ok (Some (tokens.Name n))
entered_token (refused f) = Err (read.Names f)

abbrev pub piece_token : Spellings → Shown → Result (Option Token) ReadRefusal
piece_token ns (character c b) = Ok (Some (tokens.Character c b))
piece_token ns (active b) = Ok (Some (tokens.Name b))
piece_token ns (named s) = entered_token (enter ns s)
piece_token ns nothing = Ok None
piece_token ns piece.refused = Err (read.Line Invalid)

abbrev pub piece_names : Spellings → Shown → Spellings
piece_names ns (character c b) = ns
piece_names ns (active b) = ns
piece_names ns (named s) = names_after ns (enter ns s)
piece_names ns nothing = ns
piece_names ns piece.refused = ns

-- one piece, of what was ahead: its answer, the names then, and the items behind it
abbrev pub Turned : Categories → Ahead → Result (Option Token) ReadRefusal → Spellings → List Item → Type 0
Turned cs a (Ok None) ns is = a ≡ ahead_of cs ns is
Turned cs a (Ok (Some t)) ns is = a ≡ token t ns is (ahead_of cs ns is)
Turned cs a (Err e) ns is = a ≡ fault e ns is

-- a read of one line over the items below: of what was ahead, the names and the items then
abbrev pub LineReads : Categories → Ahead → Result (Option Token) ReadRefusal → Spellings → List Item → List Item → Type 0
LineReads cs a (Ok None) ns is below = (a ≡ ahead_of cs ns below) × (is ≡ below)
LineReads cs a (Ok (Some t)) ns is below = a ≡ token t ns is (ahead_of cs ns is)
LineReads cs a (Err e) ns is below = a ≡ fault e ns is

-- a read takes bytes, or finds the line at its end
abbrev pub Onward : Result (Option Token) ReadRefusal → ℕ → ℕ → ℕ → Type 0
Onward (Ok None) n m all = m ≡ all
Onward (Ok (Some t)) n m all = n < m
Onward (Err e) n m all = n < m

-- nothing read: the names are the same
abbrev pub Unnamed : Result (Option Token) ReadRefusal → Spellings → Spellings → Type 0
Unnamed (Ok None) ns ms = ms ≡ ns
Unnamed (Ok (Some t)) ns ms = Unit {0}
Unnamed (Err e) ns ms = Unit {0}

-- a line's answer without the place of its fault
abbrev pub unplaced : Result (Option Token) LineFault → Result (Option Token) ReadRefusal
unplaced (Ok o) = Ok o
unplaced (Err e) = Err e.refusal
