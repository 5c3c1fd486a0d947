-- What a piece of the program says.
--   Shown   a piece, a name by the bytes that spell it
--   shown   what a piece of the program says
use Rattle.std.specs.Prelude.{ℕ, List}
use Rattle.tokens.specs.declared.token_category.TokenCategory.{TokenCategory}
use Rattle.lines.specs.declared.piece.Piece.{Piece}
use Rattle.lines.specs.declared.piece.Piece.TheVariants.{Character, Active, Name, Nothing, Refused}

pub data Shown : Type 0 where
  character : TokenCategory → ℕ → Shown
  active : ℕ → Shown
  named : List ℕ → Shown
  nothing : Shown
  refused : Shown

abbrev pub shown : Piece → Shown
shown (Character c b) = character c b
shown (Active b) = active b
shown (Name part) = named part.now
shown Nothing = nothing
shown Refused = refused
