-- How a line is read, piece by piece.
--   category      the category of a byte
--   letters       the longest run of letters at the front
--   escaped       the bytes behind an escape that spell its name
--   piece_of      the next piece of a line in a state
--   taken_of      how many bytes it takes
--   state_after   the state behind a piece
--   Item          a ready token, or the rest of a line with its state
--   left          the rest of a line over the items below, no item where no byte is left
--   Pieces        what items give: tokens and names, each with the items behind it, ended by nothing or a refused byte
--   pieces        the pieces of a list of items, under fixed categories
--   First         what a line gives, told by its first piece
use Rattle.std.specs.Prelude.{ℕ, zero, suc, ◌+◌, Bool, true, false, cond, List, [], ◌∷◌, length, drop, codes, slice_index_or}
use Rattle.tokens.specs.declared.category.Category.{Category}
use Rattle.tokens.specs.declared.category.Category.TheVariants.{Escape, Open, Close, Math, Align, EndLine, Parameter, Superscript, Subscript, Ignored, Space, Letter, Other, Active, Comment, Invalid}
use Rattle.tokens.specs.declared.token_category.TokenCategory.{TokenCategory}
use Rattle.tokens.specs.declared.token_category.TokenCategory.TheVariants as kind
use Rattle.tokens.specs.declared.token.Token.{Token}
use Rattle.tokens.specs.declared.token.Token.TheVariants as token
use Rattle.lines.specs.declared.piece.LineState.{LineState}
use Rattle.lines.specs.declared.piece.LineState.TheVariants.{NewLine, MidLine, SkipBlanks}
use Rattle.lines.specs.Pieces.{Shown, character, active, named, nothing, refused}

-- the categories by code, 256 of them
abbrev pub Categories : Type 0
Categories = List Category

abbrev pub category : Categories → ℕ → Category
category cs b = slice_index_or cs b Escape

abbrev pub is_letter : Category → Bool
is_letter Escape = false
is_letter Open = false
is_letter Close = false
is_letter Math = false
is_letter Align = false
is_letter EndLine = false
is_letter Parameter = false
is_letter Superscript = false
is_letter Subscript = false
is_letter Ignored = false
is_letter Space = false
is_letter Letter = true
is_letter Other = false
is_letter Active = false
is_letter Comment = false
is_letter Invalid = false

-- the state behind a name of one byte: blanks are skipped behind a letter and behind a blank
abbrev pub behind_byte : Category → LineState
behind_byte Escape = MidLine
behind_byte Open = MidLine
behind_byte Close = MidLine
behind_byte Math = MidLine
behind_byte Align = MidLine
behind_byte EndLine = MidLine
behind_byte Parameter = MidLine
behind_byte Superscript = MidLine
behind_byte Subscript = MidLine
behind_byte Ignored = MidLine
behind_byte Space = SkipBlanks
behind_byte Letter = SkipBlanks
behind_byte Other = MidLine
behind_byte Active = MidLine
behind_byte Comment = MidLine
behind_byte Invalid = MidLine

abbrev pub letters : Categories → List ℕ → List ℕ
letters cs [] = []
letters cs (b ∷ bs) = cond (is_letter (category cs b)) (b ∷ letters cs bs) []

abbrev pub escaped : Categories → List ℕ → List ℕ
escaped cs [] = []
escaped cs (b ∷ bs) = b ∷ cond (is_letter (category cs b)) (letters cs bs) []

abbrev pub at_end_line : LineState → Shown
at_end_line NewLine = named (codes "par")
at_end_line MidLine = character kind.Space 32
at_end_line SkipBlanks = nothing

abbrev pub at_blank : LineState → Shown
at_blank NewLine = nothing
at_blank MidLine = character kind.Space 32
at_blank SkipBlanks = nothing

-- by the category of the first byte, with the bytes behind it
abbrev pub piece_by : Categories → LineState → ℕ → List ℕ → Category → Shown
piece_by cs s b bs Escape = named (escaped cs bs)
piece_by cs s b bs Open = character kind.Open b
piece_by cs s b bs Close = character kind.Close b
piece_by cs s b bs Math = character kind.Math b
piece_by cs s b bs Align = character kind.Align b
piece_by cs s b bs EndLine = at_end_line s
piece_by cs s b bs Parameter = character kind.Parameter b
piece_by cs s b bs Superscript = character kind.Superscript b
piece_by cs s b bs Subscript = character kind.Subscript b
piece_by cs s b bs Ignored = nothing
piece_by cs s b bs Space = at_blank s
piece_by cs s b bs Letter = character kind.Letter b
piece_by cs s b bs Other = character kind.Other b
piece_by cs s b bs Active = active b
piece_by cs s b bs Comment = nothing
piece_by cs s b bs Invalid = refused

abbrev pub piece_of : Categories → LineState → List ℕ → Shown
piece_of cs s [] = nothing
piece_of cs s (b ∷ bs) = piece_by cs s b bs (category cs b)

-- how many of the bytes behind the first go with it
abbrev pub more_by : Categories → List ℕ → Category → ℕ
more_by cs bs Escape = length (escaped cs bs)
more_by cs bs Open = 0
more_by cs bs Close = 0
more_by cs bs Math = 0
more_by cs bs Align = 0
more_by cs bs EndLine = length bs
more_by cs bs Parameter = 0
more_by cs bs Superscript = 0
more_by cs bs Subscript = 0
more_by cs bs Ignored = 0
more_by cs bs Space = 0
more_by cs bs Letter = 0
more_by cs bs Other = 0
more_by cs bs Active = 0
more_by cs bs Comment = length bs
more_by cs bs Invalid = 0

abbrev pub taken_of : Categories → LineState → List ℕ → ℕ
taken_of cs s [] = 0
taken_of cs s (b ∷ bs) = 1 + more_by cs bs (category cs b)

abbrev pub behind_character : TokenCategory → LineState
behind_character kind.Open = MidLine
behind_character kind.Close = MidLine
behind_character kind.Math = MidLine
behind_character kind.Align = MidLine
behind_character kind.Parameter = MidLine
behind_character kind.Superscript = MidLine
behind_character kind.Subscript = MidLine
behind_character kind.Space = SkipBlanks
behind_character kind.Letter = MidLine
behind_character kind.Other = MidLine

abbrev pub behind_name : Categories → LineState → List ℕ → LineState
behind_name cs s [] = s
behind_name cs s (b ∷ []) = behind_byte (category cs b)
behind_name cs s (b ∷ c ∷ bs) = SkipBlanks

abbrev pub state_after : Categories → LineState → Shown → LineState
state_after cs s (character c b) = behind_character c
state_after cs s (active b) = MidLine
state_after cs s (named bs) = behind_name cs s bs
state_after cs s nothing = s
state_after cs s refused = s

-- lists of items

pub data Item : Type 0 where
  ready : Token → Item
  rest : LineState → List ℕ → Item

abbrev pub left : LineState → List ℕ → List Item → List Item
left s [] below = below
left s (b ∷ bs) below = rest s (b ∷ bs) ∷ below

pub data Pieces : Type 0 where
  none : Pieces
  invalid : List Item → Pieces
  given : Token → List Item → Pieces → Pieces
  name : List ℕ → List Item → Pieces → Pieces

-- what a piece gives, with the items behind it and what these give
abbrev pub onward : Shown → List Item → Pieces → Pieces
onward (character c b) is more = given (token.Character c b) is more
onward (active b) is more = given (token.Name b) is more
onward (named s) is more = name s is more
onward nothing is more = more
onward refused is more = invalid is

-- what a line gives over the items below, the first n bytes being taken already
abbrev pub line : Categories → List ℕ → ℕ → LineState → List Item → Pieces → Pieces
line cs [] n s below more = more
line cs (b ∷ bs) zero s below more =
    let p : Shown = piece_of cs s (b ∷ bs) in
    let n : ℕ = more_by cs bs (category cs b) in
    let t : LineState = state_after cs s p in
    onward p (left t (drop n bs) below) (line cs bs n t below more)
line cs (b ∷ bs) (suc n) s below more = line cs bs n s below more

abbrev pub pieces : Categories → List Item → Pieces
pieces cs [] = none
pieces cs (ready t ∷ is) = given t is (pieces cs is)
pieces cs (rest s bs ∷ is) = line cs bs 0 s is (pieces cs is)

-- the first piece of what is left of a line, and then what the items behind it give
abbrev pub First : Categories → LineState → List ℕ → List Item → Pieces
First cs s bs is =
    let p : Shown = piece_of cs s bs in
    let rest_behind : List Item = left (state_after cs s p) (drop (taken_of cs s bs) bs) is in
    onward p rest_behind (pieces cs rest_behind)
