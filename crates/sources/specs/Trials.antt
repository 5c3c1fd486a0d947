-- Worked cases of the line rules: what reads of a text answer, one after another, at first.
--   text_reads    the answers of some reads of a text, each fault with its place
--   first_reads   the same for a text that nothing was read of, under the first categories and names
--   LineCases     the cases
use Rattle.std.specs.Prelude.{◌≡◌, ℕ, zero, suc, List, [], ◌∷◌, Some, None, Ok, Err, codes, Option, Result}
use Rattle.tokens.specs.declared.token_category.TokenCategory.TheVariants.{Space, Letter}
use Rattle.tokens.specs.declared.token.Token.{Token}
use Rattle.tokens.specs.declared.token.Token.TheVariants.{Name, Character}
use Rattle.tokens.specs.Firsts.{first_categories}
use Rattle.lines.specs.Line.{Item}
use Rattle.names.specs.Naming.{Spellings, first_names}
use Rattle.sources.specs.declared.fault.LineRefusal.TheVariants.{Invalid}
use Rattle.sources.specs.declared.fault.ReadRefusal.TheVariants as read
use Rattle.sources.specs.declared.fault.PileFault.{PileFault}
use Rattle.sources.specs.declared.fault.PileFault.TheVariants.{Line}
use Rattle.sources.specs.Ahead.{Ahead, ahead_of, head_answer, head_names, head_items}
use Rattle.sources.specs.Texts.{made_lines, whole, place_in}

abbrev pub text_reads : ℕ → List (List ℕ) → Spellings → List Item → List (Result (Option Token) PileFault)
text_reads zero ls ns is = []
text_reads (suc n) ls ns is =
    let a : Ahead = ahead_of first_categories ns is in
    head_answer (place_in ls (head_items a)) a ∷ text_reads n ls (head_names a) (head_items a)

abbrev pub first_reads : ℕ → List ℕ → List (Result (Option Token) PileFault)
first_reads n text = text_reads n (made_lines text) first_names (whole (made_lines text))

abbrev gives : Token → Result (Option Token) PileFault
gives t = Ok (Some t)

abbrev letter : ℕ → Result (Option Token) PileFault
letter b = gives (Character Letter b)

abbrev space : Result (Option Token) PileFault
space = gives (Character Space 32)

abbrev named : ℕ → Result (Option Token) PileFault
named n = gives (Name n)

abbrev end : Result (Option Token) PileFault
end = Ok None

pub record LineCases : Type 0 where
  pub empty_text : first_reads 1 [] ≡ end ∷ []
  -- a blank line is \par
  pub empty_line : first_reads 2 (10 ∷ []) ≡ named 257 ∷ end ∷ []
  pub two_blank_lines : first_reads 3 (10 ∷ 10 ∷ []) ≡ named 257 ∷ named 257 ∷ end ∷ []
  -- blanks in a row are one, and a comment takes the end of its line
  pub blanks : first_reads 4 (codes "a  b%") ≡ letter 97 ∷ space ∷ letter 98 ∷ end ∷ []
  -- \let takes the blanks behind it; the end of the line is a space
  pub blanks_behind_letters : first_reads 4 (codes "\\let  x") ≡ named 260 ∷ letter 120 ∷ space ∷ end ∷ []
  -- a name of one byte that is no letter takes none
  pub blank_behind_symbol : first_reads 4 (codes "\\+ a%") ≡ named 272 ∷ space ∷ letter 97 ∷ end ∷ []
  -- byte 127 is refused, and taken: the place is behind it
  pub invalid_byte : first_reads 4 (97 ∷ 127 ∷ 98 ∷ 37 ∷ []) ≡ letter 97 ∷ Err (Line (record { refusal = read.Line Invalid; place = record { line = 1; bytes = 2 } })) ∷ letter 98 ∷ end ∷ []
  -- ~ is active: the name with its code
  pub active : first_reads 2 (codes "~%") ≡ named 126 ∷ end ∷ []
  -- at the end of a line the escape takes byte 13 for a name
  pub escape_last : first_reads 3 (codes "a\\") ≡ letter 97 ∷ named 272 ∷ end ∷ []
