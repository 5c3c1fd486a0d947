-- A piece takes at least one byte of a line that has one, and no more than there are.
use Rattle.std.proofs.Common.{ℕ, ◌<◌, ◌≤◌, List, [], ◌∷◌, length, arith}
use Rattle.std.proofs.lemmas.Bool.{cond_both}
use Rattle.tokens.specs.declared.category.Category.{Category}
use Rattle.tokens.specs.declared.category.Category.TheVariants.{Escape, Open, Close, Math, Align, EndLine, Parameter, Superscript, Subscript, Ignored, Space, Letter, Other, Active, Comment, Invalid}
use Rattle.lines.specs.declared.piece.LineState.{LineState}
use Rattle.lines.specs.Line.{Categories, category, is_letter, letters, escaped, more_by, taken_of}

module _ (cs : Categories) where
  letters_within : (bs : List ℕ) → length (letters cs bs) ≤ length bs
  letters_within [] = omega arith
  letters_within (b ∷ bs) = cond_both (is_letter (category cs b)) (b ∷ letters cs bs) [] (λ l. length l ≤ length (b ∷ bs)) (λ _. omega (arith, letters_within bs)) (λ _. omega arith)

  escaped_within : (bs : List ℕ) → length (escaped cs bs) ≤ length bs
  escaped_within [] = omega arith
  escaped_within (b ∷ bs) = cond_both (is_letter (category cs b)) (letters cs bs) [] (λ l. length (b ∷ l) ≤ length (b ∷ bs)) (λ _. omega (arith, letters_within bs)) (λ _. omega arith)

  more_within : (bs : List ℕ) (c : Category) → more_by cs bs c ≤ length bs
  more_within bs Escape = escaped_within bs
  more_within bs Open = omega arith
  more_within bs Close = omega arith
  more_within bs Math = omega arith
  more_within bs Align = omega arith
  more_within bs EndLine = omega arith
  more_within bs Parameter = omega arith
  more_within bs Superscript = omega arith
  more_within bs Subscript = omega arith
  more_within bs Ignored = omega arith
  more_within bs Space = omega arith
  more_within bs Letter = omega arith
  more_within bs Other = omega arith
  more_within bs Active = omega arith
  more_within bs Comment = omega arith
  more_within bs Invalid = omega arith

  pub taken_within : (s : LineState) (bs : List ℕ) → taken_of cs s bs ≤ length bs
  taken_within s [] = omega arith
  taken_within s (b ∷ bs) = omega (arith, more_within bs (category cs b))

  pub taken_some : (s : LineState) (bs : List ℕ) → 0 < length bs → 0 < taken_of cs s bs
  taken_some s [] h = absurd (omega arith)
  taken_some s (b ∷ bs) h = omega arith
