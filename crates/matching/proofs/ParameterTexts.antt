-- A parameter text and its parameters.
use Rattle.std.proofs.Common.{◌≡◌, false, List, [], ◌∷◌, length, refl, ap, arith}
use Rattle.std.proofs.lemmas.Bool.{or_parts, or_from}
use Rattle.tokens.specs.declared.stored.ParameterWord.{ParameterWord}
use Rattle.tokens.specs.declared.stored.ParameterWord.TheVariants as word
use Rattle.matching.specs.Braces.{is_close, has_close}
use Rattle.matching.specs.Dividing.{parameters_of, text_of}
use Rattle.matching.specs.Laws.{NoneCloses, has_closing, parameters_in, TextLaws}

whole : (text : List ParameterWord) → text_of (parameters_of text) ≡ text
whole [] = refl
whole (word.Token t ∷ ws) = ap (λ (k : List ParameterWord). word.Token t ∷ k) (whole ws)
whole (word.Parameter ∷ ws) = ap (λ (k : List ParameterWord). word.Parameter ∷ k) (whole ws)

none_closes : (text : List ParameterWord) → has_closing text ≡ false → (has_close (parameters_of text).before ≡ false) × NoneCloses (parameters_of text).delimiters
none_closes [] h = (refl, tt)
none_closes (word.Token t ∷ ws) h =
    let parts = or_parts (is_close t) (has_closing ws) h in
    let i = none_closes ws parts.1 in
    (or_from (is_close t) (has_close (parameters_of ws).before) parts.0 i.0, i.1)
none_closes (word.Parameter ∷ ws) h = (refl, none_closes ws h)

many : (text : List ParameterWord) → length (parameters_of text).delimiters ≡ parameters_in text
many [] = refl
many (word.Token t ∷ ws) = many ws
many (word.Parameter ∷ ws) = omega (arith, many ws)

pub text_laws : (text : List ParameterWord) → TextLaws text
text_laws text = record {
  whole = whole text;
  lawful = λ h n. ((none_closes text h).1, omega (arith, many text));
}
