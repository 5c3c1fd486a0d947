-- What a body gives, word by word.
use Rattle.std.proofs.Common.{◌≡◌, ℕ, ◌+◌, ◌<◌, List, ◌∷◌, ◌++◌, length, get_or, drop, sym, ap, ◌∙◌}
use Rattle.std.proofs.lemmas.List.{length-append, append_assoc, at_drop_more}
use Rattle.tokens.specs.declared.token.Token.{Token}
use Rattle.tokens.specs.declared.stored.BodyWord.{BodyWord}
use Rattle.expanding.specs.Substituting.{word_tokens, substituted}

module _ (args : List (List Token)) (body : List BodyWord) (i : ℕ) (d w : BodyWord) (h : i < length body) (e : get_or body i d ≡ w) where
  pub from_word : substituted args (drop i body) ≡ word_tokens args w ++ substituted args (drop (i + 1) body)
  from_word = at_drop_more (substituted args) body i d h ∙ ap (λ (u : BodyWord). substituted args (u ∷ drop (i + 1) body)) e

  pub long_word : length (substituted args (drop i body)) ≡ length (word_tokens args w) + length (substituted args (drop (i + 1) body))
  long_word = ap length from_word ∙ length-append (word_tokens args w) (substituted args (drop (i + 1) body))

  pub written : (ts us : List Token) → us ≡ ts ++ word_tokens args w → us ++ substituted args (drop (i + 1) body) ≡ ts ++ substituted args (drop i body)
  written ts us f = ap (λ (z : List Token). z ++ substituted args (drop (i + 1) body)) f ∙ append_assoc ts (word_tokens args w) (substituted args (drop (i + 1) body)) ∙ ap (λ (z : List Token). ts ++ z) (sym from_word)
