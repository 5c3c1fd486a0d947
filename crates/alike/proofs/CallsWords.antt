-- A macro's words that are related one by one: its parameters, the start of its call, and its body with arguments.
--   LikeParameterWord, LikeBodyWord  two words, over a relation on tokens
--   spelled_parameters, spelled_body  words that are the same as spelled are so related
--   parameters_same   the parameters of related parameter texts
--   begins_same       the start of a call, by its parameter text
--   word_tokens_same, substituted_same  the tokens of a word, and of a body, with related arguments
use Rattle.std.proofs.Common.{ℕ, zero, suc, List}
use Rattle.tokens.specs.declared.token.Token.{Token}
use Rattle.tokens.specs.declared.stored.ParameterWord.{ParameterWord}
use Rattle.tokens.specs.declared.stored.ParameterWord.TheVariants as parameter
use Rattle.tokens.specs.declared.stored.BodyWord.{BodyWord}
use Rattle.tokens.specs.declared.stored.BodyWord.TheVariants as body
use Rattle.names.specs.Naming.{Spellings}
use Rattle.matching.specs.Dividing.{parameters_of}
use Rattle.matching.specs.Matching.{begin}
use Rattle.rules.specs.Expanding.{argument_at, word_tokens, substituted}
use Rattle.alike.specs.Same.{SameToken, Each, no_more, and}
use Rattle.alike.specs.Laws as same
use Rattle.alike.specs.Laws.{SameParameterWord, SameBodyWord}
use Rattle.alike.proofs.CallsEach.{each_on, each_++, each_at}
use Rattle.alike.proofs.CallsSame.{SameParameters, SameStep}
use Rattle.alike.proofs.CallsSteps.{begin_same}

pub data LikeParameterWord (R : Token → Token → Type 0) : ParameterWord → ParameterWord → Type 0 where
  like_token : {t u : Token} → R t u → LikeParameterWord R (parameter.Token t) (parameter.Token u)
  like_parameter : LikeParameterWord R parameter.Parameter parameter.Parameter

pub data LikeBodyWord (R : Token → Token → Type 0) : BodyWord → BodyWord → Type 0 where
  like_word : {t u : Token} → R t u → LikeBodyWord R (body.Token t) (body.Token u)
  like_reference : {n : ℕ} → LikeBodyWord R (body.Reference n) (body.Reference n)

module _ {ms ns : Spellings} where
  spelled_parameter : {p q : ParameterWord} → SameParameterWord ms ns p q → LikeParameterWord (SameToken ms ns) p q
  spelled_parameter (same.SameParameterWord.same_token r) = like_token r
  spelled_parameter same.same_parameter = like_parameter

  spelled_word : {v w : BodyWord} → SameBodyWord ms ns v w → LikeBodyWord (SameToken ms ns) v w
  spelled_word (same.SameBodyWord.same_token r) = like_word r
  spelled_word same.same_reference = like_reference

  pub spelled_parameters : {ps qs : List ParameterWord} → Each (SameParameterWord ms ns) ps qs → Each (LikeParameterWord (SameToken ms ns)) ps qs
  spelled_parameters p = each_on (λ v w r. spelled_parameter r) p

  pub spelled_body : {vs ws : List BodyWord} → Each (SameBodyWord ms ns) vs ws → Each (LikeBodyWord (SameToken ms ns)) vs ws
  spelled_body p = each_on (λ v w r. spelled_word r) p

module _ {R : Token → Token → Type 0} where
  pub parameters_same : {ps qs : List ParameterWord} → Each (LikeParameterWord R) ps qs → SameParameters R (parameters_of ps) (parameters_of qs)
  parameters_same no_more = record { before = no_more; delimiters = no_more }
  parameters_same (and (like_token r) p) =
      let h = parameters_same p in record { before = and r h.before; delimiters = h.delimiters }
  parameters_same (and like_parameter p) =
      let h = parameters_same p in record { before = no_more; delimiters = and h.before h.delimiters }

  pub begins_same : {ps qs : List ParameterWord} → Each (LikeParameterWord R) ps qs → SameStep R (begin (parameters_of ps)) (begin (parameters_of qs))
  begins_same p = begin_same (parameters_same p)

  argument_at_same : {args others : List (List Token)} → Each (Each R) args others → (n : ℕ) → Each R (argument_at args n) (argument_at others n)
  argument_at_same a zero = no_more
  argument_at_same a (suc n) = each_at a no_more n

  pub word_tokens_same : {args others : List (List Token)} {v w : BodyWord} → Each (Each R) args others → LikeBodyWord R v w → Each R (word_tokens args v) (word_tokens others w)
  word_tokens_same a (like_word r) = and r no_more
  word_tokens_same a (like_reference {n = n}) = argument_at_same a n

  pub substituted_same : {args others : List (List Token)} {vs ws : List BodyWord} → Each (Each R) args others → Each (LikeBodyWord R) vs ws
      → Each R (substituted args vs) (substituted others ws)
  substituted_same a no_more = no_more
  substituted_same a (and r p) = each_++ (word_tokens_same a r) (substituted_same a p)
