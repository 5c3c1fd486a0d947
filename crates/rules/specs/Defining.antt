-- Reading a definition behind its name: the parameter text up to an opening brace, and the body up to the brace that closes it.
--   Definition     where reading is. in_text: in the parameter text, with its words and how many parameters it has; hash_in_text: behind a
--                  character of category 6 there; in_body: in the body, with the parameter text, its parameters, the body's words and
--                  how deep braces are; hash_in_body: behind a character of category 6 there
--   Defined        what comes of it: parameter text and body, or that it is broken, or too long
--   room           one word more, if 2,048 are not there yet
--   definition_feed one token: braces and digits are explicit characters, category 6 goes by meaning
use Rattle.std.specs.Prelude.{ℕ, zero, suc, ◌+◌, cond, ◌&&◌, List, [], ◌∷◌, ◌++◌, length, Some, None, Option, nat_le, nat_lt}
use Rattle.tokens.specs.declared.token.Token.{Token}
use Rattle.matching.specs.Matching.{Move, on, out}
use Rattle.tokens.specs.declared.stored.ParameterWord.{ParameterWord}
use Rattle.tokens.specs.declared.stored.ParameterWord.TheVariants as parameter
use Rattle.tokens.specs.declared.stored.BodyWord.{BodyWord}
use Rattle.tokens.specs.declared.stored.BodyWord.TheVariants as body
use Rattle.matching.specs.Braces.{is_open, is_close}
use Rattle.rules.specs.Tokens.{Meanings, is_hash, digit_of, is_digit}

pub data Definition : Type 0 where
  in_text hash_in_text : List ParameterWord → ℕ → Definition
  in_body hash_in_body : List ParameterWord → ℕ → List BodyWord → ℕ → Definition

pub data Defined : Type 0 where
  defines : List ParameterWord → List BodyWord → Defined
  broken too_long : Defined

abbrev pub room : ℕ → Definition → Move Definition Defined
room words next = cond (nat_lt words 2048) (on next) (out too_long)

abbrev pub one_parameter : List ParameterWord → ℕ → Definition
one_parameter ps k = in_text (ps ++ parameter.Parameter ∷ []) (suc k)

-- one word more in the body
abbrev pub one_more : List ParameterWord → ℕ → List BodyWord → BodyWord → ℕ → Move Definition Defined
one_more ps k bs w d = room (length ps + length bs) (in_body ps k (bs ++ w ∷ []) d)

abbrev pub closing : List ParameterWord → ℕ → List BodyWord → Token → ℕ → Move Definition Defined
closing ps k bs t zero = out (defines ps bs)
closing ps k bs t (suc d) = one_more ps k bs (body.Token t) d

-- a digit behind category 6 in the body: a reference to one of k parameters
abbrev pub referring : List ParameterWord → ℕ → List BodyWord → ℕ → Option ℕ → Move Definition Defined
referring ps k bs d None = out broken
referring ps k bs d (Some n) = cond (nat_le 1 n && nat_le n k) (one_more ps k bs (body.Reference n) d) (out broken)

abbrev pub definition_feed : Meanings → Definition → Token → Move Definition Defined
definition_feed f (in_text ps k) t =
    cond (is_open t) (on (in_body ps k [] 0))
    (cond (is_close t) (out broken)
    (cond (is_hash f t) (on (hash_in_text ps k)) (room (length ps) (in_text (ps ++ parameter.Token t ∷ []) k))))
definition_feed f (hash_in_text ps k) t = cond (nat_lt k 9 && is_digit (suc k) t) (room (length ps) (one_parameter ps k)) (out broken)
definition_feed f (in_body ps k bs d) t =
    cond (is_open t) (one_more ps k bs (body.Token t) (suc d))
    (cond (is_close t) (closing ps k bs t d)
    (cond (is_hash f t) (on (hash_in_body ps k bs d)) (one_more ps k bs (body.Token t) d)))
definition_feed f (hash_in_body ps k bs d) t = cond (is_hash f t) (one_more ps k bs (body.Token t) d) (referring ps k bs d (digit_of t))
