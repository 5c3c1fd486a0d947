-- Tests of tokens, and how deep braces are.
--   is_open, is_close   an explicit brace: a character of category 1, of category 2
--   is_blank            the character 32 of category 10
--   is_par              the name 257, by its number
--   same_token          whether two tokens are the same
--   is_front            whether a list of tokens is the beginning of another
--   all_blank, has_par, has_close  whether each token is blank; whether one is the name 257, a closing brace
--   lowered             one less deep; none at 0
--   passed              the depth behind a token; none where it closes a brace that was not opened
--   deeper_from         the depth behind some tokens, from a depth, if there is one
--   deeper              the depth behind some tokens
--   Balanced            every brace that opens in the tokens closes in them, and none other closes
--   is_zero             whether there is a depth, and it is 0
--   is_balanced         whether tokens are balanced
use Rattle.std.specs.Prelude.{◌≡◌, ℕ, zero, suc, Bool, true, false, cond, ◌&&◌, ◌||◌, List, [], ◌∷◌, Some, None, Option, ◌==◌}
use Rattle.tokens.specs.declared.token.Token.{Token}
use Rattle.tokens.specs.declared.token.Token.TheVariants.{Name, Character}
use Rattle.tokens.specs.Categories.{token_number_of}

abbrev pub is_open : Token → Bool
is_open (Name n) = false
is_open (Character c b) = token_number_of c == 1

abbrev pub is_close : Token → Bool
is_close (Name n) = false
is_close (Character c b) = token_number_of c == 2

abbrev pub is_blank : Token → Bool
is_blank (Name n) = false
is_blank (Character c b) = token_number_of c == 10 && b == 32

abbrev pub is_par : Token → Bool
is_par (Name n) = n == 257
is_par (Character c b) = false

abbrev pub same_token : Token → Token → Bool
same_token (Name n) (Name m) = n == m
same_token (Name n) (Character c b) = false
same_token (Character c b) (Name n) = false
same_token (Character c b) (Character d e) = token_number_of c == token_number_of d && b == e

abbrev pub is_front : List Token → List Token → Bool
is_front [] ds = true
is_front (t ∷ ts) [] = false
is_front (t ∷ ts) (d ∷ ds) = same_token t d && is_front ts ds

abbrev pub all_blank : List Token → Bool
all_blank [] = true
all_blank (t ∷ ts) = is_blank t && all_blank ts

abbrev pub has_par : List Token → Bool
has_par [] = false
has_par (t ∷ ts) = is_par t || has_par ts

abbrev pub has_close : List Token → Bool
has_close [] = false
has_close (t ∷ ts) = is_close t || has_close ts

abbrev pub lowered : ℕ → Option ℕ
lowered zero = None
lowered (suc n) = Some n

abbrev pub passed : Option ℕ → Token → Option ℕ
passed None t = None
passed (Some n) t = cond (is_open t) (Some (suc n)) (cond (is_close t) (lowered n) (Some n))

abbrev pub deeper_from : Option ℕ → List Token → Option ℕ
deeper_from o [] = o
deeper_from o (t ∷ ts) = deeper_from (passed o t) ts

abbrev pub deeper : ℕ → List Token → Option ℕ
deeper n ts = deeper_from (Some n) ts

abbrev pub Balanced : List Token → Type 0
Balanced ts = deeper 0 ts ≡ Some 0

abbrev pub is_zero : Option ℕ → Bool
is_zero None = false
is_zero (Some n) = n == 0

abbrev pub is_balanced : List Token → Bool
is_balanced ts = is_zero (deeper 0 ts)
