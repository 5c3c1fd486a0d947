-- What it is for tokens to be divided into a macro's arguments.
--   Parameters      the tokens before the first parameter, and of each parameter its delimiter: the tokens behind it up to the next
--                   parameter. A parameter whose delimiter is empty is undelimited
--   with_token, with_parameter  the parameters of a text with one more word in front
--   parameters_of   the parameters of a parameter text
--   words_of, delimiters_text, text_of  back: the words of tokens in front of a text, the text of delimiters, of parameters
--   front           all tokens but the last
--   ends_closed     whether the last token is a closing brace
--   within          tokens without the first and the last
--   is_group        whether tokens are one group: an opening brace, balanced tokens, a closing brace
--   stripped        tokens without their braces, if they are one group
--   First           in a run and its delimiter, the delimiter stands behind balanced tokens at the end alone
--   Taken           a parameter with a delimiter takes these tokens; the argument that they give, and how many tokens count for it
--   Divided         parameters with some delimiters take these tokens, one parameter behind another; the arguments, and how many tokens count
--   Permitted, AllPermitted  an argument holds no name 257, and none of them does, unless the macro is long
--   Shape           the tokens, all of them, are the text before and what the arguments take; how many count for these
--   most            how many tokens may count for the arguments of a call
--   Division        the tokens, all of them, are a call's: they have that shape, and its arguments are permitted and not too long
use Rattle.std.specs.Prelude.{◌≡◌, ℕ, ◌+◌, ◌≤◌, Bool, true, false, cond, not, ◌&&◌, List, [], ◌∷◌, ◌++◌, length}
use Rattle.tokens.specs.declared.token.Token.{Token}
use Rattle.tokens.specs.declared.stored.ParameterWord.{ParameterWord}
use Rattle.tokens.specs.declared.stored.ParameterWord.TheVariants as word
use Rattle.matching.specs.Braces.{is_open, is_close, is_blank, all_blank, has_par, Balanced, is_balanced}

pub record Parameters : Type 0 where
  pub before : List Token
  pub delimiters : List (List Token)

abbrev pub with_token : Token → Parameters → Parameters
with_token t p = record { before = t ∷ p.before; delimiters = p.delimiters }

-- what stands before the next parameter is the delimiter of this one
abbrev pub with_parameter : Parameters → Parameters
with_parameter p = record { before = []; delimiters = p.before ∷ p.delimiters }

abbrev pub parameters_of : List ParameterWord → Parameters
parameters_of [] = record { before = []; delimiters = [] }
parameters_of (word.Token t ∷ ws) = with_token t (parameters_of ws)
parameters_of (word.Parameter ∷ ws) = with_parameter (parameters_of ws)

abbrev pub words_of : List Token → List ParameterWord → List ParameterWord
words_of [] ws = ws
words_of (t ∷ ts) ws = word.Token t ∷ words_of ts ws

abbrev pub delimiters_text : List (List Token) → List ParameterWord
delimiters_text [] = []
delimiters_text (d ∷ ds) = word.Parameter ∷ words_of d (delimiters_text ds)

abbrev pub text_of : Parameters → List ParameterWord
text_of p = words_of p.before (delimiters_text p.delimiters)

abbrev pub front : List Token → List Token
front [] = []
front (t ∷ []) = []
front (t ∷ (u ∷ ts)) = t ∷ front (u ∷ ts)

abbrev pub ends_closed : List Token → Bool
ends_closed [] = false
ends_closed (t ∷ []) = is_close t
ends_closed (t ∷ (u ∷ ts)) = ends_closed (u ∷ ts)

abbrev pub is_group : List Token → Bool
is_group [] = false
is_group (t ∷ ts) = is_open t && (ends_closed ts && is_balanced (front ts))

abbrev pub within : List Token → List Token
within [] = []
within (t ∷ ts) = front ts

abbrev pub stripped : List Token → List Token
stripped ts = cond (is_group ts) (within ts) ts

abbrev pub First : List Token → List Token → Type 0
First d run = (r rest : List Token) → run ++ d ≡ r ++ (d ++ rest) → Balanced r → rest ≡ []

pub data Taken : List Token → List Token → List Token → ℕ → Type 0 where
  single : (blanks : List Token) (t : Token) → all_blank blanks ≡ true → is_blank t ≡ false → is_open t ≡ false → is_close t ≡ false
      → Taken [] (blanks ++ t ∷ []) (t ∷ []) 1
  group : (blanks : List Token) (o : Token) (inner : List Token) (c : Token) → all_blank blanks ≡ true → is_open o ≡ true → Balanced inner → is_close c ≡ true
      → Taken [] (blanks ++ o ∷ (inner ++ c ∷ [])) inner (length inner + 2)
  delimited : (x : Token) (d run : List Token) → Balanced run → First (x ∷ d) run
      → Taken (x ∷ d) (run ++ x ∷ d) (stripped run) (length run)

pub data Divided : List (List Token) → List Token → List (List Token) → ℕ → Type 0 where
  done : Divided [] [] [] 0
  next : {d ts a us : List Token} {n m : ℕ} {ds args : List (List Token)} → Taken d ts a n → Divided ds us args m
      → Divided (d ∷ ds) (ts ++ us) (a ∷ args) (n + m)

abbrev pub Permitted : Bool → List Token → Type 0
Permitted long a = (not long && has_par a) ≡ false

abbrev pub AllPermitted : Bool → List (List Token) → Type 0
AllPermitted long [] = Unit {0}
AllPermitted long (a ∷ args) = Permitted long a × AllPermitted long args

pub record Shape (p : Parameters) (ts : List Token) (args : List (List Token)) (counted : ℕ) : Type 0 where
  pub rest : List Token
  pub begins : ts ≡ p.before ++ rest
  pub divides : Divided p.delimiters rest args counted

abbrev pub most : ℕ
most = 4096

pub record Division (p : Parameters) (long : Bool) (ts : List Token) (args : List (List Token)) : Type 0 where
  pub counted : ℕ
  pub shape : Shape p ts args counted
  pub permitted : AllPermitted long args
  pub fits : counted ≤ most
