-- The same as spelled: two numbers under two lists of spellings, and what is built of them.
--   Spells                   a number has a spelling
--   SameName                 two numbers of names: the same active character, or names that spell the same
--   SameToken, SameItem      two tokens, two items
--   Each                     two lists as long as one another, related member by member
--   SameWord                 two words that are inserted: tokens that are the same, the same word that is no token, or the same number without a spelling
--   SameCall                 two calls
--   SameAnswer, SameResult   two answers; two answers or faults
use Rattle.std.specs.Prelude.{◌≡◌, ℕ, ◌<◌, ◌≤◌, List, [], ◌∷◌, Some, None, Ok, Err, Result}
use Rattle.tokens.specs.declared.category.Category.{Category}
use Rattle.tokens.specs.declared.token_category.TokenCategory.{TokenCategory}
use Rattle.tokens.specs.declared.token.Token.{Token}
use Rattle.tokens.specs.declared.token.Token.TheVariants.{Name, Character}
use Rattle.tokens.specs.declared.answer.GroupKind.{GroupKind}
use Rattle.tokens.specs.declared.answer.Scope.{Scope}
use Rattle.tokens.specs.declared.answer.Entry.{Entry}
use Rattle.tokens.specs.declared.answer.Entry.TheVariants as entry
use Rattle.tokens.specs.declared.answer.Answer.{Answer}
use Rattle.tokens.specs.declared.answer.Answer.TheVariants.{Delivered, Opened, Closed, Assigned, End, Working}
use Rattle.tokens.specs.Words.{token_of}
use Rattle.lines.specs.declared.piece.LineState.{LineState}
use Rattle.lines.specs.Line.{Item, ready, rest}
use Rattle.names.specs.Naming.{Spellings, spelling_in, taken_in}
use Rattle.rules.specs.Refusals.{Fault}
use Rattle.rules.specs.Calling.{Call, stepping, inserting, binding, opening, closing}

abbrev pub Spells : Spellings → ℕ → List ℕ → Type 0
Spells ns n s = spelling_in ns n ≡ Some s

pub data SameName (ms ns : Spellings) : ℕ → ℕ → Type 0 where
  active : {n : ℕ} → n < 256 → SameName ms ns n n
  alike : {m n : ℕ} (s : List ℕ) → Spells ms m s → Spells ns n s → SameName ms ns m n

pub data SameToken (ms ns : Spellings) : Token → Token → Type 0 where
  same_name : {m n : ℕ} → SameName ms ns m n → SameToken ms ns (Name m) (Name n)
  same_character : {c : TokenCategory} {x : ℕ} → SameToken ms ns (Character c x) (Character c x)

pub data SameItem (ms ns : Spellings) : Item → Item → Type 0 where
  same_ready : {t u : Token} → SameToken ms ns t u → SameItem ms ns (ready t) (ready u)
  same_rest : {s : LineState} {bs : List ℕ} → SameItem ms ns (rest s bs) (rest s bs)

pub data Each {A : Type 0} (R : A → A → Type 0) : List A → List A → Type 0 where
  no_more : Each R [] []
  and : {a b : A} {xs ys : List A} → R a b → Each R xs ys → Each R (a ∷ xs) (b ∷ ys)

pub data SameWord (ms ns : Spellings) : ℕ → ℕ → Type 0 where
  tokens : {v w : ℕ} (t u : Token) → token_of v ≡ Some t → token_of w ≡ Some u → SameToken ms ns t u → SameWord ms ns v w
  no_token : {w : ℕ} → token_of w ≡ None → SameWord ms ns w w
  unspelled : {w : ℕ} (n : ℕ) → token_of w ≡ Some (Name n) → taken_in ms ≤ n → taken_in ns ≤ n → SameWord ms ns w w

pub data SameCall (ms ns : Spellings) : Call → Call → Type 0 where
  same_step : SameCall ms ns stepping stepping
  same_insert : {vs ws : List ℕ} → Each (SameWord ms ns) vs ws → SameCall ms ns (inserting vs) (inserting ws)
  same_bind : {sc : Scope} {name xs : List ℕ} → SameCall ms ns (binding sc name xs) (binding sc name xs)
  same_open : SameCall ms ns opening opening
  same_close : SameCall ms ns closing closing

pub data SameEntry (ms ns : Spellings) : Entry → Entry → Type 0 where
  names : {m n : ℕ} → SameName ms ns m n → SameEntry ms ns (entry.Name m) (entry.Name n)
  codes : {x : ℕ} {c : Category} → SameEntry ms ns (entry.Code x c) (entry.Code x c)

pub data SameAnswer (ms ns : Spellings) : Answer → Answer → Type 0 where
  same_delivered : {t u : Token} → SameToken ms ns t u → SameAnswer ms ns (Delivered t) (Delivered u)
  same_opened : {k : GroupKind} → SameAnswer ms ns (Opened k) (Opened k)
  same_closed : {k : GroupKind} → SameAnswer ms ns (Closed k) (Closed k)
  same_assigned : {sc : Scope} {d e : Entry} → SameEntry ms ns d e → SameAnswer ms ns (Assigned sc d) (Assigned sc e)
  same_end : SameAnswer ms ns End End
  same_working : SameAnswer ms ns Working Working

pub data SameResult (ms ns : Spellings) : Result Answer Fault → Result Answer Fault → Type 0 where
  both_answer : {a b : Answer} → SameAnswer ms ns a b → SameResult ms ns (Ok a) (Ok b)
  both_refused : {f : Fault} → SameResult ms ns (Err f) (Err f)
