-- The words of tokens and answers: 32 bits, the kind in the four highest.
--   word_of       the word of a token: kind, then a name's number or a character's code
--   token_of      the token of a word, if it is one
--   Held          the numbers that a token of the program can hold
--   answer_word   the word of an answer; End and Working have none
--   answer_of     the answer of a word, if it is one
--   HeldAnswer    the numbers that an answer of the program can hold
--   ReadsToken    what reading a token's word gives: the one token that has it, or an error with the word
--   ReadsAnswer   the same of an answer
use Rattle.std.specs.Prelude.{ℕ, ◌+◌, ◌*◌, ◌/◌, ◌%◌, ◌^◌, ◌<◌, cond, Some, None, Option, ◌==◌, nat_lt, ◌≡◌, Result, Ok, IfOk}
use Rattle.std.specs.Option.{option_map, ok_or}
use Rattle.tokens.specs.declared.token.Token.{Token}
use Rattle.tokens.specs.declared.token.Token.TheVariants.{Name, Character}
use Rattle.tokens.specs.declared.answer.GroupKind.{GroupKind}
use Rattle.tokens.specs.declared.answer.GroupKind.TheVariants.{Brace, BeginGroup, Host}
use Rattle.tokens.specs.declared.answer.Scope.{Scope}
use Rattle.tokens.specs.declared.answer.Scope.TheVariants.{Local, Global}
use Rattle.tokens.specs.declared.answer.Entry.{Entry}
use Rattle.tokens.specs.declared.answer.Entry.TheVariants as entry
use Rattle.tokens.specs.declared.answer.Answer.{Answer}
use Rattle.tokens.specs.declared.answer.Answer.TheVariants.{Delivered, Opened, Closed, Assigned, End, Working}
use Rattle.tokens.specs.declared.unknown.Unknown.{Unknown}
use Rattle.tokens.specs.Categories.{number_of, category_of, token_number_of, token_category_of}

-- a kind and the bits below it
abbrev pub word : ℕ → ℕ → ℕ
word kind low = kind * 2 ^ 28 + low

abbrev pub word_of : Token → ℕ
word_of (Name n) = n
word_of (Character c b) = word (token_number_of c) b

abbrev pub token_by_kind : ℕ → ℕ → Option Token
token_by_kind kind low =
    cond (kind == 0) (cond (nat_lt low (2 ^ 16)) (Some (Name low)) None)
    (cond (nat_lt low (2 ^ 8)) (option_map (λ c. Character c low) (token_category_of kind)) None)

abbrev pub token_of : ℕ → Option Token
token_of w = token_by_kind (w / 2 ^ 28) (w % 2 ^ 28)

abbrev pub Held : Token → Type 0
Held (Name n) = n < 2 ^ 16
Held (Character c b) = b < 2 ^ 8

abbrev pub group_number : GroupKind → ℕ
group_number Brace = 0
group_number BeginGroup = 1
group_number Host = 2

abbrev pub group_of : ℕ → Option GroupKind
group_of n = cond (n == 0) (Some Brace) (cond (n == 1) (Some BeginGroup) (cond (n == 2) (Some Host) None))

-- bit 27 is set if the assignment is global
abbrev pub scope_bits : Scope → ℕ
scope_bits Local = 0
scope_bits Global = 2 ^ 27

abbrev pub scope_of : ℕ → Scope
scope_of bit = cond (bit == 0) Local Global

-- bit 26 is set if it is to a code: then its category and the code, else a name's number
abbrev pub entry_bits : Entry → ℕ
entry_bits (entry.Name n) = n
entry_bits (entry.Code b c) = 2 ^ 26 + (number_of c * 2 ^ 8 + b)

abbrev pub entry_by_bit : ℕ → ℕ → Option Entry
entry_by_bit bit low =
    cond (bit == 0) (cond (nat_lt low (2 ^ 16)) (Some (entry.Name low)) None)
    (option_map (λ c. entry.Code (low % 2 ^ 8) c) (category_of (low / 2 ^ 8)))

abbrev pub entry_of : ℕ → Option Entry
entry_of low = entry_by_bit (low / 2 ^ 26) (low % 2 ^ 26)

abbrev pub HeldEntry : Entry → Type 0
HeldEntry (entry.Name n) = n < 2 ^ 16
HeldEntry (entry.Code b c) = b < 2 ^ 8

abbrev pub answer_word : Answer → Option ℕ
answer_word (Delivered t) = Some (word_of t)
answer_word (Opened g) = Some (word 13 (group_number g))
answer_word (Closed g) = Some (word 14 (group_number g))
answer_word (Assigned s e) = Some (word 15 (scope_bits s + entry_bits e))
answer_word End = None
answer_word Working = None

abbrev pub assigned_of : ℕ → Option Answer
assigned_of low = option_map (λ e. Assigned (scope_of (low / 2 ^ 27)) e) (entry_of (low % 2 ^ 27))

abbrev pub answer_by_kind : ℕ → ℕ → Option Answer
answer_by_kind kind low =
    cond (kind == 13) (option_map Opened (group_of low))
    (cond (kind == 14) (option_map Closed (group_of low))
    (cond (kind == 15) (assigned_of low)
    (option_map Delivered (token_by_kind kind low))))

abbrev pub answer_of : ℕ → Option Answer
answer_of w = answer_by_kind (w / 2 ^ 28) (w % 2 ^ 28)

abbrev pub HeldAnswer : Answer → Type 0
HeldAnswer (Delivered t) = Held t
HeldAnswer (Opened g) = Unit {0}
HeldAnswer (Closed g) = Unit {0}
HeldAnswer (Assigned s e) = HeldEntry e
HeldAnswer End = Unit {0}
HeldAnswer Working = Unit {0}

abbrev pub ReadsToken : ℕ → Result Token Unknown → Type 0
ReadsToken w r =
    (r ≡ ok_or (token_of w) (record { 0 = w })) × IfOk r (λ t. word_of t ≡ w) × ((t : Token) → Held t → word_of t ≡ w → r ≡ Ok t)

abbrev pub ReadsAnswer : ℕ → Result Answer Unknown → Type 0
ReadsAnswer w r =
    (r ≡ ok_or (answer_of w) (record { 0 = w })) × IfOk r (λ a. answer_word a ≡ Some w)
    × ((a : Answer) → HeldAnswer a → answer_word a ≡ Some w → r ≡ Ok a)
