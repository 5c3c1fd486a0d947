-- Words and tokens give each other back.
use Rattle.std.proofs.Common.{◌≡◌, ℕ, ◌/◌, ◌%◌, ◌^◌, ◌<◌, eqb, ltb, IfSome, Some, None, Option, sym, ap, ◌∙◌, arith}
use Rattle.std.specs.Option.{option_map}
use Rattle.std.proofs.lemmas.Bool.{cond_both, eqb-true, lt-ltb}
use Rattle.std.proofs.lemmas.Nat.{shr_high, mod_low, shr_split}
use Rattle.tokens.specs.declared.token_category.TokenCategory.{TokenCategory}
use Rattle.tokens.specs.declared.token_category.TokenCategory.TheVariants as of_token
use Rattle.tokens.specs.declared.token.Token.{Token}
use Rattle.tokens.specs.declared.token.Token.TheVariants.{Name, Character}
use Rattle.tokens.specs.Categories.{token_number_of, token_category_of}
use Rattle.tokens.specs.Words.{word, word_of, token_by_kind, token_of, Held}
use Rattle.tokens.proofs.Numbers.{Numbered, token_category_number, token_category_below}

-- the fields of a word
pub kind_of : (kind low : ℕ) → low < 2 ^ 28 → word kind low / 2 ^ 28 ≡ kind
kind_of kind low h = shr_high kind 28 low h

pub low_of : (kind low : ℕ) → low < 2 ^ 28 → word kind low % 2 ^ 28 ≡ low
low_of kind low h = mod_low kind 28 low h

pub fields : (w : ℕ) → word (w / 2 ^ 28) (w % 2 ^ 28) ≡ w
fields w = shr_split w 28

by_kind : (c : TokenCategory) (b : ℕ) → b < 2 ^ 8 → token_by_kind (token_number_of c) b ≡ Some (Character c b)
by_kind of_token.Open b h = rw (lt-ltb b 256 h)
by_kind of_token.Close b h = rw (lt-ltb b 256 h)
by_kind of_token.Math b h = rw (lt-ltb b 256 h)
by_kind of_token.Align b h = rw (lt-ltb b 256 h)
by_kind of_token.Parameter b h = rw (lt-ltb b 256 h)
by_kind of_token.Superscript b h = rw (lt-ltb b 256 h)
by_kind of_token.Subscript b h = rw (lt-ltb b 256 h)
by_kind of_token.Space b h = rw (lt-ltb b 256 h)
by_kind of_token.Letter b h = rw (lt-ltb b 256 h)
by_kind of_token.Other b h = rw (lt-ltb b 256 h)

pub token_by_kind_lem : (t : Token) → Held t → (kind low : ℕ) → word_of t ≡ word kind low → low < 2 ^ 28 → token_by_kind kind low ≡ Some t
token_by_kind_lem (Name n) h kind low e l =
    let k : kind ≡ 0 = omega arith in
    let m : low ≡ n = omega arith in
    rw (k, m, lt-ltb n 65536 h)
token_by_kind_lem (Character c b) h kind low e l =
    let k : kind ≡ token_number_of c = omega arith in
    let m : low ≡ b = omega arith in
    rw (k, m) (by_kind c b h)

pub token_back : (t : Token) → Held t → (w : ℕ) → word_of t ≡ w → token_of w ≡ Some t
token_back t h w e = token_by_kind_lem t h (w / 2 ^ 28) (w % 2 ^ 28) (e ∙ sym (fields w)) (omega arith)

-- the word of what a kind and the bits below it give
abbrev pub Worded : ℕ → Option Token → Type 0
Worded w o = IfSome o (λ t. word_of t ≡ w)

characters : (kind low : ℕ) (o : Option TokenCategory) → Numbered token_number_of kind o → Worded (word kind low) (option_map (λ c. Character c low) o)
characters kind low None h = tt
characters kind low (Some c) h = ap (λ k. word k low) h

pub worded : (kind low : ℕ) → Worded (word kind low) (token_by_kind kind low)
worded kind low =
    cond_both (eqb kind 0) _ _ (Worded (word kind low))
    (λ e. cond_both (ltb low 65536) _ _ (Worded (word kind low)) (λ _. omega (arith, eqb-true kind 0 e)) (λ _. tt))
    (λ _. cond_both (ltb low 256) _ _ (Worded (word kind low)) (λ _. characters kind low (token_category_of kind) (token_category_number kind)) (λ _. tt))

pub token_worded : (w : ℕ) → Worded w (token_of w)
token_worded w = rw (fields w) at (worded (w / 2 ^ 28) (w % 2 ^ 28))

-- a token's kind is below those of the answers that are no tokens
pub token_kind : (t : Token) → Held t → (kind low : ℕ) → word_of t ≡ word kind low → low < 2 ^ 28 → kind < 13
token_kind (Name n) h kind low e l = omega arith
token_kind (Character c b) h kind low e l = omega (arith, token_category_below c)
