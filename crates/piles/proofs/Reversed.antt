-- A list read from its end.
use Rattle.std.proofs.Common.{◌≡◌, ℕ, ◌+◌, ◌-◌, ◌≤◌, leb, List, [], ◌∷◌, ◌++◌, reverse, length, IfNone, Some, None, Option, sym, refl, ap, ◌∙◌, arith}
use Rattle.std.specs.Option.{option_to_list}
use Rattle.std.proofs.lemmas.List.{reverse-append, append-nil, append_assoc, length_push}
use Rattle.std.proofs.lemmas.Bool.Decides.{nat_tests}
use Rattle.tokens.specs.declared.token.Token.{Token}
use Rattle.tokens.specs.Words.{token_of}
use Rattle.piles.specs.Inserting.{tokens_in}

put_end : (ts : List Token) (t : Token) → reverse (ts ++ (t ∷ [])) ≡ t ∷ reverse ts
put_end ts t = reverse-append ts (t ∷ [])

pub take_end : (ts : List Token) (o : Option Token) → reverse (ts ++ option_to_list o) ≡ option_to_list o ++ reverse ts
take_end ts None = ap reverse (append-nil ts)
take_end ts (Some t) = put_end ts t

pub nothing_left : (ts : List Token) (o : Option Token) → (o ≡ None → length ts ≡ 0) → IfNone o (reverse ts ≡ [])
nothing_left ts (Some t) h = tt
nothing_left [] None h = refl
nothing_left (t ∷ ts) None h = let e = h refl in absurd (omega arith)

pub fits_same : (a n : ℕ) → n ≤ 4096 → leb a (4096 - n) ≡ leb (a + n) 4096
fits_same a n h = grind (arith, nat_tests)

-- a list goes over to another, from its end: what is left of it, then what was there
pub nothing_over : {X : Type 0} (rest : List X) (held all : List Token) (of : List X → List Token) → length rest ≡ 0 → of [] ≡ [] → of rest ++ held ≡ all → held ≡ all
nothing_over [] held all of h e f = ap (λ l. l ++ held) (sym e) ∙ f
nothing_over (x ∷ rest) held all of h e f = absurd (omega arith)

length_more : {X : Type 0} (rest less : List X) (x : X) → rest ≡ less ++ (x ∷ []) → length rest ≡ length less + 1
length_more rest less x e = ap length e ∙ length_push less x

-- the count of both together is kept, or falls
pub length_over : {X : Type 0} (rest less : List X) (x : X) (n m : ℕ) → rest ≡ less ++ (x ∷ []) → m ≤ n + 1 → length rest + n ≤ 4096 → length less + m ≤ 4096
length_over rest less x n m e h k = omega (arith, length_more rest less x e)

pub put_over : (rest less held after all : List Token) (t : Token) → rest ≡ less ++ (t ∷ []) → after ≡ held ++ (t ∷ []) → rest ++ reverse held ≡ all → less ++ reverse after ≡ all
put_over rest less held after all t e f h =
    ap (λ l. less ++ l) (ap reverse f ∙ put_end held t) ∙ sym (append_assoc less (t ∷ []) (reverse held)) ∙ ap (λ l. l ++ reverse held) (sym e) ∙ h

tokens_append : (vs ws : List ℕ) → tokens_in (vs ++ ws) ≡ tokens_in vs ++ tokens_in ws
tokens_append [] ws = refl
tokens_append (v ∷ vs) ws = ap (λ l. option_to_list (token_of v) ++ l) (tokens_append vs ws) ∙ sym (append_assoc (option_to_list (token_of v)) (tokens_in vs) (tokens_in ws))

tokens_end : (rest less : List ℕ) (w : ℕ) (o : Option Token) → rest ≡ less ++ (w ∷ []) → o ≡ token_of w → tokens_in rest ≡ tokens_in less ++ option_to_list o
tokens_end rest less w o e f = ap tokens_in e ∙ tokens_append less (w ∷ []) ∙ ap (λ l. tokens_in less ++ l) (append-nil (option_to_list (token_of w)) ∙ ap option_to_list (sym f))

pub word_over : (rest less : List ℕ) (w : ℕ) (held after all : List Token) (t : Token) → rest ≡ less ++ (w ∷ []) → Some t ≡ token_of w → after ≡ held ++ (t ∷ []) → tokens_in rest ++ reverse held ≡ all → tokens_in less ++ reverse after ≡ all
word_over rest less w held after all t e o f h = put_over (tokens_in rest) (tokens_in less) held after all t (tokens_end rest less w (Some t) e o) f h

pub word_skipped : (rest less : List ℕ) (w : ℕ) (held all : List Token) → rest ≡ less ++ (w ∷ []) → None ≡ token_of w → tokens_in rest ++ held ≡ all → tokens_in less ++ held ≡ all
word_skipped rest less w held all e o h = ap (λ l. l ++ held) (sym (tokens_end rest less w None e o ∙ append-nil (tokens_in less))) ∙ h
