-- What reading a word gives.
use Rattle.std.proofs.Common.{ℕ, IfSome, IfOk, Some, None, Option, refl}
use Rattle.std.specs.Option.{ok_or}
use Rattle.tokens.specs.Words.{token_of, answer_of, ReadsToken, ReadsAnswer}
use Rattle.tokens.proofs.Tokens.{token_back, token_worded}
use Rattle.tokens.proofs.Answering.{answer_back, answer_worded}

-- a fact about what an option holds, about what it gives with an error instead of nothing
held : {T E : Type 0} (P : T → Type 0) (o : Option T) (e : E) → IfSome o P → IfOk (ok_or o e) P
held P None e h = tt
held P (Some x) e h = h

pub token_read : (w : ℕ) → ReadsToken w (ok_or (token_of w) (record { 0 = w }))
token_read w = (refl, held _ (token_of w) _ (token_worded w), λ t h p. rw (token_back t h w p) refl)

pub answer_read : (w : ℕ) → ReadsAnswer w (ok_or (answer_of w) (record { 0 = w }))
answer_read w = (refl, held _ (answer_of w) _ (answer_worded w), λ a h p. rw (answer_back a h w p) refl)
