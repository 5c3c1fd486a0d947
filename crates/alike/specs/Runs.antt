-- Two runs that are answered alike.
--   ends_comparison   whether an answer is a refusal 13, 40 or 44, behind which nothing is compared
--   Unless            a fact, unless a test holds
--   Agree             two states answer the same calls alike, until the first such refusal of either; calls are compared under the names of
--                     their own moment, and answers under those behind them
use Rattle.std.specs.Prelude.{ℕ, Bool, true, false, ◌||◌, List, [], ◌∷◌, Ok, Err, Result, ◌==◌}
use Rattle.tokens.specs.declared.answer.Answer.{Answer}
use Rattle.rules.specs.Refusals.{Fault, cause_number}
use Rattle.rules.specs.States.{State}
use Rattle.rules.specs.Calling.{Call, perform}
use Rattle.alike.specs.Same.{SameCall, SameResult}

abbrev pub is_limit : ℕ → Bool
is_limit n = n == 13 || (n == 40 || n == 44)

abbrev pub ends_comparison : Result Answer Fault → Bool
ends_comparison (Ok a) = false
ends_comparison (Err f) = is_limit (cause_number f.cause)

abbrev pub Unless : Bool → Type 0 → Type 0
Unless true X = Unit {0}
Unless false X = X

abbrev pub Agree : State → State → List Call → List Call → Type 0
Agree a b [] ds = Unit {0}
Agree a b (c ∷ cs) [] = Unit {0}
Agree a b (c ∷ cs) (d ∷ ds) =
    SameCall a.stands.names b.stands.names c d
    → Unless (ends_comparison (perform a c).answer || ends_comparison (perform b d).answer)
    (SameResult (perform a c).state.stands.names (perform b d).state.stands.names (perform a c).answer (perform b d).answer
    × Agree (perform a c).state (perform b d).state cs ds)
