-- What rules that are fed tokens answer, and the count that a phase may hold.
--   meant    a move of the code, as the rules say it
--   Within   the phase that a move goes on to holds at most n
use Rattle.std.specs.Prelude.{ℕ, ◌≤◌}
use Rattle.std.specs.declared.ops.ControlFlow.{ControlFlow}
use Rattle.std.specs.declared.ops.ControlFlow.TheVariants.{Continue, Break}
use Rattle.matching.specs.Matching.{Move, on, out}

abbrev pub meant : {P O : Type 0} → ControlFlow O P → Move P O
meant (Continue p) = on p
meant (Break o) = out o

abbrev pub Within : {P O : Type 0} → (P → ℕ) → ℕ → Move P O → Type 0
Within held n (on p) = held p ≤ n
Within held n (out o) = Unit {0}
