-- The tasks under way.
--   tasks_of         the tasks, the newest first
--   joint            two prefixes together
--   is_prefix        whether the newest task is a prefix
--   prefixed         a prefix that is the newest task, with another together
--   waiting_of       the tokens that wait at the newest end, the oldest of them first
--   beyond_waiting   the tasks behind these
use Rattle.std.specs.Prelude.{ℕ, Bool, true, false, ◌||◌, List, [], ◌∷◌, ◌++◌}
use Rattle.tokens.specs.declared.token.Token.{Token}
use Rattle.pending.specs.declared.task.Prefix.{Prefix}
use Rattle.pending.specs.declared.task.Task.{Task}
use Rattle.pending.specs.declared.task.Task.TheVariants as task
use Rattle.pending.specs.declared.task.Task.TheVariants.{After}
use Rattle.pending.specs.declared.stack.Stack.{Stack}
use Rattle.pending.specs.Stacked.{items_of}

abbrev pub tasks_of : {n : ℕ} → Stack Task n → List Task
tasks_of s = items_of s

abbrev pub joint : Prefix → Prefix → Prefix
joint p q = record { global = p.global || q.global; long = p.long || q.long }

abbrev pub is_prefix : List Task → Bool
is_prefix [] = false
is_prefix (After t ∷ ts) = false
is_prefix (task.Prefix p ∷ ts) = true

abbrev pub prefixed : Prefix → List Task → List Task
prefixed q [] = []
prefixed q (After t ∷ ts) = After t ∷ ts
prefixed q (task.Prefix p ∷ ts) = task.Prefix (joint p q) ∷ ts

abbrev pub waiting_of : List Task → List Token
waiting_of [] = []
waiting_of (After t ∷ ts) = waiting_of ts ++ (t ∷ [])
waiting_of (task.Prefix p ∷ ts) = []

abbrev pub beyond_waiting : List Task → List Task
beyond_waiting [] = []
beyond_waiting (After t ∷ ts) = beyond_waiting ts
beyond_waiting (task.Prefix p ∷ ts) = task.Prefix p ∷ ts
