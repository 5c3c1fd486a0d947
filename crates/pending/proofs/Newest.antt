-- The tasks, by what is done at the end of the list that holds them.
use Rattle.std.proofs.Common.{◌≡◌, ℕ, ◌-◌, ◌<◌, true, false, List, [], ◌∷◌, reverse, length, set, is_some, sym, refl, arith}
use Rattle.std.proofs.lemmas.List.{length-reverse}
use Rattle.arrayvec.specs.ArrayVec.{array_vec_len}
use Rattle.pending.specs.declared.stack.Stack.{Stack}
use Rattle.pending.specs.declared.task.Task.{Task}
use Rattle.pending.specs.Fronts.{front, refronted}
use Rattle.pending.specs.Underway.{tasks_of}
use Rattle.pending.proofs.Ends.{set_last}

some_front : {X : Type 0} (xs : List X) → 0 < length xs → true ≡ is_some (front xs)
some_front [] h = absurd (omega arith)
some_front (x ∷ xs) h = refl

none_front : {X : Type 0} (x : X) (xs : List X) → length xs ≡ 0 → (false ≡ is_some (front xs)) × (xs ≡ refronted x xs)
none_front x [] h = (refl, refl)
none_front x (y ∷ xs) h = absurd (omega arith)

module _ {n : ℕ} (s : Stack Task n) where
  pub tasks_count : array_vec_len s.held ≡ length (tasks_of s)
  tasks_count = sym (length-reverse s.held.items)

  pub tasks_set : (t : Task) → reverse (set s.held.items (array_vec_len s.held - 1) t) ≡ refronted t (tasks_of s)
  tasks_set t = set_last s.held.items t

  pub some_newest : 0 < array_vec_len s.held → true ≡ is_some (front (tasks_of s))
  some_newest h = some_front (tasks_of s) (omega (arith, tasks_count))

  pub none_newest : (t : Task) → array_vec_len s.held ≡ 0 → (false ≡ is_some (front (tasks_of s))) × (tasks_of s ≡ refronted t (tasks_of s))
  none_newest t h = none_front t (tasks_of s) (omega (arith, tasks_count))
