-- What survives is what is found.
--   Tells          a state and a diary tell the same: of every name, every code and the tasks
--   Survives       after any list of calls on a new gullet, what is found is what its diary tells
use Rattle.std.specs.Prelude.{◌≡◌, ℕ, List}
use Rattle.lines.specs.Line.{Item}
use Rattle.rules.specs.States.{State, new}
use Rattle.rules.specs.Calling.{Call, state_after}
use Rattle.surviving.specs.Diaries.{Diary, empty, found_name, found_code, kept}

pub record Tells (s : State) (d : Diary) : Type 0 where
  pub names : (n : ℕ) → (s.book.names.table n).value ≡ found_name d n
  pub codes : (x : ℕ) → (s.book.codes.table x).value ≡ found_code d x
  pub tasks : s.tasks ≡ d.tasks

abbrev pub Survives : Type 0
Survives = (is : List Item) (cs : List Call) → Tells (state_after (new is) cs) (kept (new is) empty cs)
