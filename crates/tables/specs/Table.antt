-- A table whose local assignments end with their group, over any type of values. Keys are numbers.
--   Table            what each key holds
--   Groups           the save records of each open group, the innermost group first, in each the newest record first
--   State            the table and the groups
--   Op               what can be done: open a group, close one, assign locally or globally
--   is_zero          whether a level is 0
--   put              a table with another entry at one key
--   restored         one record undone; an entry whose present value is global is passed over
--   undone           the records of a group undone, the newest first
--   opened, closed   a group opened; the innermost closed (closed_in: by its parts)
--   needs_record     whether a local assignment to a key takes a record (needs_in: by its parts)
--   recorded         one more record in the innermost group
--   saved_in         the groups after a local assignment
--   assigned         a local assignment, with its record if it takes one
--   assigned_globally a global one
--   records          how many records all open groups have (records_in: by its parts)
--   none_open        no group is open
--   refused          whether an operation is refused, where there are `limit` records
--   step, tried      what an operation makes of a state; the same where a refused one changes nothing
--   run, done        operations tried one after another; those of them that were not refused
--   new              a table with its first values
use Rattle.std.specs.Prelude.{ℕ, zero, suc, ◌+◌, Bool, true, false, cond, not, ◌&&◌, List, [], ◌∷◌, length, ◌==◌, nat_le}
use Rattle.tables.specs.declared.Entry.{Entry}
use Rattle.tables.specs.declared.Saved.{Saved}

abbrev pub Table : Type 0 → Type 0
Table V = ℕ → Entry V

abbrev pub Groups : Type 0 → Type 0
Groups V = List (List (Saved V))

pub record State (V : Type 0) : Type 0 where
  pub table : Table V
  pub groups : Groups V

pub data Op (V : Type 0) : Type 0 where
  open_group close_group : Op V
  assign_locally assign_globally : ℕ → V → Op V

abbrev pub is_zero : ℕ → Bool
is_zero zero = true
is_zero (suc n) = false

module _ {V : Type 0} where
  abbrev pub put : Table V → ℕ → Entry V → Table V
  put t k e j = cond (j == k) e (t j)

  abbrev pub restored : Saved V → Table V → Table V
  restored r t = cond (is_zero (t r.key).level) t (put t r.key r.entry)

  abbrev pub undone : List (Saved V) → Table V → Table V
  undone [] t = t
  undone (r ∷ rs) t = undone rs (restored r t)

  abbrev pub opened : State V → State V
  opened s = record { table = s.table; groups = [] ∷ s.groups }

  -- with no group open there is nothing to close
  abbrev pub closed_in : Table V → Groups V → State V
  closed_in t [] = record { table = t; groups = [] }
  closed_in t (g ∷ gs) = record { table = undone g t; groups = gs }

  abbrev pub closed : State V → State V
  closed s = closed_in s.table s.groups

  -- in a group: unless the present value was assigned locally in that same group
  abbrev pub needs_in : Groups V → Entry V → Bool
  needs_in [] e = false
  needs_in (g ∷ gs) e = not (e.level == suc (length gs))

  abbrev pub needs_record : State V → ℕ → Bool
  needs_record s k = needs_in s.groups (s.table k)

  -- one more record in the innermost group
  abbrev pub recorded : Saved V → Groups V → Groups V
  recorded r [] = []
  recorded r (g ∷ gs) = (r ∷ g) ∷ gs

  abbrev pub saved_in : State V → ℕ → Groups V
  saved_in s k = cond (needs_record s k) (recorded (record { key = k; entry = s.table k }) s.groups) s.groups

  abbrev pub assigned : State V → ℕ → V → State V
  assigned s k v = record { table = put s.table k (record { value = v; level = length s.groups }); groups = saved_in s k }

  abbrev pub assigned_globally : State V → ℕ → V → State V
  assigned_globally s k v = record { table = put s.table k (record { value = v; level = 0 }); groups = s.groups }

  abbrev pub records_in : Groups V → ℕ
  records_in [] = 0
  records_in (g ∷ gs) = length g + records_in gs

  abbrev pub records : State V → ℕ
  records s = records_in s.groups

  abbrev pub none_open : Groups V → Bool
  none_open [] = true
  none_open (g ∷ gs) = false

  abbrev pub refused : ℕ → State V → Op V → Bool
  refused limit s open_group = false
  refused limit s close_group = none_open s.groups
  refused limit s (assign_locally k v) = needs_record s k && nat_le limit (records s)
  refused limit s (assign_globally k v) = false

  abbrev pub step : State V → Op V → State V
  step s open_group = opened s
  step s close_group = closed s
  step s (assign_locally k v) = assigned s k v
  step s (assign_globally k v) = assigned_globally s k v

  abbrev pub tried : ℕ → State V → Op V → State V
  tried limit s o = cond (refused limit s o) s (step s o)

  -- operations in the order of time
  abbrev pub run : ℕ → State V → List (Op V) → State V
  run limit s [] = s
  run limit s (o ∷ os) = run limit (tried limit s o) os

  abbrev pub done : ℕ → State V → List (Op V) → List (Op V)
  done limit s [] = []
  done limit s (o ∷ os) = cond (refused limit s o) (done limit s os) (o ∷ done limit (step s o) os)

  abbrev pub new : (ℕ → V) → State V
  new first = record { table = λ k. record { value = first k; level = 0 }; groups = [] }
