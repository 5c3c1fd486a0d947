-- The laws of a table of groups, over every list of operations on a new table and every limit of records.
--   balanced         the operations close every group that they open, and no other; n of theirs are open already
--   nothing_global   none of them assigns globally
--   Survives         every key is found with its last assignment left in the diary of what was done, or its first value
--   LeavesNoTrace    open, then anything balanced with nothing global, then close: values, how each was assigned
--                    and the records are as before the opening
use Rattle.std.specs.Prelude.{◌≡◌, ℕ, zero, suc, Bool, true, false, T, List, [], ◌∷◌, ◌++◌}
use Rattle.tables.specs.Table.{Op, open_group, close_group, assign_locally, assign_globally, run, done, new, is_zero}
use Rattle.tables.specs.Diary.{diary_of, survivor}

module _ {V : Type 0} where
  abbrev pub balanced : ℕ → List (Op V) → Bool
  balanced n [] = is_zero n
  balanced n (open_group ∷ os) = balanced (suc n) os
  balanced zero (close_group ∷ os) = false
  balanced (suc n) (close_group ∷ os) = balanced n os
  balanced n (assign_locally k v ∷ os) = balanced n os
  balanced n (assign_globally k v ∷ os) = balanced n os

  abbrev pub nothing_global : List (Op V) → Bool
  nothing_global [] = true
  nothing_global (open_group ∷ os) = nothing_global os
  nothing_global (close_group ∷ os) = nothing_global os
  nothing_global (assign_locally k v ∷ os) = nothing_global os
  nothing_global (assign_globally k v ∷ os) = false

abbrev pub Survives : Type 0 → Type 0
Survives V = (limit : ℕ) (first : ℕ → V) (os : List (Op V)) (k : ℕ)
    → ((run limit (new first) os).table k).value ≡ survivor first (diary_of (done limit (new first) os)) k

abbrev pub LeavesNoTrace : Type 0 → Type 0
LeavesNoTrace V = (limit : ℕ) (first : ℕ → V) (before inner : List (Op V)) → T (balanced 0 inner) → T (nothing_global inner)
    → run limit (new first) (before ++ (open_group ∷ (inner ++ (close_group ∷ [])))) ≡ run limit (new first) before
