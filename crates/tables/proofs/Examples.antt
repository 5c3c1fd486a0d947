-- A few runs, computed: the definitions say what they should, and what the laws suppose can be met.
use Rattle.std.proofs.Common.{◌≡◌, ℕ, true, List, [], ◌∷◌, refl}
use Rattle.tables.specs.Table.{Op, open_group, close_group, assign_locally, assign_globally, run, done, new}
use Rattle.tables.specs.Diary.{diary_of, survivor}
use Rattle.tables.specs.Laws.{balanced, nothing_global}

-- what key 1 holds after operations on a table of two records, where each key first holds 100: by the table, and by the diary
found : List (Op ℕ) → ℕ
found os = ((run 2 (new (λ k. 100)) os).table 1).value

survived : List (Op ℕ) → ℕ
survived os = survivor (λ k. 100) (diary_of (done 2 (new (λ k. 100)) os)) 1

-- a local assignment ends with its group
local_ends : found (assign_locally 1 5 ∷ open_group ∷ assign_locally 1 6 ∷ assign_locally 1 7 ∷ close_group ∷ []) ≡ 5
unfolding found
local_ends = refl

-- a global one between two local ones lasts past two groups
over_global : List (Op ℕ)
over_global = open_group ∷ open_group ∷ assign_locally 1 5 ∷ assign_globally 1 6 ∷ assign_locally 1 7 ∷ close_group ∷ close_group ∷ []

global_lasts : found over_global ≡ 6
unfolding found over_global
global_lasts = refl

global_survives : survived over_global ≡ 6
unfolding survived over_global
global_survives = refl

-- with two records taken a third is refused: key 1 stays as it is, and the diary has no line of it
third_refused : List (Op ℕ)
third_refused = open_group ∷ assign_locally 2 5 ∷ assign_locally 3 6 ∷ assign_locally 1 7 ∷ []

refused_found : found third_refused ≡ 100
unfolding found third_refused
refused_found = refl

refused_survives : survived third_refused ≡ 100
unfolding survived third_refused
refused_survives = refl

-- a closing with no group open is refused
closing_refused : found (assign_locally 1 5 ∷ close_group ∷ []) ≡ 5
unfolding found
closing_refused = refl

inside : List (Op ℕ)
inside = assign_locally 1 5 ∷ open_group ∷ assign_locally 1 6 ∷ assign_locally 2 7 ∷ close_group ∷ assign_locally 1 8 ∷ []

inside_balanced : balanced 0 inside ≡ true
unfolding inside
inside_balanced = refl

inside_local : nothing_global inside ≡ true
unfolding inside
inside_local = refl
