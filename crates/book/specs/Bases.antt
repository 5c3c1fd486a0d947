-- How the save records of all open groups lie in one list, oldest first. Bases are told innermost group first.
--   bounded      no base passes the next one inside, the innermost not the count of records; with no group there are no records
--   groups_of    the records of each group, the innermost group first, in each the newest first
--   keys_below   every record's key is below a limit
use Rattle.std.specs.Prelude.{ℕ, Bool, true, ◌&&◌, List, [], ◌∷◌, reverse, take, drop, ◌==◌, nat_le, nat_lt}
use Rattle.tables.specs.declared.Saved.{Saved}
use Rattle.tables.specs.Table.{Groups}

abbrev pub bounded : ℕ → List ℕ → Bool
bounded n [] = n == 0
bounded n (b ∷ bs) = nat_le b n && bounded b bs

abbrev pub groups_of : {V : Type 0} → List ℕ → List (Saved V) → Groups V
groups_of [] ss = []
groups_of (b ∷ bs) ss = reverse (drop b ss) ∷ groups_of bs (take b ss)

abbrev pub keys_below : {V : Type 0} → ℕ → List (Saved V) → Bool
keys_below n [] = true
keys_below n (s ∷ ss) = nat_lt s.key n && keys_below n ss
