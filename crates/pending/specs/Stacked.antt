-- What is on a stack.
--   items_of      the values on it, the newest first
--   with_newest   it, with another value for the newest
use mathlib.Core.Path.{sym, subst}
use lib.ListN.{length-set}
use Rattle.std.specs.Prelude.{ℕ, ◌-◌, ◌≤◌, List, reverse}
use Rattle.arrayvec.specs.ArrayVec.{with_item, array_vec_len}
use Rattle.pending.specs.declared.stack.Stack.{Stack}

module _ {T : Type 0} {LIMIT : ℕ} where
  abbrev pub items_of : Stack T LIMIT → List T
  items_of s = reverse s.held.items

  -- the write keeps the length, and so the limit
  abbrev pub with_newest : Stack T LIMIT → T → Stack T LIMIT
  with_newest s x =
      let last = array_vec_len s.held - 1 in
      record { held = with_item s.held last x; few = subst (λ n. n ≤ LIMIT) (sym (length-set s.held.items last x)) s.few }
