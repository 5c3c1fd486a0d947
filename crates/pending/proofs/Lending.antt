-- What is lent comes back under the same facts, however these are shown.
use Rattle.std.proofs.Common.{◌≡◌, ℕ, ◌≤◌, ap, inl, inr}
use mathlib.Core.Option.{Option, none, some}
use base.Fml.{GName}
use borrow.Follows.Closed.{read_of}
use native.Mathlib.Bridge.{le_prop}
use Rattle.arrayvec.specs.ArrayVec.{ArrayVec, array_vec_len}
use Rattle.pending.specs.declared.conditional.Conditional.{Conditional}
use Rattle.pending.specs.declared.stack.Stack.{Stack}

abbrev conditionals : {n : ℕ} (v : ArrayVec Conditional) → array_vec_len v ≤ n → Stack Conditional n
conditionals v f = record { held = v; few = f }

pub same_conditionals : {n : ℕ} (v : ArrayVec Conditional) (f g : array_vec_len v ≤ n) → ◌≡◌ {A = Stack Conditional n} (conditionals v f) (conditionals v g)
same_conditionals v f g = λ i. conditionals v (le_prop f g i)

pub same_read : {D E : Type 0} (m : Option GName) (F G : E → D) (v w : D) → ((x : E) → F x ≡ G x) → v ≡ w → read_of m F v ≡ read_of m G w
same_read none F G v w f e = ap inr e
same_read (some n) F G v w f e = λ i. inl (n, λ x. f x i)
