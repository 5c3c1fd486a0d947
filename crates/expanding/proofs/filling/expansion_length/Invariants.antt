use Rattle.std.proofs.Common.{◌≡◌, ◌+◌, ◌≤◌, length, drop}
use Rattle.matcher.specs.Held.{arguments_of}
use Rattle.expanding.specs.Substituting.{substituted}
use Rattle.expanding.proofs.filling.expansion_length.Given as goal

abbrev pub invariant-body : goal.invariant-body
invariant-body l =
    (l.count + length (substituted (arguments_of l.arguments) (drop l.word-index l.body)) ≡ length (substituted (arguments_of l.arguments) l.body))
    × (l.count ≤ 4096)
