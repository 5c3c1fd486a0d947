use Rattle.std.proofs.Common.{◌≡◌, ◌++◌, drop, vec_capacity}
use Rattle.matcher.specs.Held.{arguments_of}
use Rattle.expanding.specs.Substituting.{substituted, expansion_of}
use Rattle.expanding.proofs.expansion.Expansion.fill.Given as goal

abbrev pub invariant-body : goal.invariant-body
invariant-body l =
    (expansion_of l.self ++ substituted (arguments_of l.arguments) (drop l.word-index l.body) ≡ substituted (arguments_of l.arguments) l.body)
    × (vec_capacity l.self.tokens.held ≡ vec_capacity l.initial.self.tokens.held)
