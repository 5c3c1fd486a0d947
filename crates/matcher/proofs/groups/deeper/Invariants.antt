use Rattle.std.proofs.Common.{◌≡◌, ◌≤◌, drop}
use Rattle.matching.specs.Braces.{deeper}
use Rattle.matcher.proofs.groups.deeper.Given as goal

abbrev pub invariant-tokens : goal.invariant-tokens
invariant-tokens l = (deeper 0 l.tokens ≡ deeper l.depth (drop l.token-index l.tokens)) × (l.depth ≤ l.token-index)
