use Rattle.std.proofs.Common.{◌≡◌, ◌+◌, ◌≤◌, ◌++◌, length, vec_len}
use Rattle.std.specs.Slice.Iter.{iter_rest}
use Rattle.std.specs.Iterator.Adapters.{rev_source}
use Rattle.piles.specs.Helds.{held_tokens}
use Rattle.piles.proofs.held.Held.put.Given as goal

abbrev pub invariant-loop-token : goal.invariant-loop-token
invariant-loop-token l =
    (goal.iterator-loop-token).can_next l.token-iterator
    × (goal.iterator-loop-token).is_finite l.token-iterator
    × (iter_rest (rev_source l.token-iterator) ++ held_tokens l.self ≡ l.tokens ++ held_tokens l.initial.self)
    × (length (iter_rest (rev_source l.token-iterator)) + vec_len l.self.tokens.held ≤ 4096)
