use Rattle.std.proofs.Common.{◌≡◌, ◌+◌, ◌≤◌, ◌++◌, length, vec_len}
use Rattle.std.specs.Slice.Iter.{iter_rest}
use Rattle.std.specs.Iterator.Adapters.{rev_source}
use Rattle.piles.specs.Inserting.{tokens_in}
use Rattle.piles.specs.Helds.{held_tokens}
use Rattle.piles.proofs.held.Held.put_words.Given as goal

abbrev pub invariant-loop-word : goal.invariant-loop-word
invariant-loop-word l =
    (goal.iterator-loop-word).can_next l.word-iterator
    × (goal.iterator-loop-word).is_finite l.word-iterator
    × (tokens_in (iter_rest (rev_source l.word-iterator)) ++ held_tokens l.self ≡ tokens_in l.words ++ held_tokens l.initial.self)
    × (length (iter_rest (rev_source l.word-iterator)) + vec_len l.self.tokens.held ≤ 4096)
