use Rattle.std.proofs.Common.{◌≡◌, ◌+◌, ◌++◌, take, vec_items, vec_len, vec_capacity}
use Rattle.expanding.proofs.filling.append.Given as goal

abbrev pub invariant-more : goal.invariant-more
invariant-more l =
    (vec_items l.tokens ≡ vec_items l.initial.tokens ++ take l.token-index l.more)
    × (vec_len l.tokens ≡ vec_len l.initial.tokens + l.token-index)
    × (vec_capacity l.tokens ≡ vec_capacity l.initial.tokens)
