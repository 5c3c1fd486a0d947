-- What a call's space holds.
--   arguments_of   the arguments of a call, in their order
--   Kept           a buffer begins with all that another holds
use Rattle.std.specs.Prelude.{◌≡◌, List, take, vec_items, vec_len, Vec}
use Rattle.tokens.specs.declared.token.Token.{Token}
use Rattle.matcher.specs.declared.arguments.Arguments.{Arguments}
use Rattle.matcher.specs.Spans.{parts_of}

abbrev pub arguments_of : Arguments → List (List Token)
arguments_of a = parts_of (vec_items a.gathered.held) (vec_items a.spans.held)

abbrev pub Kept : {Z : Type 0} → Vec Token Z → Vec Token Z → Type 0
Kept v w = take (vec_len v) (vec_items w) ≡ vec_items v
