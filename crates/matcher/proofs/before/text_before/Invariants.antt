use Rattle.std.proofs.Common.{Bool, List, drop}
use Rattle.tokens.specs.declared.token.Token.{Token}
use Rattle.names.specs.Spelled.{listed}
use Rattle.matching.specs.Matching.{awaiting}
use Rattle.matcher.specs.Going.{Leads}
use Rattle.matcher.specs.Marks.{delimiter_in}
use Rattle.matcher.proofs.before.text_before.Given as goal

abbrev pub invariant-words : goal.invariant-words
invariant-words g l =
    (long : Bool) (ds : List (List Token)) → Leads g.S.Source.reads g.S.Source.ahead g.S.Source.place l.categories long (awaiting (delimiter_in l.words) ds) (listed l.initial.names) l.initial.source (awaiting (delimiter_in (drop l.word-index l.words)) ds) (listed l.names) l.source
