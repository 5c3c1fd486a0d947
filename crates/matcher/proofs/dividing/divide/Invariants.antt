use Rattle.std.proofs.Common.{◌≡◌, ◌+◌, ◌≤◌, [], length, vec_len}
use Rattle.names.specs.Spelled.{listed}
use Rattle.matching.specs.Dividing.{parameters_of}
use Rattle.matching.specs.Laws.{parameters_in}
use Rattle.matching.specs.Matching.{following, fewest}
use Rattle.matcher.specs.Going.{Leads}
use Rattle.matcher.specs.Held.{arguments_of}
use Rattle.matcher.specs.Marks.{delimiter_in}
use Rattle.matcher.proofs.dividing.divide.Given as goal

abbrev pub invariant-parameters : goal.invariant-parameters
invariant-parameters g l =
    Leads g.S.Source.reads g.S.Source.ahead g.S.Source.place l.categories l.long (following (arguments_of l.initial.arguments) l.initial.counted (parameters_of l.initial.rest).delimiters) (listed l.initial.names) l.initial.source (following (arguments_of l.arguments) l.counted (parameters_of l.rest).delimiters) (listed l.names) l.source
    × (delimiter_in l.rest ≡ [])
    × (length l.rest ≤ 2048)
    × (vec_len l.arguments.gathered.held ≤ l.counted)
    × (l.counted + fewest (parameters_of l.rest).delimiters ≤ 4096)
    × (vec_len l.arguments.spans.held + parameters_in l.rest ≤ 9)

abbrev pub decreases-parameters : goal.decreases-parameters
decreases-parameters g l = length l.rest
