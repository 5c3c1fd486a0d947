-- Where the reading of a definition is.
--   depth_of     how deep braces are there
use Rattle.std.specs.Prelude.{ℕ}
use Rattle.gullet.specs.declared.draft.Stage.{Stage}
use Rattle.gullet.specs.declared.draft.Stage.TheVariants.{InText, HashInText, InBody, HashInBody}

abbrev pub depth_of : Stage → ℕ
depth_of (InText k) = 0
depth_of (HashInText k) = 0
depth_of (InBody k n) = n
depth_of (HashInBody k n) = n
