-- Between calls.
--   is_normal     whether the scanning status is normal
use Rattle.std.specs.Prelude.{Bool, true, false}
use Rattle.driving.specs.declared.status.Status.{Status}
use Rattle.driving.specs.declared.status.Status.TheVariants.{Normal, Matching, Defining, Skipping}

abbrev pub is_normal : Status → Bool
is_normal Normal = true
is_normal Matching = false
is_normal Defining = false
is_normal Skipping = false
