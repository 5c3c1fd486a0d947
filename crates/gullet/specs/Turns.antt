-- What becomes of the open conditionals when an expansion is complete.
--   turned       they stay, the innermost is closed, or one more is open in its first or second part
use Rattle.std.specs.Prelude.{List}
use Rattle.pending.specs.declared.conditional.Part.{Part}
use Rattle.pending.specs.declared.conditional.Part.TheVariants.{First, Second}
use Rattle.pending.specs.Fronts.{behind, refronted, joining}
use Rattle.gullet.specs.declared.turn.Turn.{Turn}
use Rattle.gullet.specs.declared.turn.Turn.TheVariants.{Keep, Close, Begin, BeginSecond}

abbrev pub turned : Turn → List Part → List Part
turned Keep cs = cs
turned Close cs = behind cs
turned Begin cs = joining 100 First cs
turned BeginSecond cs = refronted Second (joining 100 First cs)
