-- The lines of a trace.
--   fault_line  a refusal's line: its number and its place
--   read_line   the line for what a read answered: a token's word, the end, or a refusal
--   is_end      the line says that nothing is ahead
use Rattle.std.specs.Prelude.{Bool, true, false, Some, None, Ok, Err, Option, Result}
use Rattle.tokens.specs.declared.token.Token.{Token}
use Rattle.tokens.specs.Words.{word_of}
use Rattle.sources.specs.declared.fault.PileFault.{PileFault}
use Rattle.sources.specs.Faults.{fault_number, fault_place}
use Rattle.trace.specs.declared.line.Line.{Line}
use Rattle.trace.specs.declared.line.Line.TheVariants.{Word, Refused, End, Stopped}

abbrev pub fault_line : PileFault → Line
fault_line e = Refused (fault_number e) (fault_place e).line (fault_place e).bytes

abbrev pub read_line : Result (Option Token) PileFault → Line
read_line (Ok None) = End
read_line (Ok (Some t)) = Word (word_of t)
read_line (Err e) = fault_line e

abbrev pub is_end : Line → Bool
is_end (Word w) = false
is_end (Refused n l b) = false
is_end End = true
is_end Stopped = false
