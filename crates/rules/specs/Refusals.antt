-- Why a call is refused.
--   refusal_number   the number of a refusal of the gullet's own
--   Cause            a refused read, or the refusal of a layer
--   cause_number     the number of a cause, by its layer
--   Fault            a cause, and the scanning status in which it came; its place is the source's
use Rattle.std.specs.Prelude.{ℕ}
use Rattle.sources.specs.declared.fault.ReadRefusal.{ReadRefusal}
use Rattle.sources.specs.declared.fault.PileRefusal.{PileRefusal}
use Rattle.matching.specs.declared.refusal.MatcherRefusal.{MatcherRefusal}
use Rattle.book.specs.declared.fault.BookFault.{BookFault}
use Rattle.driving.specs.declared.status.Status.{Status}
use Rattle.sources.specs.Faults.{read_number, pile_number}
use Rattle.matching.specs.Refusals as matching
use Rattle.book.specs.Faults as books
use Rattle.rules.specs.declared.refusal.GulletRefusal.{GulletRefusal}
use Rattle.rules.specs.declared.refusal.GulletRefusal.TheVariants.{Undefined, BadDefinition, BadPrefix, BadCatcode, Misplaced, Pending, ConditionalsFull, TasksFull}

abbrev pub refusal_number : GulletRefusal → ℕ
refusal_number Undefined = 21
refusal_number BadDefinition = 31
refusal_number BadPrefix = 32
refusal_number BadCatcode = 33
refusal_number Misplaced = 35
refusal_number Pending = 37
refusal_number ConditionalsFull = 47
refusal_number TasksFull = 48

pub data Cause : Type 0 where
  read : ReadRefusal → Cause
  pile : PileRefusal → Cause
  matcher : MatcherRefusal → Cause
  book : BookFault → Cause
  gullet : GulletRefusal → Cause

abbrev pub cause_number : Cause → ℕ
cause_number (read e) = read_number e
cause_number (pile e) = pile_number e
cause_number (matcher e) = matching.refusal_number e
cause_number (book e) = books.number_of e
cause_number (gullet e) = refusal_number e

pub record Fault : Type 0 where
  pub cause : Cause
  pub status : Status
