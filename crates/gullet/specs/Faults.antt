-- Number, layer and place of the gullet's faults.
--   number_of, layer_of, place_of   of a cause, which may keep a pile's fault
--   cause_at                        a cause that the rules name, at a place
--   fault_at                        a fault that the rules name, at a place
--   placed                          an answer or a fault of the rules, at a place
use Rattle.std.specs.Prelude.{ℕ, Ok, Err, Result}
use Rattle.tokens.specs.declared.layer.Layer.{Layer}
use Rattle.tokens.specs.declared.layer.Layer.TheVariants as layer
use Rattle.sources.specs.declared.fault.Place.{Place}
use Rattle.sources.specs.declared.fault.PileFault.TheVariants as piles
use Rattle.sources.specs.Faults.{fault_number, fault_layer, fault_place}
use Rattle.matching.specs.Refusals as matching
use Rattle.book.specs.Faults as books
use Rattle.rules.specs.Refusals as rules
use Rattle.rules.specs.Refusals.{Fault}
use Rattle.gullet.specs.declared.fault.Cause.{Cause}
use Rattle.gullet.specs.declared.fault.Cause.TheVariants.{Pile, Matcher, Book, Gullet}
use Rattle.gullet.specs.declared.fault.GulletFault.{GulletFault}

abbrev pub number_of : Cause → ℕ
number_of (Pile f) = fault_number f
number_of (Matcher r p) = matching.refusal_number r
number_of (Book f p) = books.number_of f
number_of (Gullet r p) = rules.refusal_number r

abbrev pub layer_of : Cause → Layer
layer_of (Pile f) = fault_layer f
layer_of (Matcher r p) = layer.Matcher
layer_of (Book f p) = books.layer_of f
layer_of (Gullet r p) = layer.Gullet

abbrev pub place_of : Cause → Place
place_of (Pile f) = fault_place f
place_of (Matcher r p) = p
place_of (Book f p) = p
place_of (Gullet r p) = p

abbrev pub cause_at : Place → rules.Cause → Cause
cause_at p (rules.read e) = Pile (piles.Line (record { refusal = e; place = p }))
cause_at p (rules.pile e) = Pile (piles.Pile e p)
cause_at p (rules.matcher e) = Matcher e p
cause_at p (rules.book e) = Book e p
cause_at p (rules.gullet e) = Gullet e p

abbrev pub fault_at : Place → Fault → GulletFault
fault_at p f = record { cause = cause_at p f.cause; status = f.status }

abbrev pub placed : {A : Type 0} → Place → Result A Fault → Result A GulletFault
placed p (Ok a) = Ok a
placed p (Err f) = Err (fault_at p f)
