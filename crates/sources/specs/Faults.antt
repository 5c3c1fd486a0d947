-- Number, layer and place of the faults of reading.
--   line_number, pile_number  the numbers of a line's and a pile's own refusals
--   read_number, read_layer  of a refused read
--   fault_number, fault_layer, fault_place  of a pile's fault, which may keep a line's
use Rattle.std.specs.Prelude.{ℕ}
use Rattle.names.specs.Naming as names
use Rattle.sources.specs.declared.fault.Place.{Place}
use Rattle.tokens.specs.declared.layer.Layer.{Layer}
use Rattle.tokens.specs.declared.layer.Layer.TheVariants as layer
use Rattle.sources.specs.declared.fault.LineRefusal.{LineRefusal}
use Rattle.sources.specs.declared.fault.LineRefusal.TheVariants.{Invalid}
use Rattle.sources.specs.declared.fault.ReadRefusal.{ReadRefusal}
use Rattle.sources.specs.declared.fault.ReadRefusal.TheVariants as read
use Rattle.sources.specs.declared.fault.PileRefusal.{PileRefusal}
use Rattle.sources.specs.declared.fault.PileRefusal.TheVariants.{Ended, NoToken, PutBackFull, NoRoom, TextTooLong}
use Rattle.sources.specs.declared.fault.PileFault.{PileFault}
use Rattle.sources.specs.declared.fault.PileFault.TheVariants.{Line, Pile}

abbrev pub line_number : LineRefusal → ℕ
line_number Invalid = 11

abbrev pub pile_number : PileRefusal → ℕ
pile_number Ended = 25
pile_number NoToken = 38
pile_number PutBackFull = 40
pile_number NoRoom = 41
pile_number TextTooLong = 49

abbrev pub read_number : ReadRefusal → ℕ
read_number (read.Line r) = line_number r
read_number (read.Names f) = names.fault_number f

abbrev pub read_layer : ReadRefusal → Layer
read_layer (read.Line r) = layer.Line
read_layer (read.Names f) = layer.Names

abbrev pub fault_number : PileFault → ℕ
fault_number (Line f) = read_number f.refusal
fault_number (Pile r p) = pile_number r

abbrev pub fault_layer : PileFault → Layer
fault_layer (Line f) = read_layer f.refusal
fault_layer (Pile r p) = layer.Pile

abbrev pub fault_place : PileFault → Place
fault_place (Line f) = f.place
fault_place (Pile r p) = p
