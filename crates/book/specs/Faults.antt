-- The numbers and the layer of the book's refusals.
--   number_of   the number of a fault
--   layer_of    the layer of a fault: the book
--   answered    the answer of a call that gives nothing back: the fault if it is refused
use Rattle.std.specs.Prelude.{ℕ, Bool, cond, Ok, Err, Result}
use Rattle.tokens.specs.declared.layer.Layer.{Layer}
use Rattle.tokens.specs.declared.layer.Layer.TheVariants.{Book}
use Rattle.book.specs.declared.fault.BookFault.{BookFault}
use Rattle.book.specs.declared.fault.BookFault.TheVariants.{WrongGroup, DefinitionTooLong, WordsFull, RecordsFull, GroupsFull}

abbrev pub number_of : BookFault → ℕ
number_of WrongGroup = 36
number_of DefinitionTooLong = 43
number_of WordsFull = 44
number_of RecordsFull = 45
number_of GroupsFull = 46

abbrev pub layer_of : BookFault → Layer
layer_of f = Book

abbrev pub answered : Bool → BookFault → Result (Unit {0}) BookFault
answered refused f = cond refused (Err f) (Ok tt)
