-- Number, layer and place of what keeps a call's arguments from being read.
--   cause_number, cause_layer, cause_place   of the matcher's own refusal, or of the pile's fault that is kept
use Rattle.std.specs.Prelude.{ℕ}
use Rattle.tokens.specs.declared.layer.Layer.{Layer}
use Rattle.tokens.specs.declared.layer.Layer.TheVariants as layer
use Rattle.sources.specs.declared.fault.Place.{Place}
use Rattle.sources.specs.Faults.{fault_number, fault_layer, fault_place}
use Rattle.matching.specs.Refusals.{refusal_number}
use Rattle.calls.specs.declared.fault.MatcherCause.{MatcherCause}
use Rattle.calls.specs.declared.fault.MatcherCause.TheVariants.{Pile, Matcher}

abbrev pub cause_number : MatcherCause → ℕ
cause_number (Pile f) = fault_number f
cause_number (Matcher r p) = refusal_number r

abbrev pub cause_layer : MatcherCause → Layer
cause_layer (Pile f) = fault_layer f
cause_layer (Matcher r p) = layer.Matcher

abbrev pub cause_place : MatcherCause → Place
cause_place (Pile f) = fault_place f
cause_place (Matcher r p) = p
