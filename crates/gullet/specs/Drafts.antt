-- A definition that is being read, as the rules see it.
--   at_stage     with these words, at a stage
--   view         the whole
--   end_of       what comes of it, the words being in the draft
--   moved        a move of the code by one token, as the rules say it
--   defined_of   an answer
use Rattle.std.specs.Prelude.{List, Ok, Err, vec_items, Result}
use Rattle.std.specs.declared.ops.ControlFlow.{ControlFlow}
use Rattle.std.specs.declared.ops.ControlFlow.TheVariants.{Continue, Break}
use Rattle.tokens.specs.declared.stored.ParameterWord.{ParameterWord}
use Rattle.tokens.specs.declared.stored.BodyWord.{BodyWord}
use Rattle.matching.specs.Matching.{Move, on, out}
use Rattle.sources.specs.declared.fault.PileFault.{PileFault}
use Rattle.rules.specs.Defining as model
use Rattle.rules.specs.Defining.{Definition, in_text, hash_in_text, in_body, hash_in_body, defines, broken, too_long}
use Rattle.gullet.specs.declared.draft.Draft.{Draft}
use Rattle.gullet.specs.declared.draft.Stage.{Stage}
use Rattle.gullet.specs.declared.draft.Stage.TheVariants.{InText, HashInText, InBody, HashInBody}
use Rattle.gullet.specs.declared.draft.DefinitionEnd.{DefinitionEnd}
use Rattle.gullet.specs.declared.draft.DefinitionEnd.TheVariants.{Defined, Broken, TooLong}

abbrev pub at_stage : Stage → List ParameterWord → List BodyWord → Definition
at_stage (InText k) ps bs = in_text ps k
at_stage (HashInText k) ps bs = hash_in_text ps k
at_stage (InBody k n) ps bs = in_body ps k bs n
at_stage (HashInBody k n) ps bs = hash_in_body ps k bs n

abbrev pub view : Draft → Definition
view d = at_stage d.stage (vec_items d.parameters.held) (vec_items d.body.held)

abbrev pub end_of : DefinitionEnd → Draft → model.Defined
end_of Defined d = defines (vec_items d.parameters.held) (vec_items d.body.held)
end_of Broken d = broken
end_of TooLong d = too_long

abbrev pub moved : ControlFlow DefinitionEnd (Unit {0}) → Draft → Move Definition model.Defined
moved (Continue _) d = on (view d)
moved (Break e) d = out (end_of e d)

abbrev pub defined_of : Result DefinitionEnd PileFault → Draft → Result model.Defined PileFault
defined_of (Ok e) d = Ok (end_of e d)
defined_of (Err f) d = Err f
