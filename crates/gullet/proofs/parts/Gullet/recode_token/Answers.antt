use Rattle.std.proofs.Common.{◌≡◌, ℕ, Some, Option, sym, refl, ap, ◌∙◌}
use Rattle.names.specs.Spelled.{listed}
use Rattle.rules.specs.Assigning.{byte_of, recoding_of, recoding_by}
use Rattle.rules.specs.Readers.{reader}
use Rattle.gullet.specs.Fed.{stays}
use Rattle.gullet.specs.States.{state_of}
use Rattle.gullet.proofs.Doing.{present, does_as}
use Rattle.gullet.proofs.parts.Gullet.recode_token.Goals as goal

pub returns-in_err-code-clause-onward : goal.returns-in_err-code-clause-onward
returns-in_err-code-clause-onward g c = stays refl

pub returns-clause-does : goal.returns-clause-does
returns-clause-does g c =
    let s = state_of c.args.self.now in
    let sc = c.args.scope in
    let some : byte_of (listed c.args.self.now.names) c.args.token ≡ Some c.in_ok-code.code = sym c.byte_of-found.ensures ∙ present _ _ _ _ c.ok_or_else.ensures.cases c.in_ok-code.was in
    does_as (λ z r. recoding_of z sc r (Some c.in_ok-code.code)) (λ z r. recoding_by z sc (Some c.args.token) r)
    (λ read. ap (λ (o : Option ℕ). recoding_of s sc (reader s.stands read) o) (sym some)) c.recode_byte.ensures.does
