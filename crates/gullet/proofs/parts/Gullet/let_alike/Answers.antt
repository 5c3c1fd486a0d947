use Rattle.std.proofs.Common.{List, Some, [], ap, ◌∙◌, subst}
use Rattle.std.proofs.lemmas.Result.{err_from_is_err_and}
use Rattle.tokens.specs.declared.token.Token.{Token}
use Rattle.book.specs.Books.{BookState}
use Rattle.driving.specs.declared.status.Status.TheVariants.{Normal}
use Rattle.rules.specs.Assigning.{named_by}
use Rattle.rules.specs.Readers.{reader}
use Rattle.rules.specs.States.{State, state, categories_of}
use Rattle.gullet.specs.Fed.{Onward}
use Rattle.gullet.specs.States.{state_of}
use Rattle.gullet.specs.Targets.{named_ahead, let_named}
use Rattle.gullet.proofs.Doing.{does_then}
use Rattle.gullet.proofs.Finished.{named_under, named_refused, named_same}
use Rattle.gullet.proofs.Holding.{onward_both}
use Rattle.gullet.proofs.parts.Gullet.let_alike.Goals as goal

pub returns-in_err-name-clause-does : goal.returns-in_err-name-clause-does
returns-in_err-name-clause-does g c =
    let s = state_of c.args.self.now in
    let e = c.in_err-name.ensures.finds in
    let q = err_from_is_err_and c.from_residual.result c.from_residual.ensures.1 in
    let h = λ (read : List Token). named_refused s (g.S.Source.place c.named_target.new.self.source.below) (λ n r. let_named s r n c.args.scope) (named_ahead s (reader s.stands read)) c.in_err-name.field-0.0 (e.answer read) in
    record {
      answer = λ read. rw (q.1, q.2) (h read).0;
      state = λ read. rw q.1 (ap (λ (x : State). state x.stands x.book x.conditionals []) (e.state read) ∙ (h read).1);
    }

pub returns-clause-does : goal.returns-clause-does
returns-clause-does g c =
    let s = state_of c.args.self.now in
    let e = c.in_ok-name.ensures.finds in
    let n = c.in_ok-name.name in
    let p = g.S.Source.place c.named_target.new.self.source.below in
    does_then Normal named_ahead (λ z o r. named_by z (λ i q. let_named z q i c.args.scope) o r) (Some n)
    (λ read. named_under s p (λ i q. let_named s q i c.args.scope) (named_ahead s (reader s.stands read)) n (e.answer read)) e.state
    (λ z q. named_same n c.args.scope z q q) c.let_token.ensures.does

pub returns-clause-onward : goal.returns-clause-onward
returns-clause-onward g c =
    let e = c.in_ok-name.ensures in
    let behind = c.named_target.new.self in
    let last = c.let_token.new.self.source.below in
    onward_both g.S.Source.reads _ e.onward
    (subst (λ (b : BookState). Onward (g.S.Source.reads (categories_of b)) behind.source.below last) (ap (λ (x : State). x.book) (e.finds.state [])) c.let_token.ensures.onward)
