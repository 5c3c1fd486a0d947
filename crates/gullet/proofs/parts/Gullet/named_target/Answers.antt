use Rattle.std.proofs.Common.{rules, ap, ◌∙◌}
use Rattle.std.proofs.lemmas.Result.{err_from_is_err_and}
use Rattle.driving.specs.Drives.{stands_at}
use Rattle.rules.specs.Readers.{reader}
use Rattle.gullet.specs.Faults.{placed}
use Rattle.gullet.specs.States.{state_of}
use Rattle.gullet.specs.Targets.{named_ahead}
use Rattle.gullet.proofs.Doing.{moves}
use Rattle.gullet.proofs.Finished.{name_found, target_came, target_short}
use Rattle.gullet.proofs.parts.Gullet.named_target.Goals as goal

pub returns-in_err-name-clause-finds : goal.returns-in_err-name-clause-finds
returns-in_err-name-clause-finds g c =
    let s = state_of c.args.self.now in
    let e = c.in_err-name.ensures in
    let q = err_from_is_err_and c.from_residual.result c.from_residual.ensures.1 in
    record {
      answer = λ read. rw (q.1, q.2) (target_short (g.S.Source.place c.fed.new.source.below) (named_ahead s (reader s.stands read)) c.in_err-name.field-0.0 (e.answer read));
      state = λ read. moves s (stands_at (named_ahead s (reader s.stands read))) (e.stands read);
    }

pub returns-clause-finds : goal.returns-clause-finds
returns-clause-finds g c =
    let s = state_of c.args.self.now in
    let e = c.in_ok-name.ensures in
    record {
      answer = λ read. name_found (g.S.Source.place c.fed.new.source.below) c.in_ok-name.name c.ok_or_else.result (search rules)
          ∙ ap (placed (g.S.Source.place c.fed.new.source.below)) (target_came (g.S.Source.place c.fed.new.source.below) (named_ahead s (reader s.stands read)) c.in_ok-name.name (e.answer read));
      state = λ read. moves s (stands_at (named_ahead s (reader s.stands read))) (e.stands read);
    }
