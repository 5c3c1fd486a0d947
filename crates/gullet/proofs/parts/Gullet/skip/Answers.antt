use Rattle.std.proofs.Common.{rules, ◌≡◌, ◌∙◌}
use Rattle.driving.specs.Drives.{stands_at}
use Rattle.rules.specs.Readers.{reader}
use Rattle.driving.specs.declared.status.Status.TheVariants.{Skipping}
use Rattle.gullet.specs.Passing.{skipping}
use Rattle.gullet.specs.States.{state_of}
use Rattle.gullet.proofs.Doing.{moves}
use Rattle.gullet.proofs.Passed.{under_from}
use Rattle.gullet.proofs.parts.Gullet.skip.Goals as goal

pub returns-clause-finds : goal.returns-clause-finds
returns-clause-finds g c =
    let s = state_of c.args.self.now in
    let e = c.fed.ensures in
    let k : c.status-status.result ≡ Skipping = c.status-status.ensures ∙ c.enter-guard.ensures.within in
    record {
      answer = λ read. under_from Skipping (g.S.Source.place c.fed.new.source.below) (skipping s (reader s.stands read) c.args.until) c.fed.result c.map_err.result (rw (← k) (search rules)) (e.answer read);
      state = λ read. moves s (stands_at (skipping s (reader s.stands read) c.args.until)) (e.stands read);
    }
