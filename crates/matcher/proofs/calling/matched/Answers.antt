use Rattle.std.proofs.Common.{Err, ap, ◌∙◌, rules}
use Rattle.driving.specs.declared.status.Status.{Status}
use Rattle.driving.specs.declared.status.Status.TheVariants.{Matching}
use Rattle.matcher.specs.Held.{arguments_of}
use Rattle.matcher.proofs.Called.{came_answer, came_given, came_names, came_items, came_reached, fails_answer, fails_given, fails_names, fails_items, fails_reached}
use Rattle.matcher.proofs.calling.matched.Goals as goal

pub returns-in-Ok : goal.returns-in-Ok
returns-in-Ok g c =
    let h = c.in-Ok.ensures in
    let args = arguments_of c.divide.new.arguments in
    let text = c.args.text.words.now in
    record {
      answer = came_answer _ _ _ _ _ text _ _ _ _ Matching args h;
      arguments = came_given _ _ _ _ _ text _ _ _ _ Matching args h;
      names = came_names _ _ _ _ _ text _ _ _ _ Matching args h;
      items = came_items _ _ _ _ _ text _ _ _ _ Matching args h;
      reached = came_reached _ _ _ _ _ text _ _ _ _ Matching args h;
      scan = search rules;
    }

pub returns : goal.returns
returns g c =
    let h = c.in-Err.ensures in
    let f = c.in-Err.cause in
    let text = c.args.text.words.now in
    record {
      answer = ap (λ (s : Status). Err (record { cause = f; status = s })) (c.status.ensures ∙ c.enter-guard.ensures.within) ∙ fails_answer _ _ _ _ _ text _ _ _ _ Matching f h;
      arguments = c.clear-in-Err.ensures.arguments ∙ fails_given _ _ _ _ _ text _ _ _ _ Matching f h;
      names = fails_names _ _ _ _ _ text _ _ _ _ Matching f h;
      items = fails_items _ _ _ _ _ text _ _ _ _ Matching f h;
      reached = fails_reached _ _ _ _ _ text _ _ _ _ Matching f h;
      scan = search rules;
    }
