use Rattle.std.proofs.Common.{◌∙◌}
use Rattle.matching.specs.Matching.{on}
use Rattle.names.specs.Spelled.{listed}
use Rattle.gullet.specs.Fed.{position_of}
use Rattle.gullet.proofs.Holding.{stands_then, answer_then, reached_onward}
use Rattle.gullet.proofs.feeding.fed.Goals as goal

pub returns : goal.returns
returns g c =
    let e = c.driven.ensures in
    let cs = c.categories.result.now in
    let p = position_of g.S.Source.ahead c.args.names.now c.args.source.now in
    record {
      answer = λ read. rw (← c.categories.ensures) (e.answer ∙ answer_then cs (g.A.Automaton.feeds c.args.rule.now) (on c.args.start) p read (g.S.Source.place c.driven.new.source.below));
      stands = λ read. rw (← c.categories.ensures) (stands_then g.S.Source.ahead g.S.Source.reads cs (g.A.Automaton.feeds c.args.rule.now) (on c.args.start) (listed c.args.names.now) (listed c.driven.new.names) c.args.source.now c.driven.new.source read e.names e.items e.reached);
      onward = rw (← c.categories.ensures) (reached_onward g.S.Source.reads cs (g.A.Automaton.feeds c.args.rule.now) (on c.args.start) (listed c.args.names.now) _ c.args.source.now c.driven.new.source e.reached);
    }
