use Rattle.std.proofs.Common.{[], ◌∙◌}
use Rattle.matching.specs.Matching.{on}
use Rattle.names.specs.Spelled.{listed}
use Rattle.book.specs.Said.{book_of}
use Rattle.rules.specs.Defining.{in_text, definition_feed}
use Rattle.rules.specs.States.{meanings_of}
use Rattle.gullet.specs.Fed.{position_of}
use Rattle.gullet.proofs.Holding.{stands_then, answer_then, reached_onward}
use Rattle.gullet.proofs.definition.read_definition.Goals as goal

pub returns : goal.returns
returns g c =
    let e = c.drafted.ensures in
    let cs = c.categories.result.now in
    let feed = definition_feed (meanings_of (book_of c.args.book.now)) in
    let p = position_of g.S.Source.ahead c.args.names.now c.args.source.now in
    record {
      answer = λ read. rw (← c.categories.ensures) (e.answer ∙ answer_then cs feed (on (in_text [] 0)) p read (g.S.Source.place c.drafted.new.source.below));
      stands = λ read. rw (← c.categories.ensures) (stands_then g.S.Source.ahead g.S.Source.reads cs feed (on (in_text [] 0)) (listed c.args.names.now) (listed c.drafted.new.names) c.args.source.now c.drafted.new.source read e.names e.items e.reached);
      onward = rw (← c.categories.ensures) (reached_onward g.S.Source.reads cs feed (on (in_text [] 0)) (listed c.args.names.now) _ c.args.source.now c.drafted.new.source e.reached);
    }
