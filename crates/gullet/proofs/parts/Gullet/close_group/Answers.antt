use Rattle.std.proofs.Common.{is_ok, rules, ap, ◌∙◌}
use Rattle.tokens.specs.declared.answer.Answer.TheVariants.{Closed}
use Rattle.book.specs.Books.{close_answer, closing}
use Rattle.book.specs.Said.{book_of}
use Rattle.rules.specs.Readers.{reader}
use Rattle.gullet.specs.States.{state_of}
use Rattle.gullet.proofs.Booked.{grouped_left}
use Rattle.gullet.proofs.parts.Gullet.close_group.Goals as goal

pub returns-in_err-map_err-clause-does : goal.returns-in_err-map_err-clause-does
returns-in_err-map_err-clause-does g c =
    let s = state_of c.args.self.now in
    let e = c.close.ensures in
    record {
      answer = search rules;
      state = λ read. grouped_left s (reader s.stands read) (Closed c.args.kind) (closing s.book) (book_of c.close.new.self) (close_answer c.args.kind s.book) c.from_residual.result (c.in_err-map_err.ensures.variant ∙ ap is_ok e.answer) c.from_residual.ensures.0 e.state;
    }
