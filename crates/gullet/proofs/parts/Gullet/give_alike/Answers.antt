use Rattle.std.proofs.Common.{is_ok, rules, ap, ◌∙◌}
use Rattle.tokens.specs.declared.answer.Entry.TheVariants.{Name}
use Rattle.book.specs.Books.{name_answer, naming}
use Rattle.book.specs.Said.{book_of}
use Rattle.book.specs.Scopes.{operation}
use Rattle.rules.specs.Readers.{reader}
use Rattle.rules.specs.States.{meanings_of}
use Rattle.rules.specs.Tokens.{meaning}
use Rattle.gullet.specs.States.{state_of}
use Rattle.gullet.proofs.Booked.{recorded_left}
use Rattle.gullet.proofs.parts.Gullet.give_alike.Goals as goal

pub returns-in_err-map_err-clause-does : goal.returns-in_err-map_err-clause-does
returns-in_err-map_err-clause-does g c =
    let s = state_of c.args.self.now in
    let n = c.args.name in
    let sc = c.args.scope in
    let m = meaning (meanings_of s.book) c.args.token in
    let e = c.copy_meaning-outcome.ensures in
    record {
      answer = search rules;
      state = λ read. recorded_left s (reader s.stands read) s.stands sc (Name n) (naming (operation sc n m) s.book) (book_of c.copy_meaning-outcome.new.book) (name_answer sc n m s.book) c.from_residual.result (c.in_err-map_err.ensures.variant ∙ ap is_ok e.answer) c.from_residual.ensures.0 e.state;
    }
