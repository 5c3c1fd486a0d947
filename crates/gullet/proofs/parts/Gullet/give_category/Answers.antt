use Rattle.std.proofs.Common.{is_ok, rules, ap, ◌∙◌}
use Rattle.tokens.specs.declared.answer.Entry.TheVariants.{Code}
use Rattle.book.specs.Books.{code_answer, after_code, coding}
use Rattle.book.specs.Said.{book_of}
use Rattle.book.specs.Scopes.{operation}
use Rattle.rules.specs.Readers.{reader}
use Rattle.gullet.specs.States.{state_of, place_of}
use Rattle.gullet.proofs.Booked.{recorded_left, recorded_done}
use Rattle.gullet.proofs.Recoded.{category_read}
use Rattle.gullet.proofs.parts.Gullet.give_category.Goals as goal

pub returns-in_err-map_err-clause-does : goal.returns-in_err-map_err-clause-does
returns-in_err-map_err-clause-does g c =
    let s = state_of c.args.self.now in
    let x = c.args.code in
    let sc = c.args.scope in
    let y = c.in-Ok.category in
    let e = c.assign_category.ensures in
    record {
      answer = search rules;
      state = λ read. rw (category_read c.args.number y _ c.in-Ok.ensures) (recorded_left s (reader s.stands read) s.stands sc (Code x y) (coding (operation sc x y) s.book) (book_of c.assign_category.new.self) (code_answer sc x y s.book) c.from_residual.result (c.in_err-map_err.ensures.variant ∙ ap is_ok e.answer) c.from_residual.ensures.0 e.state);
    }

pub returns-clause-does : goal.returns-clause-does
returns-clause-does g c =
    let s = state_of c.args.self.now in
    let x = c.args.code in
    let sc = c.args.scope in
    let y = c.in-Ok.category in
    let e = c.assign_category.ensures in
    record {
      answer = search rules;
      state = λ read. rw (category_read c.args.number y _ c.in-Ok.ensures, e.state, c.clear.ensures) (recorded_done s (reader s.stands read) s.stands sc (Code x y) (place_of c.args.self.now) (after_code sc x y s.book) (code_answer sc x y s.book) (search rules)).1;
    }
