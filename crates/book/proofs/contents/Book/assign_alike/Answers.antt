use Rattle.std.proofs.Common.{vec_len, sym, ap, ◌∙◌, subst}
use Rattle.tables.specs.Table.{tried}
use Rattle.tables.specs.Reading.{read_by, Holds}
use Rattle.book.specs.declared.fault.BookFault.TheVariants.{RecordsFull}
use Rattle.book.specs.Beyond.{no_meaning}
use Rattle.book.specs.Books.{name_answer}
use Rattle.book.specs.Meanings.{Means, within}
use Rattle.book.specs.Said.{read, book_of}
use Rattle.book.specs.Scopes.{operation}
use Rattle.book.specs.Tabled.{state_of}
use Rattle.book.proofs.Calling.{answer_read, state_read, holds_tried, names_after_lem}
use Rattle.book.proofs.contents.Book.assign_alike.Goals as goal

pub invariant_of-self : goal.invariant_of-self
invariant_of-self c =
    let b = c.args.self.now in
    let a = c.assign.ensures in
    let p = within (vec_len b.words.parameters.held) (vec_len b.words.bodies.held) in
    let held = c.value-held.result in record {
      sized = (a.sizes.0 ∙ b.sized.0, b.sized.1);
      level = (a.sizes.1 ∙ b.level.0, b.level.1);
      lying = subst (Holds p) (sym (a.state no_meaning)) (holds_tried p 2048 (state_of no_meaning b.names) c.args.scope c.args.name held b.lying (ap p (c.value-held.ensures no_meaning) ∙ b.lying.0 c.args.other));
    }

pub returns : goal.returns
returns c =
    let b = c.args.self.now in
    let a = c.assign.ensures in
    let f = read b.words in
    let s = state_of no_meaning b.names in
    let held = c.value-held.result in
    let found = ap f (c.value-held.ensures no_meaning) in
    let e = ap (read_by f) (a.state no_meaning) ∙ state_read f 2048 s c.args.scope c.args.name held ∙ ap (λ (m : Means). tried 2048 (read_by f s) (operation c.args.scope c.args.name m)) found in
    record {
      answer = a.answer no_meaning ∙ answer_read f 2048 s c.args.scope c.args.name held RecordsFull ∙ ap (λ (m : Means). name_answer c.args.scope c.args.name m (book_of b)) found;
      state = (λ i. record {
        names = e i;
        codes = (book_of b).codes;
        groups = (book_of b).groups;
        words = (book_of b).words;
      }) ∙ names_after_lem (book_of b) (operation c.args.scope c.args.name ((book_of b).names.table c.args.other).value);
    }
