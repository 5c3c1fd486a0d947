use Rattle.std.proofs.Common.{vec_len, sym, refl, ap, ◌∙◌, subst}
use Rattle.tables.specs.Reading.{read_by, Holds}
use Rattle.book.specs.declared.fault.BookFault.TheVariants.{RecordsFull}
use Rattle.book.specs.declared.meaning.Held.TheVariants.{Plain}
use Rattle.book.specs.Beyond.{no_meaning}
use Rattle.book.specs.Meanings.{within, plain}
use Rattle.book.specs.Said.{read, book_of}
use Rattle.book.specs.Scopes.{operation}
use Rattle.book.specs.Tabled.{state_of}
use Rattle.book.proofs.Calling.{answer_read, state_read, holds_tried, names_after_lem}
use Rattle.book.proofs.contents.Book.assign_meaning.Goals as goal

pub invariant_of-self : goal.invariant_of-self
invariant_of-self c =
    let b = c.args.self.now in
    let a = c.assign.ensures in
    let p = within (vec_len b.words.parameters.held) (vec_len b.words.bodies.held) in
    let held = Plain c.args.meaning in record {
      sized = (a.sizes.0 ∙ b.sized.0, b.sized.1);
      level = (a.sizes.1 ∙ b.level.0, b.level.1);
      lying = subst (Holds p) (sym (a.state no_meaning)) (holds_tried p 2048 (state_of no_meaning b.names) c.args.scope c.args.name held b.lying refl);
    }

pub returns : goal.returns
returns c =
    let b = c.args.self.now in
    let a = c.assign.ensures in
    let f = read b.words in
    let s = state_of no_meaning b.names in
    let held = Plain c.args.meaning in
    let e = ap (read_by f) (a.state no_meaning) ∙ state_read f 2048 s c.args.scope c.args.name held in
    record {
      answer = a.answer no_meaning ∙ answer_read f 2048 s c.args.scope c.args.name held RecordsFull;
      state = (λ i. record {
        names = e i;
        codes = (book_of b).codes;
        groups = (book_of b).groups;
        words = (book_of b).words;
      }) ∙ names_after_lem (book_of b) (operation c.args.scope c.args.name (plain c.args.meaning));
    }
