use Rattle.std.proofs.Common.{◌<◌, ◌≤◌, leb, reverse, length, vec_items, vec_len, sym, ap, ◌∙◌, subst, arith}
use Rattle.std.proofs.lemmas.List.{length-reverse}
use Rattle.std.proofs.lemmas.Bool.{le-leb, lt-leb}
use Rattle.tables.specs.Reading.{read_by, Holds}
use Rattle.book.specs.declared.fault.BookFault.TheVariants.{GroupsFull}
use Rattle.book.specs.Beyond.{no_meaning, no_category}
use Rattle.book.specs.Books.{opening}
use Rattle.book.specs.Meanings.{within}
use Rattle.book.specs.Said.{read, book_of}
use Rattle.book.proofs.Calling.{if_refused, if_done, kinds_pushed}
use Rattle.book.proofs.contents.Book.open.Goals as goal

pub returns-then-len-ge-GROUPS : goal.returns-then-len-ge-GROUPS
returns-then-len-ge-GROUPS c =
    let b = c.args.self.now in
    let n = length-reverse (vec_items b.kinds.held) in
    let h : 250 ≤ length (reverse (vec_items b.kinds.held)) = omega (arith, b.kinds.held.ok.0) in
    let p = if_refused (leb 250 (length (book_of b).groups)) GroupsFull (book_of b) (opening c.args.kind (book_of b)) (le-leb 250 _ h) in
    record { answer = p.0; state = p.1 }

pub invariant_of-self : goal.invariant_of-self
invariant_of-self c =
    let b = c.args.self.now in
    let o = c.open.ensures in
    let u = c.open-2.ensures in
    let n = b.level.0 in
    let m = b.level.1 in
    let p = within (vec_len b.words.parameters.held) (vec_len b.words.bodies.held) in (
      (omega (arith, b.kinds.room, c.push_reserved.ensures.capacity), tt),
      (
        (o.sizes.0 ∙ b.sized.0, u.sizes.0 ∙ b.sized.1),
        (
          (omega (arith, o.sizes.1, c.push_reserved.ensures.len), omega (arith, u.sizes.1, c.push_reserved.ensures.len)),
          (subst (Holds p) (sym (o.state no_meaning)) b.lying, tt),
        ),
      ),
    )

pub returns : goal.returns
returns c =
    let b = c.args.self.now in
    let n = length-reverse (vec_items b.kinds.held) in
    let h : length (reverse (vec_items b.kinds.held)) < 250 = omega (arith, b.kinds.held.ok.0, c.len.ensures, c.if-len-ge-GROUPS.false) in
    let p = if_done (leb 250 (length (book_of b).groups)) GroupsFull (book_of b) (opening c.args.kind (book_of b)) (lt-leb 250 _ h) in
    let ks = ap reverse c.push_reserved.ensures.items ∙ kinds_pushed (vec_items b.kinds.held) c.args.kind in
    record {
      answer = p.0;
      state = (λ i. record {
        names = read_by (read b.words) (c.open.ensures.state no_meaning i);
        codes = c.open-2.ensures.state no_category i;
        groups = ks i;
        words = (book_of b).words;
      }) ∙ p.1;
    }
