use Rattle.std.proofs.cmp.Tests.{ltb_from_iff}
use Rattle.std.proofs.Common.{◌≡◌, ℕ, ◌+◌, ◌<◌, not, ltb, List, reverse, length, is_some, vec_items, vec_len, sym, refl, ap, ◌∙◌, subst, arith}
use Rattle.tokens.specs.declared.answer.GroupKind.{GroupKind}
use Rattle.tables.specs.Reading.{read_by, Holds}
use Rattle.tables.proofs.Reading.{read_closed, holds_closed}
use Rattle.book.specs.declared.fault.BookFault.TheVariants.{WrongGroup}
use Rattle.book.specs.Beyond.{no_meaning, no_category}
use Rattle.book.specs.Books.{closing, is_innermost, without}
use Rattle.book.specs.Meanings.{within}
use Rattle.book.specs.Said.{read, book_of}
use Rattle.book.specs.Tabled.{state_of}
use Rattle.book.proofs.Calling.{if_done, kinds_popped, one_popped}
use Rattle.book.proofs.contents.Book.close.Goals as goal

pub invariant_of-self : goal.invariant_of-self
invariant_of-self c =
    let b = c.args.self.now in
    let o = c.close.ensures in
    let u = c.close-2.ensures in
    let inside : 0 < vec_len b.kinds.held = c.if-not-is_innermost.ensures.inside refl in
    let k : vec_len c.pop.new.self + 1 ≡ vec_len b.kinds.held = one_popped _ _ c.pop.result (c.pop.ensures.variant.1 inside) c.pop.ensures.len in
    let n = b.level.0 in
    let m = b.level.1 in
    let p = within (vec_len b.words.parameters.held) (vec_len b.words.bodies.held) in (
      (omega (arith, b.kinds.room, c.pop.ensures.capacity), tt),
      (
        (o.sizes.0 ∙ b.sized.0, u.sizes.0 ∙ b.sized.1),
        (
          (omega (arith, o.sizes.1), omega (arith, u.sizes.1)),
          (subst (Holds p) (sym (o.state no_meaning)) (holds_closed p (state_of no_meaning b.names) b.lying), tt),
        ),
      ),
    )

pub returns : goal.returns
returns c =
    let b = c.args.self.now in
    let f = read b.words in
    let e = c.pop.ensures.items in
    let t : is_some c.pop.result ≡ ltb 0 (length (vec_items b.kinds.held)) = (ltb_from_iff c.pop.ensures.variant) ∙ ap (λ (n : ℕ). ltb 0 n) b.kinds.held.ok.0 in
    let ks = kinds_popped (vec_items c.pop.new.self) c.pop.result (subst (λ (xs : List GroupKind). is_some c.pop.result ≡ ltb 0 (length xs)) e t) ∙ ap (λ (xs : List GroupKind). without (reverse xs)) (sym e) in
    let ns = ap (read_by f) (c.close.ensures.state no_meaning) ∙ read_closed f (state_of no_meaning b.names) in
    let p = if_done (not (is_innermost c.args.kind (book_of b).groups)) WrongGroup (book_of b) (closing (book_of b)) (ap not (sym c.if-not-is_innermost.ensures.answer)) in
    record {
      answer = p.0;
      state = (λ i. record { names = ns i; codes = c.close-2.ensures.state no_category i; groups = ks i; words = (book_of b).words }) ∙ p.1;
    }
