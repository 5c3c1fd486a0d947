use Rattle.std.proofs.Common.{◌≡◌, ℕ, ◌+◌, true, false, ltb, length, Err, vec_items, vec_len, Result, sym, ap, ◌∙◌, subst, arith}
use Rattle.std.proofs.lemmas.List.{length-append}
use Rattle.std.proofs.lemmas.Result.{err_from_is_err_and}
use Rattle.std.proofs.lemmas.Bool.{cond-true, cond-false}
use Rattle.tables.specs.Table.{State, Op, refused, step, tried}
use Rattle.tables.specs.Reading.{read_by, Holds}
use Rattle.book.specs.declared.fault.BookFault.{BookFault}
use Rattle.book.specs.declared.fault.BookFault.TheVariants.{DefinitionTooLong, WordsFull, RecordsFull}
use Rattle.book.specs.declared.meaning.Held.{Held}
use Rattle.book.specs.declared.meaning.Held.TheVariants.{Macro}
use Rattle.book.specs.Beyond.{no_meaning}
use Rattle.book.specs.Books.{after, if_room, defining}
use Rattle.book.specs.Meanings.{Means, macro, within}
use Rattle.book.specs.Said.{read, book_of}
use Rattle.book.specs.Scopes.{operation, record_answer}
use Rattle.book.specs.Tabled.{state_of}
use Rattle.book.proofs.Calling.{if_refused, if_done}
use Rattle.book.proofs.Defining.{refused_read, past_checks, was_refused, was_done, defined, defined_within}
use Rattle.book.proofs.contents.Book.define.Goals as goal

-- refused, the table is as before
unchanged : (s t : State Held) (o : Op Held) → t ≡ tried 2048 s o → refused 2048 s o ≡ true → t ≡ s
unchanged s t o e r = e ∙ cond-true (refused 2048 s o) s (step s o) r

pub invariant_of-self : goal.invariant_of-self
invariant_of-self c =
    let b = c.args.self.now in
    let a = c.assign.ensures in
    let p = within (vec_len b.words.parameters.held) (vec_len b.words.bodies.held) in
    let s = state_of no_meaning b.names in
    let r = (was_refused _ _ _ (c.in_err-assign.ensures.answer no_meaning)).0 in record {
      sized = (a.sizes.0 ∙ b.sized.0, b.sized.1);
      level = (a.sizes.1 ∙ b.level.0, b.level.1);
      lying = subst (Holds p) (sym (unchanged s (state_of no_meaning c.assign.new.self) _ (a.state no_meaning) r)) b.lying;
    }

pub returns-in_err-assign : goal.returns-in_err-assign
returns-in_err-assign c =
    let b = c.args.self.now in
    let a = c.assign.ensures in
    let s = state_of no_meaning b.names in
    let ps = c.args.parameters.now in
    let bs = c.args.body.now in
    let n = length ps + length bs in
    let o : Op Means = operation c.args.scope c.args.name (macro c.args.long ps bs) in
    let w = was_refused _ _ _ (c.in_err-assign.ensures.answer no_meaning) in
    let r : refused 2048 (book_of b).names o ≡ true = refused_read (read b.words) 2048 s c.args.scope c.args.name (Macro c.next-place.result) _ ∙ w.0 in
    let d : if_room n (book_of b) (record_answer (book_of b).names o) ≡ record_answer (book_of b).names o = past_checks (ltb 2048 n) (ltb 16384 ((book_of b).words + n)) DefinitionTooLong WordsFull (record_answer (book_of b).names o) c.in_ok-room_for.ensures.answer in
    let q = if_refused (refused 2048 (book_of b).names o) RecordsFull (book_of b) (defining n o (book_of b)) r in
    let x = err_from_is_err_and c.from_residual-in_err-assign.result c.from_residual-in_err-assign.ensures.1 in
    let u = unchanged s (state_of no_meaning c.assign.new.self) _ (a.state no_meaning) w.0 in
    record {
      answer = x.1 ∙ ap Err (x.2 ∙ w.1) ∙ q.0 ∙ sym d;
      state =
          (λ i. record { names = read_by (read b.words) (u i); codes = (book_of b).codes; groups = (book_of b).groups; words = (book_of b).words })
          ∙ q.1 ∙ ap (λ (z : Result (Unit {0}) BookFault). after z (book_of b) (defining n o (book_of b))) (sym d);
    }

pub invariant_of-self-2 : goal.invariant_of-self-2
invariant_of-self-2 c =
    let b = c.args.self.now in
    let a = c.assign.ensures in
    let ps = c.args.parameters.now in
    let bs = c.args.body.now in
    let w = b.words in
    let u = c.add.new.self in
    let nl : vec_len u.parameters.held ≡ vec_len w.parameters.held + length ps =
    u.parameters.held.ok.0 ∙ ap length c.add.ensures.parameters ∙ length-append (vec_items w.parameters.held) ps ∙ ap (λ (n : ℕ). n + length ps) (sym w.parameters.held.ok.0) in
    let ml : vec_len u.bodies.held ≡ vec_len w.bodies.held + length bs =
    u.bodies.held.ok.0 ∙ ap length c.add.ensures.bodies ∙ length-append (vec_items w.bodies.held) bs ∙ ap (λ (n : ℕ). n + length bs) (sym w.bodies.held.ok.0) in
    let s = state_of no_meaning b.names in
    let e = a.state no_meaning ∙ ap (λ m. tried 2048 s (operation c.args.scope c.args.name (Macro m))) c.next-place.ensures in record {
      sized = (a.sizes.0 ∙ b.sized.0, b.sized.1);
      level = (a.sizes.1 ∙ b.level.0, b.level.1);
      lying = defined_within (vec_items w.parameters.held) ps (vec_items w.bodies.held) bs (vec_len w.parameters.held) (vec_len w.bodies.held) w.parameters.held.ok.0 w.bodies.held.ok.0
          (vec_len u.parameters.held) (vec_len u.bodies.held) nl ml s (state_of no_meaning c.assign.new.self) c.args.scope c.args.name c.args.long b.lying e;
    }

pub returns : goal.returns
returns c =
    let b = c.args.self.now in
    let a = c.assign.ensures in
    let ps = c.args.parameters.now in
    let bs = c.args.body.now in
    let n = length ps + length bs in
    let w = b.words in
    let u = c.add.new.self in
    let nl = u.parameters.held.ok.0 ∙ ap length c.add.ensures.parameters ∙ length-append (vec_items w.parameters.held) ps in
    let ml = u.bodies.held.ok.0 ∙ ap length c.add.ensures.bodies ∙ length-append (vec_items w.bodies.held) bs in
    let count : vec_len u.parameters.held + vec_len u.bodies.held ≡ (book_of b).words + n = omega (arith, w.parameters.held.ok.0, w.bodies.held.ok.0) in
    let s = state_of no_meaning b.names in
    let o : Op Means = operation c.args.scope c.args.name (macro c.args.long ps bs) in
    let e = a.state no_meaning ∙ ap (λ m. tried 2048 s (operation c.args.scope c.args.name (Macro m))) c.next-place.ensures in
    let r : refused 2048 (book_of b).names o ≡ false = refused_read (read w) 2048 s c.args.scope c.args.name (Macro c.next-place.result) _ ∙ was_done _ _ (c.in_ok-assign.ensures.answer no_meaning) in
    let names =
    defined (vec_items w.parameters.held) ps (vec_items w.bodies.held) bs (vec_len w.parameters.held) (vec_len w.bodies.held) w.parameters.held.ok.0 w.bodies.held.ok.0
    (vec_items u.parameters.held) (vec_items u.bodies.held) c.add.ensures.parameters c.add.ensures.bodies s (state_of no_meaning c.assign.new.self) c.args.scope c.args.name c.args.long b.lying e
    ∙ cond-false (refused 2048 (book_of b).names o) (book_of b).names (step (book_of b).names o) r in
    let d : if_room n (book_of b) (record_answer (book_of b).names o) ≡ record_answer (book_of b).names o = past_checks (ltb 2048 n) (ltb 16384 ((book_of b).words + n)) DefinitionTooLong WordsFull (record_answer (book_of b).names o) c.in_ok-room_for.ensures.answer in
    let q = if_done (refused 2048 (book_of b).names o) RecordsFull (book_of b) (defining n o (book_of b)) r in
    record {
      answer = q.0 ∙ sym d;
      state =
          (λ i. record { names = names i; codes = (book_of b).codes; groups = (book_of b).groups; words = count i })
          ∙ q.1 ∙ ap (λ (z : Result (Unit {0}) BookFault). after z (book_of b) (defining n o (book_of b))) (sym d);
    }
