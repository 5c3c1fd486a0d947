use Rattle.std.proofs.Common.{◌≡◌, ◌+◌, ◌≤◌, true, false, List, [], ◌∷◌, length, Some, sym, refl, ap, ◌∙◌, arith}
use Rattle.tokens.specs.declared.token.Token.{Token}
use Rattle.tokens.specs.Categories.{category_of}
use Rattle.piles.specs.Inserting.{put_back, held_after}
use Rattle.rules.specs.Assigning.{recoded_as, recoded_by}
use Rattle.rules.specs.Readers.{reader, put}
use Rattle.rules.specs.States.{Stepped, meanings_of}
use Rattle.rules.specs.Tokens.{is_space}
use Rattle.gullet.specs.Faults.{placed}
use Rattle.gullet.specs.States.{state_of}
use Rattle.gullet.proofs.Doing.{err_is, does_as}
use Rattle.gullet.proofs.Puts.{puts}
use Rattle.gullet.proofs.Recoded.{recoded_over_lem, recoded_not}
use Rattle.gullet.proofs.parts.Gullet.give_category_before.Goals as goal

pub returns-then-is_space-clause-does : goal.returns-then-is_space-clause-does
returns-then-is_space-clause-does g c =
    let s = state_of c.args.self.now in
    let x = c.args.code in
    let sc = c.args.scope in
    let v = c.args.number in
    let t = c.args.token in
    let yes : is_space (meanings_of s.book) t ≡ true = sym c.is_space.ensures ∙ c.if-is_space.true in
    does_as (λ z r. recoded_as z x sc r z.stands (category_of v)) (λ z r. recoded_by z x sc (Some (v, t)) r) (λ read. rw yes refl) c.give_category.ensures.does

pub returns-in_err-answer-clause-does : goal.returns-in_err-answer-clause-does
returns-in_err-answer-clause-does g c =
    let s = state_of c.args.self.now in
    let x = c.args.code in
    let sc = c.args.scope in
    let v = c.args.number in
    let t = c.args.token in
    let no : is_space (meanings_of s.book) t ≡ false = sym c.is_space.ensures ∙ c.if-is_space.false in
    let hs = s.stands.held in
    let h = c.held.ensures in
    let room : length (t ∷ []) + length hs ≤ 4096 = omega arith in
    let after = λ (ts : List Token). held_after ts (put_back (t ∷ []) ts) in
    let k : (read : List Token) → recoded_as s x sc (reader s.stands read) (put s.stands (after hs)) (category_of v) ≡ recoded_by s x sc (Some (v, t)) (reader s.stands read) =
    λ read. rw (no, puts (t ∷ []) hs room) refl in
    let e = c.in_err-answer.ensures.does in
    let f = c.in_err-answer.field-0.0 in
    let q = err_is _ _ c.from_residual.ensures.1 in
    let p = g.S.Source.place c.give_category-2.new.self.source.below in
    let m : (read : List Token) → recoded_as s x sc (reader s.stands read) s.stands (category_of v) ≡ recoded_by s x sc (Some (v, t)) (reader s.stands read) =
    λ read. recoded_not s (reader s.stands read) sc p after x (category_of v) f (e.answer read) ∙ k read in
    record {
      answer = λ read. q ∙ e.answer read ∙ ap (λ (z : Stepped). placed p z.answer) (m read);
      state = λ read. rw q (e.state read ∙ ap (λ (z : Stepped). z.state) (m read));
    }

pub returns-clause-does : goal.returns-clause-does
returns-clause-does g c =
    let s = state_of c.args.self.now in
    let x = c.args.code in
    let sc = c.args.scope in
    let v = c.args.number in
    let t = c.args.token in
    let no : is_space (meanings_of s.book) t ≡ false = sym c.is_space.ensures ∙ c.if-is_space.false in
    let hs = s.stands.held in
    let h = c.held.ensures in
    let room : length (t ∷ []) + length hs ≤ 4096 = omega arith in
    let after = λ (ts : List Token). held_after ts (put_back (t ∷ []) ts) in
    let k : (read : List Token) → recoded_as s x sc (reader s.stands read) (put s.stands (after hs)) (category_of v) ≡ recoded_by s x sc (Some (v, t)) (reader s.stands read) =
    λ read. rw (no, puts (t ∷ []) hs room) refl in
    let e = c.in_ok-answer.ensures.does in
    let u = c.put_back.ensures in
    let done = c.give_category-2.new.self in
    let p = g.S.Source.place done.source.below in
    let h = λ (read : List Token). recoded_over_lem s (reader s.stands read) sc p after x (category_of v) c.in_ok-answer.answer (state_of done) (e.answer read) (e.state read) in
    record {
      answer = λ read. (h read).0 ∙ ap (λ (z : Stepped). placed p z.answer) (k read) ∙ ap (λ b. placed (g.S.Source.place b) (recoded_by s x sc (Some (v, t)) (reader s.stands read)).answer) (sym u.below);
      state = λ read. rw (u.held, u.below) ((h read).1 ∙ ap (λ (z : Stepped). z.state) (k read));
    }
