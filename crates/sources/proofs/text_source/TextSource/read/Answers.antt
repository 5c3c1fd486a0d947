use Rattle.std.proofs.Common.{◌≡◌, ◌<◌, ◌⊎◌, vec_items, vec_len, sym, ap, ◌∙◌, inl, inr}
use Rattle.std.proofs.lemmas.Result.{err_from_is_err_and}
use Rattle.names.specs.Spelled.{listed}
use Rattle.sources.specs.declared.text.Text.{Text}
use Rattle.sources.specs.Ahead.{fault, ahead_of}
use Rattle.sources.specs.Texts.{made_lines, place_in}
use Rattle.sources.specs.Texted.{text_ahead, text_place, text_lines}
use Rattle.sources.proofs.Heads.{some_answered, fault_answered, none_answered, text_placed}
use Rattle.sources.proofs.text_source.TextSource.read.Goals as goal

-- the lines are the same, and the place is where the items ahead begin
stays : (t u : Text) → u.bytes ≡ t.bytes → (0 < u.cursor.taken) ⊎ (u.cursor.taken ≡ vec_len u.line) → (text_lines u ≡ text_lines t) × (text_place u ≡ place_in (text_lines t) (text_ahead u))
stays t u e h =
    let l : text_lines u ≡ text_lines t = ap (λ b. made_lines (vec_items b)) e in
    (l, text_placed u h ∙ ap (λ ls. place_in ls (text_ahead u)) l)

pub returns-in_err-token : goal.returns-in_err-token
returns-in_err-token c =
    let u = c.read_line.new.self in
    let e = c.in_err-token.ensures in
    let f = c.in_err-token.field-0.0 in
    let was : _ ≡ fault f.refusal (listed c.read_line.new.names) (text_ahead u) = sym c.lines.invariant.0 ∙ e.turned in
    let p = err_from_is_err_and c.from_residual.result c.from_residual.ensures.1 in
    let h = fault_answered (text_place u) _ f (listed c.read_line.new.names) (text_ahead u) was e.placed in
    record {
      answer = rw (p.1, p.2) h.0;
      names = h.1;
      items = h.2;
      reads = stays c.args.self.now u (e.bytes ∙ c.lines.invariant.2) (inl e.onward);
    }

pub returns-in-Some : goal.returns-in-Some
returns-in-Some c =
    let u = c.read_line.new.self in
    let e = c.in_ok-token.ensures in
    let t = rw c.in-Some.is at e.turned in
    let h = some_answered (text_place u) _ c.in-Some.token (listed c.read_line.new.names) (text_ahead u) _ (sym c.lines.invariant.0 ∙ t) in
    record {
      answer = h.0;
      names = h.1;
      items = h.2;
      reads = stays c.args.self.now u (e.bytes ∙ c.lines.invariant.2) (inl (rw c.in-Some.is at e.onward));
    }

pub returns-then-not-begin_line : goal.returns-then-not-begin_line
returns-then-not-begin_line c =
    let v = c.read_line.new.self in
    let u = c.begin_line.new.self in
    let e = c.in_ok-token.ensures in
    let b = c.if-not-begin_line.ensures in
    let ns = listed c.read_line.new.names in
    let t = rw c.in_default.is at e.turned in
    let h = none_answered (text_place u) _ c.args.categories.now ns (text_ahead u) (sym c.lines.invariant.0 ∙ t ∙ ap (ahead_of c.args.categories.now ns) (sym b.ahead)) b.test.1 in
    record {
      answer = h.0;
      names = h.1;
      items = h.2;
      reads = stays c.args.self.now u (b.bytes ∙ e.bytes ∙ c.lines.invariant.2) (inr b.test.0);
    }
