use Rattle.std.proofs.Common.{rules, sym, ◌≡◌, ℕ, ◌++◌, Some, None, Ok, Err, refl, ap, ◌∙◌, arith}
use Rattle.names.specs.Spelled.{listed}
use Rattle.sources.specs.Ahead.{ahead_of, head_answer}
use Rattle.piles.specs.Behind.{over}
use Rattle.piles.proofs.Sides.{none_first, some_first, fault_first, second_read, second_kept}
use Rattle.piles.proofs.joining.JoinSource.read.Goals as goal

pub returns : goal.returns
returns g c =
    let j = c.args.self.now in
    let cs = c.args.categories.now in
    let ns = listed c.args.names.now in
    let js = g.B.Source.ahead j.second in
    let p = g.A.Source.place c.read.new.self in
    let a = ahead_of cs ns (g.A.Source.ahead j.first) in
    let e = c.in_ok-token.ensures in
    let f : Ok None ≡ head_answer p a = ap Ok (sym c.in_default.is) ∙ e.answer in
    let h = none_first cs ns js p a (ahead_of cs ns (g.A.Source.ahead j.first ++ js)) (over cs ns js (g.A.Source.ahead j.first)) f in
    let same : listed c.read.new.names ≡ ns = e.names ∙ h.1 in
    let r = c.read-2.ensures in
    record {
      answer = rw h.0 (rw same at r.answer);
      names = rw h.0 (rw same at r.names);
      items = rw (h.0, e.items, h.2) (rw same at r.items);
      reads = (e.reads, second_read cs ns js p g.B.Source.reads j _ a f (rw same at r.reads) refl);
    }

pub returns-in-Some : goal.returns-in-Some
returns-in-Some g c =
    let j = c.args.self.now in
    let cs = c.args.categories.now in
    let ns = listed c.args.names.now in
    let js = g.B.Source.ahead j.second in
    let p = g.A.Source.place c.read.new.self in
    let a = ahead_of cs ns (g.A.Source.ahead j.first) in
    let e = c.in_ok-token.ensures in
    let f : Ok (Some c.in-Some.token) ≡ head_answer p a = ap Ok (sym c.in-Some.is) ∙ e.answer in
    let h = some_first cs ns js p a (ahead_of cs ns (g.A.Source.ahead j.first ++ js)) c.in-Some.token (over cs ns js (g.A.Source.ahead j.first)) f in
    let other : Ok None ≡ head_answer p a → ⊥ = λ n. let z : ◌≡◌ {A = ℕ} 0 1 = cc (f, n) in omega arith in
    record {
      answer = h.0;
      names = e.names ∙ h.1;
      items = ap (λ is. is ++ js) e.items ∙ h.2;
      reads = (e.reads, second_kept cs ns js p g.B.Source.reads j _ a other refl refl);
    }

pub returns-in_err-token : goal.returns-in_err-token
returns-in_err-token g c =
    let j = c.args.self.now in
    let cs = c.args.categories.now in
    let ns = listed c.args.names.now in
    let js = g.B.Source.ahead j.second in
    let p = g.A.Source.place c.read.new.self in
    let a = ahead_of cs ns (g.A.Source.ahead j.first) in
    let e = c.in_err-token.ensures in
    let h = fault_first cs ns js p a (ahead_of cs ns (g.A.Source.ahead j.first ++ js)) c.in_err-token.field-0.0 (over cs ns js (g.A.Source.ahead j.first)) e.answer in
    let r : c.from_residual.result ≡ Err c.in_err-token.field-0.0 = search rules in
    let other : Ok None ≡ head_answer p a → ⊥ = λ n. let f = e.answer in let z : ◌≡◌ {A = ℕ} 0 1 = cc (f, n) in omega arith in
    record {
      answer = r ∙ h.0;
      names = e.names ∙ h.1;
      items = ap (λ is. is ++ js) e.items ∙ h.2;
      reads = (e.reads, second_kept cs ns js p g.B.Source.reads j _ a other refl refl);
    }
