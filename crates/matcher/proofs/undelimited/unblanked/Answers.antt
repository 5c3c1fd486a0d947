use Rattle.std.proofs.Common.{sym}
use Rattle.std.proofs.lemmas.Bool.{cond-true}
use Rattle.std.proofs.lemmas.Result.{err_from_is_err_and}
use Rattle.names.specs.Spelled.{listed}
use Rattle.matching.specs.Braces.{is_blank}
use Rattle.matching.specs.Matching.{on, skipping}
use Rattle.matcher.proofs.Going.{stay, onward, turned, fails, read, unread}
use Rattle.matcher.proofs.undelimited.unblanked.Goals as goal

pub blanks-init : goal.blanks-init
blanks-init g c long p = stay _ _ _ _ long (on (skipping p)) _ _

pub blanks-preserved : goal.blanks-preserved
blanks-preserved g c long p =
    let k = c.in_ok-token.ensures in
    onward _ _ _ _ long (c.blanks.invariant long p) (turned _ _ _ _ long (read _ _ _ _ long (skipping p) _ _ (listed c.needed.new.names) c.needed.new.source c.in_ok-token.token k.takes k.reads) (cond-true (is_blank c.in_ok-token.token) _ _ (sym c.if-not-is_blank.ensures)))

pub returns-in_err-token : goal.returns-in_err-token
returns-in_err-token g c =
    let t = c.in_err-token.ensures in
    let e = err_from_is_err_and c.from_residual.result c.from_residual.ensures.1 in
    record {
      goes = λ long p. rw (e.1, e.2) (fails _ _ _ _ long (c.blanks.invariant long p) (unread _ _ _ _ long (skipping p) _ _ (listed c.needed.new.names) c.needed.new.source c.in_err-token.field-0.0 t.takes t.reads));
      plain = rw e.1 tt;
    }

pub returns-then-not-is_blank : goal.returns-then-not-is_blank
returns-then-not-is_blank g c =
    let k = c.in_ok-token.ensures in
    record {
      goes = λ long p. onward _ _ _ _ long (c.blanks.invariant long p) (read _ _ _ _ long (skipping p) _ _ (listed c.needed.new.names) c.needed.new.source c.in_ok-token.token k.takes k.reads);
      plain = sym c.if-not-is_blank.ensures;
    }
