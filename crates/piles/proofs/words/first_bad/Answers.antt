use Rattle.std.proofs.Common.{sym, ◌∙◌}
use Rattle.names.specs.Spelled.{listed}
use Rattle.piles.proofs.Known.{bad_more, bad_stop, bad_end}
use Rattle.piles.proofs.words.first_bad.Goals as goal

pub returns-then-not-is_known : goal.returns-then-not-is_known
returns-then-not-is_known c = bad_stop (listed c.args.names.now) c.args.words.now c.loop-i.i c.loop-i-test.true (sym c.if-not-is_known.ensures) ∙ c.loop-i.invariant

pub loop-i-preserved : goal.loop-i-preserved
loop-i-preserved c = bad_more (listed c.args.names.now) c.args.words.now c.loop-i.i c.loop-i-test.true (sym c.if-not-is_known.ensures) ∙ c.loop-i.invariant

pub returns : goal.returns
returns c = bad_end (listed c.args.names.now) c.args.words.now c.loop-i.i c.loop-i-test.false ∙ c.loop-i.invariant
