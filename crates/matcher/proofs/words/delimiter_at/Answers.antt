use Rattle.std.proofs.Common.{◌≡◌, ℕ, length, take, sym, ap, ◌∙◌, subst, arith}
use Rattle.std.proofs.lemmas.List.{length-take-le}
use Rattle.matcher.specs.Marks.{delimiter_in}
use Rattle.matcher.proofs.Wording.{run_long, front_within, front_whole}
use Rattle.matcher.proofs.words.delimiter_at.Goals as goal

pub invariant_of-result : goal.invariant_of-result
invariant_of-result c =
    let ws = c.args.words.now in
    let e : c.tokens_at.result ≡ length (delimiter_in ws) = c.tokens_at.ensures ∙ run_long ws in record {
      tokens = subst (λ (n : ℕ). length (delimiter_in (take n ws)) ≡ length (take n ws)) (sym e) (front_whole ws);
      short = omega (arith, e, front_within ws, c.requires, length-take-le c.tokens_at.result ws (omega (arith, e, front_within ws)));
    }

pub returns : goal.returns
returns c = ap (λ (n : ℕ). take n c.args.words.now) (c.tokens_at.ensures ∙ run_long c.args.words.now)
