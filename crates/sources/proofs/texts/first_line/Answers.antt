use Rattle.std.proofs.Common.{[], ◌∷◌, ◌++◌, ap, ◌∙◌, arith}
use Rattle.sources.proofs.Splits.{count_within, blanks_within, line_after, kept_first}
use Rattle.sources.proofs.texts.first_line.Goals as goal

pub overflow_sub-kept : goal.overflow_sub-kept
overflow_sub-kept c =
    let rest = c.args.rest.now in
    rw (c.blank_count.ensures, c.line_length-count.ensures) (blanks_within rest)

pub returns : goal.returns
returns c =
    let rest = c.args.rest.now in
    record {
      items = c.make_line.ensures.items ∙ ap (λ l. l ++ (13 ∷ [])) (rw (c.blank_count.ensures, c.line_length-count.ensures) (kept_first rest));
      capacity = c.make_line.ensures.capacity;
      after = rw c.line_length-count.ensures (line_after rest);
      some = omega arith;
      within = omega (arith, c.line_length-count.ensures, count_within rest);
    }
