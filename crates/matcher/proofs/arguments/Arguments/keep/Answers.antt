use Rattle.std.proofs.Common.{◌≡◌, true, List, vec_items, vec_len, sym, ap, ◌∙◌, subst, arith}
use Rattle.matcher.specs.declared.span.Span.{Span}
use Rattle.matcher.specs.Spans.{parts_of, all_within}
use Rattle.matcher.proofs.Parts.{within_push, parts_push}
use Rattle.matcher.proofs.arguments.Arguments.keep.Goals as goal

pub invariant_of-self : goal.invariant_of-self
invariant_of-self c =
    let a = c.args.self.now in
    let n = vec_len a.gathered.held in (
      (omega (arith, a.spans.room, c.push_reserved.ensures.capacity), tt),
      (a.room, (omega (arith, a.places, c.push_reserved.ensures.capacity), (subst (λ (ss : List Span). all_within n ss ≡ true) (sym c.push_reserved.ensures.items) (within_push n (vec_items a.spans.held) c.args.span c.requires.within.0 c.requires.within.1 a.within), tt))),
    )

pub returns-clause-arguments : goal.returns-clause-arguments
returns-clause-arguments c =
    let a = c.args.self.now in
    let ts = vec_items a.gathered.held in
    ap (parts_of ts) c.push_reserved.ensures.items ∙ parts_push ts (vec_items a.spans.held) c.args.span
