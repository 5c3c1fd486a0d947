use Rattle.std.proofs.Common.{◌≡◌, true, false, length, drop, vec_items, sym, ap, ◌∙◌, arith}
use Rattle.std.proofs.lemmas.Bool.{cond-false}
use Rattle.std.proofs.lemmas.List.{take_rest}
use Rattle.tokens.specs.declared.token.Token.TheVariants.{Name}
use Rattle.matching.specs.Dividing.{is_group}
use Rattle.matcher.proofs.Buffers.{rest_from}
use Rattle.matcher.proofs.Grouped.{group_part}
use Rattle.matcher.proofs.arguments.Arguments.stripped.Goals as goal

pub returns-then-not-is_group-clause-part : goal.returns-then-not-is_group-clause-part
returns-then-not-is_group-clause-part c =
    let a = c.args.self.now in
    let ts = vec_items a.gathered.held in
    let from = c.args.from in
    let to = c.len-to.result in
    let g : is_group (drop from ts) ≡ false = sym (c.if-not-is_group.ensures ∙ ap is_group (take_rest c.as_slice.result.now from ∙ ap (drop from) c.as_slice.ensures.value)) in
    rest_from a.gathered.held from to c.len-to.ensures ∙ sym (cond-false (is_group (drop from ts)) _ _ g)

pub returns-clause-part : goal.returns-clause-part
returns-clause-part c =
    let a = c.args.self.now in
    let ts = vec_items a.gathered.held in
    let from = c.args.from in
    let to = c.len-to.result in
    let e : to ≡ length ts = c.len-to.ensures ∙ a.gathered.held.ok.0 in
    let g : is_group (drop from ts) ≡ true = sym (c.if-not-is_group.ensures ∙ ap is_group (take_rest c.as_slice.result.now from ∙ ap (drop from) c.as_slice.ensures.value)) in
    group_part ts from to (Name 0) e (omega (arith, c.len-to.ensures, c.requires.from)) g
