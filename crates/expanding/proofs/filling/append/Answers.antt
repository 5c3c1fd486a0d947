use Rattle.std.proofs.Common.{List, [], ◌∷◌, ◌++◌, get_or, take, vec_items, sym, ap, ◌∙◌, arith}
use Rattle.std.proofs.lemmas.List.{append_assoc, take_more, take_all}
use Rattle.tokens.specs.declared.token.Token.{Token}
use Rattle.tokens.specs.declared.token.Token.TheVariants.{Name}
use Rattle.expanding.proofs.filling.append.Goals as goal

pub more-preserved : goal.more-preserved
more-preserved c =
    let ts = vec_items c.args.tokens.now in
    let i = c.more.invariant in (
      c.push_reserved.ensures.items ∙ ap (λ (z : List Token). z ++ get_or c.args.more.now c.more.token-index (Name 0) ∷ []) i.0 ∙ append_assoc ts (take c.more.token-index c.args.more.now) (get_or c.args.more.now c.more.token-index (Name 0) ∷ []) ∙ ap (λ (z : List Token). ts ++ z) (sym (take_more c.args.more.now c.more.token-index (Name 0) c.more-test.true)),
      omega (arith, i.1, c.push_reserved.ensures.len),
      c.push_reserved.ensures.capacity ∙ i.2,
    )

pub returns : goal.returns
returns c =
    let i = c.more.invariant in
    record {
      items = i.0 ∙ ap (λ (z : List Token). vec_items c.args.tokens.now ++ z) (take_all c.more.token-index c.args.more.now c.more-test.false);
      len = omega (arith, i.1, c.more-test.false, c.more.auto.token-index-end);
      capacity = i.2;
    }
