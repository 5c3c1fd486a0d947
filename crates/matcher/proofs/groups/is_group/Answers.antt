use Rattle.std.proofs.Common.{◌≡◌, ◌-◌, length, take, drop, arith, rules}
use Rattle.tokens.specs.declared.token.Token.TheVariants.{Name}
use Rattle.matching.specs.Braces.{is_balanced}
use Rattle.matcher.proofs.Grouped.{group_is}
use Rattle.matcher.proofs.groups.is_group.Goals as goal
use Rattle.matcher.proofs.groups.is_group.Goals.{then-is_open, else-is_open}

pub returns-then-is_close : goal.returns-then-is_close
returns-then-is_close c =
    let ts = c.args.tokens.now in
    let g = group_is ts (Name 0) c.in-len2-up.len_at_least in
    let e : c.eq.result ≡ is_balanced (take (length ts - 1 - 1) (drop 1 ts)) = search rules in
    elim c.if-is_open.branch [
      | then-is_open w ↦ grind (arith, g, e, c.is_open.ensures, w.if-is_open.true, w.is_close.ensures, w.value-is, c.if-is_close.true)
      | else-is_open w ↦ grind (arith, g, e, w.value-is, c.if-is_close.true)
    ]

pub returns-else-is_close : goal.returns-else-is_close
returns-else-is_close c =
    let g = group_is c.args.tokens.now (Name 0) c.in-len2-up.len_at_least in
    elim c.if-is_open.branch [
      | then-is_open w ↦ grind (arith, g, c.is_open.ensures, w.if-is_open.true, w.is_close.ensures, w.value-is, c.if-is_close.false)
      | else-is_open w ↦ grind (arith, g, c.is_open.ensures, w.if-is_open.false, w.value-is, c.if-is_close.false)
    ]
