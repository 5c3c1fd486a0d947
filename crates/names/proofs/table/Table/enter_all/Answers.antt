use Rattle.std.proofs.Common.{◌≡◌, ℕ, ◌+◌, ◌<◌, List, map, length, get_or, drop, sym, ap, ◌∙◌, Bor}
use Rattle.std.proofs.lemmas.List.{at_drop_more, at_drop_all}
use Rattle.names.specs.Naming.{Spellings, enter, names_after, enter_all}
use Rattle.names.specs.Spelled.{held}
use Rattle.names.proofs.table.Table.enter_all.Goals as goal

one_more_lem : (ns ms : Spellings) (rs : List (Bor (List ℕ))) (i : ℕ) (d : Bor (List ℕ)) → i < length rs → ms ≡ names_after ns (enter ns (get_or rs i d).now) → enter_all ms (map (λ x. x.now) (drop (i + 1) rs)) ≡ enter_all ns (map (λ x. x.now) (drop i rs))
one_more_lem ns ms rs i d h e = ap (λ ls. enter_all ls (map (λ x. x.now) (drop (i + 1) rs))) e ∙ sym (at_drop_more (λ xs. enter_all ns (map (λ x. x.now) xs)) rs i d h)

pub loop-spelling-preserved : goal.loop-spelling-preserved
loop-spelling-preserved c =
    one_more_lem (held c.loop-spelling.self) (held c.enter.new.self) c.args.spellings.now c.loop-spelling.spelling-index _ c.loop-spelling-test.true c.enter.ensures.names
    ∙ c.loop-spelling.invariant

pub returns : goal.returns
returns c =
    sym (at_drop_all (λ rs. enter_all (held c.loop-spelling.self) (map (λ x. x.now) rs)) c.args.spellings.now c.loop-spelling.spelling-index c.loop-spelling-test.false)
    ∙ c.loop-spelling.invariant
