use Rattle.std.proofs.Common.{◌≡◌, ◌-◌, ◌<◌, ◌≤◌, ◌++◌, [], ◌∷◌, true, reverse, length, drop, vec_items, sym, refl, ap, ◌∙◌, subst, arith}
use Rattle.std.proofs.lemmas.List.{length-drop, take_all}
use Rattle.tables.specs.Table.{undone}
use Rattle.book.specs.Bases.{keys_below}
use Rattle.book.specs.Entried.{table_of, count}
use Rattle.book.proofs.Stacked.{keys_drop, keys_front, keys_end, undone_end, undone_none}
use Rattle.book.proofs.grouping.undo.Goals as goal

pub loop-old-init : goal.loop-old-init
loop-old-init g c =
    let ss = vec_items c.args.saved.now in
    let us = c.deref.result.now in
    let l : length (drop c.args.base us) ≤ length us - c.args.base = omega (arith, length-drop c.args.base us) in
    let e : c.into_iter-old-iterator.result.iter.rest.now ≡ drop c.args.base ss =
    ap (λ r. r.iter.rest.now) c.into_iter-old-iterator.ensures.into_iter_gives ∙ ap (λ s. s.rest.now) c.rev-old-items.ensures.source ∙ c.iter.ensures.rest ∙ take_all (length us - c.args.base) (drop c.args.base us) l ∙ ap (drop c.args.base) c.deref.ensures.value in (
      rw e (keys_drop (count c.args.entries.now) c.args.base ss c.requires.keyed),
      λ d. ap (λ rs. undone (reverse rs) (table_of d c.args.entries.now)) e,
      refl,
    )

pub restore-requires : goal.restore-requires
restore-requires g c =
    let i = c.loop-old.invariant in
    let k = keys_end (count c.args.entries.now) c.next.new.self.iter.rest.now c.in-Some.old.now (subst (λ rs. keys_below (count c.args.entries.now) rs ≡ true) c.in-Some.ensures.steps i.0) in
    subst (λ n. c.in-Some.old.now.key < n) (sym i.2) k

pub loop-old-preserved : goal.loop-old-preserved
loop-old-preserved g c =
    let i = c.loop-old.invariant in
    let less = c.next.new.self.iter.rest.now in
    let r = c.in-Some.old.now in
    let e : c.loop-old.old-iterator.iter.rest.now ≡ less ++ r ∷ [] = c.in-Some.ensures.steps in (
      keys_front (count c.args.entries.now) less (r ∷ []) (subst (λ rs. keys_below (count c.args.entries.now) rs ≡ true) e i.0),
      λ d.
          ap (undone (reverse less)) (c.restore.ensures.table d)
          ∙ sym (undone_end less r (table_of d c.loop-old.entries))
          ∙ ap (λ rs. undone (reverse rs) (table_of d c.loop-old.entries)) (sym e)
          ∙ i.1 d,
      c.restore.ensures.count ∙ i.2,
    )

pub returns : goal.returns
returns g c =
    let i = c.loop-old.invariant in
    record {
      table = λ d. undone_none c.loop-old.old-iterator.iter.rest.now (table_of d c.loop-old.entries) c.in-None.ensures.steps.0 ∙ i.1 d;
      records = c.truncate.ensures.items;
      sizes = (i.2, c.truncate.ensures.capacity);
    }
