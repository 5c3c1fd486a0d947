use Rattle.std.proofs.Common.{◌≡◌, ℕ, ◌<◌, ◌≤◌, true, reverse, length, vec_items, vec_len, refl, ap, ◌∙◌, subst, arith}
use Rattle.std.proofs.lemmas.List.{length-reverse}
use Rattle.tables.specs.Table.{recorded}
use Rattle.book.specs.Bases.{bounded, groups_of}
use Rattle.book.specs.Entried.{table_of, count}
use Rattle.book.proofs.Stacked.{bounded_more, keys_push, groups_pushed}
use Rattle.book.proofs.grouped.Grouped.save.Goals as goal

pub invariant_of-self : goal.invariant_of-self
invariant_of-self g c =
    let t = c.args.self.now in
    let n = length-reverse (vec_items t.bases.held) in
    let b = t.bases.held.ok.0 in
    let p = c.push_reserved.ensures in
    let z : 0 < length (reverse (vec_items t.bases.held)) = omega (arith, c.requires.inside) in
    let m : vec_len t.saved.held ≤ vec_len c.push_reserved.new.self = omega arith in (
      (omega (arith, t.saved.room, p.capacity), tt),
      (
        rw p.items (keys_push (count t.entries) (vec_items t.saved.held) _ t.keyed c.requires.within),
        (bounded_more _ _ (reverse (vec_items t.bases.held)) z m t.based, (omega (arith, c.requires.room), (t.groups, tt))),
      ),
    )

pub returns : goal.returns
returns g c =
    let t = c.args.self.now in
    let bs = reverse (vec_items t.bases.held) in
    let p = c.push_reserved.ensures in
    let h : bounded (length (vec_items t.saved.held)) bs ≡ true = subst (λ (n : ℕ). bounded n bs ≡ true) t.saved.held.ok.0 t.based in
    record {
      state = λ d.
          let e = ap (groups_of bs) p.items ∙ groups_pushed bs (vec_items t.saved.held) _ h in
          (λ i. record { table = table_of d t.entries; groups = e i })
          ∙ (λ i. record { table = table_of d t.entries; groups = recorded (record { key = c.args.key; entry = c.get-entry.ensures d i }) (groups_of bs (vec_items t.saved.held)) });
      sizes = (refl, refl);
    }
