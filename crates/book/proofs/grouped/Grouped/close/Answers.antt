use Rattle.std.proofs.Common.{◌≡◌, ℕ, ◌≤◌, true, List, ◌∷◌, reverse, length, vec_items, vec_len, sym, ap, ◌∙◌, subst, arith}
use Rattle.std.proofs.lemmas.List.{length-take-le}
use Rattle.tables.specs.declared.Saved.{Saved}
use Rattle.tables.specs.Table.{closed_in}
use Rattle.book.specs.Bases.{bounded, keys_below, groups_of}
use Rattle.book.specs.Entried.{table_of, count}
use Rattle.book.proofs.Stacked.{bounded_head, keys_take, bases_popped}
use Rattle.book.proofs.grouped.Grouped.close.Goals as goal

-- the group's base lies within the records, and the next one within it
based : (n b : ℕ) (xs ys : List ℕ) → reverse xs ≡ b ∷ reverse ys → bounded n (reverse xs) ≡ true → (b ≤ n) × (bounded b (reverse ys) ≡ true)
based n b xs ys e h = bounded_head n b (reverse ys) (subst (λ (bs : List ℕ). bounded n bs ≡ true) e h)

pub undo-requires : goal.undo-requires
undo-requires g c =
    let t = c.args.self.now in
    let e = bases_popped (vec_items t.bases.held) (vec_items c.pop.new.self) c.in-Some.base c.in-Some.ensures.items in
    record { keyed = t.keyed; within = (based (vec_len t.saved.held) c.in-Some.base (vec_items t.bases.held) (vec_items c.pop.new.self) e t.based).0 }

pub invariant_of-self-in-Some-2 : goal.invariant_of-self-in-Some-2
invariant_of-self-in-Some-2 g c =
    let t = c.args.self.now in
    let b = c.in-Some.base in
    let u = c.undo.ensures in
    let e = bases_popped (vec_items t.bases.held) (vec_items c.pop.new.self) b c.in-Some.ensures.items in
    let h = based (vec_len t.saved.held) b (vec_items t.bases.held) (vec_items c.pop.new.self) e t.based in
    let l : b ≤ vec_len t.saved.held = h.0 in
    let k : b ≤ length (vec_items t.saved.held) = omega (arith, t.saved.held.ok.0) in
    let n : vec_len c.undo.new.saved ≡ b = c.undo.new.saved.ok.0 ∙ ap length u.records ∙ length-take-le b (vec_items t.saved.held) k in record {
      keyed = subst (λ (m : ℕ). keys_below m (vec_items c.undo.new.saved) ≡ true) (sym u.sizes.0)
          (subst (λ (ss : List (Saved _)). keys_below (count t.entries) ss ≡ true) (sym u.records) (keys_take (count t.entries) b (vec_items t.saved.held) t.keyed));
      based = subst (λ (m : ℕ). bounded m (reverse (vec_items c.pop.new.self)) ≡ true) (sym n) h.1;
      records = omega (arith, t.records);
      groups = omega (arith, t.groups, c.in-Some.ensures.len);
    }

pub returns-in-Some : goal.returns-in-Some
returns-in-Some g c =
    let t = c.args.self.now in
    let b = c.in-Some.base in
    let u = c.undo.ensures in
    let e = bases_popped (vec_items t.bases.held) (vec_items c.pop.new.self) b c.in-Some.ensures.items in
    let f = ap (λ bs. groups_of bs (vec_items t.saved.held)) e in
    record {
      state = λ d.
          (λ i. record { table = u.table d i; groups = groups_of (reverse (vec_items c.pop.new.self)) (u.records i) })
          ∙ ap (closed_in (table_of d t.entries)) (sym f);
      sizes = (u.sizes.0, omega (arith, c.in-Some.ensures.len));
    }
