use Rattle.std.proofs.Common.{◌≡◌, ℕ, true, List, [], ◌∷◌, reverse, vec_items, vec_len, sym, refl, ap, ◌∙◌, subst, arith}
use Rattle.std.proofs.lemmas.List.{reverse-append}
use Rattle.book.specs.Bases.{bounded, groups_of}
use Rattle.book.specs.Entried.{table_of}
use Rattle.book.proofs.Stacked.{bounded_cons, groups_opened}
use Rattle.book.proofs.grouped.Grouped.open.Goals as goal

pub invariant_of-self : goal.invariant_of-self
invariant_of-self g c =
    let t = c.args.self.now in
    let p = c.push_reserved.ensures in
    let e = ap reverse p.items ∙ reverse-append (vec_items t.bases.held) (c.len-base.result ∷ []) in
    let b = bounded_cons (vec_len t.saved.held) c.len-base.result (reverse (vec_items t.bases.held)) (omega arith) (subst (λ (n : ℕ). bounded n (reverse (vec_items t.bases.held)) ≡ true) (sym c.len-base.ensures) t.based) in (
      (omega (arith, t.bases.room, p.capacity), tt),
      (t.keyed, (subst (λ (bs : List ℕ). bounded (vec_len t.saved.held) bs ≡ true) (sym e) b, (t.records, (omega (arith, c.requires), tt)))),
    )

pub returns : goal.returns
returns g c =
    let t = c.args.self.now in
    let p = c.push_reserved.ensures in
    let e = ap reverse p.items ∙ reverse-append (vec_items t.bases.held) (c.len-base.result ∷ []) in
    let o = ap (λ bs. groups_of bs (vec_items t.saved.held)) e ∙ groups_opened (reverse (vec_items t.bases.held)) (vec_items t.saved.held) c.len-base.result (c.len-base.ensures ∙ t.saved.held.ok.0) in
    record {
      state = λ d i. record { table = table_of d t.entries; groups = o i };
      sizes = (refl, p.len);
    }
