use Rattle.std.proofs.Common.{◌≡◌, false, ltb, reverse, vec_items, sym, ap, ◌∙◌, arith}
use Rattle.std.proofs.lemmas.Bool.{le-ltb, both_ways}
use Rattle.std.proofs.lemmas.List.{length-reverse}
use Rattle.tables.specs.declared.Entry.{Entry}
use Rattle.book.specs.Entried.{table_of}
use Rattle.book.proofs.Stacked.{needs_in_lem, needs_none}
use Rattle.book.proofs.grouped.Grouped.needs_record.Goals as goal

pub returns-then-depth-gt0 : goal.returns-then-depth-gt0
returns-then-depth-gt0 g c =
    let t = c.args.self.now in
    let n = length-reverse (vec_items t.bases.held) in
    record {
      answer = λ d.
          let e = ap (λ (x : Entry _). x.level) (c.get.ensures d) in
          needs_in_lem (reverse (vec_items t.bases.held)) (vec_items t.saved.held) (table_of d t.entries c.args.key) _ _ e
          (c.len-depth.ensures ∙ t.bases.held.ok.0 ∙ sym n) c.if-depth-gt0.true;
      inside = λ _. omega (arith, c.if-depth-gt0.true, c.len-depth.ensures);
    }

pub returns-else-depth-gt0 : goal.returns-else-depth-gt0
returns-else-depth-gt0 g c =
    let t = c.args.self.now in
    let n = length-reverse (vec_items t.bases.held) in
    let b = t.bases.held.ok.0 in
    let z : ltb 0 c.len-depth.result ≡ false = le-ltb 0 c.len-depth.result c.if-depth-gt0.false in
    record {
      answer = λ d. z ∙ needs_none (reverse (vec_items t.bases.held)) (vec_items t.saved.held) (table_of d t.entries c.args.key) (omega arith);
      inside = λ e. absurd (both_ways _ z e);
    }
