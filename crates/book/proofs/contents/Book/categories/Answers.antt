use Rattle.std.proofs.Common.{◌≡◌, ◌<◌, ◌≤◌, List, length, get_or, vec_items, ap, ◌∙◌, arith}
use Rattle.std.proofs.lemmas.List.{get_or_default, take_all}
use Rattle.tokens.specs.declared.category.Category.{Category}
use Rattle.tokens.specs.declared.category.Category.TheVariants.{Other}
use Rattle.book.proofs.contents.Book.categories.Goals as goal

pub returns : goal.returns
returns c =
    let v = c.args.self.now.codes.entries.values in
    let n : length (vec_items v) ≡ 256 = omega (arith, v.ok.0, c.args.self.now.sized.1) in
    let h = rw c.unwrap.ensures at c.first_chunk.ensures.cases in
    let few : length c.deref.result.now ≤ 256 = omega (arith, c.args.self.now.sized.1) in
    let all : c.unwrap.result.now ≡ vec_items v = h.same ∙ take_all 256 c.deref.result.now few ∙ c.deref.ensures.value in
    record {
      count = ap length all ∙ n;
      each = λ k d l. let m : k < length (vec_items v) = omega arith in ap (λ (xs : List Category). get_or xs k d) all ∙ get_or_default (vec_items v) k d Other m;
    }
