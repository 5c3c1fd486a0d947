use Rattle.std.proofs.Common.{◌≡◌, ℕ, ◌+◌, reverse, length, get_or, vec_items, vec_len, sym, refl, ap, ◌∙◌, subst}
use mathlib.Core.Path.{fun_ext}
use Rattle.tokens.specs.declared.category.Category.{Category}
use Rattle.tokens.specs.declared.category.Category.TheVariants.{Other}
use Rattle.tables.specs.Table.{new}
use Rattle.tables.specs.Reading.{Holds, read_by}
use Rattle.tables.proofs.Reading.{holds_new}
use Rattle.book.specs.declared.meaning.Held.{Held}
use Rattle.book.specs.declared.meaning.Held.TheVariants.{Plain}
use Rattle.book.specs.declared.meaning.Plain.TheVariants.{Undefined}
use Rattle.book.specs.Beyond.{no_meaning, no_category}
use Rattle.tokens.specs.Firsts.{first_category}
use Rattle.book.specs.Firsts.{plain_first, first_means}
use Rattle.book.specs.Meanings.{within}
use Rattle.book.specs.Primitives.{primitive_of}
use Rattle.book.specs.Said.{read}
use Rattle.book.specs.Tabled.{state_of}
use Rattle.book.proofs.Filling.{filled_all, filled_length}
use Rattle.book.proofs.Starting.{no_primitive, no_category_lem}
use Rattle.book.proofs.contents.Book.new.Goals as goal

-- the state of the names, and of the codes
abbrev first_held : ℕ → Held
first_held k = Plain (plain_first (primitive_of k))

pub invariant_of-result : goal.invariant_of-result
invariant_of-result c =
    let n = c.in_ok-names.ensures in
    let m = c.in_ok-codes.ensures in
    let k = c.in_ok-kinds.ensures in
    let f = c.in_ok-first_meanings.ensures in
    let h = c.in_ok-first_categories.ensures in
    let v = c.in_ok-first_meanings.field-0 in
    let u = c.in_ok-first_categories.field-0 in
    let firsts : (j : ℕ) → get_or (vec_items v) j (Plain Undefined) ≡ first_held j =
    filled_all first_held 65536 (vec_items v) f (Plain Undefined) (λ j l. ap (λ o. Plain (plain_first o)) (no_primitive j l)) in
    let w = c.in_ok-words.words in
    let p = within (vec_len w.parameters.held) (vec_len w.bodies.held) in
    let kinds = c.in_ok-kinds.kinds.held in
    let none : vec_len kinds ≡ 0 = kinds.ok.0 ∙ ap length k in
    let lying : Holds p (state_of no_meaning c.in_ok-names.names) = subst (Holds p) (sym (n.0 no_meaning refl)) (holds_new p (λ j. get_or (vec_items v) j (Plain Undefined)) (λ j. ap p (firsts j))) in record {
      sized = (n.1 ∙ v.ok.0 ∙ filled_length first_held 65536 (vec_items v) f, m.1 ∙ u.ok.0 ∙ filled_length first_category 256 (vec_items u) h);
      level = (n.2 ∙ sym none, m.2 ∙ sym none);
      lying = lying;
    }

pub returns : goal.returns
returns c =
    let n = c.in_ok-names.ensures in
    let m = c.in_ok-codes.ensures in
    let k = c.in_ok-kinds.ensures in
    let f = c.in_ok-first_meanings.ensures in
    let h = c.in_ok-first_categories.ensures in
    let v = c.in_ok-first_meanings.field-0 in
    let u = c.in_ok-first_categories.field-0 in
    let w = c.in_ok-words.words in
    let e = c.in_ok-words.ensures in
    let firsts : (j : ℕ) → get_or (vec_items v) j (Plain Undefined) ≡ first_held j =
    filled_all first_held 65536 (vec_items v) f (Plain Undefined) (λ j l. ap (λ o. Plain (plain_first o)) (no_primitive j l)) in
    let names : read_by (read w) (state_of no_meaning c.in_ok-names.names) ≡ new first_means =
    ap (read_by (read w)) (n.0 no_meaning refl) ∙ ap (λ (g : ℕ → Held). read_by (read w) (new g)) (fun_ext firsts) in
    let codes : state_of no_category c.in_ok-codes.codes ≡ new first_category =
    m.0 no_category refl ∙ ap (λ (g : ℕ → Category). new g) (fun_ext (filled_all first_category 256 (vec_items u) h Other no_category_lem)) in
    let ps : vec_len w.parameters.held ≡ 0 = w.parameters.held.ok.0 ∙ ap length e.0 in
    let bs : vec_len w.bodies.held ≡ 0 = w.bodies.held.ok.0 ∙ ap length e.1 in
    λ i. record { names = names i; codes = codes i; groups = reverse (k i); words = ps i + bs i }
