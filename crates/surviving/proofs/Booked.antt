-- A book and the lines on its names and codes, and that each operation that it allows keeps them together.
--   Booked        the tables tell what the lines do, after any number of closings, and as many groups are open as openings are left
--   booked_same   of a book that is the same
--   booked_new, booked_opened, booked_closed, booked_named, booked_coded  of a new book, and of a book after each operation
--   found         what a table holds is what survives
use Rattle.std.proofs.Common.{◌≡◌, ℕ, suc, true, false, List, [], ◌∷◌, length, sym, refl, ap, ◌∙◌, subst, arith}
use Rattle.tokens.specs.declared.category.Category.{Category}
use Rattle.tokens.specs.declared.answer.GroupKind.{GroupKind}
use Rattle.tokens.specs.declared.answer.Scope.{Scope}
use Rattle.tokens.specs.declared.answer.Scope.TheVariants.{Local, Global}
use Rattle.tokens.specs.Firsts.{first_category}
use Rattle.tables.specs.Table.{Table, Groups, State, open_group, close_group, none_open, closed}
use Rattle.tables.specs.Diary.{Diary, opening, local, global, struck, written, survivor}
use Rattle.tables.proofs.Told.{openings, StateTells, tells, depth, told_value, tells_done, tells_new}
use Rattle.book.specs.Firsts.{first_means}
use Rattle.book.specs.Meanings.{Means}
use Rattle.book.specs.Scopes.{operation}
use Rattle.book.specs.Books as book
use Rattle.book.specs.Books.{BookState, new_book, is_innermost, without}
use Rattle.surviving.proofs.Leaving.{Named, Coded}

pub record Booked (b : BookState) (ns : Diary Means) (xs : Diary Category) : Type 0 where
  pub names : StateTells first_means b.names ns
  pub codes : StateTells first_category b.codes xs
  pub names_deep : length b.groups ≡ openings ns
  pub codes_deep : length b.groups ≡ openings xs

pub booked_same : {b c : BookState} {ns : Diary Means} {xs : Diary Category} → b ≡ c → Booked c ns xs → Booked b ns xs
booked_same {ns = ns} {xs = xs} e h = subst (λ (x : BookState). Booked x ns xs) (sym e) h

pub booked_new : Booked new_book [] []
booked_new = record { names = tells_new first_means; codes = tells_new first_category; names_deep = refl; codes_deep = refl }

module _ {V : Type 0} where
  pub found : (first : ℕ → V) (t : State V) (d : Diary V) → StateTells first t d → (k : ℕ) → (t.table k).value ≡ survivor first d k
  found first t d h k = ap (λ (u : Table V). (u k).value) (tells first t.table t.groups d h) ∙ told_value first d k

  -- one opening less
  struck_openings : (d : Diary V) (n : ℕ) → openings d ≡ suc n → openings (struck d) ≡ n
  struck_openings [] n e = absurd (omega arith)
  struck_openings (opening ∷ d) n e = omega arith
  struck_openings (local k v ∷ d) n e = struck_openings d n e
  struck_openings (global k v ∷ d) n e = struck_openings d n e

  -- a table with groups open
  some_open : (gs : Groups V) (n : ℕ) → length gs ≡ suc n → none_open gs ≡ false
  some_open [] n e = absurd (omega arith)
  some_open (g ∷ gs) n e = refl

  assigned_openings : (d : Diary V) (sc : Scope) (k : ℕ) (v : V) → openings (written d (operation sc k v)) ≡ openings d
  assigned_openings d Local k v = refl
  assigned_openings d Global k v = refl

  closed_tells : (first : ℕ → V) (t : State V) (d : Diary V) (n : ℕ) → openings d ≡ suc n → StateTells first t d
      → StateTells first (closed t) (struck d)
  closed_tells first t d n e h =
      tells_done first 2048 t d close_group (some_open t.groups n (depth first t.table t.groups d h ∙ e)) h

module _ {b : BookState} {ns : Diary Means} {xs : Diary Category} (h : Booked b ns xs) where
  pub booked_opened : (k : GroupKind) → Booked (book.opening k b) (written ns open_group) (written xs open_group)
  booked_opened k = record {
    names = tells_done first_means 2048 b.names ns open_group refl h.names;
    codes = tells_done first_category 2048 b.codes xs open_group refl h.codes;
    names_deep = ap suc h.names_deep;
    codes_deep = ap suc h.codes_deep;
  }

  pub booked_closed : (k : GroupKind) → is_innermost k b.groups ≡ true → Booked (book.closing b) (written ns close_group) (written xs close_group)
  booked_closed k e = go b.groups refl e
    where
      go : (gs : List GroupKind) → b.groups ≡ gs → is_innermost k gs ≡ true → Booked (book.closing b) (struck ns) (struck xs)
      go [] i e = absurd (let z : ◌≡◌ {A = ℕ} 0 1 = cc in omega arith)
      go (g ∷ gs) i e =
          let p : openings ns ≡ suc (length gs) = sym h.names_deep ∙ ap length i in
          let q : openings xs ≡ suc (length gs) = sym h.codes_deep ∙ ap length i in
          let l : length (without b.groups) ≡ length gs = ap (λ (g : List GroupKind). length (without g)) i in
          record {
            names = closed_tells first_means b.names ns (length gs) p h.names;
            codes = closed_tells first_category b.codes xs (length gs) q h.codes;
            names_deep = l ∙ sym (struck_openings ns (length gs) p);
            codes_deep = l ∙ sym (struck_openings xs (length gs) q);
          }

  pub booked_named : (c : BookState) (sc : Scope) (n : ℕ) (m : Means) → Named b c (operation sc n m) → Booked c (written ns (operation sc n m)) xs
  booked_named c sc n m e = record {
    names =
        subst (λ t. StateTells first_means t (written ns (operation sc n m))) (sym e.names)
        (tells_done first_means 2048 b.names ns (operation sc n m) e.allowed h.names);
    codes = subst (λ t. StateTells first_category t xs) (sym e.codes) h.codes;
    names_deep = ap length e.groups ∙ h.names_deep ∙ sym (assigned_openings ns sc n m);
    codes_deep = ap length e.groups ∙ h.codes_deep;
  }

  pub booked_coded : (c : BookState) (sc : Scope) (x : ℕ) (k : Category) → Coded b c (operation sc x k) → Booked c ns (written xs (operation sc x k))
  booked_coded c sc x k e = record {
    names = subst (λ t. StateTells first_means t ns) (sym e.names) h.names;
    codes =
        subst (λ t. StateTells first_category t (written xs (operation sc x k))) (sym e.codes)
        (tells_done first_category 2048 b.codes xs (operation sc x k) e.allowed h.codes);
    names_deep = ap length e.groups ∙ h.names_deep;
    codes_deep = ap length e.groups ∙ h.codes_deep ∙ sym (assigned_openings xs sc x k);
  }
