-- The state of a new gullet is the same as itself, over items that are the same as themselves.
use Rattle.std.proofs.Common.{◌≡◌, ℕ, ◌+◌, Bool, true, false, cond, eqb, ◌⊎◌, List, [], ◌∷◌, ◌++◌, length, take, Some, None, codes, Option, sym, refl, ap, ◌∙◌, subst, inl, inr, arith}
use Rattle.std.specs.List.{slice_get}
use Rattle.std.proofs.lemmas.Bool.{eqb-true}
use Rattle.lines.specs.Line.{Item}
use Rattle.names.specs.Naming.{Spellings, find, first_names}
use Rattle.tables.specs.declared.Entry.{Entry}
use Rattle.book.specs.declared.meaning.Primitive.{Primitive}
use Rattle.book.specs.declared.meaning.Primitive.TheVariants.{Relax, Par, Def, Gdef, Let, Global, Long, Catcode, BeginGroup, EndGroup, ExpandAfter, Ifx, IfTrue, IfFalse, Else, Fi}
use Rattle.book.specs.Primitives.{primitive_of}
use Rattle.book.specs.Firsts.{plain_first}
use Rattle.book.specs.Meanings.{Means, plain}
use Rattle.book.specs.Books.{new_book}
use Rattle.rules.specs.States.{new}
use Rattle.alike.specs.Same.{Spells, SameName, alike, SameItem, Each, no_more}
use Rattle.alike.specs.Laws.{Sound, same_primitive, SameEntry, Untouched, SameTables, SameState}
use Rattle.alike.proofs.Names.{spells_place, split, Finding, is_at, is_not, finding}

abbrev Once : Spellings → Type 0
Once ns = (m n : ℕ) (s : List ℕ) → Spells ns m s → Spells ns n s → m ≡ n

once_none : Once []
once_none m n s a b = let e = (spells_place [] m s a).1 in let z : ◌≡◌ {A = ℕ} 0 1 = cc in absurd (omega arith)

unfound : (ns : Spellings) (s : List ℕ) → find 256 s ns ≡ None → (i : ℕ) → slice_get ns i ≡ Some s → ⊥
unfound ns s e = go (finding 256 s ns) e
  where
    go : {o : Option ℕ} → Finding 256 s ns o → o ≡ None → (i : ℕ) → slice_get ns i ≡ Some s → ⊥
    go (is_at j x h) e i k = let z : ◌≡◌ {A = ℕ} 0 1 = cc in omega arith
    go (is_not f) e i k = f i k

once_more : (ns : Spellings) (s : List ℕ) → find 256 s ns ≡ None → Once ns → Once (ns ++ (s ∷ []))
once_more ns s e o m n t a b = go (split ns s new m t a) (split ns s new n t b)
  where
    new : (i : ℕ) → slice_get ns i ≡ Some s → ⊥
    new = unfound ns s e

    go : Spells ns m t ⊎ ((m ≡ 256 + length ns) × (t ≡ s)) → Spells ns n t ⊎ ((n ≡ 256 + length ns) × (t ≡ s)) → m ≡ n
    go (inl a) (inl b) = o m n t a b
    go (inl a) (inr f) = absurd (new _ ((spells_place ns m t a).1 ∙ ap Some f.1))
    go (inr d) (inl b) = absurd (new _ ((spells_place ns n t b).1 ∙ ap Some d.1))
    go (inr d) (inr f) = d.0 ∙ sym f.0

first_once : Once first_names
first_once =
    once_more (take 15 first_names) (codes "fi") refl
    (once_more (take 14 first_names) (codes "else") refl
    (once_more (take 13 first_names) (codes "iffalse") refl
    (once_more (take 12 first_names) (codes "iftrue") refl
    (once_more (take 11 first_names) (codes "ifx") refl
    (once_more (take 10 first_names) (codes "expandafter") refl
    (once_more (take 9 first_names) (codes "endgroup") refl
    (once_more (take 8 first_names) (codes "begingroup") refl
    (once_more (take 7 first_names) (codes "catcode") refl
    (once_more (take 6 first_names) (codes "long") refl
    (once_more (take 5 first_names) (codes "global") refl
    (once_more (take 4 first_names) (codes "let") refl
    (once_more (take 3 first_names) (codes "gdef") refl
    (once_more (take 2 first_names) (codes "def") refl
    (once_more (take 1 first_names) (codes "par") refl
    (once_more (take 0 first_names) (codes "relax") refl
    once_none)))))))))))))))

pub first_sound : Sound first_names
first_sound = record { once = first_once; fixed = λ n s h. h }

-- a number means nothing at first, or a primitive, which is its own fellow
data Its (m : ℕ) : Option Primitive → Type 0 where
  nothing_yet : Its m None
  its_own : {p : Primitive} → SameName first_names first_names m m → Its m (Some p)

covered : (m k : ℕ) (p : Primitive) (s : List ℕ) → Spells first_names k s → {rest : Option Primitive} → Its m rest → Its m (cond (eqb m k) (Some p) rest)
covered m k p s h {rest} r = go (eqb m k) refl
  where
    go : (b : Bool) → eqb m k ≡ b → Its m (cond b (Some p) rest)
    go true e = its_own (subst (λ (n : ℕ). SameName first_names first_names n n) (sym (eqb-true m k e)) (alike s h h))
    go false e = r

first_its : (m : ℕ) → Its m (primitive_of m)
first_its m =
    covered m 256 Relax (codes "relax") refl
    (covered m 257 Par (codes "par") refl
    (covered m 258 Def (codes "def") refl
    (covered m 259 Gdef (codes "gdef") refl
    (covered m 260 Let (codes "let") refl
    (covered m 261 Global (codes "global") refl
    (covered m 262 Long (codes "long") refl
    (covered m 263 Catcode (codes "catcode") refl
    (covered m 264 BeginGroup (codes "begingroup") refl
    (covered m 265 EndGroup (codes "endgroup") refl
    (covered m 266 ExpandAfter (codes "expandafter") refl
    (covered m 267 Ifx (codes "ifx") refl
    (covered m 268 IfTrue (codes "iftrue") refl
    (covered m 269 IfFalse (codes "iffalse") refl
    (covered m 270 Else (codes "else") refl
    (covered m 271 Fi (codes "fi") refl
    nothing_yet)))))))))))))))

abbrev First : Option Primitive → Entry Means
First o = record { value = plain (plain_first o); level = 0 }

there : {m : ℕ} {o : Option Primitive} → Its m o → Untouched first_names first_names (First o) ⊎ (SameName first_names first_names m m × SameEntry first_names first_names (First o) (First o))
there nothing_yet = inl (refl, refl)
there (its_own r) = inr (r, record { value = same_primitive; level = refl })

first_tables : SameTables first_names first_names new_book.names new_book.names
first_tables = record {
  there = λ m. fellow m (there (first_its m));
  back = λ m. back m (there (first_its m));
  saved = no_more;
}
  where
    fellow : (m : ℕ) → Untouched first_names first_names (First (primitive_of m)) ⊎ (SameName first_names first_names m m × SameEntry first_names first_names (First (primitive_of m)) (First (primitive_of m)))
        → Untouched first_names first_names (First (primitive_of m)) ⊎ ((n : ℕ) × SameName first_names first_names m n × SameEntry first_names first_names (First (primitive_of m)) (First (primitive_of n)))
    fellow m (inl a) = inl a
    fellow m (inr h) = inr (m, h.0, h.1)

    back : (m : ℕ) → Untouched first_names first_names (First (primitive_of m)) ⊎ (SameName first_names first_names m m × SameEntry first_names first_names (First (primitive_of m)) (First (primitive_of m)))
        → Untouched first_names first_names (First (primitive_of m)) ⊎ ((n : ℕ) × SameName first_names first_names n m × SameEntry first_names first_names (First (primitive_of n)) (First (primitive_of m)))
    back m (inl a) = inl a
    back m (inr h) = inr (m, h.0, h.1)

pub new_alike : (is : List Item) → Each (SameItem first_names first_names) is is → SameState (new is) (new is)
new_alike is r = record {
  left = first_sound;
  right = first_sound;
  few = (omega arith, omega arith);
  ahead = r;
  names = first_tables;
  codes = refl;
  groups = refl;
  conditionals = refl;
  tasks = no_more;
}
