-- What the table's entries say of its spellings.
use Rattle.std.proofs.Common.{◌≡◌, ℕ, ◌+◌, ◌<◌, Bool, true, false, cond, List, [], ◌∷◌, ◌++◌, length, get_or, Some, None, refl, sym, ap, subst, ◌∙◌, arith}
use Rattle.std.specs.Cmp.Lexicographic.{nat_list_eq_equiv}
use Rattle.std.specs.Str.{bytes_eq}
use Rattle.std.specs.List.{position, position_from, list_any}
use Rattle.std.specs.Option.{option_map}
use Rattle.std.proofs.lemmas.Iterator.Adapters.{position_from-zero}
use Rattle.std.proofs.lemmas.List.{length-map, get_or-map, length_push, map_push}
use Rattle.indexmap.specs.IndexSet.{index_set_len, insert_key}
use Rattle.names.specs.declared.spelling.Spelling.{Spelling}
use Rattle.names.specs.declared.table.Table.{Table}
use Rattle.names.specs.Naming.{find, number_in, Distinct}
use Rattle.names.specs.Entries.{spelled, spellings}
use Rattle.names.specs.Spelled.{held}
use Rattle.names.proofs.Finding.{none_found, distinct_push}

pub held_long : (t : Table) → length (held t) ≡ index_set_len t.entries
held_long t = length-map t.entries.keys spelled

pub spelled_at : (t : Table) (i : ℕ) (e : Spelling) → i < index_set_len t.entries → e ≡ get_or t.entries.keys i e → get_or (held t) i [] ≡ spelled e
spelled_at t i e h x = get_or-map spelled t.entries.keys i e [] h ∙ ap spelled (sym x)

module _ (s : List ℕ) where
  abbrev same : Spelling → Bool
  same e = bytes_eq s (spelled e)

  turned : (e : Spelling) → bytes_eq (spelled e) s ≡ same e
  turned e = nat_list_eq_equiv.symm (spelled e) s

  find_from : (k i : ℕ) (es : List Spelling) → find (k + i) s (spellings es) ≡ option_map (λ j. k + j) (position_from same i es)
  find_from k i [] = refl
  find_from k i (e ∷ es) = rw (turned e) (elim (same e) as (λ b. cond b (Some (k + i)) (find (k + i + 1) s (spellings es)) ≡ option_map (λ j. k + j) (cond b (Some i) (position_from same (i + 1) es))) [
    | true ↦ refl
    | false ↦ ap (λ n. find n s (spellings es)) next ∙ find_from k (i + 1) es
  ])
    where
      next : k + i + 1 ≡ k + (i + 1)
      next = omega arith

  -- a number tells a place
  pub find_place : (es : List Spelling) → number_in (spellings es) s ≡ option_map (λ i. 256 + i) (position same es)
  find_place es = find_from 256 0 es ∙ ap (option_map (λ i. 256 + i)) (sym (position_from-zero same es))

  unlike_all : (e : Spelling) (es : List Spelling) (k : ℕ) (b : Bool) → same e ≡ b → cond b (Some k) (find (k + 1) s (spellings es)) ≡ None → (find (k + 1) s (spellings es) ≡ None → list_any same es ≡ false) → list_any same (e ∷ es) ≡ false
  unlike_all e es k true x y more = cc
  unlike_all e es k false x y more = rw x (more y)

  -- a spelling without a number is equal to none
  pub unlike : (k : ℕ) (es : List Spelling) → find k s (spellings es) ≡ None → list_any same es ≡ false
  unlike k [] h = refl
  unlike k (e ∷ es) h = unlike_all e es k (same e) refl (ap (λ b. cond b (Some k) (find (k + 1) s (spellings es))) (sym (turned e)) ∙ h) (unlike (k + 1) es)

-- one more entry: es are the entries then
module _ (t : Table) (e : Spelling) (absent : number_in (held t) (spelled e) ≡ None) (es : List Spelling) (put : es ≡ insert_key (λ x y. bytes_eq (spelled x) (spelled y)) t.entries.keys e) where
  pub held_push : spellings es ≡ held t ++ (spelled e ∷ [])
  held_push = ap spellings put ∙ rw (unlike (spelled e) 256 t.entries.keys absent) (map_push spelled t.entries.keys e)

  pub more_after : length es ≡ index_set_len t.entries + 1
  more_after = omega (arith, ap length held_push, length_push (held t) (spelled e), length-map es spelled, held_long t)

  pub distinct_after : Distinct (spellings es)
  distinct_after = subst Distinct (sym held_push) (distinct_push (held t) (spelled e) t.distinct (none_found 256 (spelled e) (held t) absent))
