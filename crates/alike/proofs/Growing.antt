-- What is the same as spelled stays so as names are entered on both sides.
use Rattle.std.proofs.Common.{ℕ, ◌⊎◌, List, inl, inr}
use Rattle.tokens.specs.declared.token.Token.{Token}
use Rattle.tokens.specs.declared.stored.ParameterWord.{ParameterWord}
use Rattle.tokens.specs.declared.stored.BodyWord.{BodyWord}
use Rattle.lines.specs.Line.{Item}
use Rattle.names.specs.Naming.{Spellings}
use Rattle.tables.specs.declared.Entry.{Entry}
use Rattle.tables.specs.declared.Saved.{Saved}
use Rattle.tables.specs.Table as table
use Rattle.book.specs.Meanings.{Means}
use Rattle.pending.specs.declared.task.Task.{Task}
use Rattle.alike.specs.Same.{SameName, active, alike, SameToken, same_name, same_character, SameItem, same_ready, same_rest, Each}
use Rattle.alike.specs.Laws as law
use Rattle.alike.specs.Laws.{Sound, SameParameterWord, SameBodyWord, SameMeaning, same_undefined, same_primitive, same_macro, SameEntry, Untouched, SameSaved, SameTables, SameTask, same_after, same_prefix}
use Rattle.alike.proofs.CallsEach.{each_on}
use Rattle.alike.proofs.Names.{Grows}

-- both sides' names, sound
pub record Both (ms ns : Spellings) : Type 0 where
  pub left : Sound ms
  pub right : Sound ns

-- growth on both sides
pub record Onward (ms ns os ps : Spellings) : Type 0 where
  pub first : Grows ms os
  pub second : Grows ns ps

pub stay : {ms ns : Spellings} → Onward ms ns ms ns
stay = record { first = record { kept = λ n s h. h }; second = record { kept = λ n s h. h } }

pub further : {ms ns os ps qs rs : Spellings} → Onward ms ns os ps → Onward os ps qs rs → Onward ms ns qs rs
further f g = record {
  first = record { kept = λ n s h. g.first.kept n s (f.first.kept n s h) };
  second = record { kept = λ n s h. g.second.kept n s (f.second.kept n s h) };
}

module _ {ms ns os ps : Spellings} (o : Onward ms ns os ps) where
  pub name_on : {m n : ℕ} → SameName ms ns m n → SameName os ps m n
  name_on (active l) = active l
  name_on {m} {n} (alike s a b) = alike s (o.first.kept m s a) (o.second.kept n s b)

  pub token_on : (t u : Token) → SameToken ms ns t u → SameToken os ps t u
  token_on t u (same_name r) = same_name (name_on r)
  token_on t u same_character = same_character

  pub item_on : (i j : Item) → SameItem ms ns i j → SameItem os ps i j
  item_on i j (same_ready r) = same_ready (token_on _ _ r)
  item_on i j same_rest = same_rest

  pub items_on : {is js : List Item} → Each (SameItem ms ns) is js → Each (SameItem os ps) is js
  items_on r = each_on item_on r

  pub parameter_word_on : (v w : ParameterWord) → SameParameterWord ms ns v w → SameParameterWord os ps v w
  parameter_word_on v w (law.same_token r) = law.same_token (token_on _ _ r)
  parameter_word_on v w law.same_parameter = law.same_parameter

  pub body_word_on : (v w : BodyWord) → SameBodyWord ms ns v w → SameBodyWord os ps v w
  body_word_on v w (law.same_token r) = law.same_token (token_on _ _ r)
  body_word_on v w law.same_reference = law.same_reference

  pub meaning_on : {x y : Means} → SameMeaning ms ns x y → SameMeaning os ps x y
  meaning_on same_undefined = same_undefined
  meaning_on same_primitive = same_primitive
  meaning_on law.same_character = law.same_character
  meaning_on (same_macro p b) = same_macro (each_on parameter_word_on p) (each_on body_word_on b)

  pub entry_on : {d e : Entry Means} → SameEntry ms ns d e → SameEntry os ps d e
  entry_on r = record { value = meaning_on r.value; level = r.level }

  pub saved_on : (r q : Saved Means) → SameSaved ms ns r q → SameSaved os ps r q
  saved_on r q s = record { key = name_on s.key; entry = entry_on s.entry }

  pub tables_on : {t u : table.State Means} → SameTables ms ns t u → SameTables os ps t u
  tables_on {t} {u} r = record { there = λ m. there m (r.there m); back = λ n. back n (r.back n); saved = each_on (λ x y s. each_on saved_on s) r.saved }
    where
      there : (m : ℕ) → Untouched ms ns (t.table m) ⊎ ((n : ℕ) × SameName ms ns m n × SameEntry ms ns (t.table m) (u.table n)) → Untouched os ps (t.table m) ⊎ ((n : ℕ) × SameName os ps m n × SameEntry os ps (t.table m) (u.table n))
      there m (inl e) = inl e
      there m (inr h) = inr (h.0, name_on h.1, entry_on h.2)

      back : (n : ℕ) → Untouched ms ns (u.table n) ⊎ ((m : ℕ) × SameName ms ns m n × SameEntry ms ns (t.table m) (u.table n)) → Untouched os ps (u.table n) ⊎ ((m : ℕ) × SameName os ps m n × SameEntry os ps (t.table m) (u.table n))
      back n (inl e) = inl e
      back n (inr h) = inr (h.0, name_on h.1, entry_on h.2)

  pub task_on : (x y : Task) → SameTask ms ns x y → SameTask os ps x y
  task_on x y (same_after r) = same_after (token_on _ _ r)
  task_on x y same_prefix = same_prefix
