-- States that are the same as spelled answer alike.
--   Sound                                          no spelling has two numbers, and the first sixteen names have theirs
--   SameMeaning, SameParameterWord, SameBodyWord   two meanings, two words of a macro
--   SameEntry                                      two entries of a table: the same meaning, assigned in the same way
--   Untouched                                      an entry that is as at first, with no meaning
--   SameSaved                                      two save records
--   SameTables                                     two tables of names, with their save records
--   SameTask                                       two tasks
--   items_of                                       the items ahead from a position
--   SameState                                      two states: the same items ahead, tables, groups, conditionals and tasks; how many words definitions have used, and how
--                                                  many of the items are put back, may differ
--   AnswerAlike                                    such states answer the same calls alike
use Rattle.std.specs.Prelude.{◌≡◌, ℕ, ◌≤◌, Bool, ◌⊎◌, List, ◌++◌, map, length}
use Rattle.tokens.specs.declared.token_category.TokenCategory.{TokenCategory}
use Rattle.tokens.specs.declared.token.Token.{Token}
use Rattle.tokens.specs.declared.stored.ParameterWord.{ParameterWord}
use Rattle.tokens.specs.declared.stored.ParameterWord.TheVariants as parameter
use Rattle.tokens.specs.declared.stored.BodyWord.{BodyWord}
use Rattle.tokens.specs.declared.stored.BodyWord.TheVariants as body
use Rattle.lines.specs.Line.{Item, ready}
use Rattle.names.specs.Naming.{Spellings, first_names}
use Rattle.tables.specs.declared.Entry.{Entry}
use Rattle.tables.specs.declared.Saved.{Saved}
use Rattle.tables.specs.Table as table
use Rattle.tables.specs.Table.{Table}
use Rattle.book.specs.declared.meaning.Primitive.{Primitive}
use Rattle.book.specs.Meanings.{Means, undefined, primitive, character, macro}
use Rattle.pending.specs.declared.task.Prefix.{Prefix}
use Rattle.pending.specs.declared.task.Task.{Task}
use Rattle.pending.specs.declared.task.Task.TheVariants as task
use Rattle.rules.specs.Readers.{Position}
use Rattle.rules.specs.States.{State}
use Rattle.rules.specs.Calling.{Call}
use Rattle.alike.specs.Same.{Spells, SameName, SameToken, SameItem, Each}
use Rattle.alike.specs.Runs.{Agree}

pub record Sound (ns : Spellings) : Type 0 where
  pub once : (m n : ℕ) (s : List ℕ) → Spells ns m s → Spells ns n s → m ≡ n
  pub fixed : (n : ℕ) (s : List ℕ) → Spells first_names n s → Spells ns n s

module _ (ms ns : Spellings) where
  pub data SameParameterWord : ParameterWord → ParameterWord → Type 0 where
    same_token : {t u : Token} → SameToken ms ns t u → SameParameterWord (parameter.Token t) (parameter.Token u)
    same_parameter : SameParameterWord parameter.Parameter parameter.Parameter

  pub data SameBodyWord : BodyWord → BodyWord → Type 0 where
    same_token : {t u : Token} → SameToken ms ns t u → SameBodyWord (body.Token t) (body.Token u)
    same_reference : {n : ℕ} → SameBodyWord (body.Reference n) (body.Reference n)

  pub data SameMeaning : Means → Means → Type 0 where
    same_undefined : SameMeaning undefined undefined
    same_primitive : {p : Primitive} → SameMeaning (primitive p) (primitive p)
    same_character : {c : TokenCategory} {x : ℕ} → SameMeaning (character c x) (character c x)
    same_macro : {long : Bool} {ps qs : List ParameterWord} {bs cs : List BodyWord} → Each SameParameterWord ps qs → Each SameBodyWord bs cs
        → SameMeaning (macro long ps bs) (macro long qs cs)

  pub record SameEntry (d e : Entry Means) : Type 0 where
    pub value : SameMeaning d.value e.value
    pub level : d.level ≡ e.level

  abbrev pub Untouched : Entry Means → Type 0
  Untouched e = (e.value ≡ undefined) × (e.level ≡ 0)

  pub record SameSaved (r q : Saved Means) : Type 0 where
    pub key : SameName ms ns r.key q.key
    pub entry : SameEntry r.entry q.entry

  pub record SameTables (t u : table.State Means) : Type 0 where
    pub there : (m : ℕ) → Untouched (t.table m) ⊎ ((n : ℕ) × SameName ms ns m n × SameEntry (t.table m) (u.table n))
    pub back : (n : ℕ) → Untouched (u.table n) ⊎ ((m : ℕ) × SameName ms ns m n × SameEntry (t.table m) (u.table n))
    pub saved : Each (Each SameSaved) t.groups u.groups

  pub data SameTask : Task → Task → Type 0 where
    same_after : {t u : Token} → SameToken ms ns t u → SameTask (task.After t) (task.After u)
    same_prefix : {p : Prefix} → SameTask (task.Prefix p) (task.Prefix p)

abbrev pub items_of : Position → List Item
items_of p = map ready p.held ++ p.below

pub record SameState (a b : State) : Type 0 where
  pub left : Sound a.stands.names
  pub right : Sound b.stands.names
  pub few : (length a.stands.held ≤ 4096) × (length b.stands.held ≤ 4096)
  pub ahead : Each (SameItem a.stands.names b.stands.names) (items_of a.stands) (items_of b.stands)
  pub names : SameTables a.stands.names b.stands.names a.book.names b.book.names
  pub codes : a.book.codes ≡ b.book.codes
  pub groups : a.book.groups ≡ b.book.groups
  pub conditionals : a.conditionals ≡ b.conditionals
  pub tasks : Each (SameTask a.stands.names b.stands.names) a.tasks b.tasks

abbrev pub AnswerAlike : Type 0
AnswerAlike = (a b : State) → SameState a b → (cs ds : List Call) → Agree a b cs ds
