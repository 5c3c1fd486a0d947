-- Related tokens mean the same, and every test of them comes out the same.
use Rattle.std.proofs.Common.{◌≡◌, ℕ, Bool, List, refl}
use Rattle.tokens.specs.declared.token.Token.{Token}
use Rattle.tokens.specs.declared.stored.ParameterWord.{ParameterWord}
use Rattle.tokens.specs.declared.stored.BodyWord.{BodyWord}
use Rattle.names.specs.Naming.{Spellings}
use Rattle.tables.specs.Table as table
use Rattle.book.specs.Meanings.{Means}
use Rattle.rules.specs.Tokens.{meaning, is_character, is_explicit, is_explicit_space, digit_of, same_parameter_word, same_body_word, same_list, same_meaning}
use Rattle.rules.specs.Skipping.{mark_of}
use Rattle.alike.specs.Same.{SameToken, same_name, same_character, Each, no_more, and}
use Rattle.alike.specs.Laws as law
use Rattle.alike.specs.Laws.{SameParameterWord, SameBodyWord, SameMeaning, same_undefined, same_primitive, same_macro, SameTables}
use Rattle.alike.proofs.Growing.{Both}
use Rattle.alike.proofs.Fellows.{same_tests}
use Rattle.alike.proofs.Tables.{entry_of, same_entries}

-- what each name means in a table
abbrev pub meanings : table.State Means → ℕ → Means
meanings s n = (s.table n).value

pub same_list_lem : {A : Type 0} (R : A → A → Type 0) (f : A → A → Bool) {xs ys zs ws : List A} → ((a b c d : A) → R a b → R c d → f a c ≡ f b d)
    → Each R xs ys → Each R zs ws → same_list f xs zs ≡ same_list f ys ws
same_list_lem R f h no_more no_more = refl
same_list_lem R f h no_more (and s ss) = refl
same_list_lem R f h (and r rs) no_more = refl
same_list_lem R f h (and {a = a} {b = b} r rs) (and {a = c} {b = d} s ss) = let x = h a b c d r s in let y = same_list_lem R f h rs ss in cc

module _ {ms ns : Spellings} where
  pub same_character_lem : (k : ℕ) {x y : Means} → SameMeaning ms ns x y → is_character k x ≡ is_character k y
  same_character_lem k same_undefined = refl
  same_character_lem k same_primitive = refl
  same_character_lem k law.same_character = refl
  same_character_lem k (same_macro p b) = refl

  pub same_mark : {x y : Means} → SameMeaning ms ns x y → mark_of x ≡ mark_of y
  same_mark same_undefined = refl
  same_mark same_primitive = refl
  same_mark law.same_character = refl
  same_mark (same_macro p b) = refl

  pub same_explicit : (k x : ℕ) {t u : Token} → SameToken ms ns t u → is_explicit k x t ≡ is_explicit k x u
  same_explicit k x (same_name r) = refl
  same_explicit k x same_character = refl

  pub same_explicit_space : {t u : Token} → SameToken ms ns t u → is_explicit_space t ≡ is_explicit_space u
  same_explicit_space (same_name r) = refl
  same_explicit_space same_character = refl

  pub same_digit : {t u : Token} → SameToken ms ns t u → digit_of t ≡ digit_of u
  same_digit (same_name r) = refl
  same_digit same_character = refl

module _ {ms ns : Spellings} (w : Both ms ns) where
  pub meaning_of : (s z : table.State Means) → SameTables ms ns s z → {t u : Token} → SameToken ms ns t u → SameMeaning ms ns (meaning (meanings s) t) (meaning (meanings z) u)
  meaning_of s z r (same_name k) = (entry_of w s.table z.table (same_entries w r) k).value
  meaning_of s z r same_character = law.same_character

  same_parameter_words : (a b c d : ParameterWord) → SameParameterWord ms ns a b → SameParameterWord ms ns c d → same_parameter_word a c ≡ same_parameter_word b d
  same_parameter_words a b c d (law.same_token r) (law.same_token s) = (same_tests w).same r s
  same_parameter_words a b c d (law.same_token r) law.same_parameter = refl
  same_parameter_words a b c d law.same_parameter (law.same_token s) = refl
  same_parameter_words a b c d law.same_parameter law.same_parameter = refl

  same_body_words : (a b c d : BodyWord) → SameBodyWord ms ns a b → SameBodyWord ms ns c d → same_body_word a c ≡ same_body_word b d
  same_body_words a b c d (law.same_token r) (law.same_token s) = (same_tests w).same r s
  same_body_words a b c d (law.same_token r) law.same_reference = refl
  same_body_words a b c d law.same_reference (law.same_token s) = refl
  same_body_words a b c d law.same_reference law.same_reference = refl

  pub same_means : {x y v z : Means} → SameMeaning ms ns x y → SameMeaning ms ns v z → same_meaning x v ≡ same_meaning y z
  same_means same_undefined same_undefined = refl
  same_means same_undefined same_primitive = refl
  same_means same_undefined law.same_character = refl
  same_means same_undefined (same_macro p b) = refl
  same_means same_primitive same_undefined = refl
  same_means same_primitive same_primitive = refl
  same_means same_primitive law.same_character = refl
  same_means same_primitive (same_macro p b) = refl
  same_means law.same_character same_undefined = refl
  same_means law.same_character same_primitive = refl
  same_means law.same_character law.same_character = refl
  same_means law.same_character (same_macro p b) = refl
  same_means (same_macro p b) same_undefined = refl
  same_means (same_macro p b) same_primitive = refl
  same_means (same_macro p b) law.same_character = refl
  same_means (same_macro p b) (same_macro q c) =
      let x = same_list_lem (SameParameterWord ms ns) same_parameter_word same_parameter_words p q in
      let y = same_list_lem (SameBodyWord ms ns) same_body_word same_body_words b c in
      cc
