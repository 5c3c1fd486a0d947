-- Worked service sheets: what steps on a text answer.
--   sheet          the state of a new gullet on a text
--   told           the answers of some steps, but for Working
--   Sheets         the cases
use Rattle.std.specs.Prelude.{◌≡◌, ℕ, zero, suc, List, [], ◌∷◌, Ok, Err, codes, Result}
use Rattle.tokens.specs.declared.token_category.TokenCategory.TheVariants as category
use Rattle.tokens.specs.declared.category.Category.TheVariants as code
use Rattle.tokens.specs.declared.token.Token.TheVariants.{Name, Character}
use Rattle.tokens.specs.declared.answer.GroupKind.TheVariants.{Brace}
use Rattle.tokens.specs.declared.answer.Scope.TheVariants.{Local, Global}
use Rattle.tokens.specs.declared.answer.Entry.TheVariants as entry
use Rattle.tokens.specs.declared.answer.Answer.{Answer}
use Rattle.tokens.specs.declared.answer.Answer.TheVariants.{Delivered, Opened, Closed, Assigned, End, Working}
use Rattle.matching.specs.declared.refusal.MatcherRefusal.TheVariants.{Par}
use Rattle.sources.specs.Texts.{made_lines, whole}
use Rattle.driving.specs.declared.status.Status.TheVariants.{Matching}
use Rattle.rules.specs.Refusals.{Fault, matcher}
use Rattle.rules.specs.States.{State, new}
use Rattle.rules.specs.Stepping.{step}

abbrev pub sheet : List ℕ → State
sheet text = new (whole (made_lines text))

abbrev pub told_by : Result Answer Fault → List (Result Answer Fault) → List (Result Answer Fault)
told_by (Ok (Delivered t)) more = Ok (Delivered t) ∷ more
told_by (Ok (Opened k)) more = Ok (Opened k) ∷ more
told_by (Ok (Closed k)) more = Ok (Closed k) ∷ more
told_by (Ok (Assigned s e)) more = Ok (Assigned s e) ∷ more
told_by (Ok End) more = Ok End ∷ more
told_by (Ok Working) more = more
told_by (Err f) more = Err f ∷ more

abbrev pub told : ℕ → State → List (Result Answer Fault)
told zero s = []
told (suc n) s = told_by (step s).answer (told n (step s).state)

abbrev letter : ℕ → Result Answer Fault
letter x = Ok (Delivered (Character category.Letter x))

abbrev other : ℕ → Result Answer Fault
other x = Ok (Delivered (Character category.Other x))

abbrev space : Result Answer Fault
space = Ok (Delivered (Character category.Space 32))

abbrev opened : Result Answer Fault
opened = Ok (Opened Brace)

abbrev closed : Result Answer Fault
closed = Ok (Closed Brace)

abbrev end : Result Answer Fault
end = Ok End

-- the first name of a sheet has the number 272
abbrev local : Result Answer Fault
local = Ok (Assigned Local (entry.Name 272))

abbrev global : Result Answer Fault
global = Ok (Assigned Global (entry.Name 272))

pub record Sheets : Type 0 where
  pub empty_text : told 1 (sheet []) ≡ end ∷ []
  pub empty_line : told 2 (sheet (10 ∷ [])) ≡ Ok (Delivered (Name 257)) ∷ end ∷ []
  pub blanks : told 4 (sheet (codes "a  b%")) ≡ letter 97 ∷ space ∷ letter 98 ∷ end ∷ []
  pub arguments : told 10 (sheet (codes "\\def\\a#1#2.{[#2#1]}\\a x{y}z.%")) ≡ local ∷ other 91 ∷ opened ∷ letter 121 ∷ closed ∷ letter 122 ∷ letter 120 ∷ other 93 ∷ end ∷ []
  pub global_inside : told 10 (sheet (codes "{\\def\\a{1}\\gdef\\a{2}\\def\\a{3}\\a}\\a%")) ≡ opened ∷ local ∷ global ∷ local ∷ other 51 ∷ closed ∷ other 50 ∷ end ∷ []
  pub nested_skip : told 4 (sheet (codes "\\iffalse a\\iftrue b\\else c\\fi d\\else e\\fi%")) ≡ letter 101 ∷ end ∷ []
  pub par_refused : told 3 (sheet (codes "\\def\\a#1{#1}\\a\\par%")) ≡ local ∷ Err (record { cause = matcher Par; status = Matching }) ∷ end ∷ []
  pub category_changed : told 4 (sheet (codes "\\catcode`\\%=12 %")) ≡ Ok (Assigned Local (entry.Code 37 code.Other)) ∷ other 37 ∷ space ∷ end ∷ []
