-- Meanings are equal where they agree.
use Rattle.std.proofs.Common.{rules, ◌≡◌, Bool, true, false, ◌&&◌, List, [], ◌∷◌, refl, ap}
use Rattle.std.specs.Bool.{beq}
use Rattle.std.specs.Cmp.Lexicographic.{pointwise}
use Rattle.tokens.specs.declared.stored.ParameterWord.{ParameterWord}
use Rattle.tokens.specs.declared.stored.ParameterWord.TheVariants as parameter
use Rattle.tokens.specs.declared.stored.BodyWord.{BodyWord}
use Rattle.tokens.specs.declared.stored.BodyWord.TheVariants as body
use Rattle.tokens.specs.contracts.stored.ParameterWordPartialEq.TheImpl as parameters
use Rattle.tokens.specs.contracts.stored.BodyWordPartialEq.TheImpl as bodies
use Rattle.book.specs.contracts.meaning.MeaningPartialEq.TheImpl as meanings
use Rattle.book.specs.declared.meaning.Meaning.{Meaning}
use Rattle.book.specs.declared.meaning.Meaning.TheVariants.{Undefined, Primitive, Character, Macro}
use Rattle.book.specs.Meanings.{shown}
use Rattle.rules.specs.Tokens.{same_parameter_word, same_body_word, same_bool, same_list, same_meaning}

parameters_agree : (x y : ParameterWord) → parameters.ghosts.eq x y ≡ same_parameter_word x y
parameters_agree (parameter.Token t) (parameter.Token u) = search rules
parameters_agree (parameter.Token t) parameter.Parameter = refl
parameters_agree parameter.Parameter (parameter.Token u) = refl
parameters_agree parameter.Parameter parameter.Parameter = refl

bodies_agree : (x y : BodyWord) → bodies.ghosts.eq x y ≡ same_body_word x y
bodies_agree (body.Token t) (body.Token u) = search rules
bodies_agree (body.Token t) (body.Reference n) = refl
bodies_agree (body.Reference n) (body.Token u) = refl
bodies_agree (body.Reference n) (body.Reference m) = search rules

bools_agree : (x y : Bool) → beq x y ≡ same_bool x y
bools_agree true true = refl
bools_agree true false = refl
bools_agree false true = refl
bools_agree false false = refl

lists_agree : {X : Type 0} (f g : X → X → Bool) → ((x y : X) → f x y ≡ g x y) → (xs ys : List X) → pointwise f xs ys ≡ same_list g xs ys
lists_agree f g h [] [] = refl
lists_agree f g h [] (y ∷ ys) = refl
lists_agree f g h (x ∷ xs) [] = refl
lists_agree f g h (x ∷ xs) (y ∷ ys) = rw (h x y) (ap (λ r. g x y && r) (lists_agree f g h xs ys))

pub agree : (a b : Meaning) → meanings.ghosts.eq a b ≡ same_meaning (shown a) (shown b)
agree Undefined Undefined = refl
agree Undefined (Primitive q) = refl
agree Undefined (Character d y) = refl
agree Undefined (Macro m) = refl
agree (Primitive p) Undefined = refl
agree (Primitive p) (Primitive q) = search rules
agree (Primitive p) (Character d y) = refl
agree (Primitive p) (Macro m) = refl
agree (Character c x) Undefined = refl
agree (Character c x) (Primitive q) = refl
agree (Character c x) (Character d y) = search rules
agree (Character c x) (Macro m) = refl
agree (Macro l) Undefined = refl
agree (Macro l) (Primitive q) = refl
agree (Macro l) (Character d y) = refl
agree (Macro l) (Macro m) =
    rw (bools_agree l.long m.long, lists_agree _ _ parameters_agree l.parameters.now m.parameters.now, lists_agree _ _ bodies_agree l.body.now m.body.now) refl
