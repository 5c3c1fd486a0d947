-- A number has one fellow on the other side, and a token stands for the same code on both sides.
use Rattle.std.proofs.Common.{◌≡◌, ℕ, cond, ltb, Some, refl}
use Rattle.std.proofs.lemmas.Bool.{lt-ltb, le-ltb}
use Rattle.tokens.specs.declared.token.Token.{Token}
use Rattle.names.specs.Naming.{Spellings, spelling_in}
use Rattle.rules.specs.Assigning.{one_byte, byte_of}
use Rattle.alike.specs.Same.{SameName, active, alike, SameToken, same_name, same_character}
use Rattle.alike.proofs.Names.{spells_place}
use Rattle.alike.proofs.Growing.{Both}
use Rattle.alike.proofs.CallsSame.{Respectful}
use Rattle.alike.proofs.CallsSpelled.{name_back, names_equal, spelled_respectful}

module _ {ms ns : Spellings} (w : Both ms ns) where
  pub one_right : {m n k : ℕ} → SameName ms ns m n → SameName ms ns m k → n ≡ k
  one_right r q = names_equal w.right r q refl

  pub one_left : {m n k : ℕ} → SameName ms ns m n → SameName ms ns k n → m ≡ k
  one_left r q = names_equal w.left (name_back r) (name_back q) refl

  pub same_tests : Respectful (SameToken ms ns)
  same_tests = spelled_respectful w.left w.right

  same_byte_name : {m n : ℕ} → SameName ms ns m n → cond (ltb m 256) (Some m) (one_byte (spelling_in ms m)) ≡ cond (ltb n 256) (Some n) (one_byte (spelling_in ns n))
  same_byte_name (active {n = n} l) = rw (lt-ltb n 256 l)
  same_byte_name {m} {n} (alike s x y) =
      rw (le-ltb m 256 (spells_place ms m s x).0, le-ltb n 256 (spells_place ns n s y).0, x, y)

  pub same_byte : {t u : Token} → SameToken ms ns t u → byte_of ms t ≡ byte_of ns u
  same_byte (same_name r) = same_byte_name r
  same_byte same_character = refl
