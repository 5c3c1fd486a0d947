-- A read of a join, by what the first side answered.
use Rattle.std.proofs.Common.{◌≡◌, ℕ, List, [], ◌++◌, Some, None, Ok, Err, refl, arith}
use Rattle.tokens.specs.declared.token.Token.{Token}
use Rattle.lines.specs.Line.{Categories, Item}
use Rattle.names.specs.Naming.{Spellings}
use Rattle.sources.specs.declared.fault.Place.{Place}
use Rattle.sources.specs.declared.fault.PileFault.{PileFault}
use Rattle.sources.specs.Ahead.{Ahead, none, fault, token, ahead_of, head_answer, head_names, head_items}
use Rattle.piles.specs.declared.join.Side.TheVariants.{First, Second}
use Rattle.piles.specs.declared.join.Join.{Join}
use Rattle.piles.specs.Joins.{Reading, SecondReads}
use Rattle.piles.specs.Behind.{Over}

module _ (cs : Categories) (ns : Spellings) (js : List Item) (p : Place) where
  pub none_first : (a b : Ahead) → Over cs ns js a b → Ok None ≡ head_answer p a → (b ≡ ahead_of cs ns js) × (head_names a ≡ ns) × (head_items a ≡ [])
  none_first (none ms) b h e = (h.0, h.1, refl)
  none_first (fault f ms is) b h e = let z : ◌≡◌ {A = ℕ} 0 1 = cc in absurd (omega arith)
  none_first (token t ms is a) b h e = let z : ◌≡◌ {A = ℕ} 0 1 = cc in absurd (omega arith)

  pub some_first : (a b : Ahead) (t : Token) → Over cs ns js a b → Ok (Some t) ≡ head_answer p a
      → (Ok (Some t) ≡ head_answer p b) × (head_names a ≡ head_names b) × (head_items a ++ js ≡ head_items b)
  some_first (none ms) b t h e = let z : ◌≡◌ {A = ℕ} 0 1 = cc in absurd (omega arith)
  some_first (fault f ms is) b t h e = let z : ◌≡◌ {A = ℕ} 0 1 = cc in absurd (omega arith)
  some_first (token u ms is a) b t h e = rw h.1 (e, refl, refl)

  pub fault_first : (a b : Ahead) (f : PileFault) → Over cs ns js a b → Err f ≡ head_answer p a
      → (Err f ≡ head_answer p b) × (head_names a ≡ head_names b) × (head_items a ++ js ≡ head_items b)
  fault_first (none ms) b f h e = let z : ◌≡◌ {A = ℕ} 0 1 = cc in absurd (omega arith)
  fault_first (fault g ms is) b f h e = rw h (e, refl, refl)
  fault_first (token t ms is a) b f h e = let z : ◌≡◌ {A = ℕ} 0 1 = cc in absurd (omega arith)

  module _ {A B : Type 0} (reads : Reading B) (j k : Join A B) where
    pub second_read : (a : Ahead) → Ok None ≡ head_answer p a → reads cs ns j.second k.second → k.last ≡ Second → SecondReads reads a cs ns j k
    second_read (none ms) e h l = (h, l)
    second_read (fault f ms is) e h l = let z : ◌≡◌ {A = ℕ} 0 1 = cc in absurd (omega arith)
    second_read (token t ms is a) e h l = let z : ◌≡◌ {A = ℕ} 0 1 = cc in absurd (omega arith)

    pub second_kept : (a : Ahead) → (Ok None ≡ head_answer p a → ⊥) → k.second ≡ j.second → k.last ≡ First → SecondReads reads a cs ns j k
    second_kept (none ms) e h l = absurd (e refl)
    second_kept (fault f ms is) e h l = (h, l)
    second_kept (token t ms is a) e h l = (h, l)
