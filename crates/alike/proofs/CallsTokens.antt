-- Lists of related tokens pass the same tests, and have related parts.
--   has_par_same, is_front_same  the name 257 stands in both or in neither; they begin what is related or they do not
--   passed_same, deeper_from_same, deeper_same, is_balanced_same  they are as deep, and balanced or not
--   front_same, within_same, stripped_same  all but the last; without the first and the last; without their braces
--   ends_closed_same, is_group_same  both end in a closing brace, or neither does; both are one group, or neither is
--   settled_same, is_complete_same  what is in a delimited argument for certain; whether its delimiter is complete
--   fewest_same   parameters with related delimiters take as many tokens at least
use Rattle.std.proofs.Common.{◌≡◌, ℕ, ◌+◌, ◌&&◌, List, Some, None, Option, refl, ap}
use Rattle.tokens.specs.declared.token.Token.{Token}
use Rattle.matching.specs.Braces.{is_front, has_par, passed, deeper_from, deeper, is_zero, is_balanced}
use Rattle.matching.specs.Dividing.{front, ends_closed, is_group, within, stripped}
use Rattle.matching.specs.Matching.{fewest, settled_from, settled, is_complete}
use Rattle.alike.specs.Same.{Each, no_more, and}
use Rattle.alike.proofs.CallsEach.{cond_alike, each_length, each_end}
use Rattle.alike.proofs.CallsSame.{Respectful}

module _ {R : Token → Token → Type 0} (k : Respectful R) where
  pub has_par_same : {ts us : List Token} → Each R ts us → has_par ts ≡ has_par us
  has_par_same no_more = refl
  has_par_same (and r p) = cc (k.par r, has_par_same p)

  pub is_front_same : {ts us ds es : List Token} → Each R ts us → Each R ds es → is_front ts ds ≡ is_front us es
  is_front_same no_more q = refl
  is_front_same (and r p) no_more = refl
  is_front_same (and r p) (and s q) = cc (k.same r s, is_front_same p q)

  pub passed_same : {t u : Token} (o : Option ℕ) → R t u → passed o t ≡ passed o u
  passed_same None r = refl
  passed_same (Some n) r = cc (k.opens r, k.closes r)

  pub deeper_from_same : {ts us : List Token} (o : Option ℕ) → Each R ts us → deeper_from o ts ≡ deeper_from o us
  deeper_from_same o no_more = refl
  deeper_from_same o (and {b = u} r p) = rw (passed_same o r) (deeper_from_same (passed o u) p)

  pub deeper_same : {ts us : List Token} (n : ℕ) → Each R ts us → deeper n ts ≡ deeper n us
  deeper_same n p = deeper_from_same (Some n) p

  pub is_balanced_same : {ts us : List Token} → Each R ts us → is_balanced ts ≡ is_balanced us
  is_balanced_same p = ap is_zero (deeper_same 0 p)

  pub front_same : {ts us : List Token} → Each R ts us → Each R (front ts) (front us)
  front_same no_more = no_more
  front_same (and r no_more) = no_more
  front_same (and r (and s p)) = and r (front_same (and s p))

  pub ends_closed_same : {ts us : List Token} → Each R ts us → ends_closed ts ≡ ends_closed us
  ends_closed_same no_more = refl
  ends_closed_same (and r no_more) = k.closes r
  ends_closed_same (and r (and s p)) = ends_closed_same (and s p)

  pub is_group_same : {ts us : List Token} → Each R ts us → is_group ts ≡ is_group us
  is_group_same no_more = refl
  is_group_same (and r p) = cc (k.opens r, ends_closed_same p, is_balanced_same (front_same p))

  pub within_same : {ts us : List Token} → Each R ts us → Each R (within ts) (within us)
  within_same no_more = no_more
  within_same (and r p) = front_same p

  pub stripped_same : {ts us : List Token} → Each R ts us → Each R (stripped ts) (stripped us)
  stripped_same p = cond_alike (Each R) (is_group_same p) (within_same p) p

  -- the test whether the end of a run begins its delimiter outside braces
  ends_same : {r s ts us d e : List Token} → Each R r s → Each R ts us → Each R d e → (is_balanced r && is_front ts d) ≡ (is_balanced s && is_front us e)
  ends_same r p d = cc (is_balanced_same r, is_front_same p d)

  settled_from_same : {d e r s ts us : List Token} → Each R d e → Each R r s → Each R ts us → Each R (settled_from d r ts) (settled_from e s us)
  settled_from_same d r no_more = r
  settled_from_same d r (and t p) = cond_alike (Each R) (ends_same r (and t p) d) r (settled_from_same d (each_end r t) p)

  pub settled_same : {d e ts us : List Token} → Each R d e → Each R ts us → Each R (settled d ts) (settled e us)
  settled_same d p = settled_from_same d no_more p

  pub is_complete_same : {d e ts us : List Token} → Each R d e → Each R ts us → is_complete d ts ≡ is_complete e us
  is_complete_same d p = cc (each_length p, each_length (settled_same d p), each_length d)

  pub fewest_same : {ds es : List (List Token)} → Each (Each R) ds es → fewest ds ≡ fewest es
  fewest_same no_more = refl
  fewest_same (and no_more p) = ap (λ (n : ℕ). 1 + n) (fewest_same p)
  fewest_same (and (and r d) p) = fewest_same p
