-- Words that are known, one at a time and all together.
use Rattle.std.proofs.Common.{◌≡◌, ℕ, ◌+◌, ◌<◌, ◌≤◌, Bool, true, false, cond, ltb, leb, List, [], ◌∷◌, ◌++◌, length, get_or, drop, is_some, Some, None, Option, sym, refl, ap, ◌∙◌, arith}
use Rattle.std.specs.Option.{option_to_list}
use Rattle.std.proofs.lemmas.List.{drop_more, drop_all}
use Rattle.tokens.specs.declared.token.Token.{Token}
use Rattle.tokens.specs.declared.token.Token.TheVariants.{Name, Character}
use Rattle.tokens.specs.Words.{token_of}
use Rattle.names.specs.Naming.{Spellings, taken_in}
use Rattle.sources.specs.declared.fault.PileRefusal.TheVariants.{NoToken, PutBackFull}
use Rattle.piles.specs.Inserting.{known_if, known_token, both_of, tokens_of, put, refused, insert_by, insert, bad_by, first_bad, tokens_in}

module _ (k : ℕ) (more : Option ℕ) where
  by_known : (o : Option Token) → is_some o ≡ true → bad_by k o more ≡ more
  by_known None e = let z : ◌≡◌ {A = ℕ} 0 1 = cc in absurd (omega arith)
  by_known (Some t) e = refl

  by_bad : (o : Option Token) → is_some o ≡ false → bad_by k o more ≡ Some k
  by_bad None e = refl
  by_bad (Some t) e = let z : ◌≡◌ {A = ℕ} 0 1 = cc in absurd (omega arith)

module _ (ns : Spellings) (ws : List ℕ) (i : ℕ) where
  at_word : i < length ws → first_bad i ns (drop i ws) ≡ bad_by i (known_token ns (get_or ws i 0)) (first_bad (i + 1) ns (drop (i + 1) ws))
  at_word h = ap (first_bad i ns) (drop_more ws i 0 h)

  pub bad_more : i < length ws → is_some (known_token ns (get_or ws i 0)) ≡ true → first_bad (i + 1) ns (drop (i + 1) ws) ≡ first_bad i ns (drop i ws)
  bad_more h e = sym (at_word h ∙ by_known i (first_bad (i + 1) ns (drop (i + 1) ws)) (known_token ns (get_or ws i 0)) e)

  pub bad_stop : i < length ws → is_some (known_token ns (get_or ws i 0)) ≡ false → Some i ≡ first_bad i ns (drop i ws)
  bad_stop h e = sym (at_word h ∙ by_bad i (first_bad (i + 1) ns (drop (i + 1) ws)) (known_token ns (get_or ws i 0)) e)

  pub bad_end : length ws ≤ i → None ≡ first_bad i ns (drop i ws)
  bad_end h = sym (ap (first_bad i ns) (drop_all i ws h))

one_bad : (k : ℕ) (o : Option Token) (more : Option ℕ) (rest : Option (List Token)) → (is_some more ≡ true → rest ≡ None) → is_some (bad_by k o more) ≡ true → both_of o rest ≡ None
one_bad k None more rest h e = refl
one_bad k (Some t) more rest h e = ap (both_of (Some t)) (h e)

some_bad : (k : ℕ) (ns : Spellings) (ws : List ℕ) → is_some (first_bad k ns ws) ≡ true → tokens_of ns ws ≡ None
some_bad k ns [] e = let z : ◌≡◌ {A = ℕ} 0 1 = cc in absurd (omega arith)
some_bad k ns (w ∷ ws) e = one_bad k (known_token ns w) (first_bad (k + 1) ns ws) (tokens_of ns ws) (some_bad (k + 1) ns ws) e

-- each word has one token
abbrev Each : Option (List Token) → List Token → ℕ → Type 0
Each o ts n = (o ≡ Some ts) × (length ts ≡ n)

module _ (k : ℕ) (more : Option ℕ) (rest : Option (List Token)) (ts : List Token) (n : ℕ) (h : is_some more ≡ false → Each rest ts n) where
  one_token : (t : Token) → is_some more ≡ false → Each (both_of (Some t) rest) (t ∷ ts) (1 + n)
  one_token t e = (ap (both_of (Some t)) (h e).0, omega (arith, (h e).1))

  one_name : (m : ℕ) (b : Bool) → is_some (bad_by k (cond b (Some (Name m)) None) more) ≡ false → Each (both_of (cond b (Some (Name m)) None) rest) (Name m ∷ ts) (1 + n)
  one_name m true e = one_token (Name m) e
  one_name m false e = let z : ◌≡◌ {A = ℕ} 0 1 = cc in absurd (omega arith)

  one_known : (ns : Spellings) (o : Option Token) → is_some (bad_by k (known_if ns o) more) ≡ false → Each (both_of (known_if ns o) rest) (option_to_list o ++ ts) (1 + n)
  one_known ns None e = let z : ◌≡◌ {A = ℕ} 0 1 = cc in absurd (omega arith)
  one_known ns (Some (Name m)) e = one_name m (ltb m (taken_in ns)) e
  one_known ns (Some (Character c b)) e = one_token (Character c b) e

all_known : (k : ℕ) (ns : Spellings) (ws : List ℕ) → is_some (first_bad k ns ws) ≡ false → Each (tokens_of ns ws) (tokens_in ws) (length ws)
all_known k ns [] e = (refl, refl)
all_known k ns (w ∷ ws) e =
    let h = one_known k (first_bad (k + 1) ns ws) (tokens_of ns ws) (tokens_in ws) (length ws) (all_known (k + 1) ns ws) ns (token_of w) e in
    (h.0, omega (arith, h.1))

module _ (ns : Spellings) (ws : List ℕ) (held : List Token) where
  pub insert_bad : is_some (first_bad 0 ns ws) ≡ true → insert ns ws held ≡ refused NoToken
  insert_bad e = ap (λ o. insert_by o held) (some_bad 0 ns ws e)

  insert_known : (b : Bool) → is_some (first_bad 0 ns ws) ≡ false → leb (length ws + length held) 4096 ≡ b → insert ns ws held ≡ cond b (put (tokens_in ws ++ held)) (refused PutBackFull)
  insert_known b e f =
      let h = all_known 0 ns ws e in
      ap (λ o. insert_by o held) h.0 ∙ ap (λ c. cond c (put (tokens_in ws ++ held)) (refused PutBackFull)) (ap (λ n. leb (n + length held) 4096) h.1 ∙ f)

  pub insert_full : is_some (first_bad 0 ns ws) ≡ false → leb (length ws + length held) 4096 ≡ false → insert ns ws held ≡ refused PutBackFull
  insert_full = insert_known false

  pub insert_put : is_some (first_bad 0 ns ws) ≡ false → leb (length ws + length held) 4096 ≡ true → insert ns ws held ≡ put (tokens_in ws ++ held)
  insert_put = insert_known true
