-- Words and answers give each other back.
use Rattle.std.proofs.Common.{◌≡◌, ℕ, ◌+◌, ◌*◌, ◌/◌, ◌%◌, ◌^◌, ◌<◌, eqb, ltb, IfSome, Some, None, Option, sym, refl, ap, ◌∙◌, arith}
use Rattle.std.specs.Option.{option_map}
use Rattle.std.proofs.lemmas.Bool.{cond_both, eqb-true, eqb-false, ne_eqb, lt-ltb}
use Rattle.std.proofs.lemmas.Nat.{shr_high, mod_low, shr_split}
use Rattle.tokens.specs.declared.category.Category.{Category}
use Rattle.tokens.specs.declared.token.Token.{Token}
use Rattle.tokens.specs.declared.answer.GroupKind.{GroupKind}
use Rattle.tokens.specs.declared.answer.GroupKind.TheVariants.{Brace, BeginGroup, Host}
use Rattle.tokens.specs.declared.answer.Scope.{Scope}
use Rattle.tokens.specs.declared.answer.Scope.TheVariants.{Local, Global}
use Rattle.tokens.specs.declared.answer.Entry.{Entry}
use Rattle.tokens.specs.declared.answer.Entry.TheVariants as entry
use Rattle.tokens.specs.declared.answer.Answer.{Answer}
use Rattle.tokens.specs.declared.answer.Answer.TheVariants.{Delivered, Opened, Closed, Assigned, End, Working}
use Rattle.tokens.specs.Categories.{number_of, category_of}
use Rattle.tokens.specs.Words.{word, word_of, token_by_kind, group_number, group_of, scope_bits, scope_of, entry_bits, entry_by_bit, entry_of, HeldEntry, assigned_of, answer_word, answer_by_kind, answer_of, HeldAnswer}
use Rattle.tokens.proofs.Numbers.{Numbered, row, category_number, category_back, category_below}
use Rattle.tokens.proofs.Tokens.{Worded, worded, fields, token_by_kind_lem, token_kind}

group_number_lem : (n : ℕ) → Numbered group_number n (group_of n)
group_number_lem n = let r = row group_number n in r 0 Brace _ refl (r 1 BeginGroup _ refl (r 2 Host _ refl tt))

group_back : (g : GroupKind) → group_of (group_number g) ≡ Some g
group_back Brace = refl
group_back BeginGroup = refl
group_back Host = refl

group_below : (g : GroupKind) → group_number g < 3
group_below Brace = omega arith
group_below BeginGroup = omega arith
group_below Host = omega arith

-- entries

entry_below : (e : Entry) → HeldEntry e → entry_bits e < 2 ^ 27
entry_below (entry.Name n) h = omega arith
entry_below (entry.Code b c) h = omega (arith, category_below c)

entry_by_bit_lem : (e : Entry) → HeldEntry e → (bit low : ℕ) → entry_bits e ≡ bit * 2 ^ 26 + low → low < 2 ^ 26 → entry_by_bit bit low ≡ Some e
entry_by_bit_lem (entry.Name n) h bit low p l =
    let k : bit ≡ 0 = omega arith in
    let m : low ≡ n = omega arith in
    rw (k, m, lt-ltb n 65536 h)
entry_by_bit_lem (entry.Code b c) h bit low p l =
    let u = category_below c in
    let k : bit ≡ 1 = omega arith in
    let m : low ≡ number_of c * 2 ^ 8 + b = omega arith in
    rw (k, m, shr_high (number_of c) 8 b h, mod_low (number_of c) 8 b h, category_back c)

entry_back : (e : Entry) → HeldEntry e → (low : ℕ) → entry_bits e ≡ low → entry_of low ≡ Some e
entry_back e h low p = entry_by_bit_lem e h (low / 2 ^ 26) (low % 2 ^ 26) (p ∙ sym (shr_split low 26)) (omega arith)

abbrev Bits : ℕ → Option Entry → Type 0
Bits low o = IfSome o (λ e. entry_bits e ≡ low)

codes : (low : ℕ) (o : Option Category) → Numbered number_of (low / 2 ^ 8) o → Bits (2 ^ 26 + low) (option_map (λ c. entry.Code (low % 2 ^ 8) c) o)
codes low None h = tt
codes low (Some c) h = omega (arith, shr_split low 8)

entry_bits_in : (bit low : ℕ) → bit < 2 → Bits (bit * 2 ^ 26 + low) (entry_by_bit bit low)
entry_bits_in bit low h =
    cond_both (eqb bit 0) _ _ (Bits (bit * 2 ^ 26 + low))
    (λ e. cond_both (ltb low 65536) _ _ (Bits (bit * 2 ^ 26 + low)) (λ _. omega (arith, eqb-true bit 0 e)) (λ _. tt))
    (λ e.
    let n : (bit ≡ 0 → ⊥) = eqb-false bit 0 e in
    let k : bit * 2 ^ 26 + low ≡ 2 ^ 26 + low = omega arith in
    rw k (codes low (category_of (low / 2 ^ 8)) (category_number (low / 2 ^ 8))))

entry_bits_lem : (low : ℕ) → low < 2 ^ 27 → Bits low (entry_of low)
entry_bits_lem low h = rw (shr_split low 26) at (entry_bits_in (low / 2 ^ 26) (low % 2 ^ 26) (omega arith))

-- assignments

scope_bits_lem : (bit : ℕ) → bit < 2 → scope_bits (scope_of bit) ≡ bit * 2 ^ 27
scope_bits_lem bit h = cond_both (eqb bit 0) _ _ (λ s. scope_bits s ≡ bit * 2 ^ 27) (λ e. omega (arith, eqb-true bit 0 e)) (λ e. omega (arith, eqb-false bit 0 e))

abbrev Answered : ℕ → Option Answer → Type 0
Answered w o = IfSome o (λ a. answer_word a ≡ Some w)

assigned_in : (s : Scope) (high low : ℕ) (o : Option Entry) → scope_bits s ≡ high → Bits low o → Answered (word 15 (high + low)) (option_map (λ e. Assigned s e) o)
assigned_in s high low None p h = tt
assigned_in s high low (Some e) p h = rw (p, h)

assigned_worded : (low : ℕ) → low < 2 ^ 28 → Answered (word 15 low) (assigned_of low)
assigned_worded low h =
    rw (shr_split low 27) at
    (assigned_in (scope_of (low / 2 ^ 27)) (low / 2 ^ 27 * 2 ^ 27) (low % 2 ^ 27) (entry_of (low % 2 ^ 27)) (scope_bits_lem (low / 2 ^ 27) (omega arith)) (entry_bits_lem (low % 2 ^ 27) (omega arith)))

scope_back : (s : Scope) (e low : ℕ) → e < 2 ^ 27 → scope_bits s + e ≡ low → (scope_of (low / 2 ^ 27) ≡ s) × (low % 2 ^ 27 ≡ e)
scope_back Local e low h p = let k : low / 2 ^ 27 ≡ 0 = omega arith in (rw k, omega arith)
scope_back Global e low h p = let k : low / 2 ^ 27 ≡ 1 = omega arith in (rw k, omega arith)

assigned_back : (s : Scope) (e : Entry) → HeldEntry e → (low : ℕ) → scope_bits s + entry_bits e ≡ low → assigned_of low ≡ Some (Assigned s e)
assigned_back s e h low p =
    let b = scope_back s (entry_bits e) low (entry_below e h) p in
    rw (b.0, entry_back e h (low % 2 ^ 27) (sym b.1))

-- answers

groups : (make : GroupKind → Answer) (kind low : ℕ) → ((g : GroupKind) → answer_word (make g) ≡ Some (word kind (group_number g)))
    → (o : Option GroupKind) → Numbered group_number low o → Answered (word kind low) (option_map make o)
groups make kind low h None n = tt
groups make kind low h (Some g) n = h g ∙ ap (λ k. Some (word kind k)) n

delivered : (w : ℕ) (o : Option Token) → Worded w o → Answered w (option_map Delivered o)
delivered w None h = tt
delivered w (Some t) h = ap Some h

answer_worded_in : (kind low : ℕ) → low < 2 ^ 28 → Answered (word kind low) (answer_by_kind kind low)
answer_worded_in kind low h =
    cond_both (eqb kind 13) _ _ (Answered (word kind low))
    (λ e. groups Opened kind low (λ g. rw (eqb-true kind 13 e)) (group_of low) (group_number_lem low))
    (λ _. cond_both (eqb kind 14) _ _ (Answered (word kind low))
    (λ e. groups Closed kind low (λ g. rw (eqb-true kind 14 e)) (group_of low) (group_number_lem low))
    (λ _. cond_both (eqb kind 15) _ _ (Answered (word kind low))
    (λ e. rw (eqb-true kind 15 e) (assigned_worded low h))
    (λ _. delivered (word kind low) (token_by_kind kind low) (worded kind low))))

pub answer_worded : (w : ℕ) → Answered w (answer_of w)
answer_worded w = rw (fields w) at (answer_worded_in (w / 2 ^ 28) (w % 2 ^ 28) (omega arith))

delivered_back : (kind low : ℕ) (t : Token) → kind < 13 → token_by_kind kind low ≡ Some t → answer_by_kind kind low ≡ Some (Delivered t)
delivered_back kind low t h e = rw (ne_eqb kind 13 (λ k. omega arith), ne_eqb kind 14 (λ k. omega arith), ne_eqb kind 15 (λ k. omega arith), e)

answer_back_in : (a : Answer) → HeldAnswer a → (kind low : ℕ) → answer_word a ≡ Some (word kind low) → low < 2 ^ 28 → answer_by_kind kind low ≡ Some a
answer_back_in (Delivered t) h kind low p l =
    let q : word_of t ≡ word kind low = cc in
    delivered_back kind low t (token_kind t h kind low q l) (token_by_kind_lem t h kind low q l)
answer_back_in (Opened g) h kind low p l =
    let q : word 13 (group_number g) ≡ word kind low = cc in
    let u = group_below g in
    let k : kind ≡ 13 = omega arith in
    let m : low ≡ group_number g = omega arith in
    rw (k, m, group_back g)
answer_back_in (Closed g) h kind low p l =
    let q : word 14 (group_number g) ≡ word kind low = cc in
    let u = group_below g in
    let k : kind ≡ 14 = omega arith in
    let m : low ≡ group_number g = omega arith in
    rw (k, m, group_back g)
answer_back_in (Assigned s e) h kind low p l =
    let q : word 15 (scope_bits s + entry_bits e) ≡ word kind low = cc in
    let u = scope_sum s (entry_bits e) (entry_below e h) in
    let k : kind ≡ 15 = omega arith in
    let m : scope_bits s + entry_bits e ≡ low = omega arith in
    rw k (assigned_back s e h low m)
  where
    scope_sum : (s : Scope) (e : ℕ) → e < 2 ^ 27 → scope_bits s + e < 2 ^ 28
    scope_sum Local e h = omega arith
    scope_sum Global e h = omega arith
answer_back_in End h kind low p l = let z : ◌≡◌ {A = ℕ} 0 1 = cc in absurd (omega arith)
answer_back_in Working h kind low p l = let z : ◌≡◌ {A = ℕ} 0 1 = cc in absurd (omega arith)

pub answer_back : (a : Answer) → HeldAnswer a → (w : ℕ) → answer_word a ≡ Some w → answer_of w ≡ Some a
answer_back a h w p = answer_back_in a h (w / 2 ^ 28) (w % 2 ^ 28) (p ∙ ap Some (sym (fields w))) (omega arith)
