-- A result put back, and then the tokens in front of it.
use Rattle.std.proofs.Common.{◌≡◌, ◌+◌, ◌<◌, ◌≤◌, leb, List, ◌++◌, length, vec_items, sym, ap, ◌∙◌, append_assoc, arith, length-append}
use Rattle.std.proofs.lemmas.Bool.{le-leb, lt-leb, cond-true, cond-false}
use Rattle.tokens.specs.declared.token.Token.{Token}
use Rattle.sources.specs.declared.fault.PileRefusal.TheVariants.{PutBackFull}
use Rattle.std.proofs.lemmas.List.{length-reverse}
use Rattle.piles.specs.declared.held.Held.{Held}
use Rattle.piles.specs.Helds.{held_tokens}
use Rattle.piles.specs.Inserting.{put, refused, put_back, held_after}

pub puts : (ts held : List Token) → length ts + length held ≤ 4096 → put_back ts held ≡ put (ts ++ held)
puts ts held h = cond-true (leb (length ts + length held) 4096) _ _ (le-leb (length ts + length held) 4096 h)

pub puts_not : (ts held : List Token) → 4096 < length ts + length held → put_back ts held ≡ refused PutBackFull
puts_not ts held h = cond-false (leb (length ts + length held) 4096) _ _ (lt-leb (length ts + length held) 4096 h)

pub puts_both : (ws rs held : List Token) → length ws + length rs + length held ≤ 4096
    → held_after (held_after held (put_back rs held)) (put_back ws (held_after held (put_back rs held))) ≡ held_after held (put_back (ws ++ rs) held)
puts_both ws rs held h =
    let a : length rs + length held ≤ 4096 = omega arith in
    let b : length ws + length (rs ++ held) ≤ 4096 = omega (arith, length-append rs held) in
    let c : length (ws ++ rs) + length held ≤ 4096 = omega (arith, length-append ws rs) in
    let first : put_back rs held ≡ put (rs ++ held) = puts rs held a in
    let second : put_back ws (rs ++ held) ≡ put (ws ++ (rs ++ held)) = puts ws (rs ++ held) b in
    let all : put_back (ws ++ rs) held ≡ put ((ws ++ rs) ++ held) = puts (ws ++ rs) held c in
    rw (first, all) (ap (held_after (rs ++ held)) second ∙ sym (append_assoc ws rs held))

pub held_few : (h : Held) → length (held_tokens h) ≤ 4096
held_few h = let e = h.tokens.held.ok.0 in let f = h.few in omega (arith, length-reverse (vec_items h.tokens.held))
