use Rattle.std.proofs.Common.{◌≡◌, ◌+◌, ◌≤◌, leb, length, vec_items, sym, ap, ◌∙◌, arith}
use Rattle.std.proofs.lemmas.List.{length-reverse}
use Rattle.piles.specs.Helds.{held_tokens}
use Rattle.piles.proofs.Reversed.{fits_same}
use Rattle.piles.proofs.held.Held.fits.Goals as goal

pub returns : goal.returns
returns c =
    let h = c.args.self.now in
    let few : c.len.result ≤ 4096 = omega (arith, h.few) in
    let n : c.len.result ≡ length (held_tokens h) = c.len.ensures ∙ h.tokens.held.ok.0 ∙ sym (length-reverse (vec_items h.tokens.held)) in
    fits_same c.args.count c.len.result few ∙ ap (λ k. leb (c.args.count + k) 4096) n
