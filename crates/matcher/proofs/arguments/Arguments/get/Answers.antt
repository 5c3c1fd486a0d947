use Rattle.std.proofs.Common.{◌≡◌, ◌<◌, List, length, get_or, Some, None, Option, MatchOption, vec_items, vec_len, sym, refl, ap, ◌∙◌, arith}
use Rattle.std.specs.Option.{option_map, IsSome}
use Rattle.std.specs.List.{slice_get}
use Rattle.std.proofs.lemmas.Bool.{false≢true}
use Rattle.std.proofs.lemmas.Option.{slice_get_read, slice_get_past}
use Rattle.tokens.specs.declared.token.Token.{Token}
use Rattle.matcher.specs.declared.span.Span.{Span}
use Rattle.matcher.specs.Spans.{part_of}
use Rattle.matcher.proofs.Parts.{parts_nth, within_nth}
use Rattle.matcher.proofs.arguments.Arguments.get.Goals as goal

found_at : (spans other : List Span) (n : _) (s : Span) → other ≡ spans → n < length other → s ≡ get_or other n s → slice_get spans n ≡ Some s
found_at spans other n s e h g = slice_get_read spans (length spans) n s refl (rw e at h) (g ∙ ap (λ (ss : List Span). get_or ss n s) e)

got : {X : Type 0} (o : Option X) (now : X → List Token) (A : Type 0) (P : X → Type 0) (ts : List Token) → ((x : X) → P x → now x ≡ ts) → MatchOption o A P → IsSome o → option_map now o ≡ Some ts
got None now A P ts f m s = absurd (false≢true s)
got (Some x) now A P ts f m s = ap Some (f x m)

pub returns-in_err-span : goal.returns-in_err-span
returns-in_err-span c =
    let a = c.args.self.now in
    let past = c.in_err-span.ensures.lookup.3 in
    rw c.from_residual.ensures (sym (parts_nth (vec_items a.gathered.held) (vec_items a.spans.held) c.args.n ∙ ap (option_map (part_of (vec_items a.gathered.held))) (slice_get_past (vec_items a.spans.held) c.args.n (omega (arith, past, a.spans.held.ok.0, c.deref.ensures.len)))))

pub returns : goal.returns
returns c =
    let a = c.args.self.now in
    let s = c.in_ok-span.span.now in
    let f = c.in_ok-span.ensures.lookup in
    let e = found_at (vec_items a.spans.held) c.deref.result.now c.args.n s c.deref.ensures.value f.3.0 f.1 in
    let w = within_nth (vec_len a.gathered.held) (vec_items a.spans.held) c.args.n s a.within e in
    let h = c.get-2.ensures.lookup in
    got c.get-2.result (λ x. x.now) _ _ (part_of (vec_items a.gathered.held) s) (λ x p. p.2 ∙ ap (λ (ts : List Token). part_of ts s) c.as_slice.ensures.value) h.0 (h.1 (w.0, omega (arith, w.1, c.as_slice.ensures.len)))
    ∙ sym (parts_nth (vec_items a.gathered.held) (vec_items a.spans.held) c.args.n ∙ ap (option_map (part_of (vec_items a.gathered.held))) e)
