use Rattle.std.proofs.Common.{◌≡◌, ℕ, ◌<◌, List, [], ◌∷◌, ◌++◌, length, drop, vec_items, vec_len, refl, ap, ◌∙◌, arith, rules}
use Rattle.std.proofs.lemmas.List.{nil_from_length}
use Rattle.tokens.specs.declared.token.Token.{Token}
use Rattle.matching.specs.Dividing.{stripped}
use Rattle.matcher.specs.Held.{arguments_of}
use Rattle.matcher.specs.Marks.{delimiter_in}
use Rattle.matcher.specs.Spans.{parts_of}
use Rattle.matcher.proofs.Arguing.{progress, at_skipping, at_run, one_more_lem}
use Rattle.matcher.proofs.Buffers.{kept_longer, rest_from}
use Rattle.matcher.proofs.Going.{stay_at, onward, turned}
use Rattle.matcher.proofs.Parts.{within_more}
use Rattle.matcher.proofs.arguments.Arguments.read.Goals as goal

pub invariant_of-self : goal.invariant_of-self
invariant_of-self g c =
    let a = c.args.self.now in record {
      room = omega (arith, a.room, c.undelimited.ensures.capacity);
      places = a.places;
      within = within_more (vec_len a.gathered.held) (vec_len c.undelimited.new.gathered.held) (vec_items a.spans.held) (kept_longer a.gathered.held c.undelimited.new.gathered.held c.undelimited.ensures.kept) a.within;
    }

pub invariant_of-self-2 : goal.invariant_of-self-2
invariant_of-self-2 g c =
    let a = c.args.self.now in record {
      room = omega (arith, a.room, c.delimited.ensures.capacity);
      places = a.places;
      within = within_more (vec_len a.gathered.held) (vec_len c.delimited.new.gathered.held) (vec_items a.spans.held) (kept_longer a.gathered.held c.delimited.new.gathered.held c.delimited.ensures.kept) a.within;
    }

pub returns-then-is_empty-clause-goes : goal.returns-then-is_empty-clause-goes
returns-then-is_empty-clause-goes g c =
    let a = c.args.self.now in
    let long = c.args.terms.long in
    let w = c.undelimited.new.gathered.held in
    let k = c.in_ok-count.ensures in
    let d = delimiter_in c.args.delimiter.words.now in
    let n : length c.args.delimiter.words.now ≡ 0 = search rules in
    let none : d ≡ [] = nil_from_length d (omega (arith, c.args.delimiter.tokens, n)) in
    λ ds e.
    onward _ _ _ _ long (stay_at _ _ _ _ long _ _ _ _ (at_skipping (arguments_of a) c.args.terms.counted d ds none))
    (turned _ _ _ _ long (k.goes (progress (arguments_of a) c.args.terms.counted ds) (refl, e))
    (one_more_lem a.gathered.held w a.spans.held a.within k.kept (arguments_of c.keep.new.self) (drop (vec_len a.gathered.held) (vec_items w)) c.args.terms.counted c.in_ok-count.count ds (c.keep.ensures.arguments ∙ ap (λ (xs : List Token). parts_of (vec_items w) (vec_items a.spans.held) ++ xs ∷ []) (rest_from w c.len-from.result c.len-to.result c.len-to.ensures ∙ ap (λ (i : ℕ). drop i (vec_items w)) c.len-from.ensures))))

pub returns-clause-goes : goal.returns-clause-goes
returns-clause-goes g c =
    let a = c.args.self.now in
    let long = c.args.terms.long in
    let w = c.delimited.new.gathered.held in
    let k = c.in_ok-count-2.ensures in
    let d = delimiter_in c.args.delimiter.words.now in
    let n : 0 < length c.args.delimiter.words.now = search rules in
    let some : 0 < length d = omega (arith, c.args.delimiter.tokens, n) in
    λ ds e.
    onward _ _ _ _ long (stay_at _ _ _ _ long _ _ _ _ (at_run (arguments_of a) c.args.terms.counted d ds some))
    (turned _ _ _ _ long (k.goes (progress (arguments_of a) c.args.terms.counted ds) (refl, e))
    (one_more_lem a.gathered.held w a.spans.held a.within k.kept (arguments_of c.keep-2.new.self) (stripped (drop (vec_len a.gathered.held) (vec_items w))) c.args.terms.counted c.in_ok-count-2.count ds (c.keep-2.ensures.arguments ∙ ap (λ (xs : List Token). parts_of (vec_items w) (vec_items a.spans.held) ++ xs ∷ []) (c.stripped-span.ensures.part ∙ ap (λ (i : ℕ). stripped (drop i (vec_items w))) c.len-from.ensures))))
