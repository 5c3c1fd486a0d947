use Rattle.std.proofs.Common.{◌≡◌, ◌-◌, List, [], length, take, drop, vec_items, vec_len, sym, ap, ◌∙◌, arith}
use Rattle.std.proofs.lemmas.List.{nil_from_length}
use Rattle.std.proofs.lemmas.Result.{err_from_is_err_and}
use Rattle.tokens.specs.declared.token.Token.{Token}
use Rattle.matching.specs.Dividing.{parameters_of}
use Rattle.matching.specs.Matching.{following, fewest}
use Rattle.matcher.specs.Held.{arguments_of}
use Rattle.matcher.specs.Marks.{delimiter_in}
use Rattle.matcher.specs.Spans.{parts_of}
use Rattle.matcher.specs.declared.arguments.Arguments.{Arguments}
use Rattle.matcher.proofs.Going.{stay, onward, turned, fails}
use Rattle.matcher.proofs.Wording.{fewest_short, fewest_tail, parted, next_delimiters, next_parameters}
use Rattle.matcher.proofs.dividing.divide.Goals as goal

no_arguments : (a : Arguments) → vec_len a.spans.held ≡ 0 → arguments_of a ≡ []
no_arguments a e = ap (parts_of (vec_items a.gathered.held)) (nil_from_length (vec_items a.spans.held) (sym a.spans.held.ok.0 ∙ e))

pub returns-in_err-text_before : goal.returns-in_err-text_before
returns-in_err-text_before g c =
    let ds = (parameters_of c.args.words.now).delimiters in
    let long = c.args.long in
    let e = err_from_is_err_and c.from_residual.result c.from_residual.ensures.1 in
    rw (e.1, e.2) (c.in_err-text_before.ensures long ds)

pub parameters-init : goal.parameters-init
parameters-init g c =
    let ws = c.args.words.now in
    let front = c.delimiter_at-before.result.words.now in
    let p = parted ws front c.delimiter_at-before.ensures in
    let rest = take (length ws - length front) (drop (length front) ws) in (
      stay _ _ _ _ c.args.long _ _ _,
      p.bare,
      omega (arith, p.short, c.requires.short),
      omega (arith, c.requires.empty.0),
      omega (arith, fewest_short rest, p.short, c.requires.short),
      omega (arith, c.requires.empty.1, p.parameters, c.requires.few),
    )

pub invariant_of-terms : goal.invariant_of-terms
invariant_of-terms g c =
    let ws = c.parameters.rest.now in
    let behind = c.in-Some.behind.now in
    let front = c.delimiter_at-delimiter.result.words.now in
    let rest = take (length behind - length front) (drop (length front) behind) in
    let i = c.parameters.invariant in
    let later = next_delimiters ws behind front rest c.in-Some.field-0-0.now c.in-Some.ensures.cases.0 i.1 (parted behind front c.delimiter_at-delimiter.ensures) in
    record { fits = omega (arith, i.4, ap fewest later, fewest_tail (delimiter_in front) (parameters_of rest).delimiters, c.undelimited_in.ensures) }

pub returns-in_err-counted : goal.returns-in_err-counted
returns-in_err-counted g c =
    let words = c.args.words.now in
    let before = c.delimiter_at-before.result.words.now in
    let first = take (length words - length before) (drop (length before) words) in
    let q = parted words before c.delimiter_at-before.ensures in
    let ds = (parameters_of words).delimiters in
    let long = c.args.long in
    let start =
    (turned _ _ _ _ long (c.in_ok-text_before.ensures long ds) (ap (following [] 0) (sym q.later) ∙ ap (λ (args : List (List Token)). following args 0 (parameters_of first).delimiters) (sym (no_arguments c.args.arguments.now c.requires.empty.1)))) in
    let ws = c.parameters.rest.now in
    let behind = c.in-Some.behind.now in
    let front = c.delimiter_at-delimiter.result.words.now in
    let rest = take (length behind - length front) (drop (length front) behind) in
    let i = c.parameters.invariant in
    let k = c.in_err-counted.ensures in
    let later = next_delimiters ws behind front rest c.in-Some.field-0-0.now c.in-Some.ensures.cases.0 i.1 (parted behind front c.delimiter_at-delimiter.ensures) in
    let e = err_from_is_err_and c.from_residual-in_err-counted.result c.from_residual-in_err-counted.ensures.1 in
    rw (e.1, e.2) (fails _ _ _ _ long (onward _ _ _ _ long start (turned _ _ _ _ long i.0 (ap (following (arguments_of c.parameters.arguments) c.parameters.counted) later))) (k.goes (parameters_of rest).delimiters (sym c.undelimited_in.ensures)))

pub parameters-preserved : goal.parameters-preserved
parameters-preserved g c =
    let ws = c.parameters.rest.now in
    let behind = c.in-Some.behind.now in
    let front = c.delimiter_at-delimiter.result.words.now in
    let rest = take (length behind - length front) (drop (length front) behind) in
    let p = parted behind front c.delimiter_at-delimiter.ensures in
    let i = c.parameters.invariant in
    let k = c.in_ok-counted.ensures in
    let later = next_delimiters ws behind front rest c.in-Some.field-0-0.now c.in-Some.ensures.cases.0 i.1 p in
    let long = c.args.long in (
      onward _ _ _ _ long (turned _ _ _ _ long i.0 (ap (following (arguments_of c.parameters.arguments) c.parameters.counted) later)) (k.goes (parameters_of rest).delimiters (sym c.undelimited_in.ensures)),
      p.bare,
      omega (arith, p.short, c.in-Some.ensures.cases.1, i.2),
      k.fits.1,
      omega (arith, k.fits.0, c.undelimited_in.ensures),
      omega (arith, k.spans, i.5, next_parameters ws behind front rest c.in-Some.field-0-0.now c.in-Some.ensures.cases.0 i.1 p),
    )

pub returns : goal.returns
returns g c =
    let words = c.args.words.now in
    let before = c.delimiter_at-before.result.words.now in
    let first = take (length words - length before) (drop (length before) words) in
    let q = parted words before c.delimiter_at-before.ensures in
    let ds = (parameters_of words).delimiters in
    let long = c.args.long in
    let start =
    (turned _ _ _ _ long (c.in_ok-text_before.ensures long ds) (ap (following [] 0) (sym q.later) ∙ ap (λ (args : List (List Token)). following args 0 (parameters_of first).delimiters) (sym (no_arguments c.args.arguments.now c.requires.empty.1)))) in
    let i = c.parameters.invariant in
    let none : c.parameters.rest.now ≡ [] = nil_from_length c.parameters.rest.now c.in_default.ensures.cases in
    onward _ _ _ _ long start (turned _ _ _ _ long i.0 (ap (λ us. following (arguments_of c.parameters.arguments) c.parameters.counted (parameters_of us).delimiters) none))
