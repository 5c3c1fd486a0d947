use Rattle.std.proofs.Common.{◌≡◌, true, false, is_some, Err, sym, refl, ap, ◌∙◌}
use Rattle.names.specs.Spelled.{listed}
use Rattle.piles.specs.Inserting.{put_answer, held_after, first_bad}
use Rattle.piles.specs.Helds.{held_tokens}
use Rattle.piles.proofs.Known.{insert_bad, insert_full, insert_put}
use Rattle.piles.proofs.put_back.PutBack.insert.Goals as goal

pub returns-then-is_some : goal.returns-then-is_some
returns-then-is_some g c =
    let p = c.args.self.now in
    let bad : is_some (first_bad 0 (listed c.args.names.now) c.args.words.now) ≡ true = ap is_some (sym c.first_bad.ensures) ∙ sym c.if-is_some.ensures in
    let e = insert_bad (listed c.args.names.now) c.args.words.now (held_tokens p.held) bad in
    record {
      answer = ap Err c.refused.ensures ∙ sym (ap (put_answer (g.S.Source.place p.below)) e);
      held = sym (ap (held_after (held_tokens p.held)) e);
      below = refl;
    }

pub returns-then-not-fits : goal.returns-then-not-fits
returns-then-not-fits g c =
    let p = c.args.self.now in
    let good : is_some (first_bad 0 (listed c.args.names.now) c.args.words.now) ≡ false = ap is_some (sym c.first_bad.ensures) ∙ sym c.if-is_some.ensures in
    let e = insert_full (listed c.args.names.now) c.args.words.now (held_tokens p.held) good (sym c.if-not-fits.ensures) in
    record {
      answer = ap Err c.refused-then-not-fits.ensures ∙ sym (ap (put_answer (g.S.Source.place p.below)) e);
      held = sym (ap (held_after (held_tokens p.held)) e);
      below = refl;
    }

pub returns : goal.returns
returns g c =
    let p = c.args.self.now in
    let good : is_some (first_bad 0 (listed c.args.names.now) c.args.words.now) ≡ false = ap is_some (sym c.first_bad.ensures) ∙ sym c.if-is_some.ensures in
    let e = insert_put (listed c.args.names.now) c.args.words.now (held_tokens p.held) good (sym c.if-not-fits.ensures) in
    record {
      answer = sym (ap (put_answer (g.S.Source.place p.below)) e);
      held = c.put_words.ensures ∙ sym (ap (held_after (held_tokens p.held)) e);
      below = refl;
    }
