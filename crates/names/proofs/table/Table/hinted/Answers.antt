use Rattle.std.proofs.Common.{◌≡◌, ◌<◌, true, [], length, get_or, Some, sym, refl, ◌∙◌, arith}
use Rattle.std.specs.Str.{bytes_eq}
use Rattle.std.specs.List.{slice_get}
use Rattle.std.proofs.lemmas.Option.{slice_get_within, slice_get-map, get_or_from_slice_get}
use Rattle.std.proofs.lemmas.Slice.Eq.{bytes_eq-Decides}
use Rattle.names.specs.Entries.{spelled}
use Rattle.names.specs.Spelled.{held}
use Rattle.names.proofs.Finding.{find_at}
use Rattle.names.proofs.Entering.{held_long}
use Rattle.names.proofs.table.Table.hinted.Goals as goal

pub returns : goal.returns
returns c =
    let t = c.args.self.now in
    let e = c.in_ok-entry.entry.now in
    let p = c.from-place.result in
    let at : slice_get t.entries.keys p ≡ Some e = sym c.in_ok-entry.ensures.key in
    let same : bytes_eq c.as_slice.result.now c.args.spelling.now ≡ true = grind (arith, c.if-ne.ensures) in
    let s = sym c.as_slice.ensures.value ∙ (bytes_eq-Decides c.as_slice.result.now c.args.spelling.now).0 same in
    let read : get_or (held t) p [] ≡ c.args.spelling.now = get_or_from_slice_get (held t) p (spelled e) [] (slice_get-map spelled t.entries.keys p ∙ rw at refl) ∙ s in
    let within : p < length t.entries.keys = slice_get_within t.entries.keys p e at in (
      omega (arith, within, held_long t, t.few),
      find_at 256 c.args.spelling.now (held t) t.distinct p (omega (arith, within, held_long t)) read,
    )
