use Rattle.std.proofs.Common.{refl}
use Rattle.sources.specs.Ahead.{ahead_of}
use Rattle.rules.proofs.sheets.sheets_stand.Goals as goal

pub returns-clause-sheets : goal.returns-clause-sheets
unfolding ahead_of
returns-clause-sheets c =
    record {
      empty_text = refl;
      empty_line = refl;
      blanks = refl;
      arguments = refl;
      global_inside = refl;
      nested_skip = refl;
      par_refused = refl;
      category_changed = refl;
    }
