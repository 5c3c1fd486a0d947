-- What the code's values hold.
--   spelled        the bytes of a spelling
--   held           the spellings of a table, in the order in which they were entered
--   listed         the spellings that have numbers, the first of them with the number 256
pub use Rattle.names.specs.Entries.{spelled}
use Rattle.names.specs.declared.names.Names.{Names}
use Rattle.names.specs.declared.table.Table.{Table}
use Rattle.names.specs.Naming.{Spellings}
use Rattle.names.specs.Entries.{spellings}

abbrev pub held : Table → Spellings
held t = spellings t.entries.keys

abbrev pub listed : Names → Spellings
listed n = held n.table
