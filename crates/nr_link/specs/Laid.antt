-- What is laid out for a class, and its entry with that.
use Rattle.std.specs.Prelude.{ℕ, is_some, if◌then◌else◌}
use Rattle.nr_linked.specs.declared.program.tables.ClassInfo.{ClassInfo}
use Rattle.nr_linked.specs.declared.program.tables.ProgramTables.{ProgramTables}
use Rattle.nr_linkrules.specs.Layout.{slots_in, supers_in}
use Rattle.nr_link.specs.declared.layout.Laid.{Laid}

abbrev pub above_in : ProgramTables → ℕ → Laid
above_in P c = record { supers = supers_in P c; slots = slots_in P c }

abbrev pub laid_by : ClassInfo → Laid → ClassInfo
laid_by e laid = if is_some e.read then record e { supers = laid.supers; slots = laid.slots } else e
