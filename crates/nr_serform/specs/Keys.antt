-- What has a handle, as the code has it.
use Rattle.nr_serform.specs.declared.handled.Handled.{Handled}
use Rattle.nr_serform.specs.declared.handled.Handled.TheVariants as keys
use Rattle.nr_serform.specs.Entries.{Entry, Class, Text, Object}

abbrev pub entry_of : Handled → Entry
entry_of (keys.Class k) = Class k
entry_of (keys.Text t) = Text t.now
entry_of (keys.Object i) = Object i
