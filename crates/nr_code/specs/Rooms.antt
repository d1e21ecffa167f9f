-- How many types the frame maps of a class file may have, in all their locals and operands, before want of memory is
-- answered: the project's own rule.
use Rattle.std.specs.Prelude.{ℕ}

abbrev pub all_types : ℕ
all_types = 16777216
