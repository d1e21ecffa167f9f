-- Exception handlers (JVM Specification 2.10 and 4.7.3, exception_table).
use Rattle.std.specs.Prelude.{ℕ, Bool, ◌&&◌, nat_le, nat_lt}
use Rattle.nr_prog.specs.declared.member.Handler.{Handler}

-- its range holds the instruction at this offset
abbrev pub covers : Handler → ℕ → Bool
covers h at = nat_le h.start at && nat_lt at h.end
