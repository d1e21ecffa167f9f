use Rattle.std.proofs.Common.{◌≡◌, ◌++◌, drop, flat_map}
use Rattle.nr_cli.specs.Spelling.{spelled_byte}
use Rattle.nr_cli.proofs.spelling.parts.put_name.Given as goal

abbrev pub invariant-loop-byte : goal.invariant-loop-byte
invariant-loop-byte l = l.text ++ flat_map spelled_byte (drop l.byte-index l.name) ≡ l.fn.text ++ flat_map spelled_byte l.name
