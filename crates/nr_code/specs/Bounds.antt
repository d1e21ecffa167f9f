-- How long the code of a class can be: a file's counts can't say more (JVM Specification 4.7, 4.7.3), but for the bytes
-- of code, of which there are 65,535 at most (4.9.1).
use Rattle.std.specs.Prelude.{◌<◌, ◌≤◌, ◌^◌, length, Option, Some, None, IfSome, All}
use Rattle.nr_prog.specs.declared.member.Code.{Code}
use Rattle.nr_prog.specs.declared.parts.ClassParts.{ClassParts}

-- the contents of a StackMapTable
abbrev pub HasShortMaps : Option Code → Type 0
HasShortMaps None = Unit {0}
HasShortMaps (Some code) = IfSome code.maps (λ contents. length contents < 2 ^ 32)

-- the contents of each StackMapTable
abbrev pub AreShort : ClassParts → Type 0
AreShort c = All (λ m. HasShortMaps m.code) c.methods

pub record IsSized (code : Code) : Type 0 where
  pub bytes : length code.bytes < 2 ^ 16
  pub handlers : length code.handlers ≤ 2 ^ 16
  pub maps : IfSome code.maps (λ contents. length contents < 2 ^ 32)

abbrev pub IsShort : Option Code → Type 0
IsShort None = Unit {0}
IsShort (Some code) = IsSized code
