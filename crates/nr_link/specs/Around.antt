-- What exception handlers and frame maps name.
use Rattle.std.specs.Prelude.{◌≡◌, ◌⊎◌, List, [], ◌∷◌}
use Rattle.nr_prog.specs.declared.member.Handler.{Handler}
use Rattle.nr_prog.specs.declared.pool.PoolEntry.{PoolEntry}
use Rattle.nr_linked.specs.declared.program.types.VType.{VType}
use Rattle.nr_linked.specs.declared.program.types.VType.TheVariants.{Long, Top}
use Rattle.nr_prog.specs.BodyNames.{NamesAnyClass}

-- the handler catches all, or the class that it names has a name
abbrev pub IsCatchNamed : List PoolEntry → Handler → Type 0
IsCatchNamed pool h = (h.catch_type ≡ 0) ⊎ NamesAnyClass pool h.catch_type

-- the places that a value of the type takes in the local variables
abbrev pub places : VType → List VType
places Long = Long ∷ Top ∷ []
places t = t ∷ []
