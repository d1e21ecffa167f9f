-- What becomes of a single type, where an object is initialised or forgotten.
use Rattle.std.specs.Prelude.{ℕ, if◌then◌else◌}
use Rattle.nr_linked.specs.declared.program.types.VType.{VType}
use Rattle.nr_linked.specs.declared.program.types.VType.TheVariants.{Top, Class}
use Rattle.nr_linked.specs.Kinds.{class_kind}
use Rattle.nr_linked.specs.TypingCalls.{is_same_uninit}
use Rattle.nr_linked.specs.TypingObjects.{is_made_at}

abbrev pub one_initialised : VType → ℕ → VType → VType
one_initialised t c u = if is_same_uninit t u then Class (class_kind c) else u

abbrev pub one_forgotten : ℕ → VType → VType
one_forgotten at t = if is_made_at at t then Top else t
