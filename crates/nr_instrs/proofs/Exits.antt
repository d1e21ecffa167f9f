-- A fault on the way is the fault of the whole, or want of memory.
use Rattle.std.proofs.Common.{◌≡◌, ℕ, ◌-◌, ◌<◌, Result}
use Rattle.nr_base.specs.Place.{Place}
use Rattle.nr_base.specs.Reader.{times}
use Rattle.nr_base.specs.Clauses.{Fails}
use Rattle.nr_base.proofs.Loops.{fails_in as fails_in_loop}
use Rattle.nr_instrs.specs.declared.fault.CodeFault.{CodeFault}
use Rattle.nr_instrs.specs.Faults.{is_free}

pub fails_in : {S : Type 0} (step : S → Place → Result (S × Place) CodeFault) (count i : ℕ) (s : S) (p : Place) (e : CodeFault) (total : Result (S × Place) CodeFault) → i < count → Fails is_free e (step s p)
    → times step (count - i) s p ≡ total → Fails is_free e total
fails_in step count i s p e total lt f so_far = fails_in_loop is_free step count i s p e total lt f so_far
