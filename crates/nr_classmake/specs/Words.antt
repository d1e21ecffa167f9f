-- What calls that add to a pool owe.
use Rattle.std.specs.Prelude.{◌≡◌, ◌≤◌, ◌<◌, ◌^◌, List, length, take, Result, Ok, Err}
use Rattle.nr_prog.specs.declared.pool.PoolEntry.{PoolEntry}
use Rattle.nr_classmake.specs.declared.fault.MakeFault.{MakeFault}
use Rattle.nr_classmake.specs.declared.fault.MakeFault.TheVariants as faults

-- the new pool begins with the old one
abbrev pub Extends : List PoolEntry → List PoolEntry → Type 0
Extends old new = take (length old) new ≡ old

-- What a call that may leave a part of its entries did is what is made of the old pool: an Ok has all of it, and
-- the pool is full exactly where what is made has more than 65,535 places.
abbrev pub Tries : {X : Type 0} → Result X MakeFault → List PoolEntry → List PoolEntry → List PoolEntry × X → Type 0
Tries (Ok x) old new made = made ≡ (new, x)
Tries (Err faults.PoolFull) old new made = (2 ^ 16 ≤ length made.0) × Extends old new
Tries (Err faults.NoMemory) old new made = Extends old new

-- A call did what is made of the old pool, or nothing: the pool is full exactly where what is made has more than
-- 65,535 places.
abbrev pub Makes : {X : Type 0} → Result X MakeFault → List PoolEntry → List PoolEntry → List PoolEntry × X → Type 0
Makes (Ok x) old new made = (made ≡ (new, x)) × (length new < 2 ^ 16)
Makes (Err faults.PoolFull) old new made = (2 ^ 16 ≤ length made.0) × (new ≡ old)
Makes (Err faults.NoMemory) old new made = new ≡ old
