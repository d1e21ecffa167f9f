use Rattle.std.proofs.Common.{◌≡◌, drop}
use Rattle.std.specs.List.{AllWithin}
use Rattle.nr_prog.specs.Faults.{first_fault}
use Rattle.nr_prog.specs.Pool.{IsText}
use Rattle.nr_prog.specs.Rules.{entry_fault}
use Rattle.nr_prog.proofs.form.pool.check_pool.Given as goal

abbrev pub invariant-loop-place : goal.invariant-loop-place
invariant-loop-place l = record {
  found : first_fault (entry_fault l.pool) l.place (drop l.place l.pool) ≡ first_fault (entry_fault l.pool) 0 l.pool;
  texts : AllWithin IsText l.pool 0 l.place;
}
