-- The loop over the instructions.
use Rattle.std.proofs.Common.{◌≡◌, ◌<◌, ◌^◌, List, length, Result, Ok, subst, sym}
use Rattle.nr_base.specs.Place.{Place}
use Rattle.nr_base.specs.Reader.{onto, to_end, Advances}
use Rattle.nr_base.specs.Clauses.{Fails}
use Rattle.nr_base.proofs.Takes.{advances}
use Rattle.nr_base.proofs.Ends.{goes_on_to_end, fails_to_end, ends as ends_to_end}
use Rattle.nr_prog.specs.declared.pool.PoolEntry.{PoolEntry}
use Rattle.nr_instrs.specs.declared.fault.CodeFault.{CodeFault}
use Rattle.nr_instrs.specs.declared.raw.RawInstr.{RawInstr}
use Rattle.nr_instrs.specs.Faults.{is_free}
use Rattle.nr_instrs.specs.InstrReading.{instr_at}
use Rattle.nr_instrs.proofs.Moves.{onto_moves}
use Rattle.nr_instrs.proofs.Advances.{instr_moves}

pub steps : (pool : List PoolEntry) → Advances (onto (instr_at pool))
steps pool = advances (λ xs. (onto_moves 1 (instr_moves pool) xs).takes)

pub goes_on : (pool : List PoolEntry) (s t : List RawInstr) (p q : Place) (total : Result (List RawInstr × Place) CodeFault) → (length p.rest ≡ 0 → ⊥) → onto (instr_at pool) s p ≡ Ok (t, q)
    → to_end (onto (instr_at pool)) s p ≡ total → to_end (onto (instr_at pool)) t q ≡ total
goes_on pool s t p q total ne e so_far = goes_on_to_end (onto (instr_at pool)) (steps pool) s t p q total ne e so_far

pub smaller : (pool : List PoolEntry) (s t : List RawInstr) (p q : Place) → onto (instr_at pool) s p ≡ Ok (t, q) → length q.rest < length p.rest
smaller pool s t p q e = steps pool s t p q e

pub keeps_total : (pool : List PoolEntry) (s t : List RawInstr) (p q : Place) → onto (instr_at pool) s p ≡ Ok (t, q) → p.total < 2 ^ 16 → q.total < 2 ^ 16
keeps_total pool s t p q e lt = subst (λ z. z < 2 ^ 16) (sym ((onto_moves 1 (instr_moves pool) s).total p q t e)) lt

pub fails : (pool : List PoolEntry) (s : List RawInstr) (p : Place) (e : CodeFault) (total : Result (List RawInstr × Place) CodeFault) → (length p.rest ≡ 0 → ⊥) → Fails is_free e (onto (instr_at pool) s p)
    → to_end (onto (instr_at pool)) s p ≡ total → Fails is_free e total
fails pool s p e total ne f so_far = fails_to_end is_free (onto (instr_at pool)) s p e total ne f so_far

pub ends : (pool : List PoolEntry) (s : List RawInstr) (p : Place) (total : Result (List RawInstr × Place) CodeFault) → length p.rest ≡ 0 → to_end (onto (instr_at pool)) s p ≡ total → total ≡ Ok (s, p)
ends pool s p total e so_far = ends_to_end (onto (instr_at pool)) s p total e so_far
