-- Texts of the pool.
use Rattle.std.proofs.Common.{◌<◌, ◌^◌, List}
use Rattle.std.specs.List.{All, Contains}
use Rattle.std.proofs.lemmas.List.Elements.{All-contains}
use Rattle.nr_prog.specs.declared.pool.PoolEntry.{PoolEntry}
use Rattle.nr_prog.specs.Pool.{text_len}

pub fits : (pool : List PoolEntry) (e : PoolEntry) → All (λ e. text_len e < 2 ^ 16) pool → Contains pool e → text_len e < 2 ^ 16
fits pool e all here = All-contains (λ e. text_len e < 2 ^ 16) pool e all here
