-- Sets of pairs of texts, by the numbers of the texts.
use Rattle.std.specs.Prelude.{ℕ, List, Bool, ◌&&◌, ◌==◌}
use Rattle.std.specs.List.{list_any}
use Rattle.std.specs.BTreeSet.{BTreeSet}
use Rattle.nr_prog.specs.declared.pool.PoolEntry.{PoolEntry}
use Rattle.nr_prog.specs.TextNumbers.{number}

abbrev pub is_pair : ℕ → ℕ → ℕ → ℕ → Bool
is_pair n d name desc = n == name && d == desc

-- whether the pair of these numbers is in the set
unfoldable pub has_pair : BTreeSet (ℕ × ℕ) → ℕ → ℕ → Bool
has_pair seen n d = list_any (λ k. is_pair n d k.0 k.1) seen.keys

-- whether that of these texts is
abbrev pub has : List PoolEntry → BTreeSet (ℕ × ℕ) → List ℕ → List ℕ → Bool
has pool seen n d = has_pair seen (number pool n) (number pool d)
