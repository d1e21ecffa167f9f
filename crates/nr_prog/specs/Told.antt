-- Texts that were told, each with its number.
use Rattle.std.specs.Prelude.{ℕ, List, Option}
use Rattle.std.specs.Option.{unwrap_or}
use Rattle.std.specs.Borrow.{Bor}
use Rattle.std.specs.BTreeMap.{BTreeMap}
use Rattle.std.specs.BTreeMap as tree
use Rattle.std.specs.Cmp.Lexicographic.{slice_cmp}
use Rattle.std.specs.Ordering.{nat_cmp}
use Rattle.nr_prog.specs.declared.pool.PoolEntry.{PoolEntry}
use Rattle.nr_prog.specs.declared.pool.PoolEntry.TheVariants.{Utf8}

-- the number of a text, where it was told
abbrev pub told : BTreeMap (Bor (List ℕ)) ℕ → List ℕ → Option ℕ
told firsts text = tree.get_by (λ k. slice_cmp nat_cmp text k.now) firsts

-- the number of the entry's text, or this one where it wasn't told
abbrev pub found_in : BTreeMap (Bor (List ℕ)) ℕ → ℕ → PoolEntry → ℕ
found_in firsts index (Utf8 bytes) = unwrap_or (told firsts bytes) index
found_in firsts index e = 0
