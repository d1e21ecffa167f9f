-- What follows: a text spells one graph, and one that is refused spells none.
use Rattle.std.proofs.Common.{◌≡◌, ℕ, ◌<◌, ◌^◌, List, length, Result, Ok, Err, sym, ap, ◌∙◌}
use Rattle.nr_linked.specs.declared.program.tables.ProgramTables.{ProgramTables}
use Rattle.nr_linked.specs.Facts.{ProgramFacts}
use Rattle.nr_graph.specs.declared.graph.Graph.{Graph}
use Rattle.nr_serform.specs.Streams.{Spells}
use Rattle.nr_serread.specs.declared.fault.StreamFault.{StreamFault}
use Rattle.nr_serread.specs.Reading.{stream_of}
use Rattle.nr_serlaws.proofs.Redescribed.{NumbersFit}
use Rattle.nr_serlaws.proofs.Rewhole.{spelled_is_read}
use Rattle.nr_serlaws.proofs.Roots.{as_many_roots}

same_ok : (g h : Graph) (r : Result Graph StreamFault) → r ≡ Ok g → r ≡ Ok h → g ≡ h
same_ok g h r a b = cc

not_both : (g : Graph) (e : StreamFault) (r : Result Graph StreamFault) → r ≡ Ok g → r ≡ Err e → ⊥
not_both g e r a b = absurd cc

pub one_graph : (P : ProgramTables) (bytes : List ℕ) (g h : Graph) → ProgramFacts P → NumbersFit P → length bytes < 2 ^ 32 → Spells P bytes g → Spells P bytes h → g ≡ h
one_graph P bytes g h facts numbers few a b =
    let n = as_many_roots P bytes g h facts numbers few a b in
    same_ok g h (stream_of P (length h.roots) bytes) (ap (λ z. stream_of P z bytes) (sym n) ∙ spelled_is_read P bytes g facts numbers few a) (spelled_is_read P bytes h facts numbers few b)

pub refused_spells_none : (P : ProgramTables) (roots : ℕ) (bytes : List ℕ) (g : Graph) (e : StreamFault) → ProgramFacts P → NumbersFit P → length bytes < 2 ^ 32 → stream_of P roots bytes ≡ Err e → length g.roots ≡ roots → Spells P bytes g → ⊥
refused_spells_none P roots bytes g e facts numbers few err n a =
    not_both g e (stream_of P roots bytes) (ap (λ z. stream_of P z bytes) (sym n) ∙ spelled_is_read P bytes g facts numbers few a) err
