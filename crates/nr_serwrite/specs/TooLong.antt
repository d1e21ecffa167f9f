-- Streams that are too long to be written. The project's own rule.
use Rattle.std.specs.Prelude.{◌≡◌, ℕ, ◌<◌, List, length}
use Rattle.nr_linked.specs.declared.program.tables.ProgramTables.{ProgramTables}
use Rattle.nr_graph.specs.declared.graph.Graph.{Graph}
use Rattle.nr_serform.specs.Streams.{IsCanonical}
use Rattle.nr_serwrite.specs.declared.fault.StreamWriteFault.{StreamWriteFault}
use Rattle.nr_serwrite.specs.declared.fault.StreamWriteFault.TheVariants.{StreamTooLong, NoMemory}

-- the longest stream, in bytes
abbrev pub max_length : ℕ
max_length = 4194304

-- the canonical spelling of the graph has n bytes, which are too many
pub record IsTooLong (P : ProgramTables) (g : Graph) (n : ℕ) : Type 0 where
  pub text : List ℕ
  pub canonical : IsCanonical P text g
  pub long : length text ≡ n
  pub above : max_length < n

abbrev pub OnTooLong : StreamWriteFault → (ℕ → Type 0) → Type 0
OnTooLong (StreamTooLong n) Q = Q n
OnTooLong NoMemory Q = Unit {0}
