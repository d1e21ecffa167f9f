-- Connections to a server that keeps to its text (the project's own).
use Rattle.std.specs.Prelude.{ℕ, List, ◌++◌}
use Rattle.nr_linked.specs.declared.program.tables.ProgramTables.{ProgramTables}
use Rattle.nr_answers.specs.Connections.{ConnectionText, Peer}

-- what was given is a first part of what the server says to what was sent
pub record IsFaithful (P : ProgramTables) (s : Peer) (sent given : List ℕ) : Type 0 where
  pub rest : List ℕ
  pub text : ConnectionText P s sent (given ++ rest)

-- What the peers of a wire may say is what the server says. A wire whose peers keep to such a rule is honest for the server.
abbrev pub SaysAsServer : ProgramTables → Peer → (List ℕ → List ℕ → Type 0) → Type 0
SaysAsServer P s says = (sent text : List ℕ) → says sent text → ConnectionText P s sent text
