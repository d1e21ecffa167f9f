-- That a request is answered in one way only (the project's own).
use Rattle.std.specs.Prelude.{◌≡◌, ℕ, ◌<◌, ◌^◌, List, length}
use Rattle.nr_linked.specs.declared.program.tables.ProgramTables.{ProgramTables}
use Rattle.nr_graph.specs.declared.graph.Graph.{Graph}
use Rattle.nr_serform.specs.Streams.{IsCanonical, Spells}
use Rattle.nr_answers.specs.Answers.{Replies}
use Rattle.nr_answers.specs.Progress.{HasMore}

-- A text of fewer than 2^32 bytes spells one graph for a number of roots.
abbrev pub SpellsOneGraph : ProgramTables → Type 0
SpellsOneGraph P = (text : List ℕ) (f g : Graph) → length text < 2 ^ 32 → length f.roots ≡ length g.roots → Spells P text f → Spells P text g → f ≡ g

-- A graph has one canonical text.
abbrev pub HasOneText : ProgramTables → Type 0
HasOneText P = (g : Graph) (a b : List ℕ) → IsCanonical P a g → IsCanonical P b g → a ≡ b

-- The job of a request has one number of steps, and runs on just before that.
pub record HasOneLength (P : ProgramTables) (service version : ℕ) (body : List ℕ) : Type 0 where
  pub one : (n k : ℕ) (text other : List ℕ) → Replies P service version body n text → Replies P service version body k other → n ≡ k
  pub more : (n k : ℕ) (text : List ℕ) → Replies P service version body n text → HasMore P service body k → k < n

-- A request has one reply at most, after one number of steps, and its job runs on just before that.
pub record IsAnsweredOnce (P : ProgramTables) (service version : ℕ) (body : List ℕ) : Type 0 where
  pub one : (n k : ℕ) (text other : List ℕ) → Replies P service version body n text → Replies P service version body k other
      → (n ≡ k) × (text ≡ other)
  pub more : (n k : ℕ) (text : List ℕ) → Replies P service version body n text → HasMore P service body k → k < n
