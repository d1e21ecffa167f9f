-- Where the run of a request begins: in a heap that has just the objects of its graph (the project's own).
use Rattle.std.specs.Prelude.{◌≡◌, ◌≢◌, ℕ, ℤ, List, [], ◌∷◌, reverse, Option, Some, None, slice_get}
use Rattle.std.specs.FinMap.{get}
use Rattle.nr_linked.specs.declared.program.tables.ProgramTables.{ProgramTables}
use Rattle.nr_model.specs.declared.value.Value.{Value}
use Rattle.nr_model.specs.declared.value.Value.TheVariants.{Int, Long, Null, Ref}
use Rattle.nr_model.specs.Heaps.{Has, Heap}
use Rattle.nr_message.specs.declared.message.Arg.{Arg}
use Rattle.nr_message.specs.declared.message.Arg.TheVariants as args
use Rattle.nr_graph.specs.declared.graph.Graph.{Graph}
use Rattle.nr_graph.specs.Pictures.{Shown}
use Rattle.nr_answers.specs.Requests.{Accepted}

-- the heap has the objects of the graph under these names, and no others
pub record Planted (P : ProgramTables) (g : Graph) (h : Heap) (names : List ℕ) : Type 0 where
  pub shown : Shown P h names g
  pub just : (x : ℕ) → get h x ≢ None → Has names x

-- the values of the arguments; the references among them are the roots in order
pub data Passed (names : List ℕ) : List Arg → List (Option ℕ) → List Value → Type 0 where
  no_arg : Passed names [] [] []
  an_int : {n : ℤ} {more : List Arg} {rs : List (Option ℕ)} {vs : List Value} → Passed names more rs vs
      → Passed names (args.Int n ∷ more) rs (Int n ∷ vs)
  a_long : {n : ℤ} {more : List Arg} {rs : List (Option ℕ)} {vs : List Value} → Passed names more rs vs
      → Passed names (args.Long n ∷ more) rs (Long n ∷ vs)
  a_null : {more : List Arg} {rs : List (Option ℕ)} {vs : List Value} → Passed names more rs vs
      → Passed names (args.Reference ∷ more) (None ∷ rs) (Null ∷ vs)
  an_object : {i x : ℕ} {more : List Arg} {rs : List (Option ℕ)} {vs : List Value} → slice_get names i ≡ Some x
      → Passed names more rs vs → Passed names (args.Reference ∷ more) (Some i ∷ rs) (Ref x ∷ vs)

-- the heap and the arguments of an accepted request, the last argument first
pub record Entered (P : ProgramTables) {service : ℕ} {body : List ℕ} (r : Accepted P service body) (h : Heap) (args : List Value) : Type 0 where
  pub names : List ℕ
  pub planted : Planted P r.graph h names
  pub values : List Value
  pub passed : Passed names r.request.call.args r.graph.roots values
  pub last_first : args ≡ reverse values
