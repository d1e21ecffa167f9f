-- When the answers of remote calls are those of local runs (the project's own).
use Rattle.std.specs.Prelude.{◌≡◌, ◌≢◌, ℕ, suc, Bool, true, false, ◌⊎◌, ◌↔◌, IsTrue, List, [], ◌∷◌, Option, None}
use Rattle.std.specs.FinMap.{get}
use Rattle.nr_linked.specs.declared.program.tables.ProgramTables.{ProgramTables}
use Rattle.nr_model.specs.declared.value.Value.{Value}
use Rattle.nr_model.specs.Heaps.{Heap}
use Rattle.nr_model.specs.States.{Returned, State}
use Rattle.nr_model.specs.Alike.{AlikeResult, Any}
use Rattle.nr_model.specs.Pairs.{Listed, InResults, Holds, IsClosed, IsPair, Paired}
use Rattle.nr_model.specs.Locals.{RestorableRoot, Local}
use Rattle.nr_model.specs.Same.{SameReached, Same}
use Rattle.nr_model.specs.Asks.{Answered, Faulted, Entry}

-- each reference among the arguments is to an array or an object that a call restores
abbrev pub AllRestorable : ProgramTables → Heap → List Value → Type 0
AllRestorable P h args = (a : ℕ) → Holds args a → RestorableRoot P h args a

-- what was answered is, from the old names and the results on, the same as what a local run left, and it printed the same
pub record IsLocal (P : ProgramTables) (e : Entry) : Type 0 where
  pub after : Heap
  pub value : Option Value
  pub printed : List ℕ
  pub answer : e.answer ≡ Answered after value printed
  pub steps : ℕ
  pub state : State
  pub local : Local P e.before e.method e.args steps state
  pub result : Option Value
  pub returned : state.control ≡ Returned result
  pub same : SameReached e.before state.heap result after value
  pub out : state.printed ≡ printed

-- What was answered is what a local run left, but for names: the same from the old names and the results on, and in a
-- heap that has no names but the old ones and those of what is reached.
pub record IsRestored (P : ProgramTables) (e : Entry) : Type 0 where
  pub local : IsLocal P e
  pub same : Same e.before local.state.heap local.result local.after local.value

-- each call is answered so
abbrev pub AllLocal : ProgramTables → List Entry → Type 0
AllLocal P [] = Unit {0}
AllLocal P (e ∷ es) = IsLocal P e × AllLocal P es

-- each call was from a closed heap, which had the arguments
abbrev pub AllClosed : List Entry → Type 0
AllClosed [] = Unit {0}
AllClosed (e ∷ es) = (IsClosed e.before × ((x : ℕ) → Holds e.args x → get e.before x ≢ None)) × AllClosed es

abbrev pub AllRestored : ProgramTables → List Entry → Type 0
AllRestored P [] = Unit {0}
AllRestored P (e ∷ es) = IsRestored P e × AllRestored P es

-- each call is answered so, and each of its reference arguments is restored
abbrev pub EachLocal : ProgramTables → List Entry → Type 0
EachLocal P [] = Unit {0}
EachLocal P (e ∷ es) = IsLocal P e × AllRestorable P e.before e.args × EachLocal P es

-- ---- the same with faults, beside a machine that runs the methods itself

abbrev pub IsFaulted : Entry → Type 0
IsFaulted e = (name : ℕ) × (e.answer ≡ Faulted name)

-- what was answered is just what a local run left
pub record IsOwn (P : ProgramTables) (e : Entry) : Type 0 where
  pub steps : ℕ
  pub state : State
  pub result : Option Value
  pub local : Local P e.before e.method e.args steps state
  pub returned : state.control ≡ Returned result
  pub answer : e.answer ≡ Answered state.heap result state.printed

-- each call is answered so, and each of its reference arguments is restored
abbrev pub EachOwn : ProgramTables → List Entry → Type 0
EachOwn P [] = Unit {0}
EachOwn P (e ∷ es) = IsOwn P e × AllRestorable P e.before e.args × EachOwn P es

-- the calls from number n on: those that the test names met a fault, and no others
abbrev pub FaultedWhere : (ℕ → Bool) → ℕ → List Entry → Type 0
FaultedWhere faulted n [] = Unit {0}
FaultedWhere faulted n (e ∷ es) = (IsFaulted e ↔ IsTrue (faulted n)) × FaultedWhere faulted (suc n) es

-- a call that met a fault, or else was answered by a local run
abbrev pub Fated : ProgramTables → Bool → Entry → Type 0
Fated P true e = IsFaulted e
Fated P false e = IsOwn P e

-- the calls from number n on: just those that the test names met a fault
abbrev pub AllFated : ProgramTables → (ℕ → Bool) → ℕ → List Entry → Type 0
AllFated P faulted n [] = Unit {0}
AllFated P faulted n (e ∷ es) = Fated P (faulted n) e × AllFated P faulted (suc n) es

-- the same calls of two machines: where the first was answered, the second runs the method itself, and where the first
-- met a fault, so does the second
pub data Mirrors (P : ProgramTables) : List Entry → List Entry → Type 0 where
  no_call : Mirrors P [] []
  answered_call : {d e : Entry} {ds es : List Entry} → d.method ≡ e.method → IsLocal P d → IsOwn P e → Mirrors P ds es
      → Mirrors P (d ∷ ds) (e ∷ es)
  faulted_call : {d e : Entry} {ds es : List Entry} → d.method ≡ e.method → IsFaulted d → IsFaulted e → Mirrors P ds es
      → Mirrors P (d ∷ ds) (e ∷ es)

abbrev pub EachLocalOrFaulted : ProgramTables → List Entry → Type 0
EachLocalOrFaulted P [] = Unit {0}
EachLocalOrFaulted P (e ∷ es) = (IsLocal P e ⊎ IsFaulted e) × EachLocalOrFaulted P es

-- ---- a restore

-- the listed pairs the other way round, of names that h has, and the results
abbrev pub BackAndResults : Heap → List (ℕ × ℕ) → Option Value → Option Value → ℕ → ℕ → Type 0
BackAndResults h ps v w y z = (Listed ps z y × (get h z ≢ None)) ⊎ InResults v w y z

-- From heap h, where ps lists the names in h beside those in the other heap, a restore leaves heap r and value w, where
-- the other machine has left heap k and result v: the listed names of h have what their partners have, everything else
-- that is reached there is new, and what isn't listed stays.
pub record RestoresPairs (h : Heap) (ps : List (ℕ × ℕ)) (k : Heap) (v : Option Value) (r : Heap) (w : Option Value)
    : Type 0 where
  pub heaps : Paired (BackAndResults h ps v w) k r
  pub results : AlikeResult Any v w
  pub new : (y z : ℕ) → IsPair (BackAndResults h ps v w) k r y z → Listed ps z y ⊎ (get h z ≡ None)
  pub rest : (x : ℕ) → get h x ≢ None → ((y : ℕ) → Listed ps x y → ⊥) → get r x ≡ get h x
  pub no_more : (z : ℕ) → get r z ≢ None → (get h z ≢ None) ⊎ ((y : ℕ) × IsPair (BackAndResults h ps v w) k r y z)
