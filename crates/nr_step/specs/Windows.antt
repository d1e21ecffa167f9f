-- How the values of a frame are seen: the locals, and of the operands those in use, the topmost first.
use Rattle.std.specs.Prelude.{ℕ, zero, suc, List, [], ◌∷◌, Option, Some, None, IsSomeAnd, slice_get, slice_index_or}
use Rattle.nr_model.specs.declared.value.Value.{Value}
use Rattle.nr_model.specs.declared.value.Value.TheVariants.{Null, Ref}
use Rattle.nr_model.specs.Heaps.{Heap}
use Rattle.nr_model.specs.Scripts.{Script, Within, Ending, Runs, OnTop, OnInt, OnLong, OnReference}

abbrev pub top_first : List Value → ℕ → List Value
top_first stack zero = []
top_first stack (suc d) = slice_index_or stack d Null ∷ top_first stack d

-- what an instruction works on, with nothing printed yet
abbrev pub view : Heap → List Value → List Value → Within
view h locals operands = record { heap = h; locals = locals; operands = operands; printed = [] }

-- the same, where so many operands of the stack are in use
abbrev pub window : Heap → List Value → List Value → ℕ → Within
window h locals stack d = view h locals (top_first stack d)

abbrev pub IntOnTop : List Value → Type 0
IntOnTop vs = OnTop vs (λ v us. OnInt v (λ n. Unit {0}))

abbrev pub LongOnTop : List Value → Type 0
LongOnTop vs = OnTop vs (λ v us. OnLong v (λ n. Unit {0}))

abbrev pub ReferenceOnTop : List Value → Type 0
ReferenceOnTop vs = OnTop vs (λ v us. OnReference v (λ r. Unit {0}))

abbrev pub ReferenceAt : List Value → ℕ → Type 0
ReferenceAt vs at = IsSomeAnd (slice_get vs at) (λ v. OnReference v (λ r. Unit {0}))

-- null, or the reference to the object of this name
abbrev pub reference_to : Option ℕ → Value
reference_to None = Null
reference_to (Some a) = Ref a

-- a script that begins so has a run, with something after it
abbrev pub CanBegin : (Script → Script) → Within → Type 0
CanBegin F w = (k : Script) × (e : Ending) × (v : Within) × Runs (F k) w e v

-- what goes on from v goes on after F from w
abbrev pub Leads : (Script → Script) → Within → Within → Type 0
Leads F w v = (k : Script) (e : Ending) (u : Within) → Runs k v e u → Runs (F k) w e u

-- F does no more than to put v in the place of w
abbrev pub Turns : (Script → Script) → Within → Within → Type 0
Turns F w v = (k : Script) (e : Ending) (u : Within) → (Runs k v e u → Runs (F k) w e u) × (Runs (F k) w e u → Runs k v e u)
