-- What a server answers to a request (the project's own). But for want of memory the answer is a function of the version and
-- the request.
use Rattle.std.specs.Prelude.{◌≡◌, ◌⊎◌, ℕ, ◌<◌, ◌≤◌, List, length, Option, Some, None}
use Rattle.std.specs.FinMap.{get}
use Rattle.std.specs.Option.{option_and_then}
use Rattle.nr_linked.specs.declared.program.tables.ProgramTables.{ProgramTables}
use Rattle.nr_linked.specs.Kinds.{class_in}
use Rattle.nr_linked.specs.KindTexts.{class_name}
use Rattle.nr_model.specs.declared.value.Value.{Value}
use Rattle.nr_model.specs.declared.value.Value.TheVariants.{Ref}
use Rattle.nr_model.specs.Heaps.{Heap}
use Rattle.nr_model.specs.Outcomes.{CallOutcome, Fate, Ended, BudgetSpent, HeapFull, TooDeep, OutputTooLong}
use Rattle.nr_model.specs.States.{State, Returned, Thrown}
use Rattle.nr_message.specs.declared.message.ReplyBody.TheVariants.{Refused}
use Rattle.nr_message.specs.declared.serve_fault.ServeFault.{ServeFault}
use Rattle.nr_message.specs.declared.serve_fault.ServeFault.TheVariants as serve
use Rattle.nr_message.specs.Writing.{reply_text}
use Rattle.nr_graph.specs.Pictures.{FirstUnsendable}
use Rattle.nr_answers.specs.Planted.{Entered}
use Rattle.nr_answers.specs.Requests.{Accepted, RefusedAs, request_number}
use Rattle.nr_answers.specs.Returns.{ListedIn, SentBack, Shipment, roots_of, shipped_text}

-- how long the body of a frame is at most
abbrev pub max_body : ℕ
max_body = 4194304

-- the body of a reply that tells the fault
abbrev pub refusal_text : List ℕ → ServeFault → List ℕ
refusal_text body f = reply_text (record { number = request_number body; body = Refused f })

-- ---- the run of an accepted request

-- in a heap that has just the objects of the call, it comes to this within the request's budget
pub record RequestOutcome (P : ProgramTables) {service : ℕ} {body : List ℕ} (r : Accepted P service body) : Type 0 where
  pub before : Heap
  pub args : List Value
  pub entered : Entered P r before args
  pub steps : ℕ
  pub fate : Fate
  pub state : State
  pub outcome : CallOutcome P before r.request.method args r.request.call.budget steps fate state

-- the method returned, and these are the objects that are sent back
pub record Return (P : ProgramTables) (version : ℕ) {service : ℕ} {body : List ℕ} {r : Accepted P service body} (o : RequestOutcome P r) : Type 0 where
  pub ended : o.fate ≡ Ended
  pub value : Option Value
  pub returned : o.state.control ≡ Returned value
  pub listed : List ℕ
  pub lists : ListedIn P r.graph o.entered.names listed
  pub sent : List ℕ
  pub sent_back : SentBack version o.before o.state.heap listed sent

-- ---- the answer to an outcome

-- a run that doesn't end is answered by what stopped it
abbrev pub stop_fault : Fate → Option ServeFault
stop_fault BudgetSpent = Some serve.BudgetSpent
stop_fault TooDeep = Some serve.TooDeep
stop_fault HeapFull = Some serve.HeapFull
stop_fault OutputTooLong = Some serve.OutputTooLong
stop_fault Ended = None

-- the class of the object with this name, or of the elements of the array
abbrev pub class_of : Heap → ℕ → Option ℕ
class_of h x = option_and_then (λ o. class_in o.kind.base) (get h x)

abbrev pub back_text : {P : ProgramTables} {version service : ℕ} {body : List ℕ} {r : Accepted P service body} {o : RequestOutcome P r}
    (b : Return P version o) → Shipment P o.state.heap b.listed b.sent version b.value → List ℕ
back_text {body = body} {o = o} b s = shipped_text s (request_number body) o.state.printed

-- The first object of the walk that no stream may have is looked for before the body is measured.
pub data AnswersOutcome (P : ProgramTables) (version : ℕ) {service : ℕ} {body : List ℕ} {r : Accepted P service body} (o : RequestOutcome P r)
    : List ℕ → Type 0 where
  stopped : {f : ServeFault} {text : List ℕ} → stop_fault o.fate ≡ Some f → text ≡ refusal_text body f → AnswersOutcome P version o text
  thrown : {text : List ℕ} (x c : ℕ) → o.fate ≡ Ended → o.state.control ≡ Thrown (Ref x) → class_of o.state.heap x ≡ Some c
      → text ≡ refusal_text body (serve.Thrown (class_name P c)) → AnswersOutcome P version o text
  unsendable : {text : List ℕ} (b : Return P version o) (x c : ℕ) → FirstUnsendable P o.state.heap (roots_of b.sent b.value) x
      → class_of o.state.heap x ≡ Some c → text ≡ refusal_text body (serve.NotSendable (class_name P c)) → AnswersOutcome P version o text
  too_long : {text : List ℕ} (b : Return P version o) (s : Shipment P o.state.heap b.listed b.sent version b.value)
      → max_body < length (back_text b s) → text ≡ refusal_text body serve.ReplyTooLong → AnswersOutcome P version o text
  returned : {text : List ℕ} (b : Return P version o) (s : Shipment P o.state.heap b.listed b.sent version b.value)
      → length text ≤ max_body → text ≡ back_text b s → AnswersOutcome P version o text

-- ---- the reply, and the steps of its job

pub data Replies (P : ProgramTables) (service version : ℕ) (body : List ℕ) : ℕ → List ℕ → Type 0 where
  refused : {f : ServeFault} {text : List ℕ} → RefusedAs P service body f → text ≡ refusal_text body f
      → Replies P service version body 0 text
  run : {steps : ℕ} {text : List ℕ} (r : Accepted P service body) (o : RequestOutcome P r) → steps ≡ o.steps
      → AnswersOutcome P version o text → Replies P service version body steps text

-- want of memory answers any request
abbrev pub no_memory_text : List ℕ → List ℕ
no_memory_text body = refusal_text body serve.NoMemory

abbrev pub Answers : ProgramTables → ℕ → ℕ → List ℕ → List ℕ → Type 0
Answers P service version body text = ((steps : ℕ) × Replies P service version body steps text) ⊎ (text ≡ no_memory_text body)
