-- The runs of one request have one length, whatever names its objects take.
use Rattle.std.proofs.Common.{◌≡◌, ◌<◌, ◌^◌, ℕ, List, [], length, reverse, Bool, true, false, refl, sym, ap, subst, subst₂, ◌∙◌, arith}
use Rattle.std.specs.Prelude.{None, Option}
use Rattle.std.specs.List.{zip}
use Rattle.nr_linked.specs.declared.program.tables.ProgramTables.{ProgramTables}
use Rattle.nr_linked.specs.Facts.{ProgramFacts}
use Rattle.nr_model.specs.declared.value.Value.{Value}
use Rattle.nr_model.specs.Alike.{AllLike, like_int, like_long, like_null, like_ref, no_more, one_more}
use Rattle.nr_model.specs.Asks.{Entry}
use Rattle.nr_model.specs.Heaps.{Heap, cells}
use Rattle.nr_model.specs.LimitedRuns.{LimitedRun, own_step, remote_step, there}
use Rattle.nr_model.specs.Locals.{Begins}
use Rattle.nr_model.specs.Outcomes.{CallOutcome, Fate, Outcome, begun, ended, further, is_too_deep, limited, spent, too_deep}
use Rattle.nr_model.specs.Pairs.{Listed, PairedStates}
use Rattle.nr_model.specs.States.{IsEnd, State}
use Rattle.nr_model.proofs.AskOutcomes.{no_service}
use Rattle.nr_model.proofs.Ends.{end_back, no_step}
use Rattle.nr_model.proofs.Kept.{PairsOf, states_match}
use Rattle.nr_model.proofs.Outcomes.{Level, begins_heap, begins_one, deep_alike, level_after, pairs_call, passed_alike}
use Rattle.nr_model.proofs.Paths.{none_some}
use Rattle.nr_model.proofs.Runs.{steps_paired}
use Rattle.nr_message.specs.declared.message.Arg.{Arg}
use Rattle.nr_message.specs.declared.message.Call.{Call}
use Rattle.nr_graph.specs.declared.graph.Graph.{Graph}
use Rattle.nr_graph.specs.Fitting.{GraphFits}
use Rattle.nr_graph.proofs.Along.{along_listed, reverse_like}
use Rattle.nr_graph.proofs.Sized.{all_cells}
use Rattle.nr_graph.proofs.Starts.{starts_pair}
use Rattle.nr_answers.specs.Answers.{Replies, RequestOutcome, refused, run}
use Rattle.nr_answers.specs.Once.{HasOneLength, SpellsOneGraph}
use Rattle.nr_answers.specs.Planted.{Passed, Planted, a_long, a_null, an_int, an_object, no_arg}
use Rattle.nr_answers.specs.Progress.{HasMore, RunsOn}
use Rattle.nr_answers.specs.Requests.{Accepted, Request}
use Rattle.nr_answers.proofs.OneRequest.{refused_accepted, same_call, same_graph, same_method}

-- ---- two starts

passed_alike_names : (names others : List ℕ) {xs : List Arg} {rs : List (Option ℕ)} {us vs : List Value} → Passed names xs rs us → Passed others xs rs vs
    → AllLike (Listed (zip names others)) us vs
passed_alike_names names others no_arg no_arg = no_more
passed_alike_names names others (an_int a) (an_int b) = one_more like_int (passed_alike_names names others a b)
passed_alike_names names others (a_long a) (a_long b) = one_more like_long (passed_alike_names names others a b)
passed_alike_names names others (a_null a) (a_null b) = one_more like_null (passed_alike_names names others a b)
passed_alike_names names others (an_object {i = i} {x = x} e a) (an_object {x = y} f b) =
    one_more (like_ref (along_listed names others x y i e f)) (passed_alike_names names others a b)

-- the objects of a graph in a heap of their own, and the values of arguments
pub record Start (P : ProgramTables) (xs : List Arg) (g : Graph) (h : Heap) (names : List ℕ) (args : List Value) : Type 0 where
  pub planted : Planted P g h names
  pub values : List Value
  pub passed : Passed names xs g.roots values
  pub last_first : args ≡ reverse values

module _ (P : ProgramTables) (facts : ProgramFacts P) (xs : List Arg) (g : Graph) (fits : GraphFits P g) (h k : Heap) (names others : List ℕ) (us vs : List Value)
    (a : Start P xs g h names us) (b : Start P xs g k others vs) where
  alike : AllLike (Listed (zip names others)) us vs
  alike = subst₂ (AllLike (Listed (zip names others))) (sym a.last_first) (sym b.last_first)
      (reverse_like (Listed (zip names others)) (passed_alike_names names others a.passed b.passed))

  pub starts : (m : ℕ) (s t : State) → Begins P h m us s → Begins P k m vs t → PairedStates (zip names others) s t
  starts m s t bs bt = (starts_pair P facts.linked names others g fits h k a.planted.shown b.planted.shown us vs alike m s t bs bt).0

  pub one_size : cells h ≡ cells k
  one_size = all_cells P names h g a.planted.shown a.planted.just ∙ sym (all_cells P others k g b.planted.shown b.planted.just)

-- ---- outcomes

first_of : {P : ProgramTables} {h : Heap} {m : ℕ} {args : List Value} {b n : ℕ} {f : Fate} {t : State} → CallOutcome P h m args b n f t → (s : State) × Begins P h m args s
first_of (too_deep {s = s} p d) = (s, p)
first_of (begun s p d o) = (s, p)

-- a run within the limits that goes on, and whose budget isn't spent, has fewer steps than the outcome
runs_less : (P : ProgramTables) (R : ℕ → ℕ → Type 0) (s t m u : State) (calls : List Entry) (k b n : ℕ) (f : Fate) → Level R s t → LimitedRun P None s calls k m
    → (IsEnd m.control → ⊥) → k < b → Outcome P t b n f u → k < n
runs_less P R s t m u calls k b n f a there goes lt (ended i) = absurd (goes (end_back R _ _ a.alike.control i))
runs_less P R s t m u calls k b n f a there goes lt (spent i) = absurd (omega (arith, lt))
runs_less P R s t m u calls k b n f a there goes lt (limited w q x) = omega arith
runs_less P R s t m u calls k b n f a there goes lt (further w q x o) = omega arith
runs_less P R s t m u calls k b n f a (remote_step v d e r) goes lt o = absurd (no_service P s d.asks)
runs_less P R s t m u calls k b n f a (own_step v c d e r) goes lt (ended i) = absurd (no_step P s.control s v (end_back R _ _ a.alike.control i) d)
runs_less P R s t m u calls k b n f a (own_step v c d e r) goes lt (spent i) = absurd (omega (arith, lt))
runs_less P R s t m u calls k b n f a (own_step v c d e r) goes lt (limited w q x) =
    let l = steps_paired P R s t v w a.alike d q in
    let z = level_after P R s t v w a l in
    absurd (none_some (sym e ∙ passed_alike P l.now v w z.alike z.size ∙ x))
runs_less P R s t m u calls k b n f a (own_step v c d e r) goes lt (further w q x o) =
    let l = steps_paired P R s t v w a.alike d q in
    let less = runs_less P l.now v w m u calls _ _ _ f (level_after P R s t v w a l) r goes (omega (arith, lt)) o in
    omega (arith, less)

true_or_false : (b c : Bool) → b ≡ true → c ≡ false → b ≡ c → ⊥
true_or_false b c p q e = cc

call_less : (P : ProgramTables) (ps : List (ℕ × ℕ)) (h : Heap) (m : ℕ) (args : List Value) (s t u v : State) (k b n : ℕ) (f : Fate) → PairedStates ps s t
    → cells s.heap ≡ cells t.heap → is_too_deep P s.control ≡ false → LimitedRun P None s [] k u → (IsEnd u.control → ⊥) → k < b
    → Begins P h m args t → CallOutcome P h m args b n f v → k < n
call_less P ps h m args s t u v k b n f a size fits made goes lt bt (too_deep q d) =
    let same = begins_one P h m args t v bt q in
    let deep = deep_alike P (PairsOf ps s t a) s.control t.control (states_match ps s t a).control in
    absurd (true_or_false (is_too_deep P v.control) (is_too_deep P s.control) d fits (sym (ap (λ z. is_too_deep P z.control) same) ∙ sym deep))
call_less P ps h m args s t u v k b n f a size fits made goes lt bt (begun w q d o) =
    let same = begins_one P h m args w t q bt in
    runs_less P (PairsOf ps s t a) s t u v [] k b n f (record { alike = states_match ps s t a; size = size }) made goes lt (subst (λ z. Outcome P z b n f v) same o)

-- ---- one request

module _ (P : ProgramTables) (facts : ProgramFacts P) (one : SpellsOneGraph P) (service version : ℕ) (body : List ℕ)
    (short : (q : Request P service body) → length q.call.stream < 2 ^ 32) where
  -- what an accepted request says, seen as another's
  start_as : (r p : Accepted P service body) (h : Heap) (names : List ℕ) (args : List Value) → Start P p.request.call.args p.graph h names args
      → Start P r.request.call.args r.graph h names args
  start_as r p h names args a =
      subst₂ (λ (m : Call) (g : Graph). Start P m.args g h names args) (same_call P service body p.request r.request)
      (same_graph P service body one short p.request r.request p.graph r.graph p.spelled r.spelled) a

  outcome_as : (r p : Accepted P service body) (h : Heap) (args : List Value) (n : ℕ) (f : Fate) (t : State)
      → CallOutcome P h p.request.method args p.request.call.budget n f t → CallOutcome P h r.request.method args r.request.call.budget n f t
  outcome_as r p h args n f t o =
      subst₂ (λ (m : ℕ) (c : Call). CallOutcome P h m args c.budget n f t) (same_method P service body p.request r.request) (same_call P service body p.request r.request) o

  begun_as : (r p : Accepted P service body) (h : Heap) (args : List Value) (s : State) → Begins P h p.request.method args s → Begins P h r.request.method args s
  begun_as r p h args s b = subst (λ (m : ℕ). Begins P h m args s) (same_method P service body p.request r.request) b

  start_of : (r : Accepted P service body) (o : RequestOutcome P r) → Start P r.request.call.args r.graph o.before o.entered.names o.args
  start_of r o = record { planted = o.entered.planted; values = o.entered.values; passed = o.entered.passed; last_first = o.entered.last_first }

  -- two outcomes of the request
  pub one_outcome : (r p : Accepted P service body) (o : RequestOutcome P r) (q : RequestOutcome P p)
      → (o.steps ≡ q.steps) × (o.fate ≡ q.fate) × PairedStates (zip o.entered.names q.entered.names) o.state q.state
  one_outcome r p o q =
      let a = start_of r o in
      let b = start_as r p q.before q.entered.names q.args (start_of p q) in
      let out = outcome_as r p q.before q.args q.steps q.fate q.state q.outcome in
      let s = first_of o.outcome in
      let t = first_of out in
      let fits = r.spelled.1.spellable.fits in
      let pair = starts P facts r.request.call.args r.graph fits o.before q.before o.entered.names q.entered.names o.args q.args a b r.request.method s.0 t.0 s.1 t.1 in
      let size = one_size P facts r.request.call.args r.graph fits o.before q.before o.entered.names q.entered.names o.args q.args a b in
      pairs_call P (zip o.entered.names q.entered.names) o.before q.before r.request.method o.args q.args s.0 t.0 s.1 t.1 pair size o.state q.state
      r.request.call.budget o.steps q.steps o.fate q.fate o.outcome out

  -- a job that runs on has fewer steps than its outcome
  runs_before : (k : ℕ) (state : State) (runs : RunsOn P service body k state) (p : Accepted P service body) (q : RequestOutcome P p) → k < q.steps
  runs_before k state runs p q =
      let r = runs.accepted in
      let a : Start P r.request.call.args r.graph runs.before runs.entered.names runs.args =
      record { planted = runs.entered.planted; values = runs.entered.values; passed = runs.entered.passed; last_first = runs.entered.last_first } in
      let b = start_as r p q.before q.entered.names q.args (start_of p q) in
      let out = outcome_as r p q.before q.args q.steps q.fate q.state q.outcome in
      let t = first_of out in
      let fits = r.spelled.1.spellable.fits in
      let pair = starts P facts r.request.call.args r.graph fits runs.before q.before runs.entered.names q.entered.names runs.args q.args a b r.request.method runs.first t.0 runs.begins t.1 in
      let size = one_size P facts r.request.call.args r.graph fits runs.before q.before runs.entered.names q.entered.names runs.args q.args a b in
      let heaps = ap cells (begins_heap P runs.before r.request.method runs.args runs.first runs.begins) ∙ size
      ∙ sym (ap cells (begins_heap P q.before r.request.method q.args t.0 t.1)) in
      call_less P (zip runs.entered.names q.entered.names) q.before r.request.method q.args runs.first t.0 state q.state k r.request.call.budget q.steps q.fate
      pair heaps runs.fits runs.made runs.no_end runs.within t.1 out

  one_steps : (n k : ℕ) (text other : List ℕ) → Replies P service version body n text → Replies P service version body k other → n ≡ k
  one_steps n k text other (refused a is) (refused b also) = refl
  one_steps n k text other (refused a is) (run p q e answer) = absurd (refused_accepted P service body one short a p)
  one_steps n k text other (run r o e answer) (refused b also) = absurd (refused_accepted P service body one short b r)
  one_steps n k text other (run r o e answer) (run p q d also) = e ∙ (one_outcome r p o q).0 ∙ sym d

  more_steps : (n k : ℕ) (text : List ℕ) → Replies P service version body n text → HasMore P service body k → k < n
  more_steps n k text (refused a is) more = absurd (refused_accepted P service body one short a more.1.accepted)
  more_steps n k text (run p q e answer) more = let lt = runs_before k more.0 more.1 p q in omega (arith, lt, e)

  pub one_length : HasOneLength P service version body
  one_length = record { one = one_steps; more = more_steps }
