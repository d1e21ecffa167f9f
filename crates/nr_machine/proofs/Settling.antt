-- An instruction that leaves its frame: the step that follows.
use Rattle.std.proofs.Common.{◌≡◌, ℕ, zero, suc, ◌+◌, ◌<◌, ◌≤◌, ◌⊎◌, inl, inr, List, [], ◌∷◌, ◌++◌, length, refl, sym, ap, ap₂, subst, subst₂, ◌∙◌, Bool, true, false, arith, nat_lt, cond}
use Rattle.std.specs.Prelude.{Option, Some, None, IsSomeAnd}
use Rattle.std.specs.FinMap.{get}
use Rattle.std.specs.Option.{option_map}
use Rattle.std.proofs.lemmas.Bool.{lt-ltb, le-ltb}
use Rattle.std.proofs.lemmas.List.{append-nil}
use Rattle.nr_linked.specs.declared.program.kind.Kind.{Kind}
use Rattle.nr_linked.specs.declared.program.tables.MethodInfo.{MethodInfo}
use Rattle.nr_linked.specs.declared.program.tables.ProgramTables.{ProgramTables}
use Rattle.nr_linked.specs.Facts.{ProgramFacts}
use Rattle.nr_linked.specs.Programs.{method_at}
use Rattle.nr_linked.specs.Sites.{Site, site_at}
use Rattle.nr_model.specs.declared.value.Value.{Value}
use Rattle.nr_model.specs.declared.value.Value.TheVariants.{Ref}
use Rattle.nr_model.specs.Asks.{Asks}
use Rattle.nr_model.specs.Heaps.{Heap, Obj, cells}
use Rattle.nr_model.specs.Outcomes.{HeapFull, OutputTooLong, TooDeep, is_too_deep, max_cells, max_printed, passed}
use Rattle.nr_model.specs.Rules.{script}
use Rattle.nr_model.specs.Scripts.{Called, Ending, Gave, GoesTo, OnTop, Runs, Threw, Within}
use Rattle.nr_model.specs.States.{Control, Frame, Running, State}
use Rattle.nr_model.specs.Steps.{Step, after, entered, given, unwound, within}
use Rattle.nr_model.proofs.Limits.{passes_none}
use Rattle.nr_step.specs.declared.flow.Flow.{Flow}
use Rattle.nr_step.specs.declared.flow.Flow.TheVariants as flows
use Rattle.nr_step.specs.declared.flow.Told.{Told}
use Rattle.nr_step.specs.Flows.{Doing, HasMoreCells, TakesCells, Tells, Went}
use Rattle.nr_step.specs.Instructions.{doing}
use Rattle.nr_machine.specs.CallStacks.{CanEnter, CanGoOn, OnRunning}
use Rattle.nr_machine.specs.Settles.{CouldStep, GivesBack, OwnStep}
use Rattle.nr_machine.specs.Turned.{TakesMemory}
use Rattle.nr_typed.specs.Standing.{ControlStands}
use Rattle.nr_machine.specs.Stays.{FrameWent, FramesStand, Leaves, running}
use Rattle.nr_machine.proofs.AskedScripts.{asks_calls}
use Rattle.nr_machine.proofs.Leading.{LeadsOn, leads_on, some_run, step_by}
use Rattle.nr_machine.proofs.Standing.{can_enter, goes_on}
use Rattle.nr_machine.proofs.Starting.{some_and}

some_eq : {X : Type 0} {a b : X} → Some a ≡ Some b → a ≡ b
some_eq e = cc

-- the frame's instruction, and how it went
pub record At (flow : Flow) (P : ProgramTables) (h : Heap) (told : Told) (k : Heap) (f : Frame) : Type 0 where
  pub own : MethodInfo
  pub site : Site
  pub is_method : method_at P f.method ≡ Some own
  pub is_site : site_at own f.offset ≡ Some site
  pub went : Went flow P (doing P own site.instr site.resolved) (within h f) told (within k f)

pub at_frame : (flow : Flow) (P : ProgramTables) (h : Heap) (told : Told) (k : Heap) (f : Frame) → FrameWent flow P h told k f → At flow P h told k f
at_frame flow P h told k f w =
    let m = some_and (method_at P f.method) (λ own. IsSomeAnd (site_at own f.offset) (λ site. Went flow P (doing P own site.instr site.resolved) (within h f) told (within k f))) w in
    let s = some_and (site_at m.0 f.offset) (λ site. Went flow P (doing P m.0 site.instr site.resolved) (within h f) told (within k f)) m.2 in
    record { own = m.0; site = s.0; is_method = m.1; is_site = s.1; went = s.2 }

module _ (P : ProgramTables) (facts : ProgramFacts P) (h : Heap) (f : Frame) (below : List Frame) (stand : FramesStand P h (f ∷ below)) (own : MethodInfo) (site : Site)
    (is_m : method_at P f.method ≡ Some own) (is_s : site_at own f.offset ≡ Some site) where
  leads : (e : Ending) (u : Within) → Runs (script P own site) (within h f) e u → LeadsOn P stand.0.frames stand.1 f below e u
  leads e u r = leads_on P facts.typing stand.0 stand.1 h f below stand.2 own site is_m is_s e u r

  can_go : (e : Ending) (u : Within) → Runs (script P own site) (within h f) e u → (c : Control) → after P e u f below ≡ Some c → CanGoOn P c
  can_go e u r c a =
      let l = leads e u r in
      let same : l.control ≡ c = some_eq (sym l.is_after ∙ a) in
      goes_on P stand.0.frames u.heap stand.1 c (subst (ControlStands P stand.0.frames stand.1 u.heap) same l.stands)

  -- it doesn't ask where it doesn't call
  no_ask : (e : Ending) (u : Within) → Runs (script P own site) (within h f) e u → ((m : ℕ) → e ≡ Called m → ⊥) → (service : Option ℕ) (printed : List ℕ) → Asks P service (running h (f ∷ below) printed) → ⊥
  no_ask e u r never service printed a = never a.method (asks_calls P f below own site is_m is_s service h printed a e u (within h f) r).0

  -- the step is made
  made_so : (e : Ending) (u : Within) → Runs (script P own site) (within h f) e u → (c : Control) → after P e u f below ≡ Some c → u.printed ≡ [] → (k : Heap) → u.heap ≡ k → cells k ≤ max_cells → is_too_deep P c ≡ false
      → (service : Option ℕ) (printed : List ℕ) → length printed ≤ max_printed → (Asks P service (running h (f ∷ below) printed) → ⊥)
      → OwnStep P service (running h (f ∷ below) printed) (record { heap = k; control = c; printed = printed })
  made_so e u r c a p k q few deep service printed short own_step = record {
    own = own_step;
    step = subst₂ (λ k bs. Step P (running h (f ∷ below) printed) (record { heap = k; control = c; printed = bs })) q (ap (λ bs. printed ++ bs) p ∙ append-nil printed) (step_by P f below own site is_m is_s h printed e u c r a);
    limits = passes_none P (record { heap = k; control = c; printed = printed }) (record { size = few; depth = deep; output = short });
  }

  -- it could be made
  could : (Q : State → Type 0) (service : Option ℕ) (printed : List ℕ) → (Asks P service (running h (f ∷ below) printed) → ⊥)
      → ((e : Ending) (u : Within) (c : Control) → Runs (script P own site) (within h f) e u → after P e u f below ≡ Some c → Q (record { heap = u.heap; control = c; printed = printed ++ u.printed }))
      → CouldStep P service (running h (f ∷ below) printed) Q
  could Q service printed own_step so =
      let r = some_run P facts.typing stand.0 stand.1 h f below stand.2 own site is_m is_s in
      let l = leads r.0 r.1 r.2 in
      record {
        own = own_step;
        next = record { heap = r.1.heap; control = l.control; printed = printed ++ r.1.printed };
        step = step_by P f below own site is_m is_s h printed r.0 r.1 l.control r.2 l.is_after;
        so = so r.0 r.1 l.control r.2 l.is_after;
      }

  -- where it asks, a run leaves all as it is
  asks_stays : (service : Option ℕ) (printed : List ℕ) → Asks P service (running h (f ∷ below) printed) → (e : Ending) × (u : Within) × Runs (script P own site) (within h f) e u × (u ≡ within h f)
  asks_stays service printed a =
      let r = some_run P facts.typing stand.0 stand.1 h f below stand.2 own site is_m is_s in
      (r.0, r.1, r.2, (asks_calls P f below own site is_m is_s service h printed a r.0 r.1 (within h f) r.2).1)

same_heap : (f : Frame) (h k : Heap) → within k f ≡ within h f → h ≡ k
same_heap f h k e = sym (ap (λ (w : Within). w.heap) e)

not_called : (a m : ℕ) → Threw a ≡ Called m → ⊥
not_called a m e = cc

gave_not_called : (v : Option Value) (m : ℕ) → Gave v ≡ Called m → ⊥
gave_not_called v m e = cc

-- ---- returns

module _ (P : ProgramTables) (facts : ProgramFacts P) (h k : Heap) where
  pub given_can : (v : Option Value) (fs : List Frame) → FramesStand P h fs → GivesBack P h k v fs → OnRunning fs (λ f below. (c : Control) × (given P v below ≡ Some c) × CanGoOn P c)
  given_can v [] stand q = q
  given_can v (f ∷ below) stand q =
      let l = leads P facts h f below stand q.0 q.1 q.3 q.4 (Gave v) q.2 q.5 in
      (l.control, l.is_after, can_go P facts h f below stand q.0 q.1 q.3 q.4 (Gave v) q.2 q.5 l.control l.is_after)

  pub given_made : (v : Option Value) (fs : List Frame) → FramesStand P h fs → GivesBack P h k v fs → (c : Control) → OnRunning fs (λ f below. given P v below ≡ Some c) → cells k ≤ max_cells → is_too_deep P c ≡ false
      → (service : Option ℕ) (printed : List ℕ) → length printed ≤ max_printed → OwnStep P service (running h fs printed) (record { heap = k; control = c; printed = printed })
  given_made v [] stand q c g few deep service printed short = absurd q
  given_made v (f ∷ below) stand q c g few deep service printed short =
      made_so P facts h f below stand q.0 q.1 q.3 q.4 (Gave v) q.2 q.5 c g q.6 k q.7 few deep service printed short
      (no_ask P facts h f below stand q.0 q.1 q.3 q.4 (Gave v) q.2 q.5 (gave_not_called v) service printed)

-- ---- limits

passed_full : (P : ProgramTables) (s : State) → max_cells < cells s.heap → passed P s ≡ Some HeapFull
passed_full P s l = ap (λ b. cond b (Some HeapFull) (cond (is_too_deep P s.control) (Some TooDeep) (cond (nat_lt max_printed (length s.printed)) (Some OutputTooLong) None))) (lt-ltb max_cells (cells s.heap) l)

passed_deep : (P : ProgramTables) (s : State) → cells s.heap ≤ max_cells → is_too_deep P s.control ≡ true → passed P s ≡ Some TooDeep
passed_deep P s l d =
    ap (λ b. cond b (Some HeapFull) (cond (is_too_deep P s.control) (Some TooDeep) (cond (nat_lt max_printed (length s.printed)) (Some OutputTooLong) None))) (le-ltb max_cells (cells s.heap) l)
    ∙ ap (λ b. cond b (Some TooDeep) (cond (nat_lt max_printed (length s.printed)) (Some OutputTooLong) None)) d

told_more : (told n : ℕ) → max_cells < told → Tells told n → max_cells < n
told_more told n l (inl e) = omega (arith, l, e)
told_more told n l (inr e) = omega (arith, l, e.1)

-- the clause of the flow where memory runs out
takes : (S : Doing) (w : Within) → TakesCells S w → (n : Option ℕ) (e : Ending) (u : Within) → Runs (S n) w e u → HasMoreCells w.heap u.heap
takes S w x n e u r = x n e u r

module _ (P : ProgramTables) (facts : ProgramFacts P) (h k : Heap) (told : Told) where
  -- ---- memory ran out, or the heap is full

  pub no_memory : (fs : List Frame) → FramesStand P h fs → Leaves P fs flows.NoMemory told h k → (service : Option ℕ) (printed : List ℕ)
      → (h ≡ k) × CouldStep P service (running h fs printed) (TakesMemory (running h fs printed))
  no_memory [] stand l service printed = absurd l.went
  no_memory (f ∷ below) stand l service printed =
      let at = at_frame flows.NoMemory P h told k f l.went in
      let more = λ (e : Ending) (u : Within) (r : Runs (script P at.own at.site) (within h f) e u). takes (doing P at.own at.site.instr at.site.resolved) (within h f) at.went.1 at.site.next e u r in
      let own : Asks P service (running h (f ∷ below) printed) → ⊥ = λ a.
      let z = asks_stays P facts h f below stand at.own at.site at.is_method at.is_site service printed a in
      let m = more z.0 z.1 z.2 in
      absurd (omega (arith, m.0, ap (λ (w : Within). cells w.heap) z.3)) in
      (same_heap f h k at.went.0, could P facts h f below stand at.own at.site at.is_method at.is_site (TakesMemory (running h (f ∷ below) printed)) service printed own (λ e u c r a. inl (more e u r)))

  pub full : (fs : List Frame) → FramesStand P h fs → Leaves P fs flows.Full told h k → (service : Option ℕ) (printed : List ℕ)
      → (h ≡ k) × CouldStep P service (running h fs printed) (λ t. passed P t ≡ Some HeapFull)
  full [] stand l service printed = absurd l.went
  full (f ∷ below) stand l service printed =
      let at = at_frame flows.Full P h told k f l.went in
      let more = λ (e : Ending) (u : Within) (r : Runs (script P at.own at.site) (within h f) e u). told_more told.cells (cells u.heap) at.went.1.0 (at.went.1.1 at.site.next e u r) in
      let own : Asks P service (running h (f ∷ below) printed) → ⊥ = λ a.
      let z = asks_stays P facts h f below stand at.own at.site at.is_method at.is_site service printed a in
      absurd (omega (arith, l.few, more z.0 z.1 z.2, ap (λ (w : Within). cells w.heap) z.3)) in
      (same_heap f h k at.went.0, could P facts h f below stand at.own at.site at.is_method at.is_site (λ t. passed P t ≡ Some HeapFull) service printed own (λ e u c r a. passed_full P (record { heap = u.heap; control = c; printed = printed ++ u.printed }) (more e u r)))

  -- ---- throws

  thrown_object : (o : Option Obj) (f : Obj → Control) (c : Control) → option_map f o ≡ Some c → (x : Obj) × (o ≡ Some x) × (f x ≡ c)
  thrown_object None f c e = absurd cc
  thrown_object (Some x) f c e = (x, refl, cc)

  of_kind : (o : Option Obj) (x : Obj) (kind : Kind) → o ≡ Some x → IsSomeAnd o (λ o. o.kind ≡ kind) → x.kind ≡ kind
  of_kind o x kind e q = subst (λ o. IsSomeAnd o (λ o. o.kind ≡ kind)) e q

  -- the object that it throws
  throws : (fs : List Frame) → FramesStand P h fs → Leaves P fs flows.Throw told h k
      → (x : Obj) × (get k told.number ≡ Some x) × CanGoOn P (unwound P x.kind (Ref told.number) fs)
      × ((c : Control) → unwound P x.kind (Ref told.number) fs ≡ c → cells k ≤ max_cells → is_too_deep P c ≡ false → (service : Option ℕ) (printed : List ℕ) → length printed ≤ max_printed
      → OwnStep P service (running h fs printed) (record { heap = k; control = c; printed = printed }))
  throws [] stand l = absurd l.went
  throws (f ∷ below) stand l =
      let at = at_frame flows.Throw P h told k f l.went in
      let v = at.went.1 at.site.next in
      let on = leads P facts h f below stand at.own at.site at.is_method at.is_site (Threw told.number) v.0 v.1 in
      let x = thrown_object (get v.0.heap told.number) (λ o. unwound P o.kind (Ref told.number) (f ∷ below)) on.control on.is_after in (
        x.0,
        ap (λ k. get k told.number) (sym v.2) ∙ x.1,
        can_go P facts h f below stand at.own at.site at.is_method at.is_site (Threw told.number) v.0 v.1 (unwound P x.0.kind (Ref told.number) (f ∷ below)) (on.is_after ∙ ap Some (sym x.2)),
        λ c e few deep service printed short. made_so P facts h f below stand at.own at.site at.is_method at.is_site (Threw told.number) v.0 v.1 c (on.is_after ∙ ap Some (sym x.2 ∙ e)) v.3 k v.2 few deep service printed short
            (no_ask P facts h f below stand at.own at.site at.is_method at.is_site (Threw told.number) v.0 v.1 (not_called told.number) service printed),
      )

  pub throw_there : (fs : List Frame) → FramesStand P h fs → Leaves P fs flows.Throw told h k → IsSomeAnd (get k told.number) (λ o. Unit {0})
  throw_there fs stand l = let x = throws fs stand l in subst (λ o. IsSomeAnd o (λ o. Unit {0})) (sym x.1) tt

  pub throw_can : (fs : List Frame) → FramesStand P h fs → Leaves P fs flows.Throw told h k → (kind : Kind) → IsSomeAnd (get k told.number) (λ o. o.kind ≡ kind) → CanGoOn P (unwound P kind (Ref told.number) fs)
  throw_can fs stand l kind q = let x = throws fs stand l in subst (λ kind. CanGoOn P (unwound P kind (Ref told.number) fs)) (of_kind (get k told.number) x.0 kind x.1 q) x.2

  pub throw_made : (fs : List Frame) → FramesStand P h fs → Leaves P fs flows.Throw told h k → (kind : Kind) → IsSomeAnd (get k told.number) (λ o. o.kind ≡ kind) → (c : Control) → unwound P kind (Ref told.number) fs ≡ c
      → cells k ≤ max_cells → is_too_deep P c ≡ false → (service : Option ℕ) (printed : List ℕ) → length printed ≤ max_printed
      → OwnStep P service (running h fs printed) (record { heap = k; control = c; printed = printed })
  throw_made fs stand l kind q c e = let x = throws fs stand l in x.3 c (ap (λ kind. unwound P kind (Ref told.number) fs) (of_kind (get k told.number) x.0 kind x.1 q) ∙ e)

  -- ---- returns

  pub returns_nothing : (fs : List Frame) → Leaves P fs flows.Return told h k → GivesBack P h k None fs
  returns_nothing [] l = absurd l.went
  returns_nothing (f ∷ below) l =
      let at = at_frame flows.Return P h told k f l.went in
      (at.own, at.site, within h f, at.is_method, at.is_site, at.went.1 at.site.next, refl, same_heap f h k at.went.0)

  top_gives : (Q : Value → List Value → Type 0) (vs us : List Value) (v : Value) → vs ≡ v ∷ us → OnTop vs Q → Q v us
  top_gives Q vs us v e q = subst (λ vs. OnTop vs Q) e q

  pub returns_top : (fs : List Frame) → Leaves P fs flows.ReturnTop told h k → (v : Value) → OnRunning fs (λ f below. (us : List Value) × (f.operands ≡ v ∷ us)) → GivesBack P h k (Some v) fs
  returns_top [] l v q = absurd q
  returns_top (f ∷ below) l v q =
      let at = at_frame flows.ReturnTop P h told k f l.went in
      let r = top_gives (λ v us. (n : Option ℕ) → Runs (doing P at.own at.site.instr at.site.resolved n) (within h f) (Gave (Some v)) (record (within h f) { operands = us })) f.operands q.0 v q.1 at.went.1 in
      (at.own, at.site, record (within h f) { operands = q.0 }, at.is_method, at.is_site, r at.site.next, refl, same_heap f h k at.went.0)

  some_there : (Q : Value → List Value → Type 0) (vs : List Value) → OnTop vs Q → 1 ≤ length vs
  some_there Q [] q = absurd q
  some_there Q (v ∷ vs) q = omega arith

  pub some_top : (fs : List Frame) → Leaves P fs flows.ReturnTop told h k → OnRunning fs (λ f below. 1 ≤ length f.operands)
  some_top [] l = absurd l.went
  some_top (f ∷ below) l =
      let at = at_frame flows.ReturnTop P h told k f l.went in some_there (λ v us. (n : Option ℕ) → Runs (doing P at.own at.site.instr at.site.resolved n) (within h f) (Gave (Some v)) (record (within h f) { operands = us })) f.operands at.went.1

  -- ---- calls

  calls : (fs : List Frame) → Leaves P fs flows.Invoke told h k → OnRunning fs (λ f below. (own : MethodInfo) × (site : Site) × (method_at P f.method ≡ Some own) × (site_at own f.offset ≡ Some site) × Runs (script P own site) (within h f) (Called told.number) (within h f) × (h ≡ k))
  calls [] l = absurd l.went
  calls (f ∷ below) l =
      let at = at_frame flows.Invoke P h told k f l.went in
      (at.own, at.site, at.is_method, at.is_site, at.went.1 at.site.next, same_heap f h k at.went.0)

  pub call_stays : (fs : List Frame) → Leaves P fs flows.Invoke told h k → h ≡ k
  call_stays [] l = absurd l.went
  call_stays (f ∷ below) l = (calls (f ∷ below) l).5

  pub call_can : (fs : List Frame) → FramesStand P h fs → Leaves P fs flows.Invoke told h k → OnRunning fs (λ f below. CanEnter P told.number f)
  call_can [] stand l = l.went
  call_can (f ∷ below) stand l =
      let q = calls (f ∷ below) l in
      let on = leads P facts h f below stand q.0 q.1 q.2 q.3 (Called told.number) (within h f) q.4 in
      can_enter P stand.0.frames h stand.1 told.number f below on.control on.stands on.is_after

  pub call_made : (fs : List Frame) → FramesStand P h fs → Leaves P fs flows.Invoke told h k → (c : Control) → OnRunning fs (λ f below. entered P told.number f below ≡ Some c) → is_too_deep P c ≡ false
      → (service : Option ℕ) (printed : List ℕ) → length printed ≤ max_printed → (Asks P service (running h fs printed) → ⊥) → OwnStep P service (running h fs printed) (record { heap = k; control = c; printed = printed })
  call_made [] stand l c g deep service printed short own = absurd g
  call_made (f ∷ below) stand l c g deep service printed short own =
      let q = calls (f ∷ below) l in
      made_so P facts h f below stand q.0 q.1 q.2 q.3 (Called told.number) (within h f) q.4 c g refl k q.5 (subst (λ h. cells h ≤ max_cells) q.5 l.few) deep service printed short own

  pub call_deep : (fs : List Frame) → FramesStand P h fs → Leaves P fs flows.Invoke told h k → OnRunning fs (λ f below. (c : Control) → entered P told.number f below ≡ Some c → is_too_deep P c ≡ true)
      → (service : Option ℕ) (printed : List ℕ) → (Asks P service (running h fs printed) → ⊥) → CouldStep P service (running h fs printed) (λ t. passed P t ≡ Some TooDeep)
  call_deep [] stand l g service printed own = absurd g
  call_deep (f ∷ below) stand l g service printed own =
      let q = calls (f ∷ below) l in
      let on = leads P facts h f below stand q.0 q.1 q.2 q.3 (Called told.number) (within h f) q.4 in
      let t : State = record { heap = h; control = on.control; printed = printed ++ [] } in
      record {
        own = own;
        next = t;
        step = step_by P f below q.0 q.1 q.2 q.3 h printed (Called told.number) (within h f) on.control q.4 on.is_after;
        so = passed_deep P t l.few (g on.control on.is_after);
      }
