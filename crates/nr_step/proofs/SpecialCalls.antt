-- invokespecial.
use Rattle.std.proofs.Common.{◌≡◌, ℕ, List, ◌∷◌, length, Option, Some, None, IsSomeAnd, refl, sym, subst, ap, ◌∙◌, Bool, true, false, not, ◌&&◌, ◌||◌, ◌==◌, cond, is_some, arith}
use Rattle.std.specs.Option.{option_and_then}
use Rattle.std.proofs.lemmas.Bool.{eqb-true}
use Rattle.std.specs.FinMap.{get}
use Rattle.nr_optable.specs.declared.table.Family.TheVariants.{F32}
use Rattle.nr_optable.specs.Rows.{all_rows}
use Rattle.nr_prog.specs.declared.body.instruction.Instr.{Instr}
use Rattle.nr_linked.specs.declared.program.built_in.BuiltIn.TheVariants.{AbstractMethodError, Out}
use Rattle.nr_linked.specs.declared.program.kind.Kind.{Kind}
use Rattle.nr_linked.specs.declared.program.tables.MethodInfo.{MethodInfo}
use Rattle.nr_linked.specs.declared.program.tables.ProgramTables.{ProgramTables}
use Rattle.nr_linked.specs.declared.program.tables.Resolved.{Resolved}
use Rattle.nr_linked.specs.declared.program.tables.Resolved.TheVariants as resolved
use Rattle.nr_linked.specs.BuiltIns.{built_in}
use Rattle.nr_linked.specs.Initialisers.{is_initialiser}
use Rattle.nr_linked.specs.Linked.{is_loaded}
use Rattle.nr_linked.specs.Programs.{method_at, super_of}
use Rattle.nr_linked.specs.Selection.{is_private, selected}
use Rattle.nr_linked.specs.TypingFacts.{BuiltInFacts, CallFacts, SiteFacts}
use Rattle.nr_model.specs.declared.value.Value.{Value}
use Rattle.nr_model.specs.Heaps.{Heap, Obj}
use Rattle.nr_model.specs.CallRules.{call, call_selected, on_receiver}
use Rattle.nr_model.specs.Rules.{invoke_rule}
use Rattle.nr_model.specs.Scripts.{Called, Drop, Ending, GoTo, GoesTo, Runs, Script, Within}
use Rattle.nr_model.specs.Throws.{not_null, onward, throw_new, with_found}
use Rattle.nr_step.specs.declared.flow.Flow.{Flow}
use Rattle.nr_step.specs.declared.flow.Told.{Told}
use Rattle.nr_step.specs.Flows.{Doing, ThrewNew, Went}
use Rattle.nr_step.specs.Instructions.{CanDo, IsRowOf, doing, site_of}
use Rattle.nr_step.specs.Windows.{view}
use Rattle.nr_step.proofs.Calling.{MethodFound, by_kind}
use Rattle.nr_step.proofs.DirectCalls.{call_absent, call_code, call_facts, call_init}
use Rattle.nr_step.proofs.Families.{AllOf, rule_by}
use Rattle.nr_step.proofs.Going.{went_thrown}

specials : AllOf (λ c. c == 183) F32
unfolding all_rows
specials = refl

special_is : (P : ProgramTables) (own : MethodInfo) (i : Instr) (found : Resolved) → IsRowOf 183 i.row → (n : Option ℕ) → doing P own i found n ≡ invoke_rule P own 183 found (onward n)
special_is P own i found r n = rule_by (λ c. c == 183) F32 specials P own i found 183 r refl n ∙ ap (λ c. invoke_rule P own c found (onward n)) r.code

-- whether just this method is called
abbrev pub calls_itself : ℕ → MethodInfo → Bool
calls_itself own i = is_initialiser i || is_private i.flags || i.«class» == own

abbrev pub by_itself : ProgramTables → ℕ → MethodInfo → ℕ → Option ℕ → Kind → Script
by_itself P own i m n kind = cond (calls_itself own i) (call P m (onward n)) (call_selected P (option_and_then (selected P m) (super_of P own)))

to_special : (P : ProgramTables) (own : MethodInfo) (found : Resolved) (n : Option ℕ) (w u : Within) (e : Ending) → Runs (invoke_rule P own 183 found (onward n)) w e u → MethodFound P found
to_special P own (resolved.Method m c) n w u e r = let x = go (method_at P m) r in record { method = m; named = c; is = refl; info = x.0; there = x.1 }
  where
    go : (o : Option MethodInfo) → Runs (with_found o (λ i. on_receiver P i (by_itself P own.«class» i m n))) w e u → (i : MethodInfo) × (o ≡ Some i)
    go None r = absurd r
    go (Some i) r = (i, refl)
to_special P own found n w u e r = absurd r

pub special_found : (P : ProgramTables) (own : MethodInfo) (i : Instr) (found : Resolved) (w : Within) (room : ℕ) → IsRowOf 183 i.row → CanDo P own i found w room → MethodFound P found
special_found P own i found w room r can = to_special P own found can.next w can.left can.ending (subst (λ sc. Runs sc w can.ending can.left) (special_is P own i found r can.next) can.runs)

pub special_at : (P : ProgramTables) (own : MethodInfo) (i : Instr) (found : Resolved) (m c d : ℕ) (info : MethodInfo) → IsRowOf 183 i.row → found ≡ resolved.Method m c → method_at P m ≡ Some info → d ≡ length info.params
    → (n : Option ℕ) → doing P own i found n ≡ not_null P d (by_kind d (by_itself P own.«class» info m n))
special_at P own i found m c d info r f q e = λ n.
    special_is P own i found r n ∙ ap (λ f. invoke_rule P own 183 f (onward n)) f ∙ ap (λ o. with_found o (λ i. on_receiver P i (by_itself P own.«class» i m n))) q
    ∙ ap (λ d. not_null P d (by_kind d (by_itself P own.«class» info m n))) (sym e)

pub with_itself : (P : ProgramTables) (own : ℕ) (i : MethodInfo) (m : ℕ) (n : Option ℕ) (kd : Kind) → calls_itself own i ≡ true → by_itself P own i m n kd ≡ call P m (onward n)
with_itself P own i m n kd t = ap (λ b. cond b (call P m (onward n)) (call_selected P (option_and_then (selected P m) (super_of P own)))) t

pub with_another : (P : ProgramTables) (own : ℕ) (i : MethodInfo) (m : ℕ) (n : Option ℕ) (kd : Kind) (s : Option ℕ) → calls_itself own i ≡ false → s ≡ option_and_then (selected P m) (super_of P own) → by_itself P own i m n kd ≡ call_selected P s
with_another P own i m n kd s t q = ap (λ b. cond b (call P m (onward n)) (call_selected P (option_and_then (selected P m) (super_of P own)))) t ∙ ap (call_selected P) (sym q)

-- the method isn't static, so it is none of nrmi/Out
pub not_out : (P : ProgramTables) (own m c : ℕ) (i : Instr) (found : Resolved) (n : Option ℕ) (info : MethodInfo) → IsRowOf 183 i.row → SiteFacts P own (site_of i found n) → found ≡ resolved.Method m c → method_at P m ≡ Some info → BuiltInFacts P info
    → (info.«class» == built_in P Out) ≡ false
not_out P own m c i found n info r site f q facts = go (info.«class» == built_in P Out) refl
  where
    called : CallFacts P own 183 c info
    called = call_facts 183 specials refl P own m c i found n info r site f q

    go : (b : Bool) → (info.«class» == built_in P Out) ≡ b → (info.«class» == built_in P Out) ≡ false
    go false e = e
    go true e = absurd (let s = (facts.out (eqb-true info.«class» (built_in P Out) e)).0 in cc (s, called.static))

-- ---- what is left of it is a call of just this method

-- two scripts that have the same runs
abbrev pub SameRuns : Doing → (Option ℕ → Script) → Within → Type 0
SameRuns S T w = (n : Option ℕ) (e : Ending) (u : Within) → (Runs (T n) w e u → Runs (S n) w e u) × (Runs (S n) w e u → Runs (T n) w e u)

pub itself_called : (P : ProgramTables) (S : Doing) (m : ℕ) (i : MethodInfo) (w : Within) → SameRuns S (λ n. call P m (onward n)) w → method_at P m ≡ Some i → is_some i.body ≡ true → (n : Option ℕ) → Runs (S n) w (Called m) w
itself_called P S m i w same q b n = (same n (Called m) w).0 (subst (λ sc. Runs sc w (Called m) w) (sym (call_code P m i (onward n) q b)) (refl, refl))

pub itself_dropped : (P : ProgramTables) (S : Doing) (m : ℕ) (i : MethodInfo) (h : Heap) (ls vs us : List Value) (v : Value) → SameRuns S (λ n. call P m (onward n)) (view h ls vs) → method_at P m ≡ Some i → is_some i.body ≡ false → (i.«class» == built_in P Out) ≡ false
    → (not (is_loaded P i.«class») && is_initialiser i) ≡ true → vs ≡ v ∷ us → (n : ℕ) → Runs (S (Some n)) (view h ls vs) (GoesTo n) (view h ls us)
itself_dropped P S m i h ls vs us v same q b o t is n =
    (same (Some n) (GoesTo n) (view h ls us)).0
    (subst (λ sc. Runs sc (view h ls vs) (GoesTo n) (view h ls us)) (sym (call_init P m i (GoTo n) q b o t))
    (subst (λ vs. Runs (Drop 0 (GoTo n)) (view h ls vs) (GoesTo n) (view h ls us)) (sym is) (omega arith, (refl, refl))))

pub itself_thrown : (flow : Flow) (P : ProgramTables) (S : Doing) (m : ℕ) (i : MethodInfo) (h j : Heap) (ls vs : List Value) (told : Told) → SameRuns S (λ n. call P m (onward n)) (view h ls vs) → method_at P m ≡ Some i → is_some i.body ≡ false → (i.«class» == built_in P Out) ≡ false
    → (not (is_loaded P i.«class») && is_initialiser i) ≡ false → ((w : Within) → w.heap ≡ h → ThrewNew flow (throw_new P AbstractMethodError) w told j) → Went flow P S (view h ls vs) told (view j ls vs)
itself_thrown flow P S m i h j ls vs told same q b o t x =
    went_thrown flow P S (throw_new P AbstractMethodError) (view h ls vs) (view h ls vs) told j refl refl
    (λ n e u r. (same n e u).0 (subst (λ sc. Runs sc (view h ls vs) e u) (sym (call_absent P m i (onward n) q b o t)) r))
    (λ n e u r. subst (λ sc. Runs sc (view h ls vs) e u) (call_absent P m i (onward n) q b o t) ((same n e u).1 r))
    (x (view h ls vs) refl)

-- the kind of what is there
pub kind_there : (h : Heap) (a : ℕ) → IsSomeAnd (get h a) (λ o. Unit {0}) → (kd : Kind) × IsSomeAnd (get h a) (λ o. o.kind ≡ kd)
kind_there h a s = go (get h a) s
  where
    go : (g : Option Obj) → IsSomeAnd g (λ o. Unit {0}) → (kd : Kind) × IsSomeAnd g (λ o. o.kind ≡ kd)
    go None s = absurd s
    go (Some o) s = (o.kind, refl)
