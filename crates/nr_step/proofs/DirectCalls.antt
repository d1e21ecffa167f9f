-- Calls of a method itself: invokestatic, and invokespecial of most methods.
use Rattle.std.proofs.Common.{◌≡◌, ℕ, List, Option, Some, None, IsSomeAnd, refl, sym, subst, ap, ◌∙◌, Bool, true, false, not, ◌&&◌, ◌||◌, ◌==◌, cond, is_some, IsTrue, T, arith}
use Rattle.std.specs.Prelude.{codes}
use Rattle.std.specs.List.{list_all}
use Rattle.std.specs.Str.{bytes_eq}
use Rattle.std.proofs.lemmas.Bool.{eqb-true}
use Rattle.std.proofs.Math.Facts.{yes_eqb}
use Rattle.nr_optable.specs.declared.table.Family.TheVariants.{F32}
use Rattle.nr_optable.specs.Rows.{all_rows}
use Rattle.nr_prog.specs.declared.body.instruction.Instr.{Instr}
use Rattle.nr_linked.specs.declared.program.built_in.BuiltIn.TheVariants.{AbstractMethodError, Out}
use Rattle.nr_linked.specs.declared.program.tables.MethodInfo.{MethodInfo}
use Rattle.nr_linked.specs.declared.program.tables.ProgramTables.{ProgramTables}
use Rattle.nr_linked.specs.declared.program.tables.Resolved.{Resolved}
use Rattle.nr_linked.specs.declared.program.tables.Resolved.TheVariants as resolved
use Rattle.nr_linked.specs.BuiltIns.{BuiltInMethod, built_in, built_in_class}
use Rattle.nr_linked.specs.Facts.{ProgramFacts}
use Rattle.nr_linked.specs.Initialisers.{is_initialiser}
use Rattle.nr_linked.specs.Linked.{is_loaded}
use Rattle.nr_linked.specs.Programs.{method_at}
use Rattle.nr_linked.specs.TypingFacts.{BuiltInFacts, CallFacts, SiteFacts}
use Rattle.nr_model.specs.declared.value.Value.{Value}
use Rattle.nr_model.specs.Heaps.{Heap, on_some}
use Rattle.nr_model.specs.CallRules.{built_in_rule, call, out_rule}
use Rattle.nr_model.specs.Rules.{invoke_rule}
use Rattle.nr_model.specs.Scripts.{Call, Called, Drop, Ending, Runs, Script, Within}
use Rattle.nr_model.specs.Throws.{onward, throw_new, with_found}
use Rattle.nr_step.specs.declared.flow.Flow.{Flow}
use Rattle.nr_step.specs.declared.flow.Told.{Told}
use Rattle.nr_step.specs.Flows.{CallsOut, Doing, ThrewNew, Went}
use Rattle.nr_step.specs.Instructions.{CanDo, IsRowOf, doing, site_of}
use Rattle.nr_step.specs.Windows.{view}
use Rattle.nr_step.proofs.Calling.{MethodFound}
use Rattle.nr_step.proofs.Families.{AllOf, family_by, rule_by}
use Rattle.nr_step.proofs.Going.{went_by, went_thrown}
use Rattle.nr_step.proofs.Rows.{each_of}

is_true : (b : Bool) → T b → b ≡ true
is_true true t = refl
is_true false t = absurd t

pub unequal : (m n : ℕ) → (m ≡ n → ⊥) → (m == n) ≡ false
unequal m n f = by (m == n) refl
  where
    by : (b : Bool) → (m == n) ≡ b → (m == n) ≡ false
    by false e = e
    by true e = absurd (f (eqb-true m n e))

-- ---- what is left of a call of a method without code

abbrev pub without_code : ProgramTables → MethodInfo → Script → Script
without_code P i k = on_some (built_in_rule P i k) (throw_new P AbstractMethodError) (λ rule. rule)

call_by : (P : ProgramTables) (m : ℕ) (i : MethodInfo) (k : Script) (b : Bool) → method_at P m ≡ Some i → is_some i.body ≡ b → call P m k ≡ cond b (Call m) (without_code P i k)
call_by P m i k b q t = ap (λ o. with_found o (λ i. cond (is_some i.body) (Call m) (without_code P i k))) q ∙ ap (λ b. cond b (Call m) (without_code P i k)) t

abbrev by_tests : ProgramTables → MethodInfo → Script → Bool → Bool → Script
by_tests P i k out init = on_some (cond out (out_rule P i k) (cond init (Some (Drop 0 k)) None)) (throw_new P AbstractMethodError) (λ rule. rule)

bodiless : (P : ProgramTables) (m : ℕ) (i : MethodInfo) (k : Script) (out init : Bool) → method_at P m ≡ Some i → is_some i.body ≡ false → (i.«class» == built_in P Out) ≡ out → (not (is_loaded P i.«class») && is_initialiser i) ≡ init
    → call P m k ≡ by_tests P i k out init
bodiless P m i k out init q b o t =
    call_by P m i k false q b ∙ ap (λ out. by_tests P i k out (not (is_loaded P i.«class») && is_initialiser i)) o ∙ ap (λ init. by_tests P i k out init) t

pub call_code : (P : ProgramTables) (m : ℕ) (i : MethodInfo) (k : Script) → method_at P m ≡ Some i → is_some i.body ≡ true → call P m k ≡ Call m
call_code P m i k q b = call_by P m i k true q b

pub call_init : (P : ProgramTables) (m : ℕ) (i : MethodInfo) (k : Script) → method_at P m ≡ Some i → is_some i.body ≡ false → (i.«class» == built_in P Out) ≡ false → (not (is_loaded P i.«class») && is_initialiser i) ≡ true → call P m k ≡ Drop 0 k
call_init P m i k q b o t = bodiless P m i k false true q b o t

pub call_absent : (P : ProgramTables) (m : ℕ) (i : MethodInfo) (k : Script) → method_at P m ≡ Some i → is_some i.body ≡ false → (i.«class» == built_in P Out) ≡ false → (not (is_loaded P i.«class») && is_initialiser i) ≡ false
    → call P m k ≡ throw_new P AbstractMethodError
call_absent P m i k q b o t = bodiless P m i k false false q b o t

call_out : (P : ProgramTables) (m : ℕ) (i : MethodInfo) (k r : Script) → method_at P m ≡ Some i → is_some i.body ≡ false → (i.«class» == built_in P Out) ≡ true → out_rule P i k ≡ Some r → call P m k ≡ r
call_out P m i k r q b o t = bodiless P m i k true (not (is_loaded P i.«class») && is_initialiser i) q b o refl ∙ ap (λ o. on_some o (throw_new P AbstractMethodError) (λ rule. rule)) t

-- ---- the methods of nrmi/Out

abbrev named : List ℕ → List ℕ → List ℕ → List ℕ → Bool
named name desc n d = bytes_eq n name && bytes_eq d desc

abbrev is_out : List ℕ → List ℕ → Bool
is_out n d = named (codes "print") (codes "([C)V") n d || (named (codes "print") (codes "(C)V") n d || (named (codes "print") (codes "(I)V") n d || (named (codes "print") (codes "(J)V") n d || named (codes "line") (codes "()V") n d)))

all_out : list_all (λ (m : BuiltInMethod). is_out m.name m.desc) (built_in_class Out).methods ≡ true
unfolding built_in_class
all_out = refl

one_of : (a b c d e : Bool) (p q r s t : Script) → (a || (b || (c || (d || e)))) ≡ true → (x : Script) × (cond a (Some p) (cond b (Some q) (cond c (Some r) (cond d (Some s) (cond e (Some t) None)))) ≡ Some x)
one_of true b c d e p q r s t h = (p, refl)
one_of false true c d e p q r s t h = (q, refl)
one_of false false true d e p q r s t h = (r, refl)
one_of false false false true e p q r s t h = (s, refl)
one_of false false false false true p q r s t h = (t, refl)
one_of false false false false false p q r s t h = absurd cc

out_there : (P : ProgramTables) (i : MethodInfo) (k : Script) → BuiltInFacts P i → i.«class» ≡ built_in P Out → (r : Script) × (out_rule P i k ≡ Some r)
out_there P i k facts o =
    let f = facts.out o in
    let m = f.2 in
    let t : is_out i.name i.desc ≡ true = ap (λ n. is_out n i.desc) f.4 ∙ ap (is_out m.name) f.5 ∙ each_of (λ (m : BuiltInMethod). is_out m.name m.desc) (built_in_class Out).methods all_out m f.3 in
    one_of (named (codes "print") (codes "([C)V") i.name i.desc) (named (codes "print") (codes "(C)V") i.name i.desc) (named (codes "print") (codes "(I)V") i.name i.desc) (named (codes "print") (codes "(J)V") i.name i.desc) (named (codes "line") (codes "()V") i.name i.desc) _ _ _ _ _ t

no_body : {X : Type 0} (o : Option X) → is_some o ≡ false → o ≡ None
no_body None e = refl
no_body (Some x) e = absurd cc

pub bodiless_facts : (P : ProgramTables) (m : ℕ) (i : MethodInfo) → ProgramFacts P → method_at P m ≡ Some i → is_some i.body ≡ false → BuiltInFacts P i
bodiless_facts P m i facts q b = facts.typing.built_ins m i q (no_body i.body b)

-- ---- invokestatic

statics : AllOf (λ c. c == 184) F32
unfolding all_rows
statics = refl

static_is : (P : ProgramTables) (own : MethodInfo) (i : Instr) (found : Resolved) → IsRowOf 184 i.row → (n : Option ℕ) → doing P own i found n ≡ invoke_rule P own 184 found (onward n)
static_is P own i found r n = rule_by (λ c. c == 184) F32 statics P own i found 184 r refl n ∙ ap (λ c. invoke_rule P own c found (onward n)) r.code

to_static : (P : ProgramTables) (own : MethodInfo) (found : Resolved) (k : Script) (w u : Within) (e : Ending) → Runs (invoke_rule P own 184 found k) w e u → MethodFound P found
to_static P own (resolved.Method m c) k w u e r = let x = go (method_at P m) r in record { method = m; named = c; is = refl; info = x.0; there = x.1 }
  where
    go : (o : Option MethodInfo) → Runs (with_found o (λ i. cond (is_some i.body) (Call m) (without_code P i k))) w e u → (i : MethodInfo) × (o ≡ Some i)
    go None r = absurd r
    go (Some i) r = (i, refl)
to_static P own found k w u e r = absurd r

pub static_found : (P : ProgramTables) (own : MethodInfo) (i : Instr) (found : Resolved) (w : Within) (room : ℕ) → IsRowOf 184 i.row → CanDo P own i found w room → MethodFound P found
static_found P own i found w room r can = to_static P own found (onward can.next) w can.left can.ending (subst (λ sc. Runs sc w can.ending can.left) (static_is P own i found r can.next) can.runs)

-- it is a call of the method found
pub static_at : (P : ProgramTables) (own : MethodInfo) (i : Instr) (found : Resolved) (m c : ℕ) → IsRowOf 184 i.row → found ≡ resolved.Method m c → (n : Option ℕ) → doing P own i found n ≡ call P m (onward n)
static_at P own i found m c r f n = static_is P own i found r n ∙ ap (λ f. invoke_rule P own 184 f (onward n)) f

pub call_facts : (code : ℕ) → AllOf (λ c. c == code) F32 → (code == code) ≡ true → (P : ProgramTables) (own m c : ℕ) (i : Instr) (found : Resolved) (n : Option ℕ) (info : MethodInfo) → IsRowOf code i.row → SiteFacts P own (site_of i found n) → found ≡ resolved.Method m c → method_at P m ≡ Some info
    → CallFacts P own code c info
call_facts code all self P own m c i found n info r site f q =
    subst (λ code. CallFacts P own code c info) r.code (site.call (family_by (λ c. c == code) F32 all code i.row r self) m c info f q)

-- a method that it calls is no initialiser
pub no_init : (P : ProgramTables) (own m c : ℕ) (i : Instr) (found : Resolved) (n : Option ℕ) (info : MethodInfo) → IsRowOf 184 i.row → SiteFacts P own (site_of i found n) → found ≡ resolved.Method m c → method_at P m ≡ Some info
    → (not (is_loaded P info.«class») && is_initialiser info) ≡ false
no_init P own m c i found n info r site f q = go (not (is_loaded P info.«class»)) (is_initialiser info) (λ t. not_183 (facts.initialiser t).0)
  where
    facts : CallFacts P own 184 c info
    facts = call_facts 184 statics refl P own m c i found n info r site f q

    not_183 : ◌≡◌ {A = ℕ} 184 183 → ⊥
    not_183 e = absurd (omega (arith, e))

    go : (a b : Bool) → (IsTrue b → ⊥) → (a && b) ≡ false
    go a true x = absurd (x refl)
    go true false x = refl
    go false false x = refl

pub static_called : (P : ProgramTables) (S : Doing) (m : ℕ) (i : MethodInfo) (w : Within) → ((n : Option ℕ) → S n ≡ call P m (onward n)) → method_at P m ≡ Some i → is_some i.body ≡ true → (n : Option ℕ) → Runs (S n) w (Called m) w
static_called P S m i w same q b n = subst (λ sc. Runs sc w (Called m) w) (sym (same n ∙ call_code P m i (onward n) q b)) (refl, refl)

pub static_prints : (P : ProgramTables) (S : Doing) (m : ℕ) (i : MethodInfo) → ((n : Option ℕ) → S n ≡ call P m (onward n)) → method_at P m ≡ Some i → is_some i.body ≡ false → i.«class» ≡ built_in P Out → BuiltInFacts P i → CallsOut P S m
static_prints P S m i same q b o facts =
    subst (λ s. IsSomeAnd s (λ i. (n : Option ℕ) → out_rule P i (onward n) ≡ Some (S n))) (sym q)
    (λ n. let x = out_there P i (onward n) facts o in x.1 ∙ ap Some (sym (same n ∙ call_out P m i (onward n) x.0 q b (is_true (i.«class» == built_in P Out) (yes_eqb o)) x.1)))

pub absent_thrown : (flow : Flow) (P : ProgramTables) (S : Doing) (m : ℕ) (i : MethodInfo) (h j : Heap) (ls vs : List Value) (told : Told) → ((n : Option ℕ) → S n ≡ call P m (onward n)) → method_at P m ≡ Some i → is_some i.body ≡ false → (i.«class» == built_in P Out) ≡ false
    → (not (is_loaded P i.«class») && is_initialiser i) ≡ false → ((w : Within) → w.heap ≡ h → ThrewNew flow (throw_new P AbstractMethodError) w told j) → Went flow P S (view h ls vs) told (view j ls vs)
absent_thrown flow P S m i h j ls vs told same q b o t x =
    went_by flow P S (λ n. throw_new P AbstractMethodError) (view h ls vs) told (view j ls vs) (λ n. same n ∙ call_absent P m i (onward n) q b o t)
    (went_thrown flow P (λ n. throw_new P AbstractMethodError) (throw_new P AbstractMethodError) (view h ls vs) (view h ls vs) told j refl refl (λ n e u r. r) (λ n e u r. r) (x (view h ls vs) refl))
