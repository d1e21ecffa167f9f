-- Calls of methods that are selected by the receiver's class.
use Rattle.std.proofs.Common.{◌≡◌, ℕ, List, length, Option, Some, None, IsSomeAnd, refl, sym, subst, ap, ◌∙◌, true, false, ◌==◌, cond, slice_get}
use Rattle.std.specs.FinMap.{get}
use Rattle.nr_optable.specs.declared.table.Family.TheVariants.{F32}
use Rattle.nr_optable.specs.Rows.{all_rows}
use Rattle.nr_prog.specs.declared.body.instruction.Instr.{Instr}
use Rattle.nr_linked.specs.declared.program.built_in.BuiltIn.TheVariants.{IncompatibleClassChangeError, NullPointerException}
use Rattle.nr_linked.specs.declared.program.built_in.BuiltIn.{BuiltIn}
use Rattle.nr_linked.specs.declared.program.kind.Kind.{Kind}
use Rattle.nr_linked.specs.declared.program.tables.MethodInfo.{MethodInfo}
use Rattle.nr_linked.specs.declared.program.tables.ProgramTables.{ProgramTables}
use Rattle.nr_linked.specs.declared.program.tables.Resolved.{Resolved}
use Rattle.nr_linked.specs.declared.program.tables.Resolved.TheVariants as resolved
use Rattle.nr_linked.specs.Kinds.{class_kind}
use Rattle.nr_linked.specs.Programs.{method_at}
use Rattle.nr_linked.specs.Subtypes.{is_sub}
use Rattle.nr_model.specs.declared.value.Value.{Value}
use Rattle.nr_model.specs.Heaps.{Heap, Obj}
use Rattle.nr_model.specs.CallRules.{call_selected, on_receiver, selected_for}
use Rattle.nr_model.specs.Rules.{invoke_rule}
use Rattle.nr_model.specs.Scripts.{AskKind, Call, Called, Ending, OnObject, Runs, Script, Within}
use Rattle.nr_model.specs.Throws.{not_null, onward, throw_new, with_found}
use Rattle.nr_step.specs.declared.flow.Flow.{Flow}
use Rattle.nr_step.specs.declared.flow.Told.{Told}
use Rattle.nr_step.specs.Flows.{Doing, ThrewNew, Went}
use Rattle.nr_step.specs.Instructions.{CanDo, IsRowOf, doing}
use Rattle.nr_step.specs.Windows.{ReferenceAt, reference_to, view}
use Rattle.nr_step.proofs.ArrayRules.{name_from, name_to, null_from, null_to}
use Rattle.nr_step.proofs.Families.{AllOf, rule_by}
use Rattle.nr_step.proofs.Going.{went_by, went_thrown}
use Rattle.nr_step.proofs.Objects.{asks_null, some_map}

-- ---- by the kind of the object at a depth

abbrev pub by_kind : ℕ → (Kind → Script) → Script
by_kind d k = AskKind d (λ kind n. k kind)

kind_to : (d a : ℕ) (kd : Kind) (k : Kind → Script) (h : Heap) (ls vs : List Value) (e : Ending) (u : Within) → slice_get vs d ≡ Some (reference_to (Some a)) → IsSomeAnd (get h a) (λ o. o.kind ≡ kd)
    → Runs (k kd) (view h ls vs) e u → Runs (by_kind d k) (view h ls vs) e u
kind_to d a kd k h ls vs e u top is r =
    subst (λ s. IsSomeAnd s (λ v. OnObject h v (λ a o. Runs (k o.kind) (view h ls vs) e u))) (sym top)
    (some_map (get h a) (λ o. o.kind ≡ kd) (λ o. Runs (k o.kind) (view h ls vs) e u) is (λ o q. subst (λ kd. Runs (k kd) (view h ls vs) e u) (sym q) r))

kind_from : (d a : ℕ) (kd : Kind) (k : Kind → Script) (h : Heap) (ls vs : List Value) (e : Ending) (u : Within) → slice_get vs d ≡ Some (reference_to (Some a)) → IsSomeAnd (get h a) (λ o. o.kind ≡ kd)
    → Runs (by_kind d k) (view h ls vs) e u → Runs (k kd) (view h ls vs) e u
kind_from d a kd k h ls vs e u top is r =
    go (get h a) is (subst (λ s. IsSomeAnd s (λ v. OnObject h v (λ a o. Runs (k o.kind) (view h ls vs) e u))) top r)
  where
    go : (g : Option Obj) → IsSomeAnd g (λ o. o.kind ≡ kd) → IsSomeAnd g (λ o. Runs (k o.kind) (view h ls vs) e u) → Runs (k kd) (view h ls vs) e u
    go None is r = absurd r
    go (Some o) is r = subst (λ kd. Runs (k kd) (view h ls vs) e u) is r

-- ---- invokevirtual

calls : AllOf (λ c. c == 182) F32
unfolding all_rows
calls = refl

pub record MethodFound (P : ProgramTables) (found : Resolved) : Type 0 where
  pub method : ℕ
  pub named : ℕ
  pub is : found ≡ resolved.Method method named
  pub info : MethodInfo
  pub there : method_at P method ≡ Some info

virtual_is : (P : ProgramTables) (own : MethodInfo) (i : Instr) (found : Resolved) → IsRowOf 182 i.row → (n : Option ℕ) → doing P own i found n ≡ invoke_rule P own 182 found (onward n)
virtual_is P own i found r n = rule_by (λ c. c == 182) F32 calls P own i found 182 r refl n ∙ ap (λ c. invoke_rule P own c found (onward n)) r.code

to_method : (P : ProgramTables) (own : MethodInfo) (found : Resolved) (k : Script) (w u : Within) (e : Ending) → Runs (invoke_rule P own 182 found k) w e u → MethodFound P found
to_method P own (resolved.Method m c) k w u e r = let x = go (method_at P m) r in record { method = m; named = c; is = refl; info = x.0; there = x.1 }
  where
    go : (o : Option MethodInfo) → Runs (with_found o (λ i. on_receiver P i (λ kind. call_selected P (selected_for P m kind)))) w e u → (i : MethodInfo) × (o ≡ Some i)
    go None r = absurd r
    go (Some i) r = (i, refl)
to_method P own found k w u e r = absurd r

pub method_found : (P : ProgramTables) (own : MethodInfo) (i : Instr) (found : Resolved) (w : Within) (room : ℕ) → IsRowOf 182 i.row → CanDo P own i found w room → MethodFound P found
method_found P own i found w room r can = to_method P own found (onward can.next) w can.left can.ending (subst (λ sc. Runs sc w can.ending can.left) (virtual_is P own i found r can.next) can.runs)

abbrev pub by_selection : ProgramTables → ℕ → Kind → Script
by_selection P m kind = call_selected P (selected_for P m kind)

virtual_rule : (P : ProgramTables) (own : MethodInfo) (i : Instr) (found : Resolved) (m c : ℕ) (info : MethodInfo) → IsRowOf 182 i.row → found ≡ resolved.Method m c → method_at P m ≡ Some info
    → (n : Option ℕ) → doing P own i found n ≡ not_null P (length info.params) (by_kind (length info.params) (by_selection P m))
virtual_rule P own i found m c info r f q = λ n.
    virtual_is P own i found r n ∙ ap (λ f. invoke_rule P own 182 f (onward n)) f ∙ ap (λ o. with_found o (λ i. on_receiver P i (by_selection P m))) q

-- ---- of a receiver, by its kind

pub receiver_asks : (P : ProgramTables) (d : ℕ) (k : Kind → Script) (h : Heap) (ls vs : List Value) (e : Ending) (u : Within) → Runs (not_null P d (by_kind d k)) (view h ls vs) e u → ReferenceAt vs d
receiver_asks P d k h ls vs e u r = asks_null d (λ null. cond null (throw_new P NullPointerException) (by_kind d k)) h ls vs e u r

pub receiver_there : (P : ProgramTables) (d a : ℕ) (k : Kind → Script) (h : Heap) (ls vs : List Value) (e : Ending) (u : Within) → slice_get vs d ≡ Some (reference_to (Some a)) → Runs (not_null P d (by_kind d k)) (view h ls vs) e u
    → IsSomeAnd (get h a) (λ o. Unit {0})
receiver_there P d a k h ls vs e u top r =
    let x = subst (λ s. IsSomeAnd s (λ v. OnObject h v (λ a o. Runs (k o.kind) (view h ls vs) e u))) top (name_from P d a (by_kind d k) h ls vs e u top r) in
    some_map (get h a) (λ o. Runs (k o.kind) (view h ls vs) e u) (λ o. Unit {0}) x (λ o r. tt)

pub receiver_null : (flow : Flow) (P : ProgramTables) (S : Doing) (d : ℕ) (k : Option ℕ → Kind → Script) (h j : Heap) (ls vs : List Value) (told : Told) → slice_get vs d ≡ Some (reference_to None) → ((n : Option ℕ) → S n ≡ not_null P d (by_kind d (k n)))
    → ((w : Within) → w.heap ≡ h → ThrewNew flow (throw_new P NullPointerException) w told j) → Went flow P S (view h ls vs) told (view j ls vs)
receiver_null flow P S d k h j ls vs told top same x =
    went_by flow P S (λ n. not_null P d (by_kind d (k n))) (view h ls vs) told (view j ls vs) same
    (went_thrown flow P (λ n. not_null P d (by_kind d (k n))) (throw_new P NullPointerException) (view h ls vs) (view h ls vs) told j refl refl
    (λ n e u r. null_to P d (by_kind d (k n)) h ls vs e u top r) (λ n e u r. null_from P d (by_kind d (k n)) h ls vs e u top r) (x (view h ls vs) refl))

-- at an object of the kind, all that is left is what the kind leads to
pub kind_goes_to : (P : ProgramTables) (S : Doing) (d a : ℕ) (kd : Kind) (k : Option ℕ → Kind → Script) (h : Heap) (ls vs : List Value) → slice_get vs d ≡ Some (reference_to (Some a)) → IsSomeAnd (get h a) (λ o. o.kind ≡ kd)
    → ((n : Option ℕ) → S n ≡ not_null P d (by_kind d (k n))) → (n : Option ℕ) (e : Ending) (u : Within) → Runs (k n kd) (view h ls vs) e u → Runs (S n) (view h ls vs) e u
kind_goes_to P S d a kd k h ls vs top is same n e u r =
    subst (λ sc. Runs sc (view h ls vs) e u) (sym (same n)) (name_to P d a (by_kind d (k n)) h ls vs e u top (kind_to d a kd (k n) h ls vs e u top is r))

pub kind_comes_from : (P : ProgramTables) (S : Doing) (d a : ℕ) (kd : Kind) (k : Option ℕ → Kind → Script) (h : Heap) (ls vs : List Value) → slice_get vs d ≡ Some (reference_to (Some a)) → IsSomeAnd (get h a) (λ o. o.kind ≡ kd)
    → ((n : Option ℕ) → S n ≡ not_null P d (by_kind d (k n))) → (n : Option ℕ) (e : Ending) (u : Within) → Runs (S n) (view h ls vs) e u → Runs (k n kd) (view h ls vs) e u
kind_comes_from P S d a kd k h ls vs top is same n e u r =
    kind_from d a kd (k n) h ls vs e u top is (name_from P d a (by_kind d (k n)) h ls vs e u top (subst (λ sc. Runs sc (view h ls vs) e u) (same n) r))

-- where the kind leads to a throw
pub kind_thrown : (flow : Flow) (P : ProgramTables) (S : Doing) (b : BuiltIn) (d a : ℕ) (kd : Kind) (k : Option ℕ → Kind → Script) (h j : Heap) (ls vs : List Value) (told : Told) → slice_get vs d ≡ Some (reference_to (Some a))
    → IsSomeAnd (get h a) (λ o. o.kind ≡ kd) → ((n : Option ℕ) → k n kd ≡ throw_new P b) → ((n : Option ℕ) → S n ≡ not_null P d (by_kind d (k n))) → ((w : Within) → w.heap ≡ h → ThrewNew flow (throw_new P b) w told j) → Went flow P S (view h ls vs) told (view j ls vs)
kind_thrown flow P S b d a kd k h j ls vs told top is q same x =
    went_thrown flow P S (throw_new P b) (view h ls vs) (view h ls vs) told j refl refl
    (λ n e u r. kind_goes_to P S d a kd k h ls vs top is same n e u (subst (λ sc. Runs sc (view h ls vs) e u) (sym (q n)) r))
    (λ n e u r. subst (λ sc. Runs sc (view h ls vs) e u) (q n) (kind_comes_from P S d a kd k h ls vs top is same n e u r))
    (x (view h ls vs) refl)

-- where it leads to a call
pub kind_called : (P : ProgramTables) (S : Doing) (d a s : ℕ) (kd : Kind) (k : Option ℕ → Kind → Script) (h : Heap) (ls vs : List Value) → slice_get vs d ≡ Some (reference_to (Some a)) → IsSomeAnd (get h a) (λ o. o.kind ≡ kd)
    → ((n : Option ℕ) → k n kd ≡ Call s) → ((n : Option ℕ) → S n ≡ not_null P d (by_kind d (k n))) → (n : Option ℕ) → Runs (S n) (view h ls vs) (Called s) (view h ls vs)
kind_called P S d a s kd k h ls vs top is q same n =
    let w = view h ls vs in
    kind_goes_to P S d a kd k h ls vs top is same n (Called s) w (subst (λ sc. Runs sc w (Called s) w) (sym (q n)) (refl, refl))

pub one_method : (found : Resolved) (m n c d : ℕ) → found ≡ resolved.Method m c → found ≡ resolved.Method n d → m ≡ n
one_method found m n c d p q = cc

pub no_none : {X : Type 0} (o : Option X) (x : X) → o ≡ None → o ≡ Some x → ⊥
no_none o x p q = cc

-- with the depth of the receiver as the code has it
pub virtual_at : (P : ProgramTables) (own : MethodInfo) (i : Instr) (found : Resolved) (m c d : ℕ) (info : MethodInfo) → IsRowOf 182 i.row → found ≡ resolved.Method m c → method_at P m ≡ Some info → d ≡ length info.params
    → (n : Option ℕ) → doing P own i found n ≡ not_null P d (by_kind d (by_selection P m))
virtual_at P own i found m c d info r f q e = λ n. virtual_rule P own i found m c info r f q n ∙ ap (λ d. not_null P d (by_kind d (by_selection P m))) (sym e)

-- ---- invokeinterface

interface_calls : AllOf (λ c. c == 185) F32
unfolding all_rows
interface_calls = refl

interface_is : (P : ProgramTables) (own : MethodInfo) (i : Instr) (found : Resolved) → IsRowOf 185 i.row → (n : Option ℕ) → doing P own i found n ≡ invoke_rule P own 185 found (onward n)
interface_is P own i found r n = rule_by (λ c. c == 185) F32 interface_calls P own i found 185 r refl n ∙ ap (λ c. invoke_rule P own c found (onward n)) r.code

abbrev pub by_interface : ProgramTables → ℕ → ℕ → Kind → Script
by_interface P m c kind = cond (is_sub P kind (class_kind c)) (by_selection P m kind) (throw_new P IncompatibleClassChangeError)

to_interface : (P : ProgramTables) (own : MethodInfo) (found : Resolved) (k : Script) (w u : Within) (e : Ending) → Runs (invoke_rule P own 185 found k) w e u → MethodFound P found
to_interface P own (resolved.Method m c) k w u e r = let x = go (method_at P m) r in record { method = m; named = c; is = refl; info = x.0; there = x.1 }
  where
    go : (o : Option MethodInfo) → Runs (with_found o (λ i. on_receiver P i (by_interface P m c))) w e u → (i : MethodInfo) × (o ≡ Some i)
    go None r = absurd r
    go (Some i) r = (i, refl)
to_interface P own found k w u e r = absurd r

pub interface_found : (P : ProgramTables) (own : MethodInfo) (i : Instr) (found : Resolved) (w : Within) (room : ℕ) → IsRowOf 185 i.row → CanDo P own i found w room → MethodFound P found
interface_found P own i found w room r can = to_interface P own found (onward can.next) w can.left can.ending (subst (λ sc. Runs sc w can.ending can.left) (interface_is P own i found r can.next) can.runs)

pub interface_at : (P : ProgramTables) (own : MethodInfo) (i : Instr) (found : Resolved) (m c d : ℕ) (info : MethodInfo) → IsRowOf 185 i.row → found ≡ resolved.Method m c → method_at P m ≡ Some info → d ≡ length info.params
    → (n : Option ℕ) → doing P own i found n ≡ not_null P d (by_kind d (by_interface P m c))
interface_at P own i found m c d info r f q e = λ n.
    interface_is P own i found r n ∙ ap (λ f. invoke_rule P own 185 f (onward n)) f ∙ ap (λ o. with_found o (λ i. on_receiver P i (by_interface P m c))) q
    ∙ ap (λ d. not_null P d (by_kind d (by_interface P m c))) (sym e)

-- where the receiver has the interface, and where it hasn't
pub with_interface : (P : ProgramTables) (m c : ℕ) (kd : Kind) → is_sub P kd (class_kind c) ≡ true → by_interface P m c kd ≡ by_selection P m kd
with_interface P m c kd t = ap (λ b. cond b (by_selection P m kd) (throw_new P IncompatibleClassChangeError)) t

pub without_interface : (P : ProgramTables) (m c : ℕ) (kd : Kind) → is_sub P kd (class_kind c) ≡ false → by_interface P m c kd ≡ throw_new P IncompatibleClassChangeError
without_interface P m c kd t = ap (λ b. cond b (by_selection P m kd) (throw_new P IncompatibleClassChangeError)) t
