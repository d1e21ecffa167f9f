-- checkcast, instanceof and athrow.
use Rattle.std.proofs.Common.{◌≡◌, ℕ, List, ◌∷◌, Option, Some, None, IsSomeAnd, refl, sym, subst, ap, ◌∙◌, Bool, true, false, ◌==◌, ◌||◌, cond, slice_get, pos, arith}
use Rattle.std.specs.FinMap.{get}
use Rattle.nr_optable.specs.declared.table.Family.TheVariants.{F36, F37}
use Rattle.nr_optable.specs.Rows.{all_rows}
use Rattle.nr_prog.specs.declared.body.instruction.Instr.{Instr}
use Rattle.nr_linked.specs.declared.program.built_in.BuiltIn.TheVariants.{ClassCastException, Throwable}
use Rattle.nr_linked.specs.declared.program.kind.Kind.{Kind}
use Rattle.nr_linked.specs.declared.program.tables.MethodInfo.{MethodInfo}
use Rattle.nr_linked.specs.declared.program.tables.ProgramTables.{ProgramTables}
use Rattle.nr_linked.specs.declared.program.tables.Resolved.{Resolved}
use Rattle.nr_linked.specs.declared.program.tables.Resolved.TheVariants as resolved
use Rattle.nr_linked.specs.BuiltIns.{built_in}
use Rattle.nr_linked.specs.Kinds.{class_kind}
use Rattle.nr_linked.specs.Subtypes.{is_sub}
use Rattle.nr_model.specs.declared.value.Value.{Value}
use Rattle.nr_model.specs.declared.value.Value.TheVariants.{Int, Null, Ref}
use Rattle.nr_model.specs.Heaps.{Heap, Obj}
use Rattle.nr_model.specs.ObjectRules.{answer, check_cast, instance_of}
use Rattle.nr_model.specs.Rules.{on_kind}
use Rattle.nr_model.specs.Scripts.{AskKind, Ending, Runs, Script, Threw, Throw, Within}
use Rattle.nr_model.specs.Throws.{not_null, onward, throw_new, which}
use Rattle.nr_step.specs.declared.flow.Flow.{Flow}
use Rattle.nr_step.specs.declared.flow.Told.{Told}
use Rattle.nr_step.specs.Flows.{Doing, ThrewNew, ThrowsNamed, Went}
use Rattle.nr_step.specs.Instructions.{IsRowOf, doing}
use Rattle.nr_step.specs.Windows.{CanBegin, Leads, ReferenceAt, reference_to, view}
use Rattle.nr_step.proofs.Families.{AllOf, rule_by}
use Rattle.nr_step.proofs.Going.{went_by, went_thrown}
use Rattle.nr_step.proofs.Objects.{asks_null, first_is, pass, passed, some_map}
use Rattle.nr_step.proofs.Rows.{IsRule}
use Rattle.nr_step.proofs.Tops.{run_off, run_on}

-- ---- checkcast

casts : AllOf (λ c. c == 192 || c == 193) F37
unfolding all_rows
casts = refl

abbrev by_code : ℕ → ProgramTables → Kind → Script → Script
by_code code P k s = cond (code == 192) (check_cast P k s) (instance_of P k s)

pub cast_is : (P : ProgramTables) (own : MethodInfo) (i : Instr) (found : Resolved) → IsRowOf 192 i.row → (n : Option ℕ) → doing P own i found n ≡ on_kind found (λ k. check_cast P k (onward n))
cast_is P own i found r n = rule_by (λ c. c == 192 || c == 193) F37 casts P own i found 192 r refl n ∙ ap (λ c. on_kind found (λ k. by_code c P k (onward n))) r.code

pub instance_is : (P : ProgramTables) (own : MethodInfo) (i : Instr) (found : Resolved) → IsRowOf 193 i.row → (n : Option ℕ) → doing P own i found n ≡ on_kind found (λ k. instance_of P k (onward n))
instance_is P own i found r n = rule_by (λ c. c == 192 || c == 193) F37 casts P own i found 193 r refl n ∙ ap (λ c. on_kind found (λ k. by_code c P k (onward n))) r.code

pub cast_rule : (P : ProgramTables) (own : MethodInfo) (i : Instr) (found : Resolved) (to : Kind) → IsRowOf 192 i.row → found ≡ resolved.Kind to → IsRule P own i found (check_cast P to)
cast_rule P own i found to r f = λ n. cast_is P own i found r n ∙ ap (λ f. on_kind f (λ k. check_cast P k (onward n))) f

pub instance_rule : (P : ProgramTables) (own : MethodInfo) (i : Instr) (found : Resolved) (to : Kind) → IsRowOf 193 i.row → found ≡ resolved.Kind to → IsRule P own i found (instance_of P to)
instance_rule P own i found to r f = λ n. instance_is P own i found r n ∙ ap (λ f. on_kind f (λ k. instance_of P k (onward n))) f

-- a test of the object's kind, where there is one
abbrev pub asks_kind : (Kind → Bool) → Script → Script → Bool → Script
asks_kind test fits other null = cond null fits (AskKind 0 (λ kind n. cond (test kind) fits other))

pub cast_asks : (P : ProgramTables) (to : Kind) (h : Heap) (ls vs : List Value) → CanBegin (check_cast P to) (view h ls vs) → ReferenceAt vs 0
cast_asks P to h ls vs (k, e, u, r) = asks_null 0 (asks_kind (λ kind. is_sub P kind to) k (throw_new P ClassCastException)) h ls vs e u r

pub cast_null : (P : ProgramTables) (to : Kind) (h : Heap) (ls vs : List Value) → slice_get vs 0 ≡ Some (reference_to None) → Leads (check_cast P to) (view h ls vs) (view h ls vs)
cast_null P to h ls vs top = λ k e u r.
    let f = first_is vs None top in run_on (check_cast P to k) h ls vs (Null ∷ f.0) e u f.1 (run_off k h ls vs (Null ∷ f.0) e u f.1 r)

pub cast_there : (P : ProgramTables) (to : Kind) (a : ℕ) (h : Heap) (ls vs : List Value) → slice_get vs 0 ≡ Some (reference_to (Some a)) → CanBegin (check_cast P to) (view h ls vs) → IsSomeAnd (get h a) (λ o. Unit {0})
cast_there P to a h ls vs top (k, e, u, r) =
    let f = first_is vs (Some a) top in
    some_map (get h a) (λ o. Runs (cond (is_sub P o.kind to) k (throw_new P ClassCastException)) (view h ls (Ref a ∷ f.0)) e u) (λ o. Unit {0}) (run_off (check_cast P to k) h ls vs (Ref a ∷ f.0) e u f.1 r) (λ o r. tt)

-- the kind that the code saw passes the test, or doesn't
abbrev Sees : ProgramTables → Kind → Heap → ℕ → Bool → Type 0
Sees P to h a b = IsSomeAnd (get h a) (λ o. is_sub P o.kind to ≡ b)

pub sees : (P : ProgramTables) (to k : Kind) (h : Heap) (a : ℕ) (b : Bool) → IsSomeAnd (get h a) (λ o. o.kind ≡ k) → is_sub P k to ≡ b → Sees P to h a b
sees P to k h a b is t = some_map (get h a) (λ o. o.kind ≡ k) (λ o. is_sub P o.kind to ≡ b) is (λ o q. ap (λ k. is_sub P k to) q ∙ t)

to_cast : (P : ProgramTables) (to : Kind) (a : ℕ) (b : Bool) (h : Heap) (ls us : List Value) (k : Script) (e : Ending) (u : Within) → Sees P to h a b
    → Runs (cond b k (throw_new P ClassCastException)) (view h ls (Ref a ∷ us)) e u → Runs (check_cast P to k) (view h ls (Ref a ∷ us)) e u
to_cast P to a b h ls us k e u s r =
    some_map (get h a) (λ o. is_sub P o.kind to ≡ b) (λ o. Runs (cond (is_sub P o.kind to) k (throw_new P ClassCastException)) (view h ls (Ref a ∷ us)) e u) s
    (λ o q. subst (λ b. Runs (cond b k (throw_new P ClassCastException)) (view h ls (Ref a ∷ us)) e u) (sym q) r)

from_cast : (P : ProgramTables) (to : Kind) (a : ℕ) (b : Bool) (h : Heap) (ls us : List Value) (k : Script) (e : Ending) (u : Within) → Sees P to h a b
    → Runs (check_cast P to k) (view h ls (Ref a ∷ us)) e u → Runs (cond b k (throw_new P ClassCastException)) (view h ls (Ref a ∷ us)) e u
from_cast P to a b h ls us k e u s r = go (get h a) s r
  where
    go : (g : Option Obj) → IsSomeAnd g (λ o. is_sub P o.kind to ≡ b) → IsSomeAnd g (λ o. Runs (cond (is_sub P o.kind to) k (throw_new P ClassCastException)) (view h ls (Ref a ∷ us)) e u)
        → Runs (cond b k (throw_new P ClassCastException)) (view h ls (Ref a ∷ us)) e u
    go None s r = absurd r
    go (Some o) s r = subst (λ b. Runs (cond b k (throw_new P ClassCastException)) (view h ls (Ref a ∷ us)) e u) s r

pub cast_passes : (P : ProgramTables) (to : Kind) (a : ℕ) (h : Heap) (ls vs : List Value) → slice_get vs 0 ≡ Some (reference_to (Some a)) → Sees P to h a true → Leads (check_cast P to) (view h ls vs) (view h ls vs)
cast_passes P to a h ls vs top s = λ k e u r.
    let f = first_is vs (Some a) top in
    run_on (check_cast P to k) h ls vs (Ref a ∷ f.0) e u f.1 (to_cast P to a true h ls f.0 k e u s (run_off k h ls vs (Ref a ∷ f.0) e u f.1 r))

pub cast_throws : (flow : Flow) (P : ProgramTables) (S : Doing) (to : Kind) (a : ℕ) (h j : Heap) (ls vs : List Value) (told : Told) → slice_get vs 0 ≡ Some (reference_to (Some a)) → Sees P to h a false
    → ((n : Option ℕ) → S n ≡ check_cast P to (onward n)) → ((w : Within) → w.heap ≡ h → ThrewNew flow (throw_new P ClassCastException) w told j) → Went flow P S (view h ls vs) told (view j ls vs)
cast_throws flow P S to a h j ls vs told top s same x =
    let f = first_is vs (Some a) top in
    let v = view h ls (Ref a ∷ f.0) in
    went_by flow P S (λ n. check_cast P to (onward n)) (view h ls vs) told (view j ls vs) same
    (went_thrown flow P (λ n. check_cast P to (onward n)) (throw_new P ClassCastException) (view h ls vs) v told j refl refl
    (λ n e u r. run_on (check_cast P to (onward n)) h ls vs (Ref a ∷ f.0) e u f.1 (to_cast P to a false h ls f.0 (onward n) e u s r))
    (λ n e u r. from_cast P to a false h ls f.0 (onward n) e u s (run_off (check_cast P to (onward n)) h ls vs (Ref a ∷ f.0) e u f.1 r))
    (x v refl))

-- ---- athrow

throws : AllOf (λ c. c == 191) F36
unfolding all_rows
throws = refl

abbrev pub throwable : ProgramTables → Kind → Bool
throwable P kind = is_sub P kind (class_kind (built_in P Throwable))

abbrev pub throws_top : ProgramTables → Script
throws_top P = AskKind 0 (λ kind n. which (throwable P kind) Throw)

pub athrow_is : (P : ProgramTables) (own : MethodInfo) (i : Instr) (found : Resolved) → IsRowOf 191 i.row → (n : Option ℕ) → doing P own i found n ≡ not_null P 0 (throws_top P)
athrow_is P own i found r n = rule_by (λ c. c == 191) F36 throws P own i found 191 r refl n

pub top_thrown : (P : ProgramTables) (S : Doing) (a : ℕ) (h : Heap) (ls ms vs : List Value) (k : Option ℕ) (e : Ending) (u : Within) → slice_get vs 0 ≡ Some (reference_to (Some a))
    → ((n : Option ℕ) → S n ≡ not_null P 0 (throws_top P)) → Runs (not_null P 0 (throws_top P)) (view h ms vs) e u → ThrowsNamed S (view h ls vs) a h
top_thrown P S a h ls ms vs k e u top same r = λ n.
    let f = first_is vs (Some a) top in
    let t = some_map (get h a) (λ o. Runs (which (throwable P o.kind) Throw) (view h ms (Ref a ∷ f.0)) e u) (λ o. throwable P o.kind ≡ true) (run_off (not_null P 0 (throws_top P)) h ms vs (Ref a ∷ f.0) e u f.1 r)
    (λ o r. (passed (throwable P o.kind) Throw (view h ms (Ref a ∷ f.0)) u e r).0) in (
      view h ls f.0,
      subst (λ sc. Runs sc (view h ls vs) (Threw a) (view h ls f.0)) (sym (same n))
          (run_on (not_null P 0 (throws_top P)) h ls vs (Ref a ∷ f.0) (Threw a) (view h ls f.0) f.1
          (some_map (get h a) (λ o. throwable P o.kind ≡ true) (λ o. Runs (which (throwable P o.kind) Throw) (view h ls (Ref a ∷ f.0)) (Threw a) (view h ls f.0)) t
          (λ o q. pass (throwable P o.kind) Throw (view h ls (Ref a ∷ f.0)) (view h ls f.0) (Threw a) q (refl, refl)))),
      refl,
      refl,
    )

-- ---- instanceof

pub instance_asks : (P : ProgramTables) (to : Kind) (h : Heap) (ls vs : List Value) → CanBegin (instance_of P to) (view h ls vs) → ReferenceAt vs 0
instance_asks P to h ls vs (k, e, u, r) = asks_null 0 (λ null. cond null (answer 0 k) (AskKind 0 (λ kind n. cond (is_sub P kind to) (answer 1 k) (answer 0 k)))) h ls vs e u r

pub instance_there : (P : ProgramTables) (to : Kind) (a : ℕ) (h : Heap) (ls vs : List Value) → slice_get vs 0 ≡ Some (reference_to (Some a)) → CanBegin (instance_of P to) (view h ls vs) → IsSomeAnd (get h a) (λ o. Unit {0})
instance_there P to a h ls vs top (k, e, u, r) =
    let f = first_is vs (Some a) top in
    some_map (get h a) (λ o. Runs (cond (is_sub P o.kind to) (answer 1 k) (answer 0 k)) (view h ls (Ref a ∷ f.0)) e u) (λ o. Unit {0}) (run_off (instance_of P to k) h ls vs (Ref a ∷ f.0) e u f.1 r) (λ o r. tt)

tails : (x : Value) (us : List Value) (y : Value) (ws : List Value) → x ∷ us ≡ y ∷ ws → us ≡ ws
tails x us y ws e = cc

-- the operands with an answer in place of the topmost
answered : (n : ℕ) (k : Script) (h : Heap) (ls : List Value) (v : Value) (us new : List Value) (e : Ending) (u : Within) → new ≡ Int (pos n) ∷ us → Runs k (view h ls new) e u → Runs (answer n k) (view h ls (v ∷ us)) e u
answered n k h ls v us new e u put r = (omega arith, run_off k h ls new (Int (pos n) ∷ us) e u put r)

pub instance_null : (P : ProgramTables) (to : Kind) (h : Heap) (ls vs us new : List Value) (x : Value) → slice_get vs 0 ≡ Some (reference_to None) → vs ≡ x ∷ us → new ≡ Int (pos 0) ∷ us → Leads (instance_of P to) (view h ls vs) (view h ls new)
instance_null P to h ls vs us new x top taken put = λ k e u r.
    let f = first_is vs None top in
    let t : us ≡ f.0 = tails x us Null f.0 (sym taken ∙ f.1) in
    run_on (instance_of P to k) h ls vs (Null ∷ f.0) e u f.1 (answered 0 k h ls Null f.0 new e u (put ∙ ap (λ us. Int (pos 0) ∷ us) t) r)

pub instance_leads : (P : ProgramTables) (to : Kind) (a : ℕ) (b : Bool) (n : ℕ) (h : Heap) (ls vs us new : List Value) (x : Value) → slice_get vs 0 ≡ Some (reference_to (Some a)) → Sees P to h a b → n ≡ cond b 1 0
    → vs ≡ x ∷ us → new ≡ Int (pos n) ∷ us → Leads (instance_of P to) (view h ls vs) (view h ls new)
instance_leads P to a b n h ls vs us new x top s is taken put = λ k e u r.
    let f = first_is vs (Some a) top in
    let t : us ≡ f.0 = tails x us (Ref a) f.0 (sym taken ∙ f.1) in
    let y = answered n k h ls (Ref a) f.0 new e u (put ∙ ap (λ us. Int (pos n) ∷ us) t) r in
    run_on (instance_of P to k) h ls vs (Ref a ∷ f.0) e u f.1
    (some_map (get h a) (λ o. is_sub P o.kind to ≡ b) (λ o. Runs (cond (is_sub P o.kind to) (answer 1 k) (answer 0 k)) (view h ls (Ref a ∷ f.0)) e u) s
    (λ o q. subst (λ b. Runs (cond b (answer 1 k) (answer 0 k)) (view h ls (Ref a ∷ f.0)) e u) (sym q) (pick b n k (Ref a ∷ f.0) e u is y)))
  where
    pick : (b : Bool) (n : ℕ) (k : Script) (vs : List Value) (e : Ending) (u : Within) → n ≡ cond b 1 0 → Runs (answer n k) (view h ls vs) e u → Runs (cond b (answer 1 k) (answer 0 k)) (view h ls vs) e u
    pick true n k vs e u q r = subst (λ n. Runs (answer n k) (view h ls vs) e u) q r
    pick false n k vs e u q r = subst (λ n. Runs (answer n k) (view h ls vs) e u) q r
