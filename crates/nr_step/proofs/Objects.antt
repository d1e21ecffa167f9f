-- Instructions on objects: what their rules ask of the heap.
use Rattle.std.proofs.Common.{◌≡◌, ℕ, List, [], ◌∷◌, length, ◌<◌, Option, Some, None, IsSomeAnd, refl, sym, subst, ap, ◌∙◌, Bool, true, false, ◌==◌, cond, slice_get}
use Rattle.std.specs.FinMap.{get}
use Rattle.std.proofs.lemmas.Option.{slice_get_within}
use Rattle.nr_optable.specs.declared.table.Family.TheVariants.{F30}
use Rattle.nr_optable.specs.Rows.{all_rows}
use Rattle.nr_prog.specs.declared.body.instruction.Instr.{Instr}
use Rattle.nr_linked.specs.declared.program.built_in.BuiltIn.TheVariants.{NullPointerException}
use Rattle.nr_linked.specs.declared.program.tables.MethodInfo.{MethodInfo}
use Rattle.nr_linked.specs.declared.program.tables.ProgramTables.{ProgramTables}
use Rattle.nr_linked.specs.declared.program.tables.Resolved.{Resolved}
use Rattle.nr_linked.specs.declared.program.tables.Resolved.TheVariants as resolved
use Rattle.nr_linked.specs.declared.program.tables.SlotInfo.{SlotInfo}
use Rattle.nr_linked.specs.Kinds.{class_kind}
use Rattle.nr_linked.specs.Slots.{slots_of}
use Rattle.nr_linked.specs.Subtypes.{is_sub}
use Rattle.nr_model.specs.declared.value.Value.{Value}
use Rattle.nr_model.specs.declared.value.Value.TheVariants.{Int, Long, Null, Ref}
use Rattle.nr_model.specs.Heaps.{Heap}
use Rattle.nr_model.specs.ObjectRules.{get_field, has_fields_of}
use Rattle.nr_model.specs.Rules.{on_slot}
use Rattle.nr_model.specs.Scripts.{AskNull, Ending, ReadSlot, Runs, Script, Within, OnReference, is_null}
use Rattle.nr_model.specs.Throws.{not_null, onward, throw_new, which, with_found}
use Rattle.nr_step.specs.declared.flow.Flow.{Flow}
use Rattle.nr_step.specs.declared.flow.Told.{Told}
use Rattle.nr_step.specs.Flows.{Doing, ThrewNew, Went}
use Rattle.nr_step.specs.Instructions.{CanDo, IsRowOf, doing}
use Rattle.nr_step.specs.Windows.{CanBegin, Leads, ReferenceAt, reference_to, view}
use Rattle.nr_step.proofs.Families.{AllOf, rule_by}
use Rattle.nr_step.proofs.Going.{went_by, went_thrown}
use Rattle.nr_step.proofs.Rows.{IsRule}
use Rattle.nr_step.proofs.Tops.{run_off, run_on}

-- ---- what is there

pub at_some : {X : Type 0} (s : Option X) (Q : X → Type 0) → IsSomeAnd s Q → (x : X) × (s ≡ Some x) × Q x
at_some None Q q = absurd q
at_some (Some x) Q q = (x, refl, q)

pub some_map : {X : Type 0} (s : Option X) (Q R : X → Type 0) → IsSomeAnd s Q → ((x : X) → Q x → R x) → IsSomeAnd s R
some_map None Q R q f = absurd q
some_map (Some x) Q R q f = f x q

-- what passes a test
pub passed : (b : Bool) (k : Script) (w u : Within) (e : Ending) → Runs (which b k) w e u → (b ≡ true) × Runs k w e u
passed true k w u e r = (refl, r)
passed false k w u e r = absurd r

pub pass : (b : Bool) (k : Script) (w u : Within) (e : Ending) → b ≡ true → Runs k w e u → Runs (which b k) w e u
pass b k w u e t r = subst (λ b. Runs (which b k) w e u) (sym t) r

-- ---- the reference on top

-- the operands are a reference and others
pub first_is : (vs : List Value) (r : Option ℕ) → slice_get vs 0 ≡ Some (reference_to r) → (us : List Value) × (vs ≡ reference_to r ∷ us)
first_is [] r e = absurd cc
first_is (v ∷ us) r e = (us, ap (λ v. v ∷ us) (some_eq e))
  where
    some_eq : {X : Type 0} {a b : X} → Some a ≡ Some b → a ≡ b
    some_eq e = cc

pub asks_null : (d : ℕ) (k : Bool → Script) (h : Heap) (ls vs : List Value) (e : Ending) (u : Within) → Runs (AskNull d k) (view h ls vs) e u → ReferenceAt vs d
asks_null d k h ls vs e u r = go (slice_get vs d) r
  where
    each : (v : Value) → OnReference v (λ r. Runs (k (is_null r)) (view h ls vs) e u) → OnReference v (λ r. Unit {0})
    each (Int n) r = absurd r
    each (Long n) r = absurd r
    each Null r = tt
    each (Ref a) r = tt

    go : (s : Option Value) → IsSomeAnd s (λ v. OnReference v (λ r. Runs (k (is_null r)) (view h ls vs) e u)) → IsSomeAnd s (λ v. OnReference v (λ r. Unit {0}))
    go None r = absurd r
    go (Some v) r = each v r

-- at null, an instruction that begins by a test for it throws
pub null_thrown : (flow : Flow) (P : ProgramTables) (S : Doing) (K : Option ℕ → Script) (h j : Heap) (ls vs : List Value) (told : Told)
    → slice_get vs 0 ≡ Some (reference_to None) → ((n : Option ℕ) → S n ≡ not_null P 0 (K n))
    → ((w : Within) → w.heap ≡ h → ThrewNew flow (throw_new P NullPointerException) w told j) → Went flow P S (view h ls vs) told (view j ls vs)
null_thrown flow P S K h j ls vs told top same x =
    let f = first_is vs None top in
    went_by flow P S (λ n. not_null P 0 (K n)) (view h ls vs) told (view j ls vs) same
    (went_thrown flow P (λ n. not_null P 0 (K n)) (throw_new P NullPointerException) (view h ls vs) (view h ls (Null ∷ f.0)) told j refl refl
    (λ n e u r. run_on (not_null P 0 (K n)) h ls vs (Null ∷ f.0) e u f.1 r)
    (λ n e u r. run_off (not_null P 0 (K n)) h ls vs (Null ∷ f.0) e u f.1 r)
    (x (view h ls (Null ∷ f.0)) refl))

-- ---- getfield

getfields : AllOf (λ c. c == 180) F30
unfolding all_rows
getfields = refl

abbrev pub reads : ProgramTables → SlotInfo → ℕ → Script → Script
reads P s i k = not_null P 0 (has_fields_of P 0 s.declared_in (ReadSlot i k))

pub getfield_is : (P : ProgramTables) (own : MethodInfo) (i : Instr) (found : Resolved) → IsRowOf 180 i.row → (n : Option ℕ) → doing P own i found n ≡ on_slot found (λ c s. get_field P c s (onward n))
getfield_is P own i found r n = rule_by (λ c. c == 180) F30 getfields P own i found 180 r refl n

-- what was found is a slot
pub record SlotFound (P : ProgramTables) (found : Resolved) : Type 0 where
  pub owner : ℕ
  pub place : ℕ
  pub is : found ≡ resolved.Slot owner place
  pub info : SlotInfo
  pub there : slice_get (slots_of P owner) place ≡ Some info

pub to_slot : (P : ProgramTables) (found : Resolved) (F : SlotInfo → ℕ → Script) (w u : Within) (e : Ending) → Runs (on_slot found (λ c s. with_found (slice_get (slots_of P c) s) (λ i. F i s))) w e u → SlotFound P found
to_slot P (resolved.Slot c s) F w u e r = let x = go (slice_get (slots_of P c) s) r in record { owner = c; place = s; is = refl; info = x.0; there = x.1 }
  where
    go : (o : Option SlotInfo) → Runs (with_found o (λ i. F i s)) w e u → (i : SlotInfo) × (o ≡ Some i)
    go None r = absurd r
    go (Some i) r = (i, refl)
to_slot P found F w u e r = absurd r

pub slot_found : (P : ProgramTables) (own : MethodInfo) (i : Instr) (found : Resolved) (w : Within) (room : ℕ) → IsRowOf 180 i.row → CanDo P own i found w room → SlotFound P found
slot_found P own i found w room r can =
    to_slot P found (λ s j. reads P s j (onward can.next)) w can.left can.ending (subst (λ sc. Runs sc w can.ending can.left) (getfield_is P own i found r can.next) can.runs)

pub getfield_rule : (P : ProgramTables) (own : MethodInfo) (i : Instr) (found : Resolved) → IsRowOf 180 i.row → (s : SlotFound P found) → IsRule P own i found (reads P s.info s.place)
getfield_rule P own i found r s = λ n.
    getfield_is P own i found r n ∙ ap (λ f. on_slot f (λ c s. get_field P c s (onward n))) s.is ∙ ap (λ o. with_found o (λ i. reads P i s.place (onward n))) s.there

-- what a read has found in the heap
pub read_there : (P : ProgramTables) (s : SlotInfo) (i a : ℕ) (h : Heap) (ls vs : List Value) → CanBegin (reads P s i) (view h ls vs) → slice_get vs 0 ≡ Some (reference_to (Some a))
    → IsSomeAnd (get h a) (λ o. (is_sub P o.kind (class_kind s.declared_in) ≡ true) × (i < length o.slots))
read_there P s i a h ls vs (k, e, u, r) top =
    let f = first_is vs (Some a) top in
    let w = view h ls (Ref a ∷ f.0) in
    let x = at_some (get h a) (λ o. Runs (which (is_sub P o.kind (class_kind s.declared_in)) (ReadSlot i k)) w e u) (run_off (reads P s i k) h ls vs (Ref a ∷ f.0) e u f.1 r) in
    let p = passed (is_sub P x.0.kind (class_kind s.declared_in)) (ReadSlot i k) w u e x.2 in
    let y = subst (λ g. IsSomeAnd g (λ o. IsSomeAnd (slice_get o.slots i) (λ v. Runs k (view h ls (v ∷ f.0)) e u))) x.1 p.1 in
    let z = at_some (slice_get x.0.slots i) (λ v. Runs k (view h ls (v ∷ f.0)) e u) y in
    subst (λ g. IsSomeAnd g (λ o. (is_sub P o.kind (class_kind s.declared_in) ≡ true) × (i < length o.slots))) (sym x.1) (p.0, slice_get_within x.0.slots i z.0 z.1)

pub read_leads : (P : ProgramTables) (s : SlotInfo) (i a : ℕ) (v : Value) (h : Heap) (ls vs us new : List Value) → slice_get vs 0 ≡ Some (reference_to (Some a))
    → IsSomeAnd (get h a) (λ o. (is_sub P o.kind (class_kind s.declared_in) ≡ true) × (i < length o.slots)) → IsSomeAnd (get h a) (λ o. slice_get o.slots i ≡ Some v)
    → (x : Value) → vs ≡ x ∷ us → new ≡ v ∷ us → Leads (reads P s i) (view h ls vs) (view h ls new)
read_leads P s i a v h ls vs us new top fits is x taken put = λ k e u r.
    let f = first_is vs (Some a) top in
    let w = view h ls (Ref a ∷ us) in
    let same : vs ≡ Ref a ∷ us = first_as x us f.0 (sym taken ∙ f.1) taken in
    run_on (reads P s i k) h ls vs (Ref a ∷ us) e u same
    (some_map (get h a) (λ o. (is_sub P o.kind (class_kind s.declared_in) ≡ true) × (i < length o.slots)) (λ o. Runs (which (is_sub P o.kind (class_kind s.declared_in)) (ReadSlot i k)) w e u) fits
    (λ o t. pass (is_sub P o.kind (class_kind s.declared_in)) (ReadSlot i k) w u e t.0
    (some_map (get h a) (λ o. slice_get o.slots i ≡ Some v) (λ o. IsSomeAnd (slice_get o.slots i) (λ v. Runs k (view h ls (v ∷ us)) e u)) is
    (λ o q. subst (λ g. IsSomeAnd g (λ v. Runs k (view h ls (v ∷ us)) e u)) (sym q) (run_off k h ls new (v ∷ us) e u put r)))))
  where
    first_as : (x : Value) (us ws : List Value) → x ∷ us ≡ Ref a ∷ ws → vs ≡ x ∷ us → vs ≡ Ref a ∷ us
    first_as x us ws e t = let q : x ≡ Ref a = cc in t ∙ ap (λ x. x ∷ us) q

-- ---- tests for null

pub not_null_asks : (P : ProgramTables) (d : ℕ) (K : Script → Script) (h : Heap) (ls vs : List Value) → CanBegin (λ k. not_null P d (K k)) (view h ls vs) → ReferenceAt vs d
not_null_asks P d K h ls vs (k, e, u, r) = asks_null d (λ null. cond null (throw_new P NullPointerException) (K k)) h ls vs e u r

pub same_place : (found : Resolved) (c d i j : ℕ) → found ≡ resolved.Slot c i → found ≡ resolved.Slot d j → i ≡ j
same_place found c d i j p q = cc
