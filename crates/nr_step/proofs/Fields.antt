-- Writes of fields: what their rule asks of the operands and of the heap.
use Rattle.std.proofs.Common.{◌≡◌, ◌<◌, ℕ, zero, suc, List, ◌∷◌, length, Option, Some, None, IsSomeAnd, refl, sym, subst, ap, ◌∙◌, Bool, true, false, ◌==◌, ◌||◌, cond, slice_get, IfSome}
use Rattle.std.specs.FinMap.{get}
use Rattle.std.specs.Option.{option_map}
use Rattle.std.proofs.lemmas.Bool.{eqb-true}
use Rattle.nr_optable.specs.declared.table.Family.TheVariants.{F31}
use Rattle.nr_optable.specs.Rows.{all_rows}
use Rattle.nr_prog.specs.declared.body.instruction.Instr.{Instr}
use Rattle.nr_linked.specs.declared.program.built_in.BuiltIn.TheVariants.{NullPointerException}
use Rattle.nr_linked.specs.declared.program.built_in.BuiltIn.TheVariants as built_ins
use Rattle.nr_linked.specs.declared.program.kind.Base.TheVariants as bases
use Rattle.nr_linked.specs.declared.program.kind.Kind.{Kind}
use Rattle.nr_linked.specs.declared.program.tables.MethodInfo.{MethodInfo}
use Rattle.nr_linked.specs.declared.program.tables.ProgramTables.{ProgramTables}
use Rattle.nr_linked.specs.declared.program.tables.Resolved.{Resolved}
use Rattle.nr_linked.specs.declared.program.tables.Resolved.TheVariants as resolved
use Rattle.nr_linked.specs.declared.program.tables.SlotInfo.{SlotInfo}
use Rattle.nr_linked.specs.BuiltIns.{built_in}
use Rattle.nr_linked.specs.Kinds.{class_kind, element_of}
use Rattle.nr_linked.specs.Programs.{is_interface}
use Rattle.nr_linked.specs.Slots.{kind_of_slot, slots_of}
use Rattle.nr_linked.specs.Subtypes.{admits_any, is_above_arrays, is_sub}
use Rattle.nr_linked.specs.TypingFacts.{TypingFacts}
use Rattle.nr_model.specs.declared.value.Value.{Value}
use Rattle.nr_model.specs.declared.value.Value.TheVariants.{Ref}
use Rattle.nr_model.specs.Heaps.{Heap, Obj}
use Rattle.nr_model.specs.ObjectRules.{has_fields_of, kept_as, put_field}
use Rattle.nr_model.specs.Rules.{on_slot}
use Rattle.nr_model.specs.Scripts.{OnObject, Runs, Script, Within, WriteSlot, IsIn, with_slot}
use Rattle.nr_model.specs.Throws.{not_null, onward, throw_new, which, with_found}
use Rattle.nr_heap.specs.Contents.{Keeps, IsOfKind}
use Rattle.nr_step.specs.declared.flow.Flow.{Flow}
use Rattle.nr_step.specs.declared.flow.Told.{Told}
use Rattle.nr_step.specs.Flows.{Doing, ThrewNew, Went}
use Rattle.nr_step.specs.Instructions.{CanDo, IsRowOf, doing}
use Rattle.nr_step.specs.Windows.{CanBegin, Leads, ReferenceAt, Turns, reference_to, view}
use Rattle.nr_step.proofs.ArrayRules.{name_from, name_to, null_from, null_to}
use Rattle.nr_step.proofs.Families.{AllOf, rule_by}
use Rattle.nr_step.proofs.Going.{went_by, went_thrown}
use Rattle.nr_step.proofs.Objects.{SlotFound, asks_null, at_some, first_is, pass, passed, some_map, to_slot}
use Rattle.nr_step.proofs.Rows.{IsRule}
use Rattle.nr_step.proofs.Tops.{run_off, run_on}

-- ---- putfield

putfields : AllOf (λ c. c == 181) F31
unfolding all_rows
putfields = refl

-- what is left once the value is taken
abbrev pub writes : ProgramTables → SlotInfo → ℕ → Script → Script
writes P s i k = not_null P 1 (has_fields_of P 1 s.declared_in (WriteSlot i k))

abbrev pub puts : ProgramTables → SlotInfo → ℕ → Script → Script
puts P s i k = kept_as s.kind (writes P s i k)

putfield_is : (P : ProgramTables) (own : MethodInfo) (i : Instr) (found : Resolved) → IsRowOf 181 i.row → (n : Option ℕ) → doing P own i found n ≡ on_slot found (λ c s. put_field P c s (onward n))
putfield_is P own i found r n = rule_by (λ c. c == 181) F31 putfields P own i found 181 r refl n

pub field_found : (P : ProgramTables) (own : MethodInfo) (i : Instr) (found : Resolved) (w : Within) (room : ℕ) → IsRowOf 181 i.row → CanDo P own i found w room → SlotFound P found
field_found P own i found w room r can =
    to_slot P found (λ s j. puts P s j (onward can.next)) w can.left can.ending (subst (λ sc. Runs sc w can.ending can.left) (putfield_is P own i found r can.next) can.runs)

-- the entry of the slot
pub entry_of : (P : ProgramTables) (found : Resolved) (c j : ℕ) → found ≡ resolved.Slot c j → SlotFound P found → (s : SlotInfo) × (slice_get (slots_of P c) j ≡ Some s)
entry_of P found c j is f =
    let p : f.owner ≡ c = owner f.owner f.place f.is in
    let q : f.place ≡ j = place f.owner f.place f.is in
    (f.info, subst (λ j. slice_get (slots_of P c) j ≡ Some f.info) q (subst (λ c. slice_get (slots_of P c) f.place ≡ Some f.info) p f.there))
  where
    owner : (d i : ℕ) → found ≡ resolved.Slot d i → d ≡ c
    owner d i p = cc

    place : (d i : ℕ) → found ≡ resolved.Slot d i → i ≡ j
    place d i p = cc

pub kind_of_entry : (P : ProgramTables) (c j : ℕ) (s : SlotInfo) (k : Kind) → slice_get (slots_of P c) j ≡ Some s → kind_of_slot P c j ≡ Some k → s.kind ≡ k
kind_of_entry P c j s k p q =
    some_eq (sym (ap (λ (o : Option SlotInfo). option_map (λ s. s.kind) o) p) ∙ q)
  where
    some_eq : {X : Type 0} {a b : X} → Some a ≡ Some b → a ≡ b
    some_eq e = cc

pub putfield_rule : (P : ProgramTables) (own : MethodInfo) (i : Instr) (found : Resolved) (c j : ℕ) (s : SlotInfo) → IsRowOf 181 i.row → found ≡ resolved.Slot c j → slice_get (slots_of P c) j ≡ Some s
    → IsRule P own i found (puts P s j)
putfield_rule P own i found c j s r is there = λ n.
    putfield_is P own i found r n ∙ ap (λ f. on_slot f (λ c s. put_field P c s (onward n))) is ∙ ap (λ o. with_found o (λ s. puts P s j (onward n))) there

-- ---- the object below the value

pub write_asks : (P : ProgramTables) (s : SlotInfo) (j : ℕ) (h : Heap) (ls us : List Value) (v : Value) → CanBegin (writes P s j) (view h ls (v ∷ us)) → ReferenceAt us 0
write_asks P s j h ls us v (k, e, u, r) =
    asks_null 1 (λ null. cond null (throw_new P NullPointerException) (has_fields_of P 1 s.declared_in (WriteSlot j k))) h ls (v ∷ us) e u r

pub begins_writes : (P : ProgramTables) (s : SlotInfo) (j : ℕ) (w v : Within) → Turns (kept_as s.kind) w v → CanBegin (puts P s j) w → CanBegin (writes P s j) v
begins_writes P s j w v t (k, e, u, r) = (k, e, u, (t (writes P s j k) e u).1 r)

pub write_null : (flow : Flow) (P : ProgramTables) (S : Doing) (s : SlotInfo) (i : ℕ) (h j : Heap) (ls vs us : List Value) (v : Value) (told : Told)
    → Turns (kept_as s.kind) (view h ls vs) (view h ls (v ∷ us)) → slice_get us 0 ≡ Some (reference_to None) → ((n : Option ℕ) → S n ≡ puts P s i (onward n))
    → ((w : Within) → w.heap ≡ h → ThrewNew flow (throw_new P NullPointerException) w told j) → Went flow P S (view h ls vs) told (view j ls vs)
write_null flow P S s i h j ls vs us v told t top same x =
    let k : Option ℕ → Script = λ n. has_fields_of P 1 s.declared_in (WriteSlot i (onward n)) in
    went_by flow P S (λ n. puts P s i (onward n)) (view h ls vs) told (view j ls vs) same
    (went_thrown flow P (λ n. puts P s i (onward n)) (throw_new P NullPointerException) (view h ls vs) (view h ls (v ∷ us)) told j refl refl
    (λ n e u r. (t (writes P s i (onward n)) e u).0 (null_to P 1 (k n) h ls (v ∷ us) e u top r))
    (λ n e u r. null_from P 1 (k n) h ls (v ∷ us) e u top ((t (writes P s i (onward n)) e u).1 r))
    (x (view h ls (v ∷ us)) refl))

-- it has the fields
abbrev pub HasFields : ProgramTables → SlotInfo → ℕ → Obj → Type 0
HasFields P s j o = (is_sub P o.kind (class_kind s.declared_in) ≡ true) × (j < length o.slots)

pub fields_there : (P : ProgramTables) (s : SlotInfo) (j a : ℕ) (h : Heap) (ls us : List Value) (v : Value) → CanBegin (writes P s j) (view h ls (v ∷ us)) → slice_get us 0 ≡ Some (reference_to (Some a))
    → IsSomeAnd (get h a) (HasFields P s j)
fields_there P s j a h ls us v (k, e, u, r) top =
    let f = first_is us (Some a) top in
    let w = view h ls (v ∷ us) in
    let n = name_from P 1 a (has_fields_of P 1 s.declared_in (WriteSlot j k)) h ls (v ∷ us) e u top r in
    let m : IsSomeAnd (get h a) (λ o. Runs (which (is_sub P o.kind (class_kind s.declared_in)) (WriteSlot j k)) w e u) =
    subst (λ g. IsSomeAnd g (λ v. OnObject h v (λ a o. Runs (which (is_sub P o.kind (class_kind s.declared_in)) (WriteSlot j k)) w e u))) top n in
    let x = at_some (get h a) (λ o. Runs (which (is_sub P o.kind (class_kind s.declared_in)) (WriteSlot j k)) w e u) m in
    let p = passed (is_sub P x.0.kind (class_kind s.declared_in)) (WriteSlot j k) w u e x.2 in
    let y : IsSomeAnd (get h a) (λ o. IsIn j o.slots × Runs k (view (with_slot h a o j v) ls f.0) e u) = run_off (WriteSlot j k) h ls (v ∷ us) (v ∷ Ref a ∷ f.0) e u (ap (λ us. v ∷ us) f.1) p.1 in
    let z : IsIn j x.0.slots × Runs k (view (with_slot h a x.0 j v) ls f.0) e u = subst (λ g. IsSomeAnd g (λ o. IsIn j o.slots × Runs k (view (with_slot h a o j v) ls f.0) e u)) x.1 y in
    subst (λ g. IsSomeAnd g (HasFields P s j)) (sym x.1) (p.0, z.0)

pub write_leads : (P : ProgramTables) (s : SlotInfo) (j a : ℕ) (h new : Heap) (ls vs rest us : List Value) (x v : Value) → Turns (kept_as s.kind) (view h ls vs) (view h ls (v ∷ rest)) → slice_get rest 0 ≡ Some (reference_to (Some a))
    → IsSomeAnd (get h a) (HasFields P s j) → IsSomeAnd (get h a) (λ o. new ≡ with_slot h a o j v) → rest ≡ x ∷ us → Leads (puts P s j) (view h ls vs) (view new ls us)
write_leads P s j a h new ls vs rest us x v t top fits written taken = λ k e u r.
    let f = first_is rest (Some a) top in
    let w = view h ls (v ∷ rest) in
    let same : rest ≡ Ref a ∷ us = f.1 ∙ ap (λ us. Ref a ∷ us) (tails (Ref a) f.0 x us (sym f.1 ∙ taken)) in
    let o = at_some (get h a) (HasFields P s j) fits in
    let is : new ≡ with_slot h a o.0 j v = subst (λ g. IsSomeAnd g (λ o. new ≡ with_slot h a o j v)) o.1 written in
    let go : Runs (WriteSlot j k) (view h ls (v ∷ Ref a ∷ us)) e u =
    subst (λ g. IsSomeAnd g (λ o. IsIn j o.slots × Runs k (view (with_slot h a o j v) ls us) e u)) (sym o.1) (o.2.1, subst (λ h. Runs k (view h ls us) e u) is r) in
    let p = pass (is_sub P o.0.kind (class_kind s.declared_in)) (WriteSlot j k) w u e o.2.0 (run_on (WriteSlot j k) h ls (v ∷ rest) (v ∷ Ref a ∷ us) e u (ap (λ us. v ∷ us) same) go) in
    let there : IsSomeAnd (get h a) (λ o. Runs (which (is_sub P o.kind (class_kind s.declared_in)) (WriteSlot j k)) w e u) =
    subst (λ g. IsSomeAnd g (λ o. Runs (which (is_sub P o.kind (class_kind s.declared_in)) (WriteSlot j k)) w e u)) (sym o.1) p in
    (t (writes P s j k) e u).0
    (name_to P 1 a (has_fields_of P 1 s.declared_in (WriteSlot j k)) h ls (v ∷ rest) e u top
    (subst (λ g. IsSomeAnd g (λ v. OnObject h v (λ a o. Runs (which (is_sub P o.kind (class_kind s.declared_in)) (WriteSlot j k)) w e u))) (sym top) there))
  where
    tails : (x : Value) (us : List Value) (y : Value) (ws : List Value) → x ∷ us ≡ y ∷ ws → us ≡ ws
    tails x us y ws e = cc

-- ---- an object that has fields isn't an array, so each of its slots can hold anything

any_here : (P : ProgramTables) → TypingFacts P → (d : ℕ) → is_above_arrays P (bases.Object d) ≡ true → admits_any P d ≡ true
any_here P t d p = by (d == built_in P built_ins.Object) (d == built_in P built_ins.Cloneable) (d == built_in P built_ins.Serializable) refl refl refl p
  where
    equal : (m n : ℕ) → (m == n) ≡ true → m ≡ n
    equal m n e = eqb-true m n e

    by : (a b c : Bool) → (d == built_in P built_ins.Object) ≡ a → (d == built_in P built_ins.Cloneable) ≡ b → (d == built_in P built_ins.Serializable) ≡ c → (a || (b || c)) ≡ true → admits_any P d ≡ true
    by true b c p q r s = ap (λ a. a || is_interface P d) p
    by false true c p q r s = ap (λ a. a || is_interface P d) p ∙ ap (is_interface P) (equal d (built_in P built_ins.Cloneable) q) ∙ t.cloneable
    by false false true p q r s = ap (λ a. a || is_interface P d) p ∙ ap (is_interface P) (equal d (built_in P built_ins.Serializable) r) ∙ t.serializable
    by false false false p q r s = absurd cc

no_element : (P : ProgramTables) → TypingFacts P → (d : ℕ) → admits_any P d ≡ false → (k : Kind) (n : ℕ) → is_sub P (record k { dims = n }) (class_kind d) ≡ true → element_of (record k { dims = n }) ≡ None
no_element P t d none k zero s = refl
no_element P t d none k (suc n) s = let a = any_here P t d s in absurd cc

pub field_keeps : (P : ProgramTables) (c j : ℕ) (s : SlotInfo) (h : Heap) (a : ℕ) (v : Value) → TypingFacts P → slice_get (slots_of P c) j ≡ Some s → IsSomeAnd (get h a) (HasFields P s j)
    → IsSomeAnd (get h a) (λ o. Keeps o.kind v)
field_keeps P c j s h a v t there fits =
    let d = t.declared c j s there in
    let none : admits_any P s.declared_in ≡ false = t.slotted s.declared_in j s d.1 in
    some_map (get h a) (HasFields P s j) (λ o. Keeps o.kind v) fits
    (λ o f. subst (λ e. IfSome e (λ e. IsOfKind e v)) (sym (no_element P t s.declared_in none o.kind o.kind.dims f.0)) tt)
