-- Stores into arrays.
use Rattle.std.proofs.Common.{◌≡◌, ◌≢◌, ℕ, suc, ◌%◌, ◌^◌, ℤ, List, ◌∷◌, length, Option, Some, None, IsSomeAnd, refl, sym, subst, ap, ◌∙◌, Bool, true, false, not, ◌||◌, ◌==◌, cond, slice_get, arith, of_z, to_z, w8, w16, w32, SFits, IfSome, MatchBool, ◌⊎◌, inl, inr, is_some, zero}
use Rattle.std.specs.List.{list_all}
use Rattle.std.specs.Int.{cast_unsigned}
use Rattle.std.specs.FinMap.{get}
use Rattle.std.proofs.lemmas.Int.{SFits-int_wrap, to_z-of_z}
use Rattle.nr_optable.specs.declared.table.Family.TheVariants.{F11}
use Rattle.nr_optable.specs.declared.table.Letter.{Letter}
use Rattle.nr_optable.specs.declared.table.Letter.TheVariants as letters
use Rattle.nr_optable.specs.declared.table.Row.{Row}
use Rattle.nr_optable.specs.Rows.{all_rows}
use Rattle.nr_prog.specs.declared.body.instruction.Instr.{Instr}
use Rattle.nr_linked.specs.declared.program.built_in.BuiltIn.TheVariants.{ArrayIndexOutOfBoundsException, NullPointerException}
use Rattle.nr_linked.specs.declared.program.kind.Base.{Base}
use Rattle.nr_linked.specs.declared.program.kind.Base.TheVariants as bases
use Rattle.nr_linked.specs.declared.program.kind.Kind.{Kind}
use Rattle.nr_linked.specs.declared.program.tables.MethodInfo.{MethodInfo}
use Rattle.nr_linked.specs.declared.program.tables.ProgramTables.{ProgramTables}
use Rattle.nr_linked.specs.declared.program.tables.Resolved.{Resolved}
use Rattle.nr_linked.specs.ArrayKinds.{Elements, Of, Bytes, References, elements_of, is_base, is_element}
use Rattle.nr_linked.specs.Kinds.{class_in, element_of, is_array, is_reference, is_same_primitive}
use Rattle.nr_model.specs.declared.value.Value.{Value}
use Rattle.nr_model.specs.declared.value.Value.TheVariants.{Int, Long, Ref}
use Rattle.nr_model.specs.Heaps.{Heap, on_some}
use Rattle.nr_model.specs.ArrayRules.{array_store, narrowed}
use Rattle.nr_model.specs.Rules.{third_letter}
use Rattle.nr_model.specs.Scripts.{Ending, IsIn, OnReference, PlainInt, PlainLong, PopInt, PopLong, Push, Runs, Script, Within, WriteSlot, with_slot}
use Rattle.nr_model.specs.Throws.{at_index, not_null, onward, throw_new, with_found}
use Rattle.nr_heap.specs.Contents.{Contents, IsOfBase, IsOfKind, Keeps}
use Rattle.nr_step.specs.declared.flow.Flow.{Flow}
use Rattle.nr_step.specs.declared.flow.Told.{Told}
use Rattle.nr_step.specs.Elements.{are_ints, holds_ints, place_of}
use Rattle.nr_step.specs.Flows.{Doing, ThrewNew, Went}
use Rattle.nr_step.specs.Instructions.{IsRowOf, is_int_store}
use Rattle.nr_step.specs.Windows.{CanBegin, IntOnTop, Leads, LongOnTop, ReferenceAt, reference_to, view}
use Rattle.nr_step.proofs.ArrayRules.{IsArrayOf, array_from, array_to, index_in, index_out, name_from, name_to, null_from, null_to, on_array, place_there, run_in}
use Rattle.nr_step.proofs.Families.{AllOf, rule_by}
use Rattle.nr_step.proofs.Going.{went_by, went_thrown}
use Rattle.nr_step.proofs.Objects.{asks_null, first_is, some_map}
use Rattle.nr_step.proofs.Rows.{IsRule, both, each_row}
use Rattle.nr_step.proofs.Tops.{after_int, after_long, int_top, long_top, run_off, run_on}

-- ---- at an index of the array at a depth

abbrev pub at_element : ProgramTables → ℕ → Elements → ℤ → (Kind → ℕ → Script) → Script
at_element P d el i k = not_null P d (on_array d el (λ n e. at_index P n i (k e)))

pub element_asks : (P : ProgramTables) (d : ℕ) (el : Elements) (i : ℤ) (k : Kind → ℕ → Script) (h : Heap) (ls vs : List Value) (e : Ending) (u : Within) → Runs (at_element P d el i k) (view h ls vs) e u → ReferenceAt vs d
element_asks P d el i k h ls vs e u r = asks_null d (λ null. cond null (throw_new P NullPointerException) (on_array d el (λ n e. at_index P n i (k e)))) h ls vs e u r

pub element_array : (P : ProgramTables) (d : ℕ) (el : Elements) (i : ℤ) (k : Kind → ℕ → Script) (a : ℕ) (h : Heap) (ls vs : List Value) (e : Ending) (u : Within) → slice_get vs d ≡ Some (reference_to (Some a))
    → Runs (at_element P d el i k) (view h ls vs) e u → IsArrayOf h a el
element_array P d el i k a h ls vs e u t r =
    (array_from d a el (λ n e. at_index P n i (k e)) h ls vs e u t (name_from P d a (on_array d el (λ n e. at_index P n i (k e))) h ls vs e u t r)).array

out_to : (P : ProgramTables) (d : ℕ) (el : Elements) (i : ℤ) (k : Kind → ℕ → Script) (a : ℕ) (h : Heap) (ls vs : List Value) (e : Ending) (u : Within) → slice_get vs d ≡ Some (reference_to (Some a))
    → (y : IsArrayOf h a el) → place_of i (length y.object.slots) ≡ None → Runs (throw_new P ArrayIndexOutOfBoundsException) (view h ls vs) e u → Runs (at_element P d el i k) (view h ls vs) e u
out_to P d el i k a h ls vs e u t y out r =
    name_to P d a (on_array d el (λ n e. at_index P n i (k e))) h ls vs e u t
    (array_to d a el (λ n e. at_index P n i (k e)) h ls vs e u t y (subst (λ sc. Runs sc (view h ls vs) e u) (sym (index_out P (length y.object.slots) i (k y.element) out)) r))

out_from : (P : ProgramTables) (d : ℕ) (el : Elements) (i : ℤ) (k : Kind → ℕ → Script) (a : ℕ) (h : Heap) (ls vs : List Value) (e : Ending) (u : Within) → slice_get vs d ≡ Some (reference_to (Some a))
    → (y : IsArrayOf h a el) → place_of i (length y.object.slots) ≡ None → Runs (at_element P d el i k) (view h ls vs) e u → Runs (throw_new P ArrayIndexOutOfBoundsException) (view h ls vs) e u
out_from P d el i k a h ls vs e u t y out r =
    let z = array_from d a el (λ n e. at_index P n i (k e)) h ls vs e u t (name_from P d a (on_array d el (λ n e. at_index P n i (k e))) h ls vs e u t r) in
    subst (λ sc. Runs sc (view h ls vs) e u) (index_out P (length y.object.slots) i (k y.element) out) (run_in h a el (λ n e. at_index P n i (k e)) (view h ls vs) u e z.array y z.runs)

pub in_to : (P : ProgramTables) (d : ℕ) (el : Elements) (i : ℤ) (k : Kind → ℕ → Script) (a j : ℕ) (h : Heap) (ls vs : List Value) (e : Ending) (u : Within) → slice_get vs d ≡ Some (reference_to (Some a))
    → (y : IsArrayOf h a el) → place_of i (length y.object.slots) ≡ Some j → Runs (k y.element j) (view h ls vs) e u → Runs (at_element P d el i k) (view h ls vs) e u
in_to P d el i k a j h ls vs e u t y within r =
    name_to P d a (on_array d el (λ n e. at_index P n i (k e))) h ls vs e u t
    (array_to d a el (λ n e. at_index P n i (k e)) h ls vs e u t y (subst (λ sc. Runs sc (view h ls vs) e u) (sym (index_in P (length y.object.slots) i j (k y.element) within)) r))

pub in_from : (P : ProgramTables) (d : ℕ) (el : Elements) (i : ℤ) (k : Kind → ℕ → Script) (a j : ℕ) (h : Heap) (ls vs : List Value) (e : Ending) (u : Within) → slice_get vs d ≡ Some (reference_to (Some a))
    → (y : IsArrayOf h a el) → place_of i (length y.object.slots) ≡ Some j → Runs (at_element P d el i k) (view h ls vs) e u → Runs (k y.element j) (view h ls vs) e u
in_from P d el i k a j h ls vs e u t y within r =
    let z = array_from d a el (λ n e. at_index P n i (k e)) h ls vs e u t (name_from P d a (on_array d el (λ n e. at_index P n i (k e))) h ls vs e u t r) in
    subst (λ sc. Runs sc (view h ls vs) e u) (index_in P (length y.object.slots) i j (k y.element) within) (run_in h a el (λ n e. at_index P n i (k e)) (view h ls vs) u e z.array y z.runs)

-- ---- a store of a value, of which a place keeps so much

-- the values on top, and what is done below them
abbrev pub Over : (Script → Script) → List Value → List Value → (Script → Script) → Type 0
Over F vs rest G = (k : Script) (h : Heap) (ls : List Value) (e : Ending) (u : Within) → (Runs (F k) (view h ls vs) e u → Runs (G k) (view h ls rest) e u) × (Runs (G k) (view h ls rest) e u → Runs (F k) (view h ls vs) e u)

pub store_null : (flow : Flow) (P : ProgramTables) (S : Doing) (F : Script → Script) (d : ℕ) (el : Elements) (k : Script → Kind → ℕ → Script) (i : ℤ) (h j : Heap) (ls vs rest : List Value) (told : Told)
    → Over F vs rest (λ s. at_element P d el i (k s)) → slice_get rest d ≡ Some (reference_to None)
    → ((n : Option ℕ) → S n ≡ F (onward n)) → ((w : Within) → w.heap ≡ h → ThrewNew flow (throw_new P NullPointerException) w told j) → Went flow P S (view h ls vs) told (view j ls vs)
store_null flow P S F d el k i h j ls vs rest told over t same x =
    went_by flow P S (λ n. F (onward n)) (view h ls vs) told (view j ls vs) same
    (went_thrown flow P (λ n. F (onward n)) (throw_new P NullPointerException) (view h ls vs) (view h ls rest) told j refl refl
    (λ n e u r. (over (onward n) h ls e u).1 (null_to P d (on_array d el (λ m e. at_index P m i (k (onward n) e))) h ls rest e u t r))
    (λ n e u r. null_from P d (on_array d el (λ m e. at_index P m i (k (onward n) e))) h ls rest e u t ((over (onward n) h ls e u).0 r))
    (x (view h ls rest) refl))

pub store_out : (flow : Flow) (P : ProgramTables) (S : Doing) (F : Script → Script) (d : ℕ) (el : Elements) (k : Script → Kind → ℕ → Script) (i : ℤ) (a : ℕ) (h j : Heap) (ls vs rest : List Value) (told : Told)
    → Over F vs rest (λ s. at_element P d el i (k s)) → slice_get rest d ≡ Some (reference_to (Some a)) → (y : IsArrayOf h a el) → place_of i (length y.object.slots) ≡ None
    → ((n : Option ℕ) → S n ≡ F (onward n)) → ((w : Within) → w.heap ≡ h → ThrewNew flow (throw_new P ArrayIndexOutOfBoundsException) w told j) → Went flow P S (view h ls vs) told (view j ls vs)
store_out flow P S F d el k i a h j ls vs rest told over t y out same x =
    went_by flow P S (λ n. F (onward n)) (view h ls vs) told (view j ls vs) same
    (went_thrown flow P (λ n. F (onward n)) (throw_new P ArrayIndexOutOfBoundsException) (view h ls vs) (view h ls rest) told j refl refl
    (λ n e u r. (over (onward n) h ls e u).1 (out_to P d el i (k (onward n)) a h ls rest e u t y out r))
    (λ n e u r. out_from P d el i (k (onward n)) a h ls rest e u t y out ((over (onward n) h ls e u).0 r))
    (x (view h ls rest) refl))

-- where the value that the place keeps is pushed, and written
pub store_leads : (P : ProgramTables) (F : Script → Script) (el : Elements) (k : Script → Kind → ℕ → Script) (i : ℤ) (a j : ℕ) (h new : Heap) (ls vs rest us : List Value) (x v : Value)
    → Over F vs rest (λ s. at_element P 0 el i (k s)) → slice_get rest 0 ≡ Some (reference_to (Some a)) → (y : IsArrayOf h a el) → place_of i (length y.object.slots) ≡ Some j
    → ((s : Script) (e : Ending) (u : Within) → Runs (WriteSlot j s) (view h ls (v ∷ rest)) e u → Runs (k s y.element j) (view h ls rest) e u)
    → rest ≡ x ∷ us → IsSomeAnd (get h a) (λ o. new ≡ with_slot h a o j v)
    → Leads F (view h ls vs) (view new ls us)
store_leads P F el k i a j h new ls vs rest us x v over t y within pushes taken written = λ s e u r.
    let f = first_is rest (Some a) t in
    let same : rest ≡ Ref a ∷ us = f.1 ∙ ap (λ us. Ref a ∷ us) (tails (Ref a) f.0 x us (sym f.1 ∙ taken)) in
    let is : new ≡ with_slot h a y.object j v = subst (λ g. IsSomeAnd g (λ o. new ≡ with_slot h a o j v)) y.there written in
    let go : Runs (WriteSlot j s) (view h ls (v ∷ Ref a ∷ us)) e u =
    subst (λ g. IsSomeAnd g (λ o. IsIn j o.slots × Runs s (view (with_slot h a o j v) ls us) e u)) (sym y.there)
    (place_there i (length y.object.slots) j within, subst (λ h. Runs s (view h ls us) e u) is r) in
    (over s h ls e u).1 (in_to P 0 el i (k s) a j h ls rest e u t y within (pushes s e u (run_on (WriteSlot j s) h ls (v ∷ rest) (v ∷ Ref a ∷ us) e u (ap (λ us. v ∷ us) same) go)))
  where
    tails : (x : Value) (us : List Value) (y : Value) (ws : List Value) → x ∷ us ≡ y ∷ ws → us ≡ ws
    tails x us y ws e = cc

-- ---- ints

int_stores : AllOf is_int_store F11
unfolding all_rows
int_stores = refl

abbrev is_I : Letter → Bool
is_I letters.I = true
is_I letter = false

of_I : (l : Letter) → is_I l ≡ true → l ≡ letters.I
of_I letters.I p = refl
of_I l p = absurd cc

int_letters : list_all (λ (r : Row). not (is_int_store r.code) || is_I (third_letter r.pops)) all_rows ≡ true
unfolding all_rows
int_letters = refl

abbrev pub kept_int : ℤ → Script → Kind → ℕ → Script
kept_int v s e j = Push (PlainInt (narrowed e.base v)) (WriteSlot j s)

abbrev pub int_stored : ProgramTables → Elements → Script → Script
int_stored P el k = PopInt (λ v. PopInt (λ i. at_element P 0 el i (kept_int v k)))

pub int_store_rule : (P : ProgramTables) (own : MethodInfo) (i : Instr) (found : Resolved) (code : ℕ) (el : Elements) → IsRowOf code i.row → is_int_store code ≡ true → elements_of code ≡ Some el → IsRule P own i found (int_stored P el)
int_store_rule P own i found code el r s q = λ n.
    rule_by is_int_store F11 int_stores P own i found code r s n
    ∙ ap (λ l. array_store P l i.row.code (onward n)) (of_I (third_letter i.row.pops) (each_row (λ r. is_int_store r.code) (λ r. is_I (third_letter r.pops)) int_letters i.row r.listed (ap is_int_store r.code ∙ s)))
    ∙ ap (λ c. array_store P letters.I c (onward n)) r.code
    ∙ ap (λ o. PopInt (λ v. PopInt (λ i. with_found o (λ el. at_element P 0 el i (kept_int v (onward n)))))) q

pub int_over : (P : ProgramTables) (el : Elements) (v i : ℤ) (vs us rest : List Value) → vs ≡ Int v ∷ us → us ≡ Int i ∷ rest → Over (int_stored P el) vs rest (λ s. at_element P 0 el i (kept_int v s))
int_over P el v i vs us rest p q = λ s h ls e u.
    let is : vs ≡ Int v ∷ Int i ∷ rest = p ∙ ap (λ us. Int v ∷ us) q in
    (λ r. run_off (int_stored P el s) h ls vs (Int v ∷ Int i ∷ rest) e u is r, λ r. run_on (int_stored P el s) h ls vs (Int v ∷ Int i ∷ rest) e u is r)

pub int_store_top : (P : ProgramTables) (el : Elements) (h : Heap) (ls vs : List Value) → CanBegin (int_stored P el) (view h ls vs) → IntOnTop vs
int_store_top P el h ls vs (k, e, u, r) = int_top (λ v. PopInt (λ i. at_element P 0 el i (kept_int v k))) h ls vs e u r

pub int_store_next : (P : ProgramTables) (el : Elements) (v : ℤ) (h : Heap) (ls vs us : List Value) → CanBegin (int_stored P el) (view h ls vs) → vs ≡ Int v ∷ us → IntOnTop us
int_store_next P el v h ls vs us (k, e, u, r) p =
    int_top (λ i. at_element P 0 el i (kept_int v k)) h ls us e u (after_int (λ v. PopInt (λ i. at_element P 0 el i (kept_int v k))) v h ls vs us e u p r)

-- ---- what a place can keep

narrowed_ok : (b : Base) (n : ℤ) → b ≢ bases.Long → IsOfBase b (Int (narrowed b n))
narrowed_ok bases.Bool n d = (cast_unsigned w32 n % 2, refl, omega arith)
narrowed_ok bases.Byte n d = SFits-int_wrap w8 n
narrowed_ok bases.Char n d = (cast_unsigned w32 n % 2 ^ 16, refl, omega arith)
narrowed_ok bases.Short n d = SFits-int_wrap w16 n
narrowed_ok bases.Long n d = absurd (d refl)
narrowed_ok b n d = tt

pub keeps_element : (h : Heap) (a : ℕ) (el : Elements) (y : IsArrayOf h a el) (v : Value) → IsOfKind y.element v → IsSomeAnd (get h a) (λ o. Keeps o.kind v)
keeps_element h a el y v k =
    subst (λ g. IsSomeAnd g (λ o. Keeps o.kind v)) (sym y.there) (subst (λ s. IfSome s (λ e. IsOfKind e v)) (sym y.has) k)

or_cases : (b c : Bool) → (b || c) ≡ true → (b ≡ true) ⊎ (c ≡ true)
or_cases true c p = inl refl
or_cases false c p = inr p

no_class : (a b : Base) → is_same_primitive a b ≡ true → is_some (class_in b) ≡ false
no_class bases.Bool bases.Bool p = refl
no_class bases.Byte bases.Byte p = refl
no_class bases.Char bases.Char p = refl
no_class bases.Short bases.Short p = refl
no_class bases.Int bases.Int p = refl
no_class bases.Long bases.Long p = refl
no_class a b p = absurd cc

same_long : (a b : Base) → is_same_primitive a b ≡ true → b ≡ bases.Long → a ≡ bases.Long
same_long bases.Bool bases.Bool p q = absurd cc
same_long bases.Byte bases.Byte p q = absurd cc
same_long bases.Char bases.Char p q = absurd cc
same_long bases.Short bases.Short p q = absurd cc
same_long bases.Int bases.Int p q = absurd cc
same_long bases.Long bases.Long p q = refl
same_long a b p q = absurd cc

is_prim : (b : Base) (e : Kind) → is_base b e ≡ true → (is_reference e ≡ false) × (is_same_primitive b e.base ≡ true)
is_prim b e p =
    let x = both (not (is_array e)) (is_same_primitive b e.base) p in
    (parts (is_array e) (is_some (class_in e.base)) x.0 (no_class b e.base x.1), x.1)
  where
    parts : (a c : Bool) → not a ≡ true → c ≡ false → (a || c) ≡ false
    parts true c p q = absurd cc
    parts false c p q = q

pub int_kind : (el : Elements) (e : Kind) → are_ints el ≡ true → is_element el e ≡ true → (is_reference e ≡ false) × (e.base ≢ bases.Long)
int_kind (Of bases.Int) e p q = let x = is_prim bases.Int e q in (x.0, λ l. absurd (int_long (same_long bases.Int e.base x.1 l)))
  where
    int_long : bases.Int ≡ bases.Long → ⊥
    int_long e = cc
int_kind (Of bases.Char) e p q = let x = is_prim bases.Char e q in (x.0, λ l. absurd (char_long (same_long bases.Char e.base x.1 l)))
  where
    char_long : bases.Char ≡ bases.Long → ⊥
    char_long e = cc
int_kind (Of bases.Short) e p q = let x = is_prim bases.Short e q in (x.0, λ l. absurd (short_long (same_long bases.Short e.base x.1 l)))
  where
    short_long : bases.Short ≡ bases.Long → ⊥
    short_long e = cc
int_kind (Of b) e p q = absurd cc
int_kind Bytes e p q = by (or_cases (is_base bases.Byte e) (is_base bases.Bool e) q)
  where
    byte_long : bases.Byte ≡ bases.Long → ⊥
    byte_long e = cc

    bool_long : bases.Bool ≡ bases.Long → ⊥
    bool_long e = cc

    by : (is_base bases.Byte e ≡ true) ⊎ (is_base bases.Bool e ≡ true) → (is_reference e ≡ false) × (e.base ≢ bases.Long)
    by (inl r) = let x = is_prim bases.Byte e r in (x.0, λ l. absurd (byte_long (same_long bases.Byte e.base x.1 l)))
    by (inr r) = let x = is_prim bases.Bool e r in (x.0, λ l. absurd (bool_long (same_long bases.Bool e.base x.1 l)))
int_kind References e p q = absurd cc

pub int_kept : (el : Elements) (e : Kind) (n : ℤ) → are_ints el ≡ true → is_element el e ≡ true → IsOfKind e (Int (narrowed e.base n))
int_kept el e n p q =
    let x = int_kind el e p q in
    subst (λ b. MatchBool b (OnReference (Int (narrowed e.base n)) (λ a. Unit {0})) (IsOfBase e.base (Int (narrowed e.base n)))) (sym x.0) (narrowed_ok e.base n x.1)

pub long_kept : (e : Kind) (n : ℤ) → is_element (Of bases.Long) e ≡ true → IsOfKind e (Long n)
long_kept e n q =
    let x = is_prim bases.Long e q in
    subst (λ b. MatchBool b (OnReference (Long n) (λ a. Unit {0})) (IsOfBase e.base (Long n))) (sym x.0) (by e.base x.1)
  where
    by : (b : Base) → is_same_primitive bases.Long b ≡ true → IsOfBase b (Long n)
    by bases.Long p = tt
    by b p = absurd cc

pub element_base : (k e : Kind) → element_of k ≡ Some e → e.base ≡ k.base
element_base k e q = by k.dims q
  where
    some_eq : {X : Type 0} {a b : X} → Some a ≡ Some b → a ≡ b
    some_eq e = cc

    by : (d : ℕ) → element_of (record k { dims = d }) ≡ Some e → e.base ≡ k.base
    by zero q = absurd cc
    by (suc d) q = ap (λ (k : Kind). k.base) (sym (some_eq q))

pub base_seen : (h : Heap) (a : ℕ) (el : Elements) (y : IsArrayOf h a el) (k : Kind) → IsSomeAnd (get h a) (λ o. o.kind ≡ k) → y.element.base ≡ k.base
base_seen h a el y k s = element_base y.object.kind y.element y.has ∙ ap (λ (k : Kind). k.base) (subst (λ g. IsSomeAnd g (λ o. o.kind ≡ k)) y.there s)

pub ints_of : (code : ℕ) (el : Elements) → holds_ints code ≡ true → elements_of code ≡ Some el → are_ints el ≡ true
ints_of code el p q = subst (λ o. on_some o false are_ints ≡ true) q p

-- ---- longs

long_stores : AllOf (λ c. c == 80) F11
unfolding all_rows
long_stores = refl

abbrev is_J : Letter → Bool
is_J letters.J = true
is_J letter = false

of_J : (l : Letter) → is_J l ≡ true → l ≡ letters.J
of_J letters.J p = refl
of_J l p = absurd cc

long_letters : list_all (λ (r : Row). not (r.code == 80) || is_J (third_letter r.pops)) all_rows ≡ true
unfolding all_rows
long_letters = refl

abbrev pub kept_long : ℤ → Script → Kind → ℕ → Script
kept_long v s e j = Push (PlainLong v) (WriteSlot j s)

abbrev pub long_stored : ProgramTables → Script → Script
long_stored P k = PopLong (λ v. PopInt (λ i. at_element P 0 (Of bases.Long) i (kept_long v k)))

pub long_store_rule : (P : ProgramTables) (own : MethodInfo) (i : Instr) (found : Resolved) → IsRowOf 80 i.row → IsRule P own i found (long_stored P)
long_store_rule P own i found r = λ n.
    rule_by (λ c. c == 80) F11 long_stores P own i found 80 r refl n
    ∙ ap (λ l. array_store P l i.row.code (onward n)) (of_J (third_letter i.row.pops) (each_row (λ r. r.code == 80) (λ r. is_J (third_letter r.pops)) long_letters i.row r.listed (ap (λ c. c == 80) r.code)))
    ∙ ap (λ c. array_store P letters.J c (onward n)) r.code

pub long_over : (P : ProgramTables) (v i : ℤ) (vs us rest : List Value) → vs ≡ Long v ∷ us → us ≡ Int i ∷ rest → Over (long_stored P) vs rest (λ s. at_element P 0 (Of bases.Long) i (kept_long v s))
long_over P v i vs us rest p q = λ s h ls e u.
    let is : vs ≡ Long v ∷ Int i ∷ rest = p ∙ ap (λ us. Long v ∷ us) q in
    (λ r. run_off (long_stored P s) h ls vs (Long v ∷ Int i ∷ rest) e u is r, λ r. run_on (long_stored P s) h ls vs (Long v ∷ Int i ∷ rest) e u is r)

pub long_store_top : (P : ProgramTables) (h : Heap) (ls vs : List Value) → CanBegin (long_stored P) (view h ls vs) → LongOnTop vs
long_store_top P h ls vs (k, e, u, r) = long_top (λ v. PopInt (λ i. at_element P 0 (Of bases.Long) i (kept_long v k))) h ls vs e u r

pub long_store_next : (P : ProgramTables) (v : ℤ) (h : Heap) (ls vs us : List Value) → CanBegin (long_stored P) (view h ls vs) → vs ≡ Long v ∷ us → IntOnTop us
long_store_next P v h ls vs us (k, e, u, r) p =
    int_top (λ i. at_element P 0 (Of bases.Long) i (kept_long v k)) h ls us e u (after_long (λ v. PopInt (λ i. at_element P 0 (Of bases.Long) i (kept_long v k))) v h ls vs us e u p r)

-- ---- what the code writes

pub int_written : (kept value : ℤ) (b c : Base) → SFits w32 kept → SFits w32 value → kept ≡ narrowed c (to_z w32 (of_z w32 value)) → b ≡ c → Int (to_z w32 (of_z w32 kept)) ≡ Int (narrowed b value)
int_written kept value b c f g k s = ap Int (to_z-of_z w32 kept f ∙ k ∙ ap (λ n. narrowed c n) (to_z-of_z w32 value g) ∙ ap (λ b. narrowed b value) (sym s))

pub slot_written : (h : Heap) (a j : ℕ) (v : Value) (old new : Contents) → old.objects ≡ h → IsSomeAnd (get h a) (λ o. new ≡ record old { objects = with_slot h a o j v }) → IsSomeAnd (get h a) (λ o. new.objects ≡ with_slot h a o j v)
slot_written h a j v old new q s = some_map (get h a) (λ o. new ≡ record old { objects = with_slot h a o j v }) (λ o. new.objects ≡ with_slot h a o j v) s (λ o e. ap (λ (c : Contents). c.objects) e)
