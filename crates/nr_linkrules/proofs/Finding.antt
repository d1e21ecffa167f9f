-- What linking finds for an instruction is what the rules on instructions give.
use Rattle.std.proofs.Common.{◌≡◌, ℕ, Bool, true, false, ◌&&◌, ◌||◌, not, List, Option, Some, None, Ok, Err, refl, sym, ap, subst, ◌∙◌, inl, inr}
use Rattle.std.specs.Prelude.{IsSomeAnd, IsTrue, codes, ◌==◌, if◌then◌else◌}
use Rattle.std.specs.Str.{bytes_eq}
use Rattle.std.specs.Option.{option_map_or}
use Rattle.std.proofs.lemmas.Bool.{and_from, and_parts, eq-eqb, eqb-true, or_left, or_right, or_cases, cases_Bool, both_ways}
use Rattle.nr_optable.specs.declared.table.Family.{Family}
use Rattle.nr_optable.specs.declared.table.Family.TheVariants.{F8, F30, F31, F32, F33, F34, F37}
use Rattle.nr_prog.specs.declared.body.instruction.Instr.{Instr}
use Rattle.nr_prog.specs.declared.pool.PoolEntry.{PoolEntry}
use Rattle.nr_prog.specs.declared.pool.PoolEntry.TheVariants.{FieldRef, Integer, InterfaceMethodRef, Long, MethodRef}
use Rattle.nr_prog.specs.BodyNames.{desc_text_at}
use Rattle.nr_prog.specs.Members.{is_static}
use Rattle.nr_prog.specs.Pool.{entry_at}
use Rattle.nr_instrs.specs.Checks.{then_on}
use Rattle.nr_linked.specs.declared.program.tables.ClassInfo.{ClassInfo}
use Rattle.nr_linked.specs.declared.program.tables.MethodInfo.{MethodInfo}
use Rattle.nr_linked.specs.declared.program.tables.ProgramTables.{ProgramTables}
use Rattle.nr_linked.specs.declared.program.tables.Resolved.{Resolved}
use Rattle.nr_linked.specs.declared.program.tables.Resolved.TheVariants as resolved
use Rattle.nr_linked.specs.Initialisers.{is_initialiser}
use Rattle.nr_linked.specs.Kinds.{class_kind, is_array}
use Rattle.nr_linked.specs.Linked.{Linked}
use Rattle.nr_linked.specs.Programs.{class_at, is_interface, method_at, methods_of}
use Rattle.nr_linked.specs.Selection.{is_called}
use Rattle.std.specs.List.{flat_map}
use Rattle.nr_linked.specs.Subtypes.{Above, is_above}
use Rattle.nr_links.specs.Found.{CanCall, IsCallFound, IsConstantFound, IsFieldFound, IsFound, IsFoundAt, IsFoundBy, IsKindFound, IsMadeFound, IsMethodFound, IsSlotFound, index_in}
use Rattle.nr_links.specs.Resolution.{class_with_members, classes_for, is_called_at, resolved_method, resolved_slot}
use Rattle.nr_links.proofs.Described.{same_bytes}
use Rattle.nr_linked.proofs.Elements.{found}
use Rattle.nr_linked.proofs.Ascents.{down, up}
use Rattle.nr_linkrules.specs.declared.fault.LinkFault.{LinkFault}
use Rattle.nr_linkrules.specs.Outline.{some_text}
use Rattle.nr_linkrules.specs.SiteRules.{Finding, Place, by_member, callable, can_call, constant_found, found_by, instr_found, kind_at, made_found, method_found, method_in, method_of, on_entry, on_member, is_same, slot_found, slot_in}
use Rattle.nr_linkrules.proofs.Naming.{named_is_found, wrap}

-- ---- tests

same_of : (a b : Bool) → a ≡ b → is_same a b ≡ true
same_of true b e = sym e
same_of false b e = ap not (sym e)

same_is : (a b : Bool) → is_same a b ≡ true → a ≡ b
same_is true b e = sym e
same_is false true e = absurd cc
same_is false false e = refl

-- what follows on what is found
pub then_of : {A B : Type 0} (o : Finding A) (f : A → Finding B) (x : A) → o ≡ Ok x → then_on o f ≡ f x
then_of o f x e = ap (λ o. then_on o f) e

implies : (a b : Bool) → (IsTrue a → IsTrue b) → (not a || b) ≡ true
implies true b h = h refl
implies false b h = refl

module _ (P : ProgramTables) (linked : Linked P) (own : ℕ) (entry : ClassInfo) (own_is : class_at P own ≡ Some entry) where
  above_or : (i : MethodInfo) (c : ℕ) → (is_initialiser i ≡ false → Above P own c) → (is_initialiser i || is_above P own c) ≡ true
  above_or i c h = elim (cases_Bool (is_initialiser i)) [
    | inl p ↦ or_left (is_initialiser i) (is_above P own c) p
    | inr q ↦ or_right (is_initialiser i) (is_above P own c) (down P linked own c entry own_is (h q))
  ]

  -- a call that can be one passes the test
  pub passes_call : (code c : ℕ) (i : MethodInfo) → CanCall P own code c i → can_call P own code c i ≡ true
  passes_call code c i h =
      and_from _ _ (same_of (is_interface P c) (code == 185) h.names)
      (and_from _ _ (same_of (is_static i.flags) (code == 184) h.static)
      (and_from _ _ (implies (is_initialiser i) (code == 183) (λ p. eq-eqb code 183 (h.initialiser p)))
      (implies (code == 183) (is_initialiser i || is_above P own c) (λ p. above_or i c (h.above (eqb-true code 183 p))))))

  -- and one that passes can be one
  pub call_passes : (code c : ℕ) (i : MethodInfo) → can_call P own code c i ≡ true → CanCall P own code c i
  call_passes code c i p =
      let a = and_parts (is_same (is_interface P c) (code == 185)) _ p in
      let b = and_parts (is_same (is_static i.flags) (code == 184)) _ a.1 in
      let d = and_parts (not (is_initialiser i) || code == 183) _ b.1 in
      record {
        names = same_is (is_interface P c) (code == 185) a.0;
        static = same_is (is_static i.flags) (code == 184) b.0;
        initialiser = λ init. eqb-true code 183 (elim (or_cases (not (is_initialiser i)) (code == 183) d.0) [ inl n ↦ absurd (both_ways (is_initialiser i) (of_not (is_initialiser i) n) init) | inr e ↦ e ]);
        above = λ e none. up P linked own c (elim (or_cases (not (code == 183)) (is_initialiser i || is_above P own c) d.1) [
          | inl n ↦ absurd (both_ways (code == 183) (of_not (code == 183) n) (eq-eqb code 183 e))
          | inr q ↦ elim (or_cases (is_initialiser i) (is_above P own c) q) [ inl r ↦ absurd (both_ways (is_initialiser i) none r) | inr r ↦ r ]
        ]);
      }
    where
      of_not : (b : Bool) → not b ≡ true → b ≡ false
      of_not true e = absurd cc
      of_not false e = refl

  -- ---- what is found is given

  module _ (pool : List PoolEntry) (p : Place) (here : p.own ≡ own) where
    slot_given : (named member : ℕ) (r : Resolved) → IsSlotFound P pool named member r → on_member P pool (slot_found P p) named member ≡ Ok r
    slot_given named member r f =
        then_of _ _ f.kind (named_is_found P pool linked named f.kind f.names.kind)
        ∙ ap (λ t. slot_found P p (some_text t) (some_text (desc_text_at pool member)) f.kind) f.names.named
        ∙ ap (λ t. slot_found P p f.name (some_text t) f.kind) f.names.described
        ∙ then_of _ (slot_in P p f.name f.desc) f.holder (wrap _ (class_with_members P f.kind) f.holder f.holds)
        ∙ then_of _ _ f.slot (wrap _ (resolved_slot P f.holder f.name f.desc) f.slot f.resolves)
        ∙ ap (λ r. Ok r) (sym f.found)

    field_given : (e : PoolEntry) (r : Resolved) → IsFieldFound P pool r e → by_member P pool (slot_found P p) e ≡ Ok r
    field_given (FieldRef named member) r f = slot_given named member r f
    field_given e r f = absurd f

    not_both : (a b : Bool) → (IsTrue b → a ≡ false) → (a && b) ≡ false
    not_both a true h = ap (λ a. a && true) (h refl)
    not_both true false h = refl
    not_both false false h = refl

    -- a method to which a reference resolves has its name
    pub resolved_name : (c m : ℕ) (name desc : List ℕ) (callee : MethodInfo) → resolved_method P c name desc ≡ Some m → method_at P m ≡ Some callee → callee.name ≡ name
    resolved_name c m name desc callee res is =
        let f = found (is_called_at P name desc) (flat_map (methods_of P) (classes_for P c name)) m res in
        let test : is_called name desc callee ≡ true = sym (ap (λ o. option_map_or (is_called name desc) o false) is) ∙ f.0 in
        same_bytes callee.name name (and_parts (bytes_eq callee.name name) (bytes_eq callee.desc desc) test).0

    call_given : (code named member : ℕ) (r : Resolved) → IsCallFound P own code pool named member r → on_member P pool (method_found P p code) named member ≡ Ok r
    call_given code named member r f =
        let name = resolved_name f.holder f.method f.name f.desc f.callee f.resolves f.is_callee in
        let no = not_both (is_array f.kind) (bytes_eq f.name (codes "<init>")) (λ init. f.no_array (subst (λ n. IsTrue (bytes_eq n (codes "<init>"))) (sym name) init)) in
        let method : method_of P f.kind f.name f.desc f.holder ≡ Some f.method = ap (λ b. if b then None else resolved_method P f.holder f.name f.desc) no ∙ f.resolves in
        let can : option_map_or (can_call P p.own code f.holder) (method_at P f.method) false ≡ true =
        ap (λ o. option_map_or (can_call P p.own code f.holder) o false) f.is_callee ∙ ap (λ own. can_call P own code f.holder f.callee) here ∙ passes_call code f.holder f.callee f.can_call in
        then_of _ _ f.kind (named_is_found P pool linked named f.kind f.names.kind)
        ∙ ap (λ t. method_found P p code (some_text t) (some_text (desc_text_at pool member)) f.kind) f.names.named
        ∙ ap (λ t. method_found P p code f.name (some_text t) f.kind) f.names.described
        ∙ then_of _ (method_in P p code f.name f.desc f.kind) f.holder (wrap _ (class_with_members P f.kind) f.holder f.holds)
        ∙ then_of _ (callable P p code f.holder) f.method (wrap _ (method_of P f.kind f.name f.desc f.holder) f.method method)
        ∙ ap (λ b. if b then Ok (resolved.Method f.method f.holder) else Err (Rattle.nr_linkrules.specs.declared.fault.LinkFault.TheVariants.MemberKind p.class_name p.method p.at)) can
        ∙ ap (λ r. Ok r) (sym f.found)

    method_given : (code : ℕ) (e : PoolEntry) (r : Resolved) → IsMethodFound P own code pool r e → by_member P pool (method_found P p code) e ≡ Ok r
    method_given code (MethodRef named member) r f = call_given code named member r f
    method_given code (InterfaceMethodRef named member) r f = call_given code named member r f
    method_given code e r f = absurd f

    constant_given : (e : PoolEntry) (r : Resolved) → IsConstantFound r e → constant_found e ≡ Ok r
    constant_given (Integer n) r f = ap (λ r. Ok r) (sym f)
    constant_given (Long n) r f = ap (λ r. Ok r) (sym f)
    constant_given e r f = absurd f

    entry_given : (F : PoolEntry → Type 0) (next : PoolEntry → Finding Resolved) (index : ℕ) (r : Resolved) → ((e : PoolEntry) → F e → next e ≡ Ok r) → IsSomeAnd (entry_at pool index) F → on_entry next pool index ≡ Ok r
    entry_given F next index r h f = of_option (entry_at pool index) f
      where
        of_option : (o : Option PoolEntry) → IsSomeAnd o F → option_map_or next o (Ok resolved.Nothing) ≡ Ok r
        of_option None f = absurd f
        of_option (Some e) f = h e f

    made_given : (index : ℕ) (r : Resolved) → IsMadeFound P pool index r → then_on (kind_at P pool index) (made_found P p) ≡ Ok r
    made_given index r f =
        then_of _ (made_found P p) (class_kind f.made) (named_is_found P pool linked index (class_kind f.made) f.names)
        ∙ ap (λ b. if b then Ok (resolved.Kind (class_kind f.made)) else Err (Rattle.nr_linkrules.specs.declared.fault.LinkFault.TheVariants.NotMakeable p.class_name p.method p.at)) f.makeable
        ∙ ap (λ r. Ok r) (sym f.found)

    kind_given : (index : ℕ) (r : Resolved) → IsKindFound P pool index r → ◌≡◌ {A = Finding Resolved} (then_on (kind_at P pool index) (λ k. Ok (resolved.Kind k))) (Ok r)
    kind_given index r f = then_of _ _ f.kind (named_is_found P pool linked index f.kind f.names) ∙ ap (λ r. Ok r) (sym f.found)

    given_by : (code index : ℕ) (r : Resolved) (f : Family) → IsFoundBy P own code pool index r f → found_by P p pool code index f ≡ Ok r
    given_by code index r F8 f = entry_given (IsConstantFound r) constant_found index r (λ e. constant_given e r) f
    given_by code index r F30 f = entry_given (IsFieldFound P pool r) _ index r (λ e. field_given e r) f
    given_by code index r F31 f = entry_given (IsFieldFound P pool r) _ index r (λ e. field_given e r) f
    given_by code index r F32 f = entry_given (IsMethodFound P own code pool r) _ index r (λ e. method_given code e r) f
    given_by code index r F33 f = made_given index r f
    given_by code index r F34 f = kind_given index r f
    given_by code index r F37 f = kind_given index r f
    given_by code index r family f = ap (λ r. Ok r) (sym f)

  pub found_is_given : (pool : List PoolEntry) (place : ℕ → Place) → ((at : ℕ) → (place at).own ≡ own) → (i : Instr) (r : Resolved) → IsFound P own pool i r → instr_found P place pool i ≡ Ok r
  unfolding instr_found
  found_is_given pool place here i r f = of_option (index_in i.args) f
    where
      of_option : (o : Option ℕ) → IsFoundAt P own pool i r o → option_map_or (λ index. found_by P (place i.at) pool i.row.code index i.row.family) o (Ok resolved.Nothing) ≡ Ok r
      of_option None f = ap (λ r. Ok r) (sym f)
      of_option (Some index) f = given_by pool (place i.at) (here i.at) i.row.code index r i.row.family f
