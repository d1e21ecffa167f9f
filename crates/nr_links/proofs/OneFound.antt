-- In two programs with one table of classes the same is found for an instruction, a handler and a frame map.
use Rattle.std.proofs.Common.{◌≡◌, ℕ, inl, inr, false, find, List, refl, sym, ap, subst, ◌∙◌, arith, ◌&&◌}
use Rattle.std.specs.Prelude.{Option, Some, None, All, IsSomeAnd}
use Rattle.std.specs.List.{flat_map}
use Rattle.std.specs.Option.{option_map_or}
use Rattle.std.specs.Str.{bytes_eq}
use Rattle.std.proofs.lemmas.Bool.{cases_lt}
use Rattle.std.proofs.lemmas.Option.{same_Some}
use Rattle.nr_base.specs.declared.desc.types.Desc.{Desc}
use Rattle.nr_optable.specs.declared.table.Family.{Family}
use Rattle.nr_optable.specs.declared.table.Family.TheVariants.{F8, F30, F31, F32, F33, F34, F37}
use Rattle.nr_prog.specs.declared.body.instruction.Instr.{Instr}
use Rattle.nr_prog.specs.declared.body.loaded.Loaded.{Loaded}
use Rattle.nr_prog.specs.declared.member.Handler.{Handler}
use Rattle.nr_prog.specs.declared.pool.PoolEntry.{PoolEntry}
use Rattle.nr_prog.specs.declared.pool.PoolEntry.TheVariants.{FieldRef, Integer, InterfaceMethodRef, Long, MethodRef}
use Rattle.nr_prog.specs.BodyNames.{IsClassOf, class_text_at}
use Rattle.nr_prog.specs.Pool.{entry_at}
use Rattle.nr_linked.specs.declared.program.kind.Kind.{Kind}
use Rattle.nr_linked.specs.declared.program.tables.ClassInfo.{ClassInfo}
use Rattle.nr_linked.specs.declared.program.tables.MethodInfo.{MethodInfo}
use Rattle.nr_linked.specs.declared.program.tables.ProgramTables.{ProgramTables}
use Rattle.nr_linked.specs.declared.program.tables.Resolved.{Resolved}
use Rattle.nr_linked.specs.declared.program.tables.Resolved.TheVariants as resolved
use Rattle.nr_linked.specs.Kinds.{class_kind}
use Rattle.nr_linked.specs.KindTexts.{kind_desc}
use Rattle.nr_linked.specs.Programs.{methods_of}
use Rattle.nr_linked.specs.Selection.{is_called}
use Rattle.nr_links.specs.Entries.{IsCaught, method_count}
use Rattle.nr_links.specs.Found.{IsCallFound, IsConstantFound, IsFieldFound, IsFound, IsFoundAt, IsFoundBy, IsKindFound, IsMethodFound, IsSlotFound, index_in}
use Rattle.nr_links.specs.Links.{IsDecoded, Links}
use Rattle.nr_links.specs.Named.{NamesKind}
use Rattle.nr_links.specs.Resolution.{class_with_members, classes_for, is_called_at, resolved_method, resolved_slot}
use Rattle.nr_links.proofs.Descriptors.{one_desc, one_kind}
use Rattle.nr_links.proofs.MethodEntries.{method_from, stand}
use Rattle.nr_links.proofs.OneNames.{same_functions, same_past_methods}
use Rattle.nr_linked.proofs.Elements.{get_below, some_of}
use Rattle.nr_links.proofs.SiteFacts.{array_name}

abbrev pub with_methods : List ClassInfo → List MethodInfo → ProgramTables
with_methods C M = record { classes = C; methods = M }

-- ---- names

one_class_of : (bytes : List ℕ) (d e : Desc) → IsClassOf bytes d → IsClassOf bytes e → d ≡ e
one_class_of bytes d e (inl p) (inl q) = p.0 ∙ sym q.0
one_class_of bytes d e (inr p) (inr q) = one_desc d e bytes p.0 q.0
one_class_of bytes d e (inl p) (inr q) = absurd (array_name e bytes q.0 q.1 p.1)
one_class_of bytes d e (inr p) (inl q) = absurd (array_name d bytes p.0 p.1 q.1)

pair_same : (a b c d : List ℕ) → a ≡ c → b ≡ d → ◌≡◌ {A = List ℕ × List ℕ} (a, b) (c, d)
pair_same a b c d p q = λ i. (p i, q i)

module _ (classes : List Loaded) (all : All IsDecoded classes) (C : List ClassInfo) (M N : List MethodInfo) (L : Links classes (with_methods C M)) (K : Links classes (with_methods C N)) where
  pub one_named : (pool : List PoolEntry) (index : ℕ) (j k : Kind) → NamesKind (with_methods C M) pool index j → NamesKind (with_methods C N) pool index k → j ≡ k
  one_named pool index j k p q =
      let a = some_of (λ bytes. IsClassOf bytes (kind_desc (with_methods C M) j)) (class_text_at pool index) p.text in
      let b = some_of (λ bytes. IsClassOf bytes (kind_desc (with_methods C N) k)) (class_text_at pool index) q.text in
      let same = same_Some b.0 a.0 (sym b.1 ∙ a.1) in
      one_kind (with_methods C M) L.linked j k p.known q.known (one_class_of a.0 _ _ a.2 (subst (λ t. IsClassOf t (kind_desc (with_methods C N) k)) same b.2))

  -- ---- resolution

  called_same : (name desc : List ℕ) (n : ℕ) → is_called_at (with_methods C M) name desc n ≡ is_called_at (with_methods C N) name desc n
  called_same name desc n = elim (cases_lt n (method_count classes)) [
    | inl below ↦ let s = stand classes all n below in
        let i = get_below M n (omega (arith, L.method_count, below)) in
        let j = get_below N n (omega (arith, K.method_count, below)) in
        let f = method_from classes (with_methods C M) L n i.0 s.own s.l s.m s.place s.decoded i.1 s.at s.declares s.decodes s.sum in
        let g = method_from classes (with_methods C N) K n j.0 s.own s.l s.m s.place s.decoded j.1 s.at s.declares s.decodes s.sum in
        let names = same_Some i.0.name j.0.name (sym f.name ∙ g.name) in
        let descs = same_Some i.0.desc j.0.desc (sym f.desc ∙ g.desc) in
        ap (λ o. option_map_or (is_called name desc) o false) i.1
        ∙ ap (λ (t : List ℕ × List ℕ). bytes_eq t.0 name && bytes_eq t.1 desc) (pair_same i.0.name i.0.desc j.0.name j.0.desc names descs)
        ∙ sym (ap (λ o. option_map_or (is_called name desc) o false) j.1)
    | inr past ↦ ap (λ o. option_map_or (is_called name desc) o false) (same_past_methods classes (with_methods C M) (with_methods C N) L K n (omega (arith, L.method_count, past)))
  ]

  method_alike : (c : ℕ) (name desc : List ℕ) → resolved_method (with_methods C M) c name desc ≡ resolved_method (with_methods C N) c name desc
  method_alike c name desc =
      ap (λ f. find f (flat_map (methods_of (with_methods C M)) (classes_for (with_methods C M) c name)))
      (same_functions (is_called_at (with_methods C M) name desc) (is_called_at (with_methods C N) name desc) (called_same name desc))

  slot_alike : (c : ℕ) (name desc : List ℕ) → resolved_slot (with_methods C M) c name desc ≡ resolved_slot (with_methods C N) c name desc
  slot_alike c name desc = refl

  -- ---- instructions

  slot_pair : (r q : Resolved) (c d i j : ℕ) → r ≡ resolved.Slot c i → q ≡ resolved.Slot d j → c ≡ d → i ≡ j → r ≡ q
  slot_pair r q c d i j e f a b = cc

  method_pair : (r q : Resolved) (c d i j : ℕ) → r ≡ resolved.Method i c → q ≡ resolved.Method j d → c ≡ d → i ≡ j → r ≡ q
  method_pair r q c d i j e f a b = cc

  one_slot : (pool : List PoolEntry) (named member : ℕ) (r q : Resolved) → IsSlotFound (with_methods C M) pool named member r → IsSlotFound (with_methods C N) pool named member q → r ≡ q
  one_slot pool named member r q a b =
      let kinds = one_named pool named a.kind b.kind a.names.kind b.names.kind in
      let names = same_Some a.name b.name (sym a.names.named ∙ b.names.named) in
      let descs = same_Some a.desc b.desc (sym a.names.described ∙ b.names.described) in
      let holders = same_Some a.holder b.holder (sym a.holds ∙ ap (class_with_members (with_methods C M)) kinds ∙ b.holds) in
      let slots = sym a.resolves ∙ ap (λ c. resolved_slot (with_methods C M) c a.name a.desc) holders ∙ ap (λ t. resolved_slot (with_methods C M) b.holder t a.desc) names
      ∙ ap (λ t. resolved_slot (with_methods C M) b.holder b.name t) descs ∙ slot_alike b.holder b.name b.desc ∙ b.resolves in
      slot_pair r q a.holder b.holder a.slot b.slot a.found b.found holders (same_Some a.slot b.slot slots)

  one_field : (pool : List PoolEntry) (e : PoolEntry) (r q : Resolved) → IsFieldFound (with_methods C M) pool r e → IsFieldFound (with_methods C N) pool q e → r ≡ q
  one_field pool (FieldRef named member) r q a b = one_slot pool named member r q a b
  one_field pool e r q a b = absurd a

  one_call : (own code : ℕ) (pool : List PoolEntry) (named member : ℕ) (r q : Resolved) → IsCallFound (with_methods C M) own code pool named member r → IsCallFound (with_methods C N) own code pool named member q → r ≡ q
  one_call own code pool named member r q a b =
      let kinds = one_named pool named a.kind b.kind a.names.kind b.names.kind in
      let names = same_Some a.name b.name (sym a.names.named ∙ b.names.named) in
      let descs = same_Some a.desc b.desc (sym a.names.described ∙ b.names.described) in
      let holders = same_Some a.holder b.holder (sym a.holds ∙ ap (class_with_members (with_methods C M)) kinds ∙ b.holds) in
      let methods = sym a.resolves ∙ ap (λ c. resolved_method (with_methods C M) c a.name a.desc) holders ∙ ap (λ t. resolved_method (with_methods C M) b.holder t a.desc) names
      ∙ ap (λ t. resolved_method (with_methods C M) b.holder b.name t) descs ∙ method_alike b.holder b.name b.desc ∙ b.resolves in
      method_pair r q a.holder b.holder a.method b.method a.found b.found holders (same_Some a.method b.method methods)

  one_method : (own code : ℕ) (pool : List PoolEntry) (e : PoolEntry) (r q : Resolved) → IsMethodFound (with_methods C M) own code pool r e → IsMethodFound (with_methods C N) own code pool q e → r ≡ q
  one_method own code pool (MethodRef named member) r q a b = one_call own code pool named member r q a b
  one_method own code pool (InterfaceMethodRef named member) r q a b = one_call own code pool named member r q a b
  one_method own code pool e r q a b = absurd a

  one_constant : (e : PoolEntry) (r q : Resolved) → IsConstantFound r e → IsConstantFound q e → r ≡ q
  one_constant (Integer n) r q a b = a ∙ sym b
  one_constant (Long n) r q a b = a ∙ sym b
  one_constant e r q a b = absurd a

  -- where both name one entry
  by_entry : (F G : PoolEntry → Type 0) (r q : Resolved) → ((e : PoolEntry) → F e → G e → r ≡ q) → (o : Option PoolEntry) → IsSomeAnd o F → IsSomeAnd o G → r ≡ q
  by_entry F G r q h None a b = absurd a
  by_entry F G r q h (Some e) a b = h e a b

  one_kind_found : (pool : List PoolEntry) (index : ℕ) (r q : Resolved) → IsKindFound (with_methods C M) pool index r → IsKindFound (with_methods C N) pool index q → r ≡ q
  one_kind_found pool index r q a b = a.found ∙ ap (λ k. resolved.Kind k) (one_named pool index a.kind b.kind a.names b.names) ∙ sym b.found

  by_family : (own code : ℕ) (pool : List PoolEntry) (index : ℕ) (r q : Resolved) (f : Family) → IsFoundBy (with_methods C M) own code pool index r f → IsFoundBy (with_methods C N) own code pool index q f → r ≡ q
  by_family own code pool index r q F8 a b = by_entry (IsConstantFound r) (IsConstantFound q) r q (λ e. one_constant e r q) (entry_at pool index) a b
  by_family own code pool index r q F30 a b = by_entry (IsFieldFound (with_methods C M) pool r) (IsFieldFound (with_methods C N) pool q) r q (λ e. one_field pool e r q) (entry_at pool index) a b
  by_family own code pool index r q F31 a b = by_entry (IsFieldFound (with_methods C M) pool r) (IsFieldFound (with_methods C N) pool q) r q (λ e. one_field pool e r q) (entry_at pool index) a b
  by_family own code pool index r q F32 a b = by_entry (IsMethodFound (with_methods C M) own code pool r) (IsMethodFound (with_methods C N) own code pool q) r q (λ e. one_method own code pool e r q) (entry_at pool index) a b
  by_family own code pool index r q F33 a b = a.found ∙ ap (λ k. resolved.Kind k) (one_named pool index (class_kind a.made) (class_kind b.made) a.names b.names) ∙ sym b.found
  by_family own code pool index r q F34 a b = one_kind_found pool index r q a b
  by_family own code pool index r q F37 a b = one_kind_found pool index r q a b
  by_family own code pool index r q f a b = a ∙ sym b

  pub one_found : (own : ℕ) (pool : List PoolEntry) (i : Instr) (r q : Resolved) → IsFound (with_methods C M) own pool i r → IsFound (with_methods C N) own pool i q → r ≡ q
  one_found own pool i r q a b = of_option (index_in i.args) a b
    where
      of_option : (o : Option ℕ) → IsFoundAt (with_methods C M) own pool i r o → IsFoundAt (with_methods C N) own pool i q o → r ≡ q
      of_option None a b = a ∙ sym b
      of_option (Some index) a b = by_family own i.row.code pool index r q i.row.family a b

  -- ---- handlers

  at_zero : (pool : List PoolEntry) (index : ℕ) (k : Kind) (R : ProgramTables) → index ≡ 0 → NamesKind R pool index k → ⊥
  unfolding class_text_at
  at_zero pool index k R e n = none (subst (λ n. NamesKind R pool n k) e n)
    where
      none : NamesKind R pool 0 k → ⊥
      none n = n.text

  pub one_caught : (pool : List PoolEntry) (h : Handler) (j k : Option Kind) → IsCaught (with_methods C M) pool h j → IsCaught (with_methods C N) pool h k → j ≡ k
  one_caught pool h None None a b = refl
  one_caught pool h (Some j) (Some k) a b = ap (λ k. Some k) (one_named pool h.catch_type j k a b)
  one_caught pool h None (Some k) a b = absurd (at_zero pool h.catch_type k (with_methods C N) a b)
  one_caught pool h (Some j) None a b = absurd (at_zero pool h.catch_type j (with_methods C M) b a)
