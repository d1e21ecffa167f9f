-- What is found stands in the program.
use Rattle.std.proofs.Common.{◌≡◌, ℕ, ◌<◌, ◌≤◌, Bool, true, false, cond, List, length, refl, subst, arith, ◌&&◌, not}
use Rattle.std.specs.Prelude.{Option, Some, None, Ok, Err, IsTrue, nat_lt, if◌then◌else◌}
use Rattle.std.specs.List.{position, position_or_len}
use Rattle.std.specs.Option.{option_and_then, option_map_or}
use Rattle.std.proofs.lemmas.Bool.{and_from, lt-ltb, ltb-true}
use Rattle.std.proofs.lemmas.Option.{same_Some, slice_get_within}
use Rattle.nr_optable.specs.declared.table.Family.{Family}
use Rattle.nr_optable.specs.declared.table.Family.TheVariants.{F8, F30, F31, F32, F33, F34, F37}
use Rattle.nr_prog.specs.declared.body.instruction.Instr.{Instr}
use Rattle.nr_prog.specs.declared.pool.PoolEntry.{PoolEntry}
use Rattle.nr_prog.specs.declared.pool.PoolEntry.TheVariants.{FieldRef, Integer, InterfaceMethodRef, Long, MethodRef}
use Rattle.nr_prog.specs.Pool.{entry_at}
use Rattle.nr_instrs.specs.Checks.{then_on}
use Rattle.nr_prog.specs.TextForms.{class_desc}
use Rattle.nr_linked.specs.declared.program.built_in.BuiltIn.TheVariants.{Object}
use Rattle.nr_linked.specs.declared.program.kind.Kind.{Kind}
use Rattle.nr_linked.specs.declared.program.tables.ProgramTables.{ProgramTables}
use Rattle.nr_linked.specs.declared.program.tables.Resolved.{Resolved}
use Rattle.nr_linked.specs.declared.program.tables.Resolved.TheVariants as resolved
use Rattle.nr_linked.specs.declared.program.tables.SlotInfo.{SlotInfo}
use Rattle.nr_linked.specs.BuiltIns.{built_in, built_in_count}
use Rattle.nr_linked.specs.Kinds.{class_in, is_array}
use Rattle.nr_linked.specs.Linked.{is_class_in, is_kind_in, is_resolved_in}
use Rattle.nr_linked.specs.Programs.{method_at}
use Rattle.nr_linked.specs.Slots.{slots_of}
use Rattle.nr_linked.specs.TypingFacts.{is_makeable}
use Rattle.nr_links.specs.Found.{index_in}
use Rattle.nr_links.specs.Resolution.{class_with_members, field_class, is_slot_of, resolved_slot, slot_of_field}
use Rattle.nr_linked.proofs.Elements.{passing}
use Rattle.nr_linkrules.specs.declared.fault.LinkFault.{LinkFault}
use Rattle.nr_linkrules.specs.Layout.{kind_of}
use Rattle.nr_linkrules.specs.SiteRules.{Finding, Place, Search, by_member, callable, can_call, class_bytes, constant_found, found_by, instr_found, kind_at, kind_named, made_found, method_found, method_in, method_of, no_field, no_method, on_entry, on_member, or_fault, slot_found, slot_in}
use Rattle.nr_linkrules.proofs.Given.{first_then}
use Rattle.nr_linkrules.proofs.Naming.{and_then_from, kind_says, unwrap}

same_ok : {A : Type 0} (x y : A) → ◌≡◌ {A = Finding A} (Ok x) (Ok y) → x ≡ y
same_ok x y e = cc

by_test : {A : Type 0} (b : Bool) (x y : A) (f : LinkFault) → ◌≡◌ {A = Finding A} (if b then Ok x else Err f) (Ok y) → (b ≡ true) × (x ≡ y)
by_test true x y f e = (refl, cc)
by_test false x y f e = absurd cc

short_place : (p : SlotInfo → Bool) (ss : List SlotInfo) (j : ℕ) → position p ss ≡ Some j → j < length ss
short_place p ss j e = of_test (nat_lt (position_or_len p ss) (length ss)) refl e
  where
    of_test : (b : Bool) → nat_lt (position_or_len p ss) (length ss) ≡ b → cond b (Some (position_or_len p ss)) None ≡ Some j → j < length ss
    of_test true lt e = let same = same_Some (position_or_len p ss) j e in let l = ltb-true (position_or_len p ss) (length ss) lt in omega (arith, same, l)
    of_test false lt e = absurd cc

module _ (P : ProgramTables) (many : built_in_count ≤ length P.classes) where
  -- the kind that an index names
  pub kind_in : (pool : List PoolEntry) (index : ℕ) (k : Kind) → kind_at P pool index ≡ Ok k → IsTrue (is_kind_in P k)
  unfolding kind_named
  kind_in pool index k e =
      let found = unwrap _ (option_and_then (kind_of P) (class_desc (class_bytes pool index))) k e in
      let d = and_then_from (kind_of P) (class_desc (class_bytes pool index)) k found in
      (kind_says P d.0 k d.2).1

  holder_in : (k : Kind) (c : ℕ) → IsTrue (is_kind_in P k) → class_with_members P k ≡ Some c → IsTrue (is_class_in P c)
  holder_in k c p e = of_test (is_array k) (class_in k.base) p e
    where
      object_in : IsTrue (is_class_in P (built_in P Object))
      object_in = lt-ltb (built_in P Object) (length P.classes) (omega (arith, many))

      of_test : (b : Bool) (o : Option ℕ) → IsTrue (option_map_or (is_class_in P) o true) → (if b then Some (built_in P Object) else o) ≡ Some c → IsTrue (is_class_in P c)
      of_test true o p e = subst (λ c. IsTrue (is_class_in P c)) (same_Some (built_in P Object) c e) object_in
      of_test false None p e = absurd cc
      of_test false (Some d) p e = subst (λ c. IsTrue (is_class_in P c)) (same_Some d c e) p

  given_as : (x r : Resolved) → IsTrue (is_resolved_in P x) → ◌≡◌ {A = Finding Resolved} (Ok x) (Ok r) → IsTrue (is_resolved_in P r)
  given_as x r p e = subst (λ r. IsTrue (is_resolved_in P r)) (same_ok x r e) p

  slot_fits : (p : Place) (name desc : List ℕ) (k : Kind) (r : Resolved) → IsTrue (is_kind_in P k) → slot_found P p name desc k ≡ Ok r → IsTrue (is_resolved_in P r)
  slot_fits p name desc k r in_table e =
      let c = first_then (or_fault (no_field p) (class_with_members P k)) (slot_in P p name desc) r e in
      let s = first_then (or_fault (no_field p) (resolved_slot P c.0 name desc)) (λ s. Ok (resolved.Slot c.0 s)) r c.2 in
      let d = and_then_from (slot_of_field P c.0 name desc) (field_class P c.0 name desc) s.0 (unwrap _ (resolved_slot P c.0 name desc) s.0 s.1) in
      given_as (resolved.Slot c.0 s.0) r
      (and_from _ _ (holder_in k c.0 in_table (unwrap _ (class_with_members P k) c.0 c.1)) (lt-ltb s.0 (length (slots_of P c.0)) (short_place (is_slot_of d.0 name desc) (slots_of P c.0) s.0 d.2)))
      s.2

  call_fits : (p : Place) (code : ℕ) (name desc : List ℕ) (k : Kind) (r : Resolved) → IsTrue (is_kind_in P k) → method_found P p code name desc k ≡ Ok r → IsTrue (is_resolved_in P r)
  call_fits p code name desc k r in_table e =
      let c = first_then (or_fault (no_method p) (class_with_members P k)) (method_in P p code name desc k) r e in
      let n = first_then (or_fault (no_method p) (method_of P k name desc c.0)) (callable P p code c.0) r c.2 in
      let test = by_test (option_map_or (can_call P p.own code c.0) (method_at P n.0) false) (resolved.Method n.0 c.0) r _ n.2 in
      let callee = passing (can_call P p.own code c.0) (method_at P n.0) test.0 in
      subst (λ r. IsTrue (is_resolved_in P r)) test.1
      (and_from _ _ (lt-ltb n.0 (length P.methods) (slice_get_within P.methods n.0 callee.0 callee.1)) (holder_in k c.0 in_table (unwrap _ (class_with_members P k) c.0 c.1)))

  member_fits : (pool : List PoolEntry) (s : Search) (named member : ℕ) (r : Resolved) → ((name desc : List ℕ) (k : Kind) → IsTrue (is_kind_in P k) → s name desc k ≡ Ok r → IsTrue (is_resolved_in P r))
      → on_member P pool s named member ≡ Ok r → IsTrue (is_resolved_in P r)
  member_fits pool s named member r h e =
      let k = first_then (kind_at P pool named) (s _ _) r e in
      h _ _ k.0 (kind_in pool named k.0 k.1) k.2

  by_fits : (pool : List PoolEntry) (s : Search) (e : PoolEntry) (r : Resolved) → ((name desc : List ℕ) (k : Kind) → IsTrue (is_kind_in P k) → s name desc k ≡ Ok r → IsTrue (is_resolved_in P r))
      → by_member P pool s e ≡ Ok r → IsTrue (is_resolved_in P r)
  by_fits pool s (FieldRef named member) r h e = member_fits pool s named member r h e
  by_fits pool s (MethodRef named member) r h e = member_fits pool s named member r h e
  by_fits pool s (InterfaceMethodRef named member) r h e = member_fits pool s named member r h e
  by_fits pool s x r h e = given_as resolved.Nothing r refl e

  constant_fits : (x : PoolEntry) (r : Resolved) → constant_found x ≡ Ok r → IsTrue (is_resolved_in P r)
  constant_fits (Integer n) r e = given_as (resolved.Int n) r refl e
  constant_fits (Long n) r e = given_as (resolved.Long n) r refl e
  constant_fits x r e = given_as resolved.Nothing r refl e

  entry_fits : (next : PoolEntry → Finding Resolved) (pool : List PoolEntry) (index : ℕ) (r : Resolved) → ((x : PoolEntry) → next x ≡ Ok r → IsTrue (is_resolved_in P r)) → on_entry next pool index ≡ Ok r → IsTrue (is_resolved_in P r)
  entry_fits next pool index r h e = of_option (entry_at pool index) e
    where
      of_option : (o : Option PoolEntry) → option_map_or next o (Ok resolved.Nothing) ≡ Ok r → IsTrue (is_resolved_in P r)
      of_option None e = given_as resolved.Nothing r refl e
      of_option (Some x) e = h x e

  kind_fits : (pool : List PoolEntry) (index : ℕ) (r : Resolved) → ◌≡◌ {A = Finding Resolved} (then_on (kind_at P pool index) (λ k. Ok (resolved.Kind k))) (Ok r) → IsTrue (is_resolved_in P r)
  kind_fits pool index r e = let k = first_then (kind_at P pool index) (λ k. Ok (resolved.Kind k)) r e in given_as (resolved.Kind k.0) r (kind_in pool index k.0 k.1) k.2

  made_fits : (p : Place) (pool : List PoolEntry) (index : ℕ) (r : Resolved) → then_on (kind_at P pool index) (made_found P p) ≡ Ok r → IsTrue (is_resolved_in P r)
  made_fits p pool index r e =
      let k = first_then (kind_at P pool index) (made_found P p) r e in
      let test = by_test (not (is_array k.0) && option_map_or (is_makeable P) (class_in k.0.base) false) (resolved.Kind k.0) r _ k.2 in
      subst (λ r. IsTrue (is_resolved_in P r)) test.1 (kind_in pool index k.0 k.1)

  fits_by : (p : Place) (pool : List PoolEntry) (code index : ℕ) (f : Family) (r : Resolved) → found_by P p pool code index f ≡ Ok r → IsTrue (is_resolved_in P r)
  fits_by p pool code index F8 r e = entry_fits constant_found pool index r (λ x. constant_fits x r) e
  fits_by p pool code index F30 r e = entry_fits (by_member P pool (slot_found P p)) pool index r (λ x. by_fits pool (slot_found P p) x r (λ name desc k. slot_fits p name desc k r)) e
  fits_by p pool code index F31 r e = entry_fits (by_member P pool (slot_found P p)) pool index r (λ x. by_fits pool (slot_found P p) x r (λ name desc k. slot_fits p name desc k r)) e
  fits_by p pool code index F32 r e = entry_fits (by_member P pool (method_found P p code)) pool index r (λ x. by_fits pool (method_found P p code) x r (λ name desc k. call_fits p code name desc k r)) e
  fits_by p pool code index F33 r e = made_fits p pool index r e
  fits_by p pool code index F34 r e = kind_fits pool index r e
  fits_by p pool code index F37 r e = kind_fits pool index r e
  fits_by p pool code index family r e = given_as resolved.Nothing r refl e

  pub found_in : (place : ℕ → Place) (pool : List PoolEntry) (i : Instr) (r : Resolved) → instr_found P place pool i ≡ Ok r → IsTrue (is_resolved_in P r)
  unfolding instr_found
  found_in place pool i r e = of_option (index_in i.args) e
    where
      of_option : (o : Option ℕ) → option_map_or (λ index. found_by P (place i.at) pool i.row.code index i.row.family) o (Ok resolved.Nothing) ≡ Ok r → IsTrue (is_resolved_in P r)
      of_option None e = given_as resolved.Nothing r refl e
      of_option (Some index) e = fits_by (place i.at) pool i.row.code index i.row.family r e
