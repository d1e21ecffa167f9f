-- The instructions of what classes link to suit their rows.
use Rattle.std.proofs.Common.{◌≡◌, ℕ, zero, suc, ◌+◌, ◌⊎◌, inl, inr, Bool, true, false, List, [], ◌∷◌, length, cond, find, refl, sym, ap, subst, ◌∙◌, arith, not, ◌&&◌, ◌||◌}
use Rattle.std.specs.Prelude.{Option, Some, None, All, Contains, IsTrue, IsSomeAnd, is_some, slice_get, nat_lt, ◌==◌}
use Rattle.std.specs.List.{AllZip, list_all}
use Rattle.std.specs.Option.{option_map_or, option_and_then}
use Rattle.std.proofs.lemmas.Bool.{and_parts, and_from, eqb-true, le-leb, ltb-true, or_cases}
use Rattle.std.proofs.lemmas.Option.{same_Some}
use Rattle.nr_optable.specs.declared.table.Family.{Family}
use Rattle.nr_optable.specs.declared.table.Family.TheVariants.{F3, F4, F9, F10, F11, F30, F31, F32, F33, F34, F37, F38}
use Rattle.nr_optable.specs.declared.table.Row.{Row}
use Rattle.nr_optable.specs.declared.table.Shape.{Shape}
use Rattle.nr_optable.specs.declared.table.Shape.TheVariants as shapes
use Rattle.nr_optable.specs.Rows.{all_rows}
use Rattle.nr_prog.specs.declared.body.instruction.Args.{Args}
use Rattle.nr_prog.specs.declared.body.instruction.Args.TheVariants as args
use Rattle.nr_prog.specs.declared.body.instruction.Instr.{Instr}
use Rattle.nr_prog.specs.declared.body.loaded.Loaded.{Loaded}
use Rattle.nr_prog.specs.declared.body.whole.Body.{Body}
use Rattle.nr_prog.specs.declared.pool.PoolEntry.{PoolEntry}
use Rattle.nr_prog.specs.declared.pool.PoolEntry.TheVariants.{FieldRef, MethodRef, InterfaceMethodRef}
use Rattle.nr_prog.specs.BodyOperands.{operands, is_primitive, row_of, shape_of, widened}
use Rattle.nr_prog.specs.Pool.{entry_at}
use Rattle.nr_linked.specs.declared.program.tables.MethodInfo.{MethodInfo}
use Rattle.nr_linked.specs.declared.program.tables.ProgramTables.{ProgramTables}
use Rattle.nr_linked.specs.declared.program.tables.Resolved.{Resolved}
use Rattle.nr_linked.specs.declared.program.tables.Resolved.TheVariants as resolved
use Rattle.nr_linked.specs.ArrayKinds.{elements_of, primitive_of}
use Rattle.nr_linked.specs.BuiltIns.{number}
use Rattle.nr_linked.specs.Linked.{first_built_in, instrs_of, is_class_in, is_resolved_in}
use Rattle.nr_linked.specs.Programs.{method_at}
use Rattle.nr_linked.specs.Sites.{Site, site_among}
use Rattle.nr_linked.specs.Slots.{slots_of}
use Rattle.nr_linked.specs.TypingChecks.{letters_of}
use Rattle.nr_linked.specs.TypingFacts.{is_shaped}
use Rattle.nr_links.specs.Found.{IsFound, IsFoundAt, IsFoundBy, IsFieldFound, IsMethodFound, index_in}
use Rattle.nr_links.specs.Links.{IsDecoded, Links}
use Rattle.nr_links.proofs.Instructions.{HasText, found_at, passes_found, row_listed, shaped, text_at_site}
use Rattle.nr_links.proofs.MethodEntries.{LoadedMethod, method_cases}
use Rattle.nr_linked.proofs.Elements.{get_below}
use Rattle.nr_linked.specs.Suited.{is_one, has_number, is_increment, is_slot, is_method, is_element, is_kind, makes_array, can_widen, is_wide, suits, is_suited, IsSuited}
use Rattle.nr_linked.proofs.BuiltInLaws.{no_code}
use Rattle.nr_links.proofs.LaidOut.{text_of_body}
use Rattle.nr_links.proofs.SiteFacts.{elements}

implied : (b c : Bool) → (not b || c) ≡ true → b ≡ true → c ≡ true
implied true c p q = p
implied false c p q = absurd cc

-- ---- facts of the table

abbrev is_number_shape : Shape → Bool
is_number_shape shapes.Plain = true
is_number_shape shapes.L1 = true
is_number_shape shape = false

abbrev is_increment_shape : Shape → Bool
is_increment_shape shapes.Inc = true
is_increment_shape shape = false

abbrev is_index_shape : Shape → Bool
is_index_shape shapes.P2 = true
is_index_shape shapes.Itf = true
is_index_shape shape = false

abbrev is_array_shape : Shape → Bool
is_array_shape shapes.Prim = true
is_array_shape shapes.P2 = true
is_array_shape shapes.Mul = true
is_array_shape shape = false

abbrev is_wide_shape : Shape → Bool
is_wide_shape shapes.Wide = true
is_wide_shape shape = false

abbrev is_local_shape : Shape → Bool
is_local_shape shapes.L1 = true
is_local_shape shape = false

abbrev by_family : Family → Row → Bool
by_family F3 r = is_one (letters_of r.pushes) && is_number_shape r.shape
by_family F4 r = is_one (letters_of r.pops) && is_number_shape r.shape
by_family F9 r = is_increment_shape r.shape
by_family F10 r = is_some (elements_of r.code)
by_family F11 r = is_some (elements_of r.code)
by_family F30 r = is_index_shape r.shape
by_family F31 r = is_index_shape r.shape
by_family F32 r = is_index_shape r.shape
by_family F33 r = is_index_shape r.shape
by_family F34 r = is_array_shape r.shape && (not (is_index_shape r.shape) || r.code == 189)
by_family F37 r = is_index_shape r.shape
by_family F38 r = is_wide_shape r.shape
by_family family r = true

abbrev row_fits : Row → Bool
row_fits r = by_family r.family r && (not (is_local_shape r.shape) || can_widen r.code)

rows_fit : IsTrue (list_all row_fits all_rows)
unfolding all_rows
rows_fit = refl

contains_passes : (f : Row → Bool) (rs : List Row) (r : Row) → IsTrue (list_all f rs) → Contains rs r → IsTrue (f r)
contains_passes f [] r p (k, l, e) = absurd (omega arith)
contains_passes f (x ∷ rs) r p (zero, l, e) = subst (λ r. IsTrue (f r)) e (and_parts (f x) (list_all f rs) p).0
contains_passes f (x ∷ rs) r p (suc k, l, e) = contains_passes f rs r (and_parts (f x) (list_all f rs) p).1 (k, omega arith, e)

fits : (r : Row) → Contains all_rows r → IsTrue (by_family r.family r) × IsTrue (not (is_local_shape r.shape) || can_widen r.code)
fits r c = and_parts (by_family r.family r) _ (contains_passes row_fits all_rows r rows_fit c)

-- ---- operands by their shapes

numbered : (shape : Shape) (a : Args) → IsTrue (is_number_shape shape) → IsTrue (is_shaped shape a) → IsTrue (has_number a)
numbered shapes.Plain args.Empty p q = refl
numbered shapes.L1 (args.Local i) p q = refl
numbered shape a p q = absurd cc

incremented : (shape : Shape) (a : Args) → IsTrue (is_increment_shape shape) → IsTrue (is_shaped shape a) → IsTrue (is_increment a)
incremented shapes.Inc (args.Inc i by) p q = refl
incremented shape a p q = absurd cc

indexed : (shape : Shape) (a : Args) → IsTrue (is_index_shape shape) → IsTrue (is_shaped shape a) → (i : ℕ) × (a ≡ args.Pool i)
indexed shapes.P2 (args.Pool i) p q = (i, refl)
indexed shapes.Itf (args.Pool i) p q = (i, refl)
indexed shape a p q = absurd cc

-- ---- the code of a primitive type

primitive : (code : ℕ) → IsTrue (is_primitive code) → IsTrue (is_some (primitive_of code))
primitive code p = elim (or_cases (code == 4 || code == 5 || code == 8 || code == 9 || code == 10) (code == 11) p) [
  | inr e ↦ subst (λ n. IsTrue (is_some (primitive_of n))) (sym (eqb-true code 11 e)) refl
  | inl p ↦ elim (or_cases (code == 4 || code == 5 || code == 8 || code == 9) (code == 10) p) [
    | inr e ↦ subst (λ n. IsTrue (is_some (primitive_of n))) (sym (eqb-true code 10 e)) refl
    | inl p ↦ elim (or_cases (code == 4 || code == 5 || code == 8) (code == 9) p) [
      | inr e ↦ subst (λ n. IsTrue (is_some (primitive_of n))) (sym (eqb-true code 9 e)) refl
      | inl p ↦ elim (or_cases (code == 4 || code == 5) (code == 8) p) [
        | inr e ↦ subst (λ n. IsTrue (is_some (primitive_of n))) (sym (eqb-true code 8 e)) refl
        | inl p ↦ elim (or_cases (code == 4) (code == 5) p) [
          | inr e ↦ subst (λ n. IsTrue (is_some (primitive_of n))) (sym (eqb-true code 5 e)) refl
          | inl e ↦ subst (λ n. IsTrue (is_some (primitive_of n))) (sym (eqb-true code 4 e)) refl
        ]
      ]
    ]
  ]
]

-- ---- the code that is widened

found_row : (code : ℕ) (rs : List Row) (r : Row) → find (λ (r : Row). r.code == code) rs ≡ Some r → Contains rs r × (r.code ≡ code)
found_row code [] r e = absurd cc
found_row code (x ∷ rs) r e = by_flag (x.code == code) (λ p. eqb-true x.code code p) (λ e. found_row code rs r e) e
  where
    by_flag : (z : Bool) → (IsTrue z → x.code ≡ code) → (find (λ (r : Row). r.code == code) rs ≡ Some r → Contains rs r × (r.code ≡ code))
        → cond z (Some x) (find (λ (r : Row). r.code == code) rs) ≡ Some r → Contains (x ∷ rs) r × (r.code ≡ code)
    by_flag true f g e = let same = same_Some x r e in ((0, omega arith, same), sym (ap (λ (r : Row). r.code) same) ∙ f refl)
    by_flag false f g e = let y = g e in let c = y.0 in ((suc c.0, omega (arith, c.1), c.2), y.1)

of_row : (code : ℕ) (o : Option Row) → row_of code ≡ o → option_map_or (λ (r : Row). Some r.shape) o None ≡ Some shapes.L1 → IsTrue (can_widen code)
of_row code None q e = absurd cc
of_row code (Some r) q e =
    let f = found_row code all_rows r q in
    let s : r.shape ≡ shapes.L1 = same_Some r.shape shapes.L1 e in
    let w = (fits r f.0).1 in
    subst (λ n. IsTrue (can_widen n)) f.1 (implied (is_local_shape r.shape) (can_widen r.code) w (ap is_local_shape s))

wide_of : (code : ℕ) (o : Option Shape) (a : Args) (text : List ℕ) → shape_of code ≡ o → widened code o a text → IsTrue (is_wide a)
wide_of code None a text q g = absurd g
wide_of code (Some shapes.L1) a text q g = subst (λ a. IsTrue (is_wide a)) (sym g.second.0) (of_row code (row_of code) refl q)
wide_of code (Some shapes.Inc) a text q g = subst (λ a. IsTrue (is_wide a)) (sym g.second.second.0) refl
wide_of code (Some shape) a text q g = absurd g

wide : (pool : List PoolEntry) (r : Row) (at : ℕ) (shape : Shape) (a : Args) (text : List ℕ) → IsTrue (is_wide_shape shape) → operands pool r at shape a text → IsTrue (is_wide a)
wide pool r at shapes.Wide a text p g = wide_of g.value (shape_of g.value) a g.back refl g.second
wide pool r at shape a text p g = absurd cc

-- ---- what was found

module _ (P : ProgramTables) (own : ℕ) (pool : List PoolEntry) (i : Instr) (r : Resolved) (found : IsFound P own pool i r) (known : IsTrue (is_resolved_in P r)) where
  found_by : (a : Args) (index : ℕ) → i.args ≡ a → index_in a ≡ Some index → IsFoundBy P own i.row.code pool index r i.row.family
  found_by a index e q = subst (IsFoundAt P own pool i r) (ap index_in e ∙ q) found

  some_below : {X : Type 0} (xs : List X) (k : ℕ) → IsTrue (nat_lt k (length xs)) → IsTrue (is_some (slice_get xs k))
  some_below xs k p = let x = get_below xs k (ltb-true k (length xs) p) in ap is_some x.1

  slot_is : (r : Resolved) (c k : ℕ) → r ≡ resolved.Slot c k → IsTrue (is_resolved_in P r) → IsTrue (is_slot P r)
  slot_is r c k e p = subst (λ r. IsTrue (is_slot P r)) (sym e) (some_below (slots_of P c) k (and_parts (is_class_in P c) _ (subst (λ r. IsTrue (is_resolved_in P r)) e p)).1)

  method_is : (r : Resolved) (n c : ℕ) → r ≡ resolved.Method n c → IsTrue (is_resolved_in P r) → IsTrue (is_method P r)
  method_is r n c e p = subst (λ r. IsTrue (is_method P r)) (sym e) (some_below P.methods n (and_parts (nat_lt n (length P.methods)) _ (subst (λ r. IsTrue (is_resolved_in P r)) e p)).0)

  of_field : (e : PoolEntry) → IsFieldFound P pool r e → IsTrue (is_slot P r)
  of_field (FieldRef c m) f = slot_is r f.holder f.slot f.found known
  of_field e f = absurd f

  of_method : (e : PoolEntry) → IsMethodFound P own i.row.code pool r e → IsTrue (is_method P r)
  of_method (MethodRef c m) f = method_is r f.method f.holder f.found known
  of_method (InterfaceMethodRef c m) f = method_is r f.method f.holder f.found known
  of_method e f = absurd f

  of_some : {X : Type 0} (o : Option X) (Q : X → Type 0) (G : Type 0) → IsSomeAnd o Q → ((x : X) → Q x → G) → G
  of_some None Q G p f = absurd p
  of_some (Some x) Q G p f = f x p

  slot_suits : (f : Family) (index : ℕ) → IsFoundBy P own i.row.code pool index r f → (f ≡ F30) ⊎ (f ≡ F31) → IsTrue (is_slot P r)
  slot_suits f index g (inl e) = of_some (entry_at pool index) _ _ (subst (IsFoundBy P own i.row.code pool index r) e g) of_field
  slot_suits f index g (inr e) = of_some (entry_at pool index) _ _ (subst (IsFoundBy P own i.row.code pool index r) e g) of_field

  method_suits : (f : Family) (index : ℕ) → IsFoundBy P own i.row.code pool index r f → f ≡ F32 → IsTrue (is_method P r)
  method_suits f index g e = of_some (entry_at pool index) _ _ (subst (IsFoundBy P own i.row.code pool index r) e g) of_method

  made_suits : (f : Family) (index : ℕ) → IsFoundBy P own i.row.code pool index r f → f ≡ F33 → IsTrue (is_kind r)
  made_suits f index g e = let m = subst (IsFoundBy P own i.row.code pool index r) e g in subst (λ r. IsTrue (is_kind r)) (sym m.found) refl

  kind_suits : (f : Family) (index : ℕ) → IsFoundBy P own i.row.code pool index r f → (f ≡ F34) ⊎ (f ≡ F37) → IsTrue (is_kind r)
  kind_suits f index g (inl e) = let m = subst (IsFoundBy P own i.row.code pool index r) e g in subst (λ r. IsTrue (is_kind r)) (sym m.found) refl
  kind_suits f index g (inr e) = let m = subst (IsFoundBy P own i.row.code pool index r) e g in subst (λ r. IsTrue (is_kind r)) (sym m.found) refl

  -- anewarray
  element_suits : (f : Family) (index : ℕ) → IsFoundBy P own i.row.code pool index r f → f ≡ F34 → HasText pool i → i.row.code ≡ 189 → IsTrue (is_element r)
  element_suits f index g e t code =
      let m = subst (IsFoundBy P own i.row.code pool index r) e g in
      let few = elements P own pool i m.kind t (subst (IsFound P own pool i) m.found found) code in
      subst (λ r. IsTrue (is_element r)) (sym m.found) (le-leb m.kind.dims 254 few)

  -- newarray, anewarray, multianewarray
  array_suits : (at : ℕ) (row : Row) (shape : Shape) (a : Args) (text : List ℕ) → IsTrue (is_array_shape shape) → (IsTrue (is_index_shape shape) → i.row.code ≡ 189) → operands pool row at shape a text
      → HasText pool i → i.args ≡ a → i.row.family ≡ F34 → IsTrue (makes_array a r)
  array_suits at row shapes.Prim a text p code g t e q = subst (λ a. IsTrue (makes_array a r)) (sym g.second.1.0) (primitive g.value g.second.0)
  array_suits at row shapes.P2 a text p code g t e q =
      subst (λ a. IsTrue (makes_array a r)) (sym g.second.1.0) (element_suits i.row.family g.value (found_by a g.value e (ap index_in g.second.1.0)) q t (code refl))
  array_suits at row shapes.Mul a text p code g t e q =
      subst (λ a. IsTrue (makes_array a r)) (sym g.second.second.1.0) (kind_suits i.row.family g.value (found_by a g.value e (ap index_in g.second.second.1.0)) (inl q))
  array_suits at row shape a text p code g t e q = absurd cc

  index_suits : (C : Type 0) → IsTrue (is_index_shape i.row.shape) → IsTrue (is_shaped i.row.shape i.args) → ((index : ℕ) → IsFoundBy P own i.row.code pool index r i.row.family → C) → C
  index_suits C p q k = let x = indexed i.row.shape i.args p q in k x.0 (found_by i.args x.0 refl (ap index_in x.1))

  -- the instruction suits its row
  by : (family : Family) → i.row.family ≡ family → (t : HasText pool i) → IsTrue (by_family family i.row) → IsTrue (is_shaped i.row.shape i.args) → IsTrue (suits family P i.row i.args r)
  by F3 e t p q = let x = and_parts (is_one (letters_of i.row.pushes)) _ p in and_from (is_one (letters_of i.row.pushes)) _ x.0 (numbered i.row.shape i.args x.1 q)
  by F4 e t p q = let x = and_parts (is_one (letters_of i.row.pops)) _ p in and_from (is_one (letters_of i.row.pops)) _ x.0 (numbered i.row.shape i.args x.1 q)
  by F9 e t p q = incremented i.row.shape i.args p q
  by F10 e t p q = p
  by F11 e t p q = p
  by F30 e t p q = index_suits _ p q (λ index g. slot_suits i.row.family index g (inl e))
  by F31 e t p q = index_suits _ p q (λ index g. slot_suits i.row.family index g (inr e))
  by F32 e t p q = index_suits _ p q (λ index g. method_suits i.row.family index g e)
  by F33 e t p q = index_suits _ p q (λ index g. made_suits i.row.family index g e)
  by F34 e t p q =
      let x = and_parts (is_array_shape i.row.shape) _ p in
      array_suits t.0 i.row i.row.shape i.args t.2.spelled.0 x.0 (λ index. eqb-true i.row.code 189 (implied (is_index_shape i.row.shape) (i.row.code == 189) x.1 index)) t.2.spelled.2 t refl e
  by F37 e t p q = index_suits _ p q (λ index g. kind_suits i.row.family index g (inr e))
  by F38 e t p q = wide pool i.row t.0 i.row.shape i.args t.2.spelled.0 p t.2.spelled.2
  by family e t p q = refl

module _ (classes : List Loaded) (P : ProgramTables) (all : All IsDecoded classes) (links : Links classes P) where
  loaded_site : (n : ℕ) (i : MethodInfo) (m : LoadedMethod classes P n i) (body : Body) (at : ℕ) (s : Site) → method_at P n ≡ Some i → i.body ≡ Some body → site_among body.instrs i.resolved at ≡ Some s → IsTrue (is_suited P s)
  loaded_site n i m body at s is has among =
      let pool = m.l.«class».pool in
      let same : instrs_of i ≡ body.instrs = ap (λ o. option_map_or (λ (b : Body). b.instrs) o []) has in
      let found = found_at (IsFound P m.own pool) body.instrs i.resolved (subst (λ is. AllZip (IsFound P m.own pool) is i.resolved) same m.said.resolved) at s among in
      let text = text_of_body m.l.«class» m.m m.m.code m.decoded body m.body_for (sym m.said.body ∙ has) in
      let t = text_at_site pool 0 body.instrs i.resolved text.0 text.1 at s among in
      let known = passes_found (is_resolved_in P) body.instrs i.resolved (links.linked.methods n i is).resolved at s among in
      by P m.own pool s.instr s.resolved found known s.instr.row.family refl t (fits s.instr.row (row_listed pool s.instr t)).0 (shaped pool s.instr.row t.0 s.instr.row.shape s.instr.args t.2.spelled.0 t.2.spelled.2)

  pub suited : IsSuited P
  suited n i at s is here = of_body i.body refl here
    where
      of_body : (o : Option Body) → i.body ≡ o → option_and_then (λ (b : Body). site_among b.instrs i.resolved at) o ≡ Some s → IsTrue (is_suited P s)
      of_body None none e = absurd cc
      of_body (Some body) has e = elim (method_cases classes P links all n i is) [
        | inl m ↦ loaded_site n i m body at s is has e
        | inr m ↦ let none = sym (ap (λ (i : MethodInfo). i.body) m.is ∙ no_code (first_built_in P + number m.holder) m.method) ∙ has in absurd cc
      ]
