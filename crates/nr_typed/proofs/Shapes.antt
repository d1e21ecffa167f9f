-- The rules of instructions by their operands and by what linking found: their scripts fit.
use Rattle.std.proofs.Common.{◌≡◌, ℕ, List, [], ◌∷◌, refl, sym, ap, subst, ◌∙◌, Bool, true, false, arith, T}
use Rattle.std.specs.Prelude.{ℤ, pos, ◌-ℤ◌, ◌-◌, Option, Some, None, Contains, if◌then◌else◌, ◌==◌}
use Rattle.std.specs.Option.{option_and_then}
use Rattle.nr_optable.specs.Operations.{beside}
use Rattle.nr_optable.specs.declared.table.Letter.{Letter}
use Rattle.nr_optable.specs.declared.table.Letter.TheVariants as letters
use Rattle.nr_optable.specs.declared.table.Family.TheVariants.{F33}
use Rattle.nr_optable.specs.declared.table.Shape.{Shape}
use Rattle.nr_optable.specs.declared.table.Shape.TheVariants as shapes
use Rattle.nr_prog.specs.declared.body.instruction.Args.{Args}
use Rattle.nr_prog.specs.declared.body.instruction.Args.TheVariants as args
use Rattle.nr_linked.specs.declared.program.kind.Base.{Base}
use Rattle.nr_linked.specs.declared.program.kind.Base.TheVariants as bases
use Rattle.nr_linked.specs.declared.program.tables.MethodInfo.{MethodInfo}
use Rattle.nr_linked.specs.declared.program.tables.ProgramTables.{ProgramTables}
use Rattle.nr_linked.specs.declared.program.tables.Resolved.{Resolved}
use Rattle.nr_linked.specs.declared.program.tables.Resolved.TheVariants as resolved
use Rattle.nr_linked.specs.declared.program.types.VType.TheVariants as types
use Rattle.nr_linked.specs.Kinds.{class_kind}
use Rattle.nr_linked.specs.Sites.{Site, site_at}
use Rattle.nr_linked.specs.Subtypes.{is_assignable}
use Rattle.nr_linked.specs.TypingFrames.{TypeFrame}
use Rattle.nr_linked.specs.TypingChecks.{Checked, Leaves, take_letters, leaves_operands}
use Rattle.nr_linked.specs.LocalNumbers.{local_of}
use Rattle.nr_linked.specs.TypingLocals.{with_number, load_rule, store_rule, wide_rule}
use Rattle.nr_linked.specs.TypingArrays.{primitive_array_rule, new_array_rule}
use Rattle.nr_linked.specs.ArrayKinds.{primitive_of}
use Rattle.nr_linked.specs.TypingObjects.{get_field_rule, put_field_rule, new_rule, test_rule}
use Rattle.nr_linked.specs.TypingCalls.{class_made, class_made_at}
use Rattle.nr_linked.specs.TypingRules.{iinc_rule}
use Rattle.nr_linked.specs.TypingFacts.{TypingFacts, SiteFacts, is_shaped, is_constant}
use Rattle.nr_linked.specs.WellTyped.{targets_of}
use Rattle.nr_model.specs.Heaps.{Heap}
use Rattle.nr_model.specs.Scripts.{PlainInt, PlainLong, Script, GoTo, Within, Ending}
use Rattle.nr_model.specs.Throws.{with_found}
use Rattle.nr_model.specs.ValueRules.{small_constant, pool_constant, load, store, target_at, target_of}
use Rattle.nr_model.specs.ArrayRules.{new_array}
use Rattle.nr_model.specs.ObjectRules.{get_field, put_field, new_of, check_cast, instance_of}
use Rattle.nr_model.specs.Rules as rules
use Rattle.nr_model.specs.Types.{Ty, operand_tys, local_tys}
use Rattle.nr_typed.specs.Fits.{Fits}
use Rattle.nr_typed.proofs.Assigning.{yes}
use Rattle.nr_typed.proofs.Checks.{no_rule}
use Rattle.nr_typed.proofs.Owed.{Goes, Owed}
use Rattle.nr_typed.proofs.Numbers.{pushes, loads, stores, increments, switches, in_table, in_lookup}
use Rattle.nr_typed.proofs.Objects.{gets, puts, makes, casts, asks}
use Rattle.nr_typed.proofs.Arrays.{new_arrays_fit}
use Rattle.nr_typed.proofs.Nested.{many_fit}

-- ---- operands of a shape

pub empty_is : (a : Args) → T (is_shaped shapes.Plain a) → a ≡ args.Empty
empty_is args.Empty p = refl
empty_is _ p = absurd p

pub number_is : (s : Shape) (a : Args) → T (is_shaped s a) → T (is_shaped s (args.Num (pos 0))) → (n : ℤ) × (a ≡ args.Num n)
number_is shapes.S1 (args.Num n) p q = (n, refl)
number_is shapes.S2 (args.Num n) p q = (n, refl)
number_is shapes.S1 _ p q = absurd p
number_is shapes.S2 _ p q = absurd p
number_is _ a p q = absurd q

pub short_branch : (a : Args) → T (is_shaped shapes.B2 a) → (t : ℕ) × (a ≡ args.Branch t)
short_branch (args.Branch t) p = (t, refl)
short_branch _ p = absurd p

pub long_branch : (a : Args) → T (is_shaped shapes.B4 a) → (t : ℕ) × (a ≡ args.Branch t)
long_branch (args.Branch t) p = (t, refl)
long_branch _ p = absurd p

-- what stands in a list of codes
AllBeside : {X : Type 0} → (X → Type 0) → List (ℕ × X) → Type 0
AllBeside C [] = Unit {0}
AllBeside C (line ∷ lines) = C line.1 × AllBeside C lines

beside_all : {X : Type 0} (C : X → Type 0) (code : ℕ) (lines : List (ℕ × X)) → AllBeside C lines → (x : X) → beside code lines ≡ Some x → C x
unfolding AllBeside
beside_all C code [] all x e = absurd (none_some e)
  where
    none_some : {X : Type 0} {x : X} → ◌≡◌ {A = Option X} None (Some x) → ⊥
    none_some e = cc
beside_all C code (line ∷ lines) all x e = cases (code == line.0) (λ e. beside_all C code lines all.1 x e) e
  where
    some_same : {X : Type 0} {x y : X} → Some x ≡ Some y → x ≡ y
    some_same e = cc

    cases : (c : Bool) → (beside code lines ≡ Some x → C x) → (if c then Some line.1 else beside code lines) ≡ Some x → C x
    cases true go e = subst C (some_same e) all.0
    cases false go e = go e

-- the primitive types by their codes
abbrev primitive_lines : List (ℕ × Base)
primitive_lines = (4, bases.Bool) ∷ (5, bases.Char) ∷ (8, bases.Byte) ∷ (9, bases.Short) ∷ (10, bases.Int) ∷ (11, bases.Long) ∷ []

module _ (P : ProgramTables) (facts : TypingFacts P) (own : MethodInfo) (F G : TypeFrame) (h0 : Heap) (Q : Ending → Within → Type 0) where
  abbrev LT : List Ty
  LT = local_tys own own.max_locals F.locals

  abbrev Fit : Script → Type 0
  Fit sc = Fits P h0 Q sc LT (operand_tys own F.operands)

  abbrev On : Script → Type 0
  On k = Goes P own F G h0 Q k

  -- ---- constants

  pub plain_constant : (code : ℕ) (a : Args) (k : Script) → T (is_shaped shapes.Plain a) → Fit (small_constant code args.Empty k) → Fit (small_constant code a k)
  plain_constant code a k p f = subst (λ a. Fit (small_constant code a k)) (sym (empty_is a p)) f

  pub number_constant : (s : Shape) (code : ℕ) (a : Args) (k : Script) → T (is_shaped s (args.Num (pos 0))) → T (is_shaped s a) → On k → leaves_operands own F (types.Int ∷ F.operands) ≡ Leaves G → Fit (small_constant code a k)
  number_constant s code a k q p g e =
      let n = number_is s a p q in
      subst (λ a. Fit (small_constant code a k)) (sym n.1) (pushes P facts own F G h0 Q (PlainInt n.0) types.Int k g (λ h. tt) e)

  pub int_constant : (found : Resolved) (k : Script) → T (is_constant (letters.I ∷ []) found) → On k → leaves_operands own F (types.Int ∷ F.operands) ≡ Leaves G → Fit (pool_constant found k)
  int_constant (resolved.Int n) k p g e = pushes P facts own F G h0 Q (PlainInt n) types.Int k g (λ h. tt) e
  int_constant _ k p g e = absurd p

  pub long_constant : (found : Resolved) (k : Script) → T (is_constant (letters.J ∷ []) found) → On k → leaves_operands own F (types.Long ∷ F.operands) ≡ Leaves G → Fit (pool_constant found k)
  long_constant (resolved.Long n) k p g e = pushes P facts own F G h0 Q (PlainLong n) types.Long k g (λ h. tt) e
  long_constant _ k p g e = absurd p

  -- ---- local variables

  pub numbered_loads : (letter : Letter) (group code : ℕ) (a : Args) (k : Script) → On k → with_number (local_of group code a) (λ i. load_rule own letter i F) ≡ Leaves G → Fit (with_found (local_of group code a) (λ i. load letter i k))
  numbered_loads letter group code (args.Local i) k g e = loads P facts own F G h0 Q letter i k g e
  numbered_loads letter group code args.Empty k g e = loads P facts own F G h0 Q letter (code - group) k g e
  numbered_loads letter group code _ k g e = no_rule G e

  pub numbered_stores : (letter : Letter) (group code : ℕ) (a : Args) (k : Script) → On k → with_number (local_of group code a) (λ i. store_rule own letter i F) ≡ Leaves G → Fit (with_found (local_of group code a) (λ i. store letter i k))
  numbered_stores letter group code (args.Local i) k g e = stores P facts own F G h0 Q letter i k g e
  numbered_stores letter group code args.Empty k g e = stores P facts own F G h0 Q letter (code - group) k g e
  numbered_stores letter group code _ k g e = no_rule G e

  pub incremented : (a : Args) (k : Script) → On k → iinc_rule own a F ≡ Leaves G → Fit (rules.inc_rule a k)
  incremented (args.Inc i by) k g e = increments P facts own F G h0 Q i by k g e
  incremented _ k g e = no_rule G e

  if_both : (c : Bool) (x y : Checked) (A B : Script) → (if c then x else y) ≡ Leaves G → (x ≡ Leaves G → Fit A) → (y ≡ Leaves G → Fit B) → Fit (if c then A else B)
  if_both true x y A B e f g = f e
  if_both false x y A B e f g = g e

  pub widened : (a : Args) (k : Script) → On k → wide_rule own a F ≡ Leaves G → Fit (rules.wide_rule a k)
  widened (args.Wide code i) k g e =
      if_both (code == 21) _ _ _ _ e (λ e. loads P facts own F G h0 Q letters.I i k g e) (λ e.
      if_both (code == 22) _ _ _ _ e (λ e. loads P facts own F G h0 Q letters.J i k g e) (λ e.
      if_both (code == 25) _ _ _ _ e (λ e. loads P facts own F G h0 Q letters.R i k g e) (λ e.
      if_both (code == 54) _ _ _ _ e (λ e. stores P facts own F G h0 Q letters.I i k g e) (λ e.
      if_both (code == 55) _ _ _ _ e (λ e. stores P facts own F G h0 Q letters.J i k g e) (λ e.
      if_both (code == 58) _ _ _ _ e (λ e. stores P facts own F G h0 Q letters.R i k g e) (λ e. no_rule G e))))))
  widened (args.WideInc i by) k g e = increments P facts own F G h0 Q i by k g e
  widened _ k g e = no_rule G e

  -- ---- branches

  -- the target of a branch
  pub on_target : (a : Args) (t : ℕ) → a ≡ args.Branch t → ((u : ℕ) → Contains (targets_of a) u → On (GoTo u)) → (sc : ℕ → Script) → (On (GoTo t) → Fit (sc t)) → Fit (rules.on_branch a sc)
  on_target a t e b sc f = subst (λ a. Fit (rules.on_branch a sc)) (sym e) (f (b t (subst (λ a. Contains (targets_of a) t) (sym e) (0, omega arith, refl))))

  pub switched : (s : Shape) (a : Args) → ((u : ℕ) → Contains (targets_of a) u → On (GoTo u)) → take_letters (letters.I ∷ []) 0 F.operands (λ ts. leaves_operands own F ts) ≡ Leaves G
      → (T (is_shaped shapes.Tab a) → Fit (rules.switch_rule a)) × (T (is_shaped shapes.Look a) → Fit (rules.switch_rule a))
  switched s (args.Switch other low ts) b e = ((λ p. switches P facts own F G h0 Q (λ n. target_at ts other (n -ℤ low)) (other ∷ ts) b (λ n C c. in_table P facts own F G h0 Q other ts low (λ n. n -ℤ low) n C c) e), λ p. absurd p)
  switched s (args.Look other keys ts) b e = ((λ p. absurd p), λ p. switches P facts own F G h0 Q (λ n. target_of keys ts other n) (other ∷ ts) b (λ n C c. in_lookup P facts own F G h0 Q other keys ts n C c) e)
  switched s args.Empty b e = ((λ p. absurd p), λ p. absurd p)
  switched s (args.Local i) b e = ((λ p. absurd p), λ p. absurd p)
  switched s (args.Num n) b e = ((λ p. absurd p), λ p. absurd p)
  switched s (args.Pool i) b e = ((λ p. absurd p), λ p. absurd p)
  switched s (args.Branch t) b e = ((λ p. absurd p), λ p. absurd p)
  switched s (args.Inc i by) b e = ((λ p. absurd p), λ p. absurd p)
  switched s (args.Prim c) b e = ((λ p. absurd p), λ p. absurd p)
  switched s (args.Dims i n) b e = ((λ p. absurd p), λ p. absurd p)
  switched s (args.Wide c i) b e = ((λ p. absurd p), λ p. absurd p)
  switched s (args.WideInc i by) b e = ((λ p. absurd p), λ p. absurd p)

  -- ---- what linking found
  module _ (s : Site) (owed : Owed P own F G h0 Q s) (site_facts : SiteFacts P own.«class» s) (k : Script) (g : On k) where
    pub found_gets : (found : Resolved) → get_field_rule P own found F ≡ Leaves G → Fit (rules.on_slot found (λ c i. get_field P c i k))
    found_gets (resolved.Slot c i) e = gets P facts own F G h0 Q s owed k g c i e
    found_gets _ e = no_rule G e

    pub found_puts : (found : Resolved) → put_field_rule P own found F ≡ Leaves G → Fit (rules.on_slot found (λ c i. put_field P c i k))
    found_puts (resolved.Slot c i) e = puts P facts own F G h0 Q s owed k g c i e
    found_puts _ e = no_rule G e

    pub found_casts : (found : Resolved) → test_rule own 192 found F ≡ Leaves G → Fit (rules.on_kind found (λ kind. check_cast P kind k))
    found_casts (resolved.Kind kind) e = casts P facts own F G h0 Q s owed k g kind e
    found_casts _ e = no_rule G e

    pub found_asks : (found : Resolved) → test_rule own 193 found F ≡ Leaves G → Fit (rules.on_kind found (λ kind. instance_of P kind k))
    found_asks (resolved.Kind kind) e = asks P facts own F G h0 Q s owed k g kind e
    found_asks _ e = no_rule G e

    made_here : (c : ℕ) → s.instr.row.family ≡ F33 → s.resolved ≡ resolved.Kind (class_kind c) → site_at own s.instr.at ≡ Some s → class_made_at own s.instr.at ≡ Some c
    made_here c fam rs here = subst (λ o. option_and_then (λ (s : Site). class_made s.instr.row.family s.resolved) o ≡ Some c) (sym here) (subst (λ f. class_made f s.resolved ≡ Some c) (sym fam) (subst (λ r. class_made F33 r ≡ Some c) (sym rs) refl))

    pub found_makes : (found : Resolved) → s.instr.row.family ≡ F33 → s.resolved ≡ found → site_at own s.instr.at ≡ Some s → new_rule own s.instr.at found F ≡ Leaves G → Fit (rules.on_kind found (λ kind. new_of P kind k))
    found_makes (resolved.Kind kind) fam rs here e =
        let m = site_facts.made fam kind rs in
        let rs' : s.resolved ≡ resolved.Kind (class_kind m.0) = rs ∙ ap (λ k. resolved.Kind k) m.1 in
        subst (λ kind. Fit (new_of P kind k)) (sym m.1)
        (makes P facts own F G h0 Q s owed k g s.instr.at m.0 (made_here m.0 fam rs' here) m.2 (subst (λ kind. new_rule own s.instr.at (resolved.Kind kind) F ≡ Leaves G) m.1 e))
    found_makes _ fam rs here e = no_rule G e

    base_array : (o : Option Base) → ((b : Base) → o ≡ Some b → T (is_assignable P (record { dims = 0; base = b }) (record { dims = 0; base = b }))) → primitive_array_rule own o F ≡ Leaves G
        → Fit (with_found o (λ base. new_array P (record { dims = 0; base = base }) k))
    base_array None self e = no_rule G e
    base_array (Some b) self e = new_arrays_fit P facts own F G h0 Q s owed (record { dims = 0; base = b }) k g (self b refl) e

    pub found_arrays : (a : Args) (found : Resolved) → s.instr.args ≡ a → s.resolved ≡ found → new_array_rule own a found F ≡ Leaves G → Fit (rules.array_rule P a found k)
    unfolding AllBeside
    found_arrays (args.Prim code) found as_ rs e = base_array (primitive_of code) (λ b is. beside_all (λ b. T (is_assignable P (record { dims = 0; base = b }) (record { dims = 0; base = b }))) code primitive_lines (tt, (tt, (tt, (tt, (tt, (tt, tt)))))) b is) e
    found_arrays (args.Pool i) (resolved.Kind kind) as_ rs e = new_arrays_fit P facts own F G h0 Q s owed kind k g (yes _ (site_facts.kind kind rs)) e
    found_arrays (args.Dims i n) (resolved.Kind kind) as_ rs e =
        let d = site_facts.dimensions i n kind as_ rs in
        many_fit P facts own F G h0 Q s owed k g kind n d.0 d.1 (yes _ (site_facts.kind kind rs)) e
    found_arrays _ _ as_ rs e = no_rule G e
