-- Classes that link have no fault of instructions, exception handlers and frame maps; and so no fault at all.
use Rattle.std.proofs.Common.{◌≡◌, ℕ, zero, suc, Bool, true, false, List, [], ◌∷◌, length, map, refl, arith, sym, ap, subst, ◌∙◌, inl, inr}
use Rattle.std.specs.Prelude.{All, Option, Some, None, IsTrue, slice_get, ◌==◌, if◌then◌else◌, is_some}
use Rattle.std.specs.List.{AllZip, list_all}
use Rattle.std.specs.Option.{option_map, option_map_or, option_or}
use Rattle.std.proofs.lemmas.Bool.{and_from, and_parts, eq-eqb, ltb-true}
use Rattle.std.proofs.lemmas.Option.{same_Some, slice_get-map, slice_get_within}
use Rattle.nr_prog.specs.declared.body.frame_map.FrameMap.{FrameMap}
use Rattle.nr_prog.specs.declared.body.instruction.Instr.{Instr}
use Rattle.nr_prog.specs.declared.body.loaded.Loaded.{Loaded}
use Rattle.nr_prog.specs.declared.member.Handler.{Handler}
use Rattle.nr_prog.specs.declared.pool.PoolEntry.{PoolEntry}
use Rattle.nr_linked.specs.declared.program.kind.Base.{Base}
use Rattle.nr_linked.specs.declared.program.kind.Base.TheVariants as bases
use Rattle.nr_linked.specs.declared.program.kind.Kind.{Kind}
use Rattle.nr_linked.specs.declared.program.tables.ClassInfo.{ClassInfo}
use Rattle.nr_linked.specs.declared.program.tables.MethodInfo.{MethodInfo}
use Rattle.nr_linked.specs.declared.program.tables.ProgramTables.{ProgramTables}
use Rattle.nr_linked.specs.declared.program.types.VFrame.{VFrame}
use Rattle.nr_linked.specs.declared.program.types.VType.{VType}
use Rattle.nr_linked.specs.declared.program.types.VType.TheVariants as types
use Rattle.nr_linked.specs.BuiltInTables.{built_in_method}
use Rattle.nr_linked.specs.KindTexts.{base_desc, class_name}
use Rattle.nr_linked.specs.Kinds.{class_in}
use Rattle.nr_linked.specs.Linked.{frame_maps_of, handlers_of, instrs_of, is_class_in, is_frame_in, is_type_in}
use Rattle.nr_linked.specs.Programs.{class_at, class_named, method_at}
use Rattle.nr_linked.specs.TypingFrames.{in_places}
use Rattle.nr_links.specs.Entries.{IsCaught, IsFrameOf, map_type}
use Rattle.nr_links.specs.Found.{IsFound}
use Rattle.nr_links.specs.Links.{IsDecoded, Links}
use Rattle.nr_linked.proofs.BuiltInEntries.{BuiltInEntry}
use Rattle.nr_links.proofs.Descriptors.{name_of}
use Rattle.nr_links.proofs.MethodEntries.{LoadedMethod, method_cases}
use Rattle.nr_linked.proofs.Elements.{get_below, get_mapped, passes_at}
use Rattle.nr_links.proofs.SlotFacts.{LoadedEntry, below_loaded, loaded_entry}
use Rattle.nr_linkrules.specs.declared.fault.LinkFault.{LinkFault}
use Rattle.nr_linkrules.specs.ClassRules.{base_fault, known_fault}
use Rattle.nr_linkrules.specs.Faults.{first_of}
use Rattle.nr_linkrules.specs.Layout.{laid_out}
use Rattle.nr_linkrules.specs.LinkFaults.{classes_fault, code_faults, link_fault}
use Rattle.nr_linkrules.specs.Outline.{bare_method, outline}
use Rattle.nr_linkrules.specs.SiteRules.{around_fault, code_fault, fault_of, handler_fault, instr_found, kind_at, map_fault, place_in, pool_of, type_fault}
use Rattle.nr_linkrules.proofs.Alike.{bare_method_says}
use Rattle.nr_linkrules.proofs.Finding.{found_is_given}
use Rattle.nr_linkrules.proofs.LaidOut.{laid_classes}
use Rattle.nr_linkrules.proofs.Naming.{named_is_found}
use Rattle.nr_linkrules.proofs.NoFault.{none_of, none_of_both, none_or, passed}
use Rattle.nr_linkrules.proofs.OutlinedMethods.{methods_are}
use Rattle.nr_linkrules.proofs.Passed.{no_above_fault, no_cycle_fault, no_list_fault}
use Rattle.nr_linkrules.proofs.PassedMembers.{no_members_fault}
use Rattle.nr_linkrules.proofs.SameFound.{found_same, kind_same}

-- the item beside one of the other list
pub beside : {X Y : Type 0} (R : X → Y → Type 0) (xs : List X) (ys : List Y) (k : ℕ) (x : X) → AllZip R xs ys → slice_get xs k ≡ Some x → (y : Y) × (slice_get ys k ≡ Some y) × R x y
beside R [] [] k x all at = absurd cc
beside R [] (y ∷ ys) k x all at = absurd all
beside R (a ∷ xs) [] k x all at = absurd all
beside R (a ∷ xs) (b ∷ ys) zero x all at = (b, refl, subst (λ x. R x b) (same_Some a x at) all.0)
beside R (a ∷ xs) (b ∷ ys) (suc k) x all at = beside R xs ys k x all.1 at

-- the types of local variables, of which a long takes two places
types_in_places : (f : VType → Bool) (ts : List VType) → IsTrue (list_all f (in_places ts)) → IsTrue (list_all f ts)
types_in_places f [] p = refl
types_in_places f (types.Long ∷ ts) p =
    let a = and_parts (f types.Long) _ p in
    let b = and_parts (f types.Top) _ a.1 in
    and_from (f types.Long) _ a.0 (types_in_places f ts b.1)
types_in_places f (t ∷ ts) p = let a = and_parts (f t) _ p in and_from (f t) _ a.0 (types_in_places f ts a.1)

module _ (classes : List Loaded) (P : ProgramTables) (links : Links classes P) (all : All IsDecoded classes) where
  abbrev L : ProgramTables
  L = laid_out (outline classes)

  outlined : L.methods ≡ (outline classes).methods
  unfolding laid_out
  outlined = refl

  classes_same : P.classes ≡ L.classes
  classes_same = sym (laid_classes classes P links)

  methods_same : map bare_method P.methods ≡ map bare_method L.methods
  methods_same = methods_are classes P links all ∙ ap (map bare_method) (sym outlined)

  -- ---- classes that are known

  known : (c : ℕ) → IsTrue (is_class_in P c) → known_fault L (class_name P c) ≡ None
  unfolding known_fault
  known c p =
      let e = get_below P.classes c (ltb-true c (length P.classes) p) in
      let number : class_named P (class_name P c) ≡ Some c = ap (class_named P) (name_of P c e.0 e.1) ∙ (links.linked.classes c e.0 e.1).name in
      passed (is_some (class_named L (class_name P c))) _ (ap (λ (es : List ClassInfo). is_some (Rattle.std.specs.List.position (λ (e : ClassInfo). Rattle.std.specs.Str.bytes_eq e.name (class_name P c)) es)) (sym classes_same) ∙ ap is_some number)

  base_known : (b : Base) → IsTrue (option_map_or (is_class_in P) (class_in b) true) → base_fault L (base_desc P b) ≡ None
  base_known bases.Bool p = refl
  base_known bases.Byte p = refl
  base_known bases.Char p = refl
  base_known bases.Short p = refl
  base_known bases.Int p = refl
  base_known bases.Long p = refl
  base_known (bases.Object c) p = known c p

  -- ---- frame maps

  type_known : (t : VType) → IsTrue (is_type_in P t) → type_fault L (map_type P t) ≡ None
  type_known types.Top p = refl
  type_known types.Int p = refl
  type_known types.Long p = refl
  type_known types.Null p = refl
  type_known types.UninitThis p = refl
  type_known (types.Uninit at) p = refl
  type_known (types.Class k) p = base_known k.base p

  types_known : (ts : List VType) → IsTrue (list_all (is_type_in P) ts) → first_of (type_fault L) (map (map_type P) ts) ≡ None
  unfolding first_of
  types_known [] p = refl
  types_known (t ∷ ts) p = let both = and_parts (is_type_in P t) (list_all (is_type_in P) ts) p in none_or _ _ (type_known t both.0) (types_known ts both.1)

  map_none : (f : FrameMap) (e : ℕ × VFrame) → IsFrameOf P f e → IsTrue (is_frame_in P e.1) → map_fault L f ≡ None
  unfolding map_fault
  map_none f e frame p =
      let both = and_parts (list_all (is_type_in P) e.1.locals) (list_all (is_type_in P) e.1.stack) p in
      none_of_both (type_fault L) f.locals f.stack
      (ap (first_of (type_fault L)) (sym frame.are_locals) ∙ types_known frame.locals (types_in_places (is_type_in P) frame.locals (subst (λ ts. IsTrue (list_all (is_type_in P) ts)) frame.in_places both.0)))
      (ap (first_of (type_fault L)) (sym frame.stack) ∙ types_known e.1.stack both.1)

  -- ---- exception handlers

  handler_none : (pool : List PoolEntry) (h : Handler) (o : Option Kind) → IsCaught P pool h o → handler_fault L pool h ≡ None
  unfolding handler_fault
  handler_none pool h None zero_type = ap (λ b. if b then None else fault_of (kind_at L pool h.catch_type)) (eq-eqb h.catch_type 0 zero_type)
  handler_none pool h (Some k) named = ap (λ f. if h.catch_type == 0 then None else fault_of f) (kind_same P L classes_same pool h.catch_type ∙ named_is_found P pool links.linked h.catch_type k named) ∙ either (h.catch_type == 0)
    where
      either : (b : Bool) → ◌≡◌ {A = Option LinkFault} (if b then None else None) None
      either true = refl
      either false = refl

  -- ---- one method

  -- the method of the program at the place of one of the outline
  record There (n : ℕ) (i : MethodInfo) : Type 0 where
    j : MethodInfo
    is : method_at P n ≡ Some j
    alike : bare_method i ≡ bare_method j

  there : (n : ℕ) (i : MethodInfo) → method_at L n ≡ Some i → There n i
  there n i at =
      let r = get_mapped bare_method P.methods n (bare_method i) (ap (λ is. slice_get is n) methods_same ∙ slice_get-map bare_method L.methods n ∙ ap (option_map bare_method) at) in
      record { j = r.0; is = r.1; alike = r.2 }

  says : {X : Type 0} (f : MethodInfo → X) → ((i : MethodInfo) → f (record i { params = []; result = None; resolved = []; catches = []; maps = [] }) ≡ f i) → (i j : MethodInfo) → bare_method i ≡ bare_method j → f i ≡ f j
  says f h i j e = sym (bare_method_says f h i) ∙ ap f e ∙ bare_method_says f h j

  pool_is : (i : MethodInfo) (c : ℕ) (e : ClassInfo) (l : LoadedEntry classes P c e) → class_at P c ≡ Some e → i.«class» ≡ c → pool_of L i ≡ l.l.«class».pool
  pool_is i c e l is own =
      (λ at. option_map_or (λ (e : ClassInfo). option_map_or (λ parts. parts.pool) e.read []) (slice_get (sym classes_same at) (own at)) [])
      ∙ ap (λ o. option_map_or (λ (e : ClassInfo). option_map_or (λ parts. parts.pool) e.read []) o []) is ∙ ap (λ o. option_map_or (λ parts. parts.pool) o []) l.read

  module _ (n : ℕ) (i : MethodInfo) (t : There n i) where
    -- the method has no code
    none_without : instrs_of t.j ≡ [] → handlers_of t.j ≡ [] → frame_maps_of t.j ≡ [] → (code_fault L i ≡ None) × (around_fault L i ≡ None)
    unfolding code_fault around_fault first_of
    none_without no_code no_handlers no_maps = (
      ap (first_of (λ n. fault_of (instr_found L (place_in L i) (pool_of L i) n))) (says instrs_of (λ i. refl) i t.j t.alike ∙ no_code),
      (λ at. option_or (first_of (handler_fault L (pool_of L i)) ((says handlers_of (λ i. refl) i t.j t.alike ∙ no_handlers) at)) (first_of (map_fault L) ((says frame_maps_of (λ i. refl) i t.j t.alike ∙ no_maps) at))),
    )

    module _ (m : LoadedMethod classes P n t.j) (e : ClassInfo) (is : class_at P m.own ≡ Some e) (l : LoadedEntry classes P m.own e) where
      same_class : l.l ≡ m.l
      same_class = same_Some l.l m.l (sym l.at ∙ m.at)

      own : i.«class» ≡ m.own
      own = says (λ (i : MethodInfo). i.«class») (λ i. refl) i t.j t.alike ∙ m.is_own

      pool_here : pool_of L i ≡ m.l.«class».pool
      pool_here = pool_is i m.own e l is own ∙ ap (λ (l : Loaded). l.«class».pool) same_class

      instr_none : (k : ℕ) (x : Instr) → slice_get (instrs_of i) k ≡ Some x → fault_of (instr_found L (place_in L i) (pool_of L i) x) ≡ None
      instr_none k x at =
          let r = beside (IsFound P m.own m.l.«class».pool) (instrs_of t.j) t.j.resolved k x m.said.resolved (sym (ap (λ xs. slice_get xs k) (says instrs_of (λ i. refl) i t.j t.alike)) ∙ at) in
          ap fault_of (ap (λ pool. instr_found L (place_in L i) pool x) pool_here
          ∙ found_same P L classes_same methods_same (place_in L i) m.l.«class».pool x
          ∙ found_is_given P links.linked m.own e is m.l.«class».pool (place_in L i) (λ at. own) x r.0 r.2)

      around_none : (k : ℕ) (h : Handler) → slice_get (handlers_of i) k ≡ Some h → handler_fault L (pool_of L i) h ≡ None
      around_none k h at =
          let r = beside (IsCaught P m.l.«class».pool) (handlers_of t.j) t.j.catches k h m.said.catches (sym (ap (λ xs. slice_get xs k) (says handlers_of (λ i. refl) i t.j t.alike)) ∙ at) in
          ap (λ pool. handler_fault L pool h) pool_here ∙ handler_none m.l.«class».pool h r.0 r.2

      frame_none : (k : ℕ) (f : FrameMap) → slice_get (frame_maps_of i) k ≡ Some f → map_fault L f ≡ None
      frame_none k f at =
          let r = beside (IsFrameOf P) (frame_maps_of t.j) t.j.maps k f m.said.maps (sym (ap (λ xs. slice_get xs k) (says frame_maps_of (λ i. refl) i t.j t.alike)) ∙ at) in
          map_none f r.0 r.2 (passes_at (λ (m : ℕ × VFrame). is_frame_in P m.1) t.j.maps k r.0 (links.linked.methods n t.j t.is).maps r.1)

      none_with : (code_fault L i ≡ None) × (around_fault L i ≡ None)
      unfolding code_fault around_fault
      none_with = (none_of _ (instrs_of i) instr_none, none_or _ _ (none_of _ (handlers_of i) around_none) (none_of _ (frame_maps_of i) frame_none))

    none_loaded : LoadedMethod classes P n t.j → (code_fault L i ≡ None) × (around_fault L i ≡ None)
    none_loaded m =
        let p = below_loaded classes P links m.own m.l m.at in
        let w = slice_get_within classes m.own m.l m.at in
        let e = get_below P.classes m.own (omega (arith, w, links.class_count)) in
        none_with m e.0 e.1 (loaded_entry classes P links m.own e.0 e.1 p)

    none_built_in : BuiltInEntry P t.j → (code_fault L i ≡ None) × (around_fault L i ≡ None)
    unfolding built_in_method
    none_built_in b = none_without (ap instrs_of b.is) (ap handlers_of b.is) (ap frame_maps_of b.is)

  -- ---- all methods

  each : (n : ℕ) (i : MethodInfo) → method_at L n ≡ Some i → (code_fault L i ≡ None) × (around_fault L i ≡ None)
  each n i at =
      let t = there n i at in
      elim (method_cases classes P links all n t.j t.is) [
        | inl m ↦ none_loaded n i t m
        | inr b ↦ none_built_in n i t b
      ]

  no_code_fault : code_faults L ≡ None
  unfolding code_faults
  no_code_fault = none_or _ _ (none_of (code_fault L) L.methods (λ n i at. (each n i at).0)) (none_of (around_fault L) L.methods (λ n i at. (each n i at).1))

  pub no_fault : link_fault classes ≡ None
  unfolding link_fault classes_fault
  no_fault =
      none_or _ _ (no_list_fault classes P links)
      (none_or _ _ (none_or _ _ (no_above_fault classes P links) (none_or _ _ (no_cycle_fault classes P links) (no_members_fault classes P links all)))
      no_code_fault)
