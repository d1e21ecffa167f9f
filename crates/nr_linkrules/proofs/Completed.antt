-- What linking finds for the methods of the program that classes make, where they have no fault, is what their files say.
use Rattle.std.proofs.Common.{◌≡◌, ℕ, zero, suc, ◌+◌, Bool, true, false, List, [], ◌∷◌, ◌++◌, length, map, refl, sym, ap, subst, ◌∙◌, inl, inr, ◌⊎◌}
use Rattle.std.specs.Prelude.{All, Option, Some, None, Ok, slice_get, ◌==◌, is_some, if◌then◌else◌}
use Rattle.std.specs.List.{AllZip, position}
use Rattle.std.specs.Option.{option_map, option_map_or, option_to_list}
use Rattle.std.specs.Str.{bytes_eq}
use Rattle.std.proofs.lemmas.Bool.{eqb-false, eqb-true}
use Rattle.std.proofs.lemmas.Option.{get_or_from_slice_get, same_Some, slice_get_within}
use Rattle.nr_base.specs.Descs.{method_desc}
use Rattle.nr_base.specs.declared.desc.types.DescBase.{DescBase}
use Rattle.nr_base.specs.declared.desc.types.DescBase.TheVariants as desc_bases
use Rattle.nr_prog.specs.declared.body.frame_map.FrameMap.{FrameMap}
use Rattle.nr_prog.specs.declared.body.frame_map.MapType.{MapType}
use Rattle.nr_prog.specs.declared.body.frame_map.MapType.TheVariants as map_types
use Rattle.nr_prog.specs.declared.body.instruction.Instr.{Instr}
use Rattle.nr_prog.specs.declared.body.loaded.Loaded.{Loaded}
use Rattle.nr_prog.specs.declared.body.whole.Body.{Body}
use Rattle.nr_prog.specs.declared.member.Code.{Code}
use Rattle.nr_prog.specs.declared.member.Handler.{Handler}
use Rattle.nr_prog.specs.declared.member.Method.{Method}
use Rattle.nr_prog.specs.declared.pool.PoolEntry.{PoolEntry}
use Rattle.nr_prog.specs.BodyNames.{class_text_at}
use Rattle.nr_prog.specs.BodyText.{BodyFor, IsHandler, instrs}
use Rattle.nr_linked.specs.declared.program.kind.Kind.{Kind}
use Rattle.nr_linked.specs.declared.program.tables.ClassInfo.{ClassInfo}
use Rattle.nr_linked.specs.declared.program.tables.MethodInfo.{MethodInfo}
use Rattle.nr_linked.specs.declared.program.tables.ProgramTables.{ProgramTables}
use Rattle.nr_linked.specs.declared.program.types.VType.TheVariants as types
use Rattle.nr_linked.specs.Linked.{frame_maps_of, handlers_of, instrs_of}
use Rattle.nr_linked.specs.Programs.{class_named}
use Rattle.nr_links.specs.Entries.{IsCaught, IsFrameOf, IsMethodAs, map_type}
use Rattle.nr_links.specs.Found.{IsFound}
use Rattle.nr_links.specs.Named.{NamesKind}
use Rattle.nr_links.proofs.Instructions.{HasText}
use Rattle.nr_linked.proofs.Elements.{some_of}
use Rattle.nr_linkrules.specs.declared.fault.LinkFault.TheVariants as faults
use Rattle.nr_linkrules.specs.ClassRules.{base_fault, known_fault}
use Rattle.nr_linkrules.specs.Completion.{caught, completed, frame_of, kind_or_none, or_nothing, type_of, types_of}
use Rattle.nr_linkrules.specs.Faults.{first_of, unless}
use Rattle.nr_linkrules.specs.Layout.{laid_out}
use Rattle.nr_linkrules.specs.LinkFaults.{link_fault}
use Rattle.nr_linkrules.specs.Outline.{bare_method, outline_method}
use Rattle.nr_linkrules.specs.Readable.{IsReadable}
use Rattle.nr_linkrules.specs.SiteRules.{around_fault, fault_of, handler_fault, instr_found, kind_at, map_fault, place_in, pool_of, type_fault}
use Rattle.nr_linkrules.proofs.Alike as alike
use Rattle.nr_linkrules.proofs.GivenAll.{given_is_found}
use Rattle.nr_linkrules.proofs.Known as known
use Rattle.nr_linkrules.proofs.KnownAbove as above
use Rattle.nr_linkrules.proofs.KnownMethods as methods_known
use Rattle.nr_linkrules.proofs.KnownMethods.{no_fault_ok, none_both}
use Rattle.nr_linkrules.proofs.KnownProgram.{linked}
use Rattle.nr_linkrules.proofs.Naming.{kind_is_named}
use Rattle.nr_linkrules.proofs.NoFault.{both_none, each_of}
use Rattle.nr_linkrules.proofs.Program as program
use Rattle.nr_linkrules.proofs.SameFound.{found_same, kind_same}

-- items beside what is made of them
zip_made : {X Y : Type 0} (R : X → Y → Type 0) (f : X → Y) (xs : List X) → ((k : ℕ) (x : X) → slice_get xs k ≡ Some x → R x (f x)) → AllZip R xs (map f xs)
zip_made R f [] h = tt
zip_made R f (x ∷ xs) h = (h 0 x refl, zip_made R f xs (λ k. h (suc k)))

-- each instruction of a text has its text
each_text : (pool : List PoolEntry) (start : ℕ) (is : List Instr) (text : List ℕ) → instrs pool start is text → (k : ℕ) (x : Instr) → slice_get is k ≡ Some x → HasText pool x
each_text pool start [] text g k x at = absurd cc
each_text pool start (i ∷ is) text g zero x at = subst (HasText pool) (same_Some i x at) (start, g.0, g.2)
each_text pool start (i ∷ is) text g (suc k) x at = each_text pool (start + length g.0) is g.1 g.3 k x at

module _ (classes : List Loaded) (none : link_fault classes ≡ None) (all : All IsReadable classes) where
  abbrev O : ProgramTables
  O = known.O classes none all

  abbrev P : ProgramTables
  P = known.P classes none all

  abbrev L : ProgramTables
  L = known.L classes none all

  classes_same : P.classes ≡ L.classes
  classes_same = methods_known.classes_same classes none all

  bare_same : map bare_method P.methods ≡ map bare_method L.methods
  unfolding laid_out
  bare_same = program.bare_methods classes

  -- ---- frame maps

  named_same : (name : List ℕ) → class_named O name ≡ class_named L name
  named_same name = alike.named P O (program.bare_classes classes) name ∙ ap (λ (es : List ClassInfo). position (λ (e : ClassInfo). bytes_eq e.name name) es) classes_same

  known_same : (name : List ℕ) → known_fault O name ≡ known_fault L name
  unfolding known_fault
  known_same name = ap (λ o. unless (is_some o) (faults.NoClass name)) (named_same name)

  base_same : (b : DescBase) → base_fault O b ≡ base_fault L b
  base_same desc_bases.Bool = refl
  base_same desc_bases.Byte = refl
  base_same desc_bases.Char = refl
  base_same desc_bases.Short = refl
  base_same desc_bases.Int = refl
  base_same desc_bases.Long = refl
  base_same (desc_bases.Object name) = known_same name

  type_back : (t : MapType) → type_fault L t ≡ None → map (map_type P) (option_to_list (type_of L t)) ≡ t ∷ []
  type_back map_types.Top e = refl
  type_back map_types.Int e = refl
  type_back map_types.Long e = refl
  type_back map_types.Null e = refl
  type_back map_types.UninitThis e = refl
  type_back (map_types.Uninit at) e = refl
  type_back (map_types.Object d) e =
      let k = methods_known.kind_there classes none all d (base_same d.base ∙ e) in
      ap (λ o. map (map_type P) (option_to_list (option_map (λ k. types.Class k) o))) k.1 ∙ ap (λ d. map_types.Object d ∷ []) k.2

  types_back : (ts : List MapType) → first_of (type_fault L) ts ≡ None → map (map_type P) (types_of L ts) ≡ ts
  unfolding first_of
  types_back [] e = refl
  types_back (t ∷ ts) e =
      let parts = both_none (type_fault L t) (first_of (type_fault L) ts) e in
      Rattle.nr_linkrules.proofs.Parts.map_parts (map_type P) (option_to_list (type_of L t)) (types_of L ts) ∙ (λ i. type_back t parts.0 i ++ types_back ts parts.1 i)

  frame_is : (f : FrameMap) → map_fault L f ≡ None → IsFrameOf P f (frame_of L f)
  unfolding map_fault
  frame_is f e =
      let parts = none_both (type_fault L) f.locals f.stack e in
      record { at = refl; locals = types_of L f.locals; are_locals = types_back f.locals parts.0; in_places = refl; stack = types_back f.stack parts.1; this_uninit = refl }

  module _ (own : ℕ) (l : Loaded) (place : ℕ) (m : Method) (decoded : Option Body) (at : slice_get classes own ≡ Some l) (declares : slice_get l.«class».methods place ≡ Some m) (decodes : slice_get l.bodies place ≡ Some decoded)
      (body : BodyFor l.«class» m m.code decoded) where
    abbrev bare : MethodInfo
    bare = methods_known.bare classes none all own l place m decoded at declares decodes

    abbrev i : MethodInfo
    i = methods_known.i classes none all own l place m decoded at declares decodes

    pool_is : pool_of L bare ≡ l.«class».pool
    pool_is = methods_known.pool_is classes none all own l place m decoded at declares decodes

    texts : All Rattle.nr_prog.specs.Pool.IsText l.«class».pool
    texts = (known.readable classes none all own l at).texts

    -- ---- instructions

    has_text : (k : ℕ) (x : Instr) → slice_get (instrs_of bare) k ≡ Some x → HasText l.«class».pool x
    unfolding outline_method
    has_text k x there = of_code m.code body there
      where
        of_code : (o : Option Code) → BodyFor l.«class» m o decoded → slice_get (option_map_or (λ (b : Body). b.instrs) decoded []) k ≡ Some x → HasText l.«class».pool x
        of_code None b there = let clash = ap (λ (d : Option Body). slice_get (option_map_or (λ (b : Body). b.instrs) d []) k) (sym b) ∙ there in absurd cc
        of_code (Some code) b there = each_text l.«class».pool 0 b.0.instrs code.bytes b.2.instrs k x (ap (λ (d : Option Body). slice_get (option_map_or (λ (b : Body). b.instrs) d []) k) (sym b.1) ∙ there)

    own_place : (at : ℕ) → (place_in L bare at).own ≡ own
    unfolding outline_method
    own_place at = refl

    instr_is : (k : ℕ) (x : Instr) → slice_get (instrs_of bare) k ≡ Some x → IsFound P own l.«class».pool x (or_nothing (instr_found L (place_in L bare) (pool_of L bare) x))
    instr_is k x there =
        let ok = methods_known.instr_ok classes none all own l place m decoded at declares decodes k x there in
        subst (IsFound P own l.«class».pool x) (sym (ap or_nothing ok.1))
        (given_is_found l.«class».pool (above.formed classes none all own l at).entries texts P (linked classes none all) own (program.entry_of classes own l) (above.is_entry classes none all own l at)
        (place_in L bare) own_place x ok.0 (has_text k x there)
        (sym (found_same P L classes_same bare_same (place_in L bare) l.«class».pool x) ∙ ap (λ pool. instr_found L (place_in L bare) pool x) (sym pool_is) ∙ ok.1))

    -- ---- exception handlers and frame maps

    around : (first_of (handler_fault L (pool_of L bare)) (handlers_of bare) ≡ None) × (first_of (map_fault L) (frame_maps_of bare) ≡ None)
    unfolding around_fault
    around = both_none (first_of (handler_fault L (pool_of L bare)) (handlers_of bare)) (first_of (map_fault L) (frame_maps_of bare)) (methods_known.no_around_fault classes none all own l place m decoded at declares decodes)

    -- a catch type that isn't 0 names a class
    catches : (k : ℕ) (h : Handler) → slice_get (handlers_of bare) k ≡ Some h → (h.catch_type ≡ 0) ⊎ ((bytes : List ℕ) × (class_text_at l.«class».pool h.catch_type ≡ Some bytes))
    unfolding outline_method
    catches k h there = of_code m.code body there
      where
        of_handler : (len : ℕ) (is : List Instr) → IsHandler l.«class».pool len is h → (h.catch_type ≡ 0) ⊎ ((bytes : List ℕ) × (class_text_at l.«class».pool h.catch_type ≡ Some bytes))
        of_handler len is g = elim g.catches [ inl z ↦ inl z | inr n ↦ let t = some_of Rattle.nr_base.specs.ModifiedUtf8.IsModifiedUtf8 (class_text_at l.«class».pool h.catch_type) n in inr (t.0, t.1) ]

        of_code : (o : Option Code) → BodyFor l.«class» m o decoded → slice_get (option_map_or (λ (b : Body). b.handlers) decoded []) k ≡ Some h → (h.catch_type ≡ 0) ⊎ ((bytes : List ℕ) × (class_text_at l.«class».pool h.catch_type ≡ Some bytes))
        of_code None b there = let clash = ap (λ (d : Option Body). slice_get (option_map_or (λ (b : Body). b.handlers) d []) k) (sym b) ∙ there in absurd cc
        of_code (Some code) b there =
            let here = ap (λ hs. slice_get hs k) (sym b.2.handlers) ∙ ap (λ (d : Option Body). slice_get (option_map_or (λ (b : Body). b.handlers) d []) k) (sym b.1) ∙ there in
            of_handler (length code.bytes) b.0.instrs (subst (IsHandler l.«class».pool (length code.bytes) b.0.instrs) (get_or_from_slice_get code.handlers k h h here) (b.2.ranges k h (slice_get_within code.handlers k h here)))

    handler_is : (k : ℕ) (h : Handler) → slice_get (handlers_of bare) k ≡ Some h → IsCaught P l.«class».pool h (caught L (pool_of L bare) h)
    unfolding handler_fault
    handler_is k h there = subst (λ pool. IsCaught P l.«class».pool h (caught L pool h)) (sym pool_is)
        (of_test (h.catch_type == 0) refl (sym (ap (λ pool. handler_fault L pool h) pool_is) ∙ each_of (handler_fault L (pool_of L bare)) (handlers_of bare) around.0 k h there) (catches k h there))
      where
        named : (k : Kind) → kind_at L l.«class».pool h.catch_type ≡ Ok k → (h.catch_type ≡ 0 → ⊥) → (h.catch_type ≡ 0) ⊎ ((bytes : List ℕ) × (class_text_at l.«class».pool h.catch_type ≡ Some bytes)) → NamesKind P l.«class».pool h.catch_type k
        named k e apart (inl z) = absurd (apart z)
        named k e apart (inr t) = kind_is_named P l.«class».pool texts h.catch_type t.0 k t.1 (sym (kind_same P L classes_same l.«class».pool h.catch_type) ∙ e)

        of_test : (b : Bool) → (h.catch_type == 0) ≡ b → (if b then None else fault_of (kind_at L l.«class».pool h.catch_type)) ≡ None → (h.catch_type ≡ 0) ⊎ ((bytes : List ℕ) × (class_text_at l.«class».pool h.catch_type ≡ Some bytes))
            → IsCaught P l.«class».pool h (if b then None else kind_or_none (kind_at L l.«class».pool h.catch_type))
        of_test true b e t = eqb-true h.catch_type 0 b
        of_test false b e t =
            let k = no_fault_ok (kind_at L l.«class».pool h.catch_type) e in
            subst (IsCaught P l.«class».pool h) (sym (ap kind_or_none k.1)) (named k.0 k.1 (eqb-false h.catch_type 0 b) t)

    -- ---- the method

    pub method_as : IsMethodAs P own l.«class».pool m decoded i
    unfolding completed outline_method
    method_as =
        let d = methods_known.d classes none all own l place m decoded at declares decodes in
        record {
          says = d.says;
          spelled = subst (method_desc d.says) (sym (methods_known.desc_is classes none all own l place m decoded at declares decodes)) d.spelled;
          params = methods_known.params_are classes none all own l place m decoded at declares decodes;
          result = methods_known.result_is classes none all own l place m decoded at declares decodes;
          body = refl;
          max_stack = refl;
          max_locals = refl;
          resolved = zip_made (IsFound P own l.«class».pool) (λ x. or_nothing (instr_found L (place_in L bare) (pool_of L bare) x)) (instrs_of bare) instr_is;
          catches = zip_made (IsCaught P l.«class».pool) (caught L (pool_of L bare)) (handlers_of bare) handler_is;
          maps = zip_made (IsFrameOf P) (frame_of L) (frame_maps_of bare) (λ k f there. frame_is f (each_of (map_fault L) (frame_maps_of bare) around.1 k f there));
        }
