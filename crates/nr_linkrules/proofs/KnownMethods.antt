-- Each method of the classes that were loaded is linked in the program that classes make where they have no fault.
use Rattle.std.proofs.Common.{◌≡◌, ℕ, zero, suc, ◌+◌, ◌-◌, ◌<◌, ◌≤◌, Bool, true, false, cond, find, List, [], ◌∷◌, ◌++◌, length, map, take, refl, sym, ap, subst, ◌∙◌, arith, inl, inr, ◌&&◌, not}
use Rattle.std.specs.Prelude.{All, Option, Some, None, Ok, Err, IsTrue, slice_get, ◌==◌, is_none, is_some, nat_lt, if◌then◌else◌}
use Rattle.std.specs.List.{list_all, position, range_with_len}
use Rattle.std.specs.Option.{option_and_then, option_map, option_map_or, option_to_list}
use Rattle.std.specs.Str.{bytes_eq}
use Rattle.std.proofs.lemmas.Bool.{and_from, and_parts, false_from_ne_true, lt-ltb}
use Rattle.std.proofs.lemmas.List.{length-map}
use Rattle.std.proofs.lemmas.Option.{get_or_from_slice_get, slice_get_within}
use Rattle.std.proofs.lemmas.Slice.Eq.{bytes_eq-Decides}
use Rattle.nr_base.specs.Descs.{method_text}
use Rattle.nr_base.specs.DescReading.{method_of}
use Rattle.nr_base.specs.declared.desc.types.Desc.{Desc}
use Rattle.nr_prog.specs.declared.body.frame_map.FrameMap.{FrameMap}
use Rattle.nr_prog.specs.declared.body.frame_map.MapType.{MapType}
use Rattle.nr_prog.specs.declared.body.frame_map.MapType.TheVariants as map_types
use Rattle.nr_prog.specs.declared.body.instruction.Instr.{Instr}
use Rattle.nr_prog.specs.declared.body.loaded.Loaded.{Loaded}
use Rattle.nr_prog.specs.declared.body.whole.Body.{Body}
use Rattle.nr_prog.specs.declared.member.Code.{Code}
use Rattle.nr_prog.specs.declared.member.Handler.{Handler}
use Rattle.nr_prog.specs.declared.member.Method.{Method}
use Rattle.nr_prog.specs.declared.parts.ClassParts.{ClassParts}
use Rattle.nr_prog.specs.declared.pool.PoolEntry.{PoolEntry}
use Rattle.nr_prog.specs.BodyText.{BodyFor}
use Rattle.nr_prog.specs.Members.{has_its_code, is_abstract}
use Rattle.nr_prog.specs.Pool.{text_at}
use Rattle.nr_prog.proofs.LegalLaws.{method_only}
use Rattle.nr_linked.specs.declared.program.kind.Kind.{Kind}
use Rattle.nr_linked.specs.declared.program.tables.ClassInfo.{ClassInfo}
use Rattle.nr_linked.specs.declared.program.tables.MethodInfo.{MethodInfo}
use Rattle.nr_linked.specs.declared.program.tables.ProgramTables.{ProgramTables}
use Rattle.nr_linked.specs.declared.program.tables.Resolved.{Resolved}
use Rattle.nr_linked.specs.declared.program.tables.Resolved.TheVariants as resolved
use Rattle.nr_linked.specs.declared.program.types.VFrame.{VFrame}
use Rattle.nr_linked.specs.declared.program.types.VType.{VType}
use Rattle.nr_linked.specs.declared.program.types.VType.TheVariants as types
use Rattle.nr_linked.specs.BuiltIns.{built_in_count}
use Rattle.nr_linked.specs.KindTexts.{kind_desc}
use Rattle.nr_linked.specs.Kinds.{class_in}
use Rattle.nr_linked.specs.Linked.{IsMethodLinked, declared, frame_maps_of, handlers_of, instrs_of, is_frame_in, is_kind_in, is_kind_in_or_none, is_loaded, is_resolved_in, is_type_in}
use Rattle.nr_linked.specs.Programs.{method_at}
use Rattle.nr_linked.specs.Selection.{is_called}
use Rattle.nr_linked.specs.TypingFrames.{in_places}
use Rattle.nr_links.specs.Entries.{method_count}
use Rattle.nr_links.proofs.Described.{same_bytes}
use Rattle.nr_linked.proofs.Elements.{get_below, get_mapped}
use Rattle.nr_linkrules.specs.declared.fault.LinkFault.{LinkFault}
use Rattle.nr_linkrules.specs.ClassRules.{desc_fault, members_fault, method_fault, types_in}
use Rattle.nr_linkrules.specs.Completion.{caught, completed, frame_of, kind_or_none, kinds_of, or_nothing, params_in, resolved_in, result_in, type_of, types_of}
use Rattle.nr_linkrules.specs.Faults.{first_of}
use Rattle.nr_linkrules.specs.Layout.{kind_of}
use Rattle.nr_linkrules.specs.LinkFaults.{link_fault}
use Rattle.nr_linkrules.specs.Outline.{bare_method, outline_class, outline_method, some_text}
use Rattle.nr_linkrules.specs.Readable.{IsReadable}
use Rattle.nr_linkrules.specs.SiteRules.{Finding, around_fault, code_fault, fault_of, instr_found, kind_at, place_in, pool_of}
use Rattle.nr_linkrules.proofs.Alike as alike
use Rattle.nr_linkrules.proofs.FoundIn.{found_in, kind_in}
use Rattle.nr_linkrules.proofs.Known as known
use Rattle.nr_linkrules.proofs.KnownAbove as above
use Rattle.nr_linkrules.proofs.KnownClasses as classes_known
use Rattle.nr_linkrules.proofs.KnownClasses.{all_of}
use Rattle.nr_linkrules.proofs.KnownSlots as slots
use Rattle.nr_linkrules.proofs.MemberParts.{members_kept}
use Rattle.nr_linkrules.proofs.Naming.{kind_says}
use Rattle.nr_linkrules.proofs.NoFault.{both_none, each_of, none_or}
use Rattle.nr_linkrules.proofs.Parts.{map_twice}
use Rattle.nr_linkrules.proofs.Program as program

-- ---- searches

-- the first place of a range whose number passes
find_at : (f : ℕ → Bool) (a len j : ℕ) → j < len → f (a + j) ≡ true → ((x : ℕ) → x < j → f (a + x) ≡ false) → find f (range_with_len a len) ≡ Some (a + j)
find_at f a zero j lt here before = absurd (omega (arith, lt))
find_at f a (suc len) zero lt here before =
    let e : a + zero ≡ a = omega arith in
    ap (λ b. cond b (Some a) (find f (range_with_len (a + 1) len))) (ap f (sym e) ∙ here) ∙ ap (λ n. Some n) (sym e)
find_at f a (suc len) (suc j) lt here before =
    let e : a + zero ≡ a = omega arith in
    let sum : a + 1 + j ≡ a + suc j = omega arith in
    ap (λ b. cond b (Some a) (find f (range_with_len (a + 1) len))) (ap f (sym e) ∙ before 0 (omega arith))
    ∙ find_at f (a + 1) len j (omega (arith, lt)) (ap f sum ∙ here) (λ x l. let more : a + 1 + x ≡ a + suc x = omega arith in ap f more ∙ before (suc x) (omega (arith, l))) ∙ ap (λ n. Some n) sum

pub none_both : {X : Type 0} (fault : X → Option LinkFault) (xs ys : List X) → first_of fault (xs ++ ys) ≡ None → (first_of fault xs ≡ None) × (first_of fault ys ≡ None)
unfolding first_of
none_both fault [] ys e = (refl, e)
none_both fault (x ∷ xs) ys e =
    let parts = both_none (fault x) (first_of fault (xs ++ ys)) e in
    let rest = none_both fault xs ys parts.1 in
    (none_or (fault x) (first_of fault xs) parts.0 rest.0, rest.1)

pub no_fault_ok : {A : Type 0} (o : Finding A) → fault_of o ≡ None → (x : A) × (o ≡ Ok x)
no_fault_ok (Ok x) e = (x, refl)
no_fault_ok (Err f) e = absurd cc

-- types that all pass, in their places
all_in_places : (f : VType → Bool) (ts : List VType) → IsTrue (f types.Top) → IsTrue (list_all f ts) → IsTrue (list_all f (in_places ts))
all_in_places f [] top p = refl
all_in_places f (types.Long ∷ ts) top p = let a = and_parts (f types.Long) _ p in and_from _ _ a.0 (and_from _ _ top (all_in_places f ts top a.1))
all_in_places f (t ∷ ts) top p = let a = and_parts (f t) _ p in and_from _ _ a.0 (all_in_places f ts top a.1)

-- a method has code where it isn't abstract
has_code : (c : ClassParts) (m : Method) (decoded : Option Body) → BodyFor c m m.code decoded → IsTrue (has_its_code m) → is_some decoded ≡ not (is_abstract m.flags)
unfolding has_its_code
has_code c m decoded body p = of_code m.code body (is_abstract m.flags) p
  where
    of_code : (o : Option Code) → BodyFor c m o decoded → (b : Bool) → IsTrue (if b then is_none o else is_some o) → is_some decoded ≡ not b
    of_code None body true p = ap is_some body
    of_code None body false p = absurd cc
    of_code (Some code) body true p = absurd cc
    of_code (Some code) body false p = ap is_some body.1

module _ (classes : List Loaded) (none : link_fault classes ≡ None) (all : All IsReadable classes) where
  abbrev O : ProgramTables
  O = known.O classes none all

  abbrev P : ProgramTables
  P = known.P classes none all

  abbrev L : ProgramTables
  L = known.L classes none all

  pub classes_same : P.classes ≡ L.classes
  classes_same = program.classes_laid classes

  many : built_in_count ≤ length L.classes
  many = let total = program.class_count classes in let same = ap length classes_same in omega (arith, total, same)

  laid_length : length L.methods ≡ length P.methods
  laid_length =
      let a = ap length (program.laid_methods classes) in
      let b = program.all_methods classes (known.decoded classes none all) in
      let c = Rattle.std.proofs.Common.length-append (Rattle.nr_linkrules.specs.Outline.outline_methods 0 classes) (Rattle.nr_linked.specs.BuiltInTables.built_in_methods (length classes)) in
      let d = Rattle.nr_linkrules.proofs.OutlinedMethods.outlined_length 0 classes (known.decoded classes none all) in
      let e = program.methods_length (length classes) in
      omega (arith, a, b, c, d, e)

  -- what stands in the one program stands in the other
  kind_same : (k : Kind) → is_kind_in L k ≡ is_kind_in P k
  kind_same k = ap (λ (es : List ClassInfo). option_map_or (λ c. nat_lt c (length es)) (class_in k.base) true) (sym classes_same)

  resolved_same : (r : Resolved) → is_resolved_in L r ≡ is_resolved_in P r
  resolved_same (resolved.Kind k) = kind_same k
  resolved_same (resolved.Slot c i) = ap (λ (es : List ClassInfo). nat_lt c (length es) && nat_lt i (length (option_map_or (λ (e : ClassInfo). e.slots) (slice_get es c) []))) (sym classes_same)
  resolved_same (resolved.Method m c) = λ i. nat_lt m (laid_length i) && nat_lt c (length (sym classes_same i))
  resolved_same r = refl

  pub kind_of_same : (d : Desc) → kind_of L d ≡ kind_of P d
  kind_of_same d = alike.kinds_alike P L (λ name. ap (λ (es : List ClassInfo). position (λ (e : ClassInfo). bytes_eq e.name name) es) (sym classes_same)) d

  -- ---- the kinds of descriptors

  pub kind_there : (d : Desc) → desc_fault O d ≡ None → (k : Kind) × (kind_of L d ≡ Some k) × (kind_desc P k ≡ d) × IsTrue (is_kind_in P k)
  kind_there d e =
      let k = slots.kind_known classes none all d e in
      let here = sym (slots.kind_of_same classes none all d) ∙ k.1 in
      let says = kind_says P d k.0 here in
      (k.0, kind_of_same d ∙ here, says.0, says.1)

  kinds_there : (ds : List Desc) → first_of (desc_fault O) ds ≡ None → (map (kind_desc P) (kinds_of L ds) ≡ ds) × IsTrue (list_all (is_kind_in P) (kinds_of L ds))
  unfolding first_of
  kinds_there [] e = (refl, refl)
  kinds_there (d ∷ ds) e =
      let parts = both_none (desc_fault O d) (first_of (desc_fault O) ds) e in
      let k = kind_there d parts.0 in
      let rest = kinds_there ds parts.1 in (
        ap (λ o. map (kind_desc P) (option_to_list o ++ kinds_of L ds)) k.1 ∙ (λ i. k.2 i ∷ rest.0 i),
        subst (λ o. IsTrue (list_all (is_kind_in P) (option_to_list o ++ kinds_of L ds))) (sym k.1) (and_from (is_kind_in P k.0) _ k.3 rest.1),
      )

  result_there : (o : Option Desc) → first_of (desc_fault O) (option_to_list o) ≡ None → (option_map (kind_desc P) (option_and_then (kind_of L) o) ≡ o) × IsTrue (is_kind_in_or_none P (option_and_then (kind_of L) o))
  unfolding first_of
  result_there None e = (refl, refl)
  result_there (Some d) e =
      let k = kind_there d (both_none (desc_fault O d) None e).0 in
      (ap (option_map (kind_desc P)) k.1 ∙ ap (λ d. Some d) k.2, subst (λ o. IsTrue (is_kind_in_or_none P o)) (sym k.1) k.3)

  -- ---- frame maps

  type_in : (t : MapType) → IsTrue (list_all (is_type_in P) (option_to_list (type_of L t)))
  type_in map_types.Top = refl
  type_in map_types.Int = refl
  type_in map_types.Long = refl
  type_in map_types.Null = refl
  type_in map_types.UninitThis = refl
  type_in (map_types.Uninit at) = refl
  type_in (map_types.Object d) = of_kind (kind_of L d) refl
    where
      of_kind : (o : Option Kind) → kind_of L d ≡ o → IsTrue (list_all (is_type_in P) (option_to_list (option_map (λ k. types.Class k) o)))
      of_kind None e = refl
      of_kind (Some k) e = and_from (is_kind_in P k) true (kind_says P d k (sym (kind_of_same d) ∙ e)).1 refl

  all_parts : {X : Type 0} (f : X → Bool) (xs ys : List X) → IsTrue (list_all f xs) → IsTrue (list_all f ys) → IsTrue (list_all f (xs ++ ys))
  all_parts f [] ys p q = q
  all_parts f (x ∷ xs) ys p q = let a = and_parts (f x) (list_all f xs) p in and_from _ _ a.0 (all_parts f xs ys a.1 q)

  types_all : (ts : List MapType) → IsTrue (list_all (is_type_in P) (types_of L ts))
  types_all [] = refl
  types_all (t ∷ ts) = all_parts (is_type_in P) (option_to_list (type_of L t)) (types_of L ts) (type_in t) (types_all ts)

  frame_in : (f : FrameMap) → IsTrue (is_frame_in P (frame_of L f).1)
  frame_in f = and_from _ _ (all_in_places (is_type_in P) (types_of L f.locals) refl (types_all f.locals)) (types_all f.stack)

  frames_in : (fs : List FrameMap) → IsTrue (list_all (λ (m : ℕ × VFrame). is_frame_in P m.1) (map (frame_of L) fs))
  frames_in [] = refl
  frames_in (f ∷ fs) = and_from (is_frame_in P (frame_of L f).1) _ (frame_in f) (frames_in fs)

  -- ---- exception handlers

  catch_in : (pool : List PoolEntry) (h : Handler) → IsTrue (is_kind_in_or_none P (caught L pool h))
  catch_in pool h = of_test (h.catch_type == 0) (kind_at L pool h.catch_type) refl
    where
      of_test : (b : Bool) (o : Finding Kind) → kind_at L pool h.catch_type ≡ o → IsTrue (is_kind_in_or_none P (if b then None else kind_or_none o))
      of_test true o e = refl
      of_test false (Ok k) e = sym (kind_same k) ∙ kind_in L many pool h.catch_type k e
      of_test false (Err f) e = refl

  catches_in : (pool : List PoolEntry) (hs : List Handler) → IsTrue (list_all (is_kind_in_or_none P) (map (caught L pool) hs))
  catches_in pool [] = refl
  catches_in pool (h ∷ hs) = and_from _ _ (catch_in pool h) (catches_in pool hs)

  -- ---- a method of a class that was loaded

  module _ (own : ℕ) (l : Loaded) (place : ℕ) (m : Method) (decoded : Option Body) (at : slice_get classes own ≡ Some l) (declares : slice_get l.«class».methods place ≡ Some m) (decodes : slice_get l.bodies place ≡ Some decoded) where
    -- as the outline has it, and as the program has it
    abbrev pub bare : MethodInfo
    bare = outline_method own l.«class».pool (m, decoded)

    abbrev pub i : MethodInfo
    i = completed L bare

    abbrev pub n : ℕ
    n = method_count (take own classes) + place

    pub laid_at : method_at L n ≡ Some bare
    laid_at = program.laid_at classes (known.decoded classes none all) own l place m decoded at declares decodes

    no_code_fault : code_fault L bare ≡ None
    no_code_fault = each_of (code_fault L) L.methods (known.passed classes none all).code n bare laid_at

    pub no_around_fault : around_fault L bare ≡ None
    no_around_fault = each_of (around_fault L) L.methods (known.passed classes none all).around n bare laid_at

    pub instr_ok : (k : ℕ) (x : Instr) → slice_get (instrs_of bare) k ≡ Some x → (r : Resolved) × (instr_found L (place_in L bare) (pool_of L bare) x ≡ Ok r)
    unfolding code_fault
    instr_ok k x there = no_fault_ok _ (each_of (λ x. fault_of (instr_found L (place_in L bare) (pool_of L bare) x)) (instrs_of bare) no_code_fault k x there)

    pub pool_is : pool_of L bare ≡ l.«class».pool
    unfolding outline_method outline_class
    pool_is = ap (λ o. option_map_or (λ (e : ClassInfo). option_map_or (λ (parts : ClassParts). parts.pool) e.read []) o []) (ap (λ (es : List ClassInfo). slice_get es own) (sym classes_same) ∙ above.is_entry classes none all own l at)

    pub d : classes_known.Declared classes none all own l at place m
    d = classes_known.declared classes none all own l at place m declares

    -- ---- its descriptor

    types_known : (first_of (desc_fault O) d.says.params ≡ None) × (first_of (desc_fault O) (option_to_list d.says.result) ≡ None)
    unfolding method_fault
    types_known =
        let kept = members_kept O own (known.outlined classes none all own l) l.«class» (known.each_class classes none all (members_fault O) (known.passed classes none all).members own l at) in
        let here = each_of (λ (m : Method). method_fault O l.«class».pool m.desc) l.«class».methods kept.methods place m declares in
        none_both (desc_fault O) d.says.params (option_to_list d.says.result)
        (sym (ap (λ o. first_of (desc_fault O) (types_in (method_of (some_text o)))) d.described ∙ ap (λ r. first_of (desc_fault O) (types_in r)) (method_only d.text d.says d.spelled)) ∙ here)

    pub desc_is : i.desc ≡ d.text
    unfolding completed outline_method
    desc_is = ap some_text d.described

    pub name_is : i.name ≡ d.name
    unfolding completed outline_method
    name_is = ap some_text d.named

    reads : method_of bare.desc ≡ Ok d.says
    unfolding outline_method
    reads = ap (λ o. method_of (some_text o)) d.described ∙ method_only d.text d.says d.spelled

    pub params_are : map (kind_desc P) i.params ≡ d.says.params
    unfolding completed
    params_are = ap (λ r. map (kind_desc P) (params_in L r)) reads ∙ (kinds_there d.says.params types_known.0).0

    params_in_table : IsTrue (list_all (is_kind_in P) i.params)
    unfolding completed
    params_in_table = ap (λ r. list_all (is_kind_in P) (params_in L r)) reads ∙ (kinds_there d.says.params types_known.0).1

    pub result_is : option_map (kind_desc P) i.result ≡ d.says.result
    unfolding completed
    result_is = ap (λ r. option_map (kind_desc P) (result_in L r)) reads ∙ (result_there d.says.result types_known.1).0

    result_in_table : IsTrue (is_kind_in_or_none P i.result)
    unfolding completed
    result_in_table = ap (λ r. is_kind_in_or_none P (result_in L r)) reads ∙ (result_there d.says.result types_known.1).1

    -- ---- no other of its name and descriptor

    pub here : method_at P n ≡ Some i
    here = classes_known.method_here classes none all own l at place m decoded declares decodes

    called_itself : IsTrue (is_called i.name i.desc i)
    called_itself = and_from _ _ ((bytes_eq-Decides i.name i.name).1 refl) ((bytes_eq-Decides i.desc i.desc).1 refl)

    -- a method whose entry has the same name and the same descriptor has the same texts
    same_texts : (x : ℕ) (f : Method) (there : slice_get l.«class».methods x ≡ Some f) (e : classes_known.Declared classes none all own l at x f)
        → IsTrue (is_called i.name i.desc (completed L (outline_method own l.«class».pool (f, e.decoded)))) → (text_at l.«class».pool f.name ≡ text_at l.«class».pool m.name) × (text_at l.«class».pool f.desc ≡ text_at l.«class».pool m.desc)
    unfolding completed outline_method
    same_texts x f there e p =
        let both = and_parts (bytes_eq (some_text (text_at l.«class».pool f.name)) (some_text (text_at l.«class».pool m.name))) _ p in
        let names = same_bytes (some_text (text_at l.«class».pool f.name)) (some_text (text_at l.«class».pool m.name)) both.0 in
        let descs = same_bytes (some_text (text_at l.«class».pool f.desc)) (some_text (text_at l.«class».pool m.desc)) both.1 in (
          e.named ∙ ap (λ o. Some (some_text o)) (sym e.named) ∙ ap (λ t. Some t) names ∙ ap (λ o. Some (some_text o)) d.named ∙ sym d.named,
          e.described ∙ ap (λ o. Some (some_text o)) (sym e.described) ∙ ap (λ t. Some t) descs ∙ ap (λ o. Some (some_text o)) d.described ∙ sym d.described,
        )

    other : (x : ℕ) → x < place → option_map_or (is_called i.name i.desc) (method_at P (method_count (take own classes) + x)) false ≡ false
    other x lt =
        let w = slice_get_within l.«class».methods place m declares in
        let f = get_below l.«class».methods x (omega (arith, lt, w)) in
        let e = classes_known.declared classes none all own l at x f.0 f.1 in
        let apart = (above.formed classes none all own l at).apart_methods x place m lt w in
        let one = get_or_from_slice_get l.«class».methods x f.0 m f.1 in
        let two = get_or_from_slice_get l.«class».methods place m m declares in
        ap (λ o. option_map_or (is_called i.name i.desc) o false) (classes_known.method_here classes none all own l at x f.0 e.decoded f.1 e.decodes)
        ∙ false_from_ne_true (is_called i.name i.desc (completed L (outline_method own l.«class».pool (f.0, e.decoded)))) (λ p.
        let texts = same_texts x f.0 f.1 e p in
        apart (
          ap (λ (f : Method). text_at l.«class».pool f.name) one ∙ texts.0 ∙ sym (ap (λ (f : Method). text_at l.«class».pool f.name) two),
          ap (λ (f : Method). text_at l.«class».pool f.desc) one ∙ texts.1 ∙ sym (ap (λ (f : Method). text_at l.«class».pool f.desc) two),
        ))

    alone_in : declared P own i.name i.desc ≡ Some n
    alone_in =
        ap (find (λ x. option_map_or (is_called i.name i.desc) (method_at P x) false)) (classes_known.methods_are classes none all own l at)
        ∙ find_at (λ x. option_map_or (is_called i.name i.desc) (method_at P x) false) (method_count (take own classes)) (length l.«class».methods) place (slice_get_within l.«class».methods place m declares)
        (ap (λ o. option_map_or (is_called i.name i.desc) o false) here ∙ called_itself) other

    -- ---- the method

    resolved_all : IsTrue (list_all (is_resolved_in P) (resolved_in L bare))
    resolved_all = all_of (is_resolved_in P) (resolved_in L bare) (λ k r there.
        let x = get_mapped (λ x. or_nothing (instr_found L (place_in L bare) (pool_of L bare) x)) (instrs_of bare) k r there in
        let ok = instr_ok k x.0 x.1 in
        sym (resolved_same r) ∙ subst (λ r. IsTrue (is_resolved_in L r)) (sym (x.2 ∙ ap or_nothing ok.1)) (found_in L many (place_in L bare) (pool_of L bare) x.0 ok.0 ok.1))

    own_loaded : is_loaded P own ≡ true
    own_loaded = let total = program.class_count classes in let w = slice_get_within classes own l at in lt-ltb own (length P.classes - built_in_count) (omega (arith, total, w))

    pub is_linked : BodyFor l.«class» m m.code decoded → IsMethodLinked P n i
    unfolding completed outline_method
    is_linked body = record {
      alone = alone_in;
      desc = desc_is ∙ d.spelled.1 ∙ (λ at. method_text (record { params = sym params_are at; result = sym result_is at }));
      params = params_in_table;
      result = result_in_table;
      body = has_code l.«class» m decoded body d.formed.code ∙ ap (λ b. b && not (is_abstract m.flags)) (sym own_loaded);
      one_each = length-map (instrs_of bare) (λ x. or_nothing (instr_found L (place_in L bare) (pool_of L bare) x));
      resolved = resolved_all;
      one_catch_each = length-map (handlers_of bare) (caught L (pool_of L bare));
      catches = catches_in (pool_of L bare) (handlers_of bare);
      offsets = map_twice (frame_of L) (λ (f : ℕ × VFrame). f.0) (λ (f : FrameMap). f.at) (λ f. refl) (frame_maps_of bare);
      maps = frames_in (frame_maps_of bare);
    }
