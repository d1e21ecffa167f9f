-- What texts mean in a program.
use Rattle.std.proofs.Common.{◌≡◌, ℕ, zero, suc, ◌+◌, ◌<◌, ◌≤◌, Bool, true, false, ◌&&◌, List, [], ◌∷◌, ◌++◌, length, get_or, map, take, refl, sym, ap, ◌∙◌, arith}
use Rattle.std.specs.Prelude.{Option, Some, None, Result, Ok, Err, is_none, is_some, slice_get}
use Rattle.std.specs.List.{list_all, range_with_len}
use Rattle.std.specs.Option.{option_and_then, option_map, option_map_or, option_or, option_to_list}
use Rattle.std.proofs.lemmas.List.{take_all}
use Rattle.std.proofs.lemmas.List.FromFn.{get_or-map-range_with_len, length-map-range_with_len}
use Rattle.std.proofs.lemmas.Option.{same_Some, slice_get-get_or, slice_get-map, slice_get_past}
use Rattle.nr_base.specs.DescReading.{desc_of, method_of}
use Rattle.nr_base.specs.declared.desc.fault.DescFault.{DescFault}
use Rattle.nr_base.specs.declared.desc.types.Desc.{Desc}
use Rattle.nr_base.specs.declared.desc.types.DescBase.{DescBase}
use Rattle.nr_base.specs.declared.desc.types.DescBase.TheVariants as desc_bases
use Rattle.nr_prog.specs.declared.parts.ClassParts.{ClassParts}
use Rattle.nr_prog.specs.declared.pool.PoolEntry.{PoolEntry}
use Rattle.nr_prog.specs.declared.pool.PoolEntry.TheVariants.{Unused}
use Rattle.nr_prog.specs.Pool.{entry_at, text_at, text_in}
use Rattle.nr_prog.specs.TextForms.{class_desc}
use Rattle.nr_linked.specs.declared.program.kind.Base.{Base}
use Rattle.nr_linked.specs.declared.program.kind.Base.TheVariants as bases
use Rattle.nr_linked.specs.declared.program.kind.Kind.{Kind}
use Rattle.nr_linked.specs.declared.program.tables.ClassInfo.{ClassInfo}
use Rattle.nr_linked.specs.declared.program.tables.ProgramTables.{ProgramTables}
use Rattle.nr_linked.specs.declared.program.types.VType.{VType}
use Rattle.nr_linked.specs.declared.program.types.VType.TheVariants as types
use Rattle.nr_linked.specs.Programs.{class_at, class_named}
use Rattle.nr_linkrules.specs.declared.fault.LinkFault.{LinkFault}
use Rattle.nr_linkrules.specs.declared.fault.LinkFault.TheVariants.{NoClass}
use Rattle.nr_linkrules.specs.ClassRules.{base_fault, desc_fault, field_fault, known_fault, method_fault, type_in, types_in}
use Rattle.nr_linkrules.specs.Faults.{first_of, unless}
use Rattle.nr_linkrules.specs.Layout.{base_of, kind_of, kind_said, read_desc}
use Rattle.nr_linkrules.specs.Outline.{some_text}
use Rattle.nr_names.specs.Numbers.{given, listed}
use Rattle.nr_link.specs.declared.meanings.Meaning.{Meaning}
use Rattle.nr_link.specs.Coded.{read_class}
use Rattle.nr_link.specs.Meanings.{all_meanings, class_meanings, is_known, is_whole, meaning_of, meanings_of}
use Rattle.nr_link.proofs.Numbered.{more}

-- ---- classes in descriptors

none_of : (f : Desc → Option LinkFault) (xs ys : List Desc) → is_none (first_of f (xs ++ ys)) ≡ (list_all (λ x. is_none (f x)) xs && is_none (first_of f ys))
unfolding first_of
none_of f [] ys = refl
none_of f (x ∷ xs) ys = by_first (f x) (none_of f xs ys)
  where
    by_first : (o : Option LinkFault) → is_none (first_of f (xs ++ ys)) ≡ (list_all (λ x. is_none (f x)) xs && is_none (first_of f ys))
        → is_none (option_or o (first_of f (xs ++ ys))) ≡ ((is_none o && list_all (λ x. is_none (f x)) xs) && is_none (first_of f ys))
    by_first None e = e
    by_first (Some fault) e = refl

one_of : (f : Desc → Option LinkFault) (o : Option Desc) → is_none (first_of f (option_to_list o)) ≡ option_map_or (λ x. is_none (f x)) o true
unfolding first_of
one_of f None = refl
one_of f (Some x) = by_first (f x)
  where
    by_first : (o : Option LinkFault) → is_none (option_or o None) ≡ is_none o
    by_first None = refl
    by_first (Some e) = refl

-- all classes of parameters and of the result
pub all_known : (P : ProgramTables) (params : List Desc) (last : Option Desc) (first second : Bool) → first ≡ list_all (is_known P) params → second ≡ option_map_or (is_known P) last true
    → (first && second) ≡ is_none (first_of (desc_fault P) (params ++ option_to_list last))
all_known P params last first second e f = (λ i. e i && f i) ∙ sym (none_of (desc_fault P) params (option_to_list last) ∙ ap (λ b. list_all (is_known P) params && b) (one_of (desc_fault P) last))

no_class : (P : ProgramTables) (d : Desc) (b : Base) → base_of P d.base ≡ Some b → desc_fault P d ≡ None
unfolding known_fault
no_class P d b e = of_base d.base e
  where
    of_name : (name : List ℕ) (o : Option ℕ) → class_named P name ≡ o → option_map (λ c. bases.Object c) o ≡ Some b → known_fault P name ≡ None
    of_name name None is e = absurd cc
    of_name name (Some c) is e = ap (λ (o : Option ℕ). unless (is_some o) (NoClass name)) is

    of_base : (base : DescBase) → base_of P base ≡ Some b → base_fault P base ≡ None
    of_base (desc_bases.Object name) e = of_name name (class_named P name) refl e
    of_base base e = refl

-- a descriptor that says a kind has no class that isn't known
pub kind_known : (P : ProgramTables) (d : Desc) (k : Kind) → kind_of P d ≡ Some k → desc_fault P d ≡ None
kind_known P d k e = of_base (base_of P d.base) refl e
  where
    of_base : (o : Option Base) → base_of P d.base ≡ o → option_map (λ b. record { dims = d.dims; base = b }) o ≡ Some k → desc_fault P d ≡ None
    of_base None is e = absurd cc
    of_base (Some b) is e = no_class P d b is

said_known : (P : ProgramTables) (text : List ℕ) (k : Kind) → kind_said P text ≡ Some k → first_of (desc_fault P) (type_in (desc_of text)) ≡ None
unfolding kind_said first_of
said_known P text k e = of_read (desc_of text) e
  where
    of_read : (r : Result Desc DescFault) → option_and_then (kind_of P) (read_desc r) ≡ Some k → first_of (desc_fault P) (type_in r) ≡ None
    of_read (Err fault) e = absurd cc
    of_read (Ok d) e = ap (λ o. option_or o None) (kind_known P d k e)

-- ---- by the places of a constant pool

module _ {Y : Type 0} (g : List ℕ → Y) where
  of_entry : (o : Option PoolEntry) → given (option_map (λ e. option_map g (text_in e)) o) ≡ option_map g (option_map_or text_in o None)
  of_entry (Some e) = refl
  of_entry None = refl

  listed_texts : (pool : List PoolEntry) (index : ℕ) → listed (map (λ e. option_map g (text_in e)) pool) index ≡ option_map g (text_at pool index)
  unfolding text_at
  listed_texts pool zero = refl
  listed_texts pool (suc i) = ap given (slice_get-map (λ e. option_map g (text_in e)) pool i) ∙ of_entry (slice_get pool i)

  of_place : (pool : List PoolEntry) (place : ℕ) (d : PoolEntry) → place < length pool → option_map g (text_at pool (place + 1)) ≡ option_map g (text_in (get_or pool place d))
  unfolding text_at
  of_place pool place d lt = let e : place + 1 ≡ suc place = omega arith in ap (λ i. option_map g (text_at pool i)) e ∙ at_place
    where
      at_place : option_map g (text_at pool (suc place)) ≡ option_map g (text_in (get_or pool place d))
      at_place = ap (λ o. option_map g (option_map_or text_in o None)) (slice_get-get_or pool place d lt)

  taken : (pool : List PoolEntry) (place : ℕ) (d : PoolEntry) → place < length pool
      → map (λ e. option_map g (text_in e)) (take (place + 1) pool) ≡ map (λ e. option_map g (text_in e)) (take place pool) ++ option_map g (text_in (get_or pool place d)) ∷ []
  taken [] place d lt = absurd (omega (arith, lt))
  taken (e ∷ pool) zero d lt = refl
  taken (e ∷ pool) (suc place) d lt =
      let n : suc place + 1 ≡ suc (place + 1) = omega arith in
      ap (λ n. map (λ e. option_map g (text_in e)) (take n (e ∷ pool))) n
      ∙ ap (λ ys. option_map g (text_in e) ∷ ys) (taken pool place d (omega (arith, lt)))

pub meant_at : (P : ProgramTables) (pool : List PoolEntry) (meanings : List (Option Meaning)) (index : ℕ) (found : Option Meaning) → meanings ≡ meanings_of P pool → found ≡ listed meanings index
    → found ≡ option_map (meaning_of P) (text_at pool index)
meant_at P pool meanings index found e is = is ∙ ap (λ ms. listed ms index) e ∙ listed_texts (meaning_of P) pool index

-- what the next text means
pub means_more : (P : ProgramTables) (pool : List PoolEntry) (place : ℕ) (m : Option Meaning) (so_far longer : List (Option Meaning)) → place < length pool → m ≡ option_map (meaning_of P) (text_at pool (place + 1))
    → longer ≡ so_far ++ m ∷ [] → so_far ≡ meanings_of P (take place pool) → longer ≡ meanings_of P (take (place + 1) pool)
means_more P pool place m so_far longer lt is grown e =
    let d : PoolEntry = Unused in
    grown ∙ ap (λ ms. ms ++ m ∷ []) e ∙ ap (λ m. meanings_of P (take place pool) ++ m ∷ []) (is ∙ of_place (meaning_of P) pool place d lt)
    ∙ sym (taken (meaning_of P) pool place d lt)

pub all_meant : (P : ProgramTables) (pool : List PoolEntry) (count : ℕ) (so_far : List (Option Meaning)) → length pool ≤ count → so_far ≡ meanings_of P (take count pool) → so_far ≡ meanings_of P pool
all_meant P pool count so_far le e = e ∙ ap (meanings_of P) (take_all count pool le)

-- ---- by the numbers of classes

pub meant_in : (P : ProgramTables) (all : List (List (Option Meaning))) (c : ℕ) (found : List (Option Meaning)) → all ≡ all_meanings P → c < length all → found ≡ get_or all c found → found ≡ class_meanings P c
meant_in P all c found e lt is =
    let len : length all ≡ length P.classes = ap length e ∙ length-map-range_with_len (class_meanings P) 0 (length P.classes) in
    is ∙ ap (λ ms. get_or ms c found) e ∙ get_or-map-range_with_len (class_meanings P) 0 (length P.classes) c c found (omega (arith, lt, len)) (omega arith)

pub none_read : (P : ProgramTables) (c : ℕ) → length P.classes ≤ c → read_class P c ≡ None
none_read P c le = ap (λ (o : Option ClassInfo). option_and_then (λ (e : ClassInfo). e.read) o) (slice_get_past P.classes c le)

pub meant_past : (P : ProgramTables) (all : List (List (Option Meaning))) (c : ℕ) → all ≡ all_meanings P → length all ≤ c → [] ≡ class_meanings P c
meant_past P all c e le =
    let len : length all ≡ length P.classes = ap length e ∙ length-map-range_with_len (class_meanings P) 0 (length P.classes) in
    sym (ap (λ (o : Option ClassParts). option_map_or (λ (parts : ClassParts). meanings_of P parts.pool) o []) (none_read P c (omega (arith, le, len))))

-- of a class that was read
pub meant_here : (P : ProgramTables) (c : ℕ) (parts : ClassParts) (found : List (Option Meaning)) → Some parts ≡ read_class P c → found ≡ class_meanings P c → found ≡ meanings_of P parts.pool
meant_here P c parts found here e = e ∙ ap (λ (o : Option ClassParts). option_map_or (λ (parts : ClassParts). meanings_of P parts.pool) o []) (sym here)

-- ---- descriptors of members

pub field_known : (P : ProgramTables) (pool : List PoolEntry) (index : ℕ) (m : Meaning) → Some m ≡ option_map (meaning_of P) (text_at pool index) → is_some m.said ≡ true → field_fault P pool index ≡ None
unfolding field_fault
field_known P pool index m e known = of_text (text_at pool index) e
  where
    of_said : (text : List ℕ) (o : Option Kind) → kind_said P text ≡ o → is_some o ≡ true → first_of (desc_fault P) (type_in (desc_of text)) ≡ None
    of_said text None is e = absurd cc
    of_said text (Some k) is e = said_known P text k is

    of_text : (o : Option (List ℕ)) → Some m ≡ option_map (meaning_of P) o → first_of (desc_fault P) (type_in (desc_of (some_text o))) ≡ None
    of_text None e = absurd cc
    of_text (Some text) e = of_said text (kind_said P text) refl (ap (λ (m : Meaning). is_some m.said) (sym (same_Some m (meaning_of P text) e)) ∙ known)

none_is : {X : Type 0} (o : Option X) → is_none o ≡ true → o ≡ None
none_is None e = refl
none_is (Some x) e = absurd cc

pub method_known : (P : ProgramTables) (pool : List PoolEntry) (index : ℕ) (m : Meaning) → Some m ≡ option_map (meaning_of P) (text_at pool index) → m.whole ≡ true → method_fault P pool index ≡ None
unfolding method_fault
method_known P pool index m e known = of_text (text_at pool index) e
  where
    of_text : (o : Option (List ℕ)) → Some m ≡ option_map (meaning_of P) o → first_of (desc_fault P) (types_in (method_of (some_text o))) ≡ None
    of_text None e = absurd cc
    of_text (Some text) e = none_is (first_of (desc_fault P) (types_in (method_of text))) (ap (λ (m : Meaning). m.whole) (sym (same_Some m (meaning_of P text) e)) ∙ known)

pub kind_is_said : (P : ProgramTables) (pool : List PoolEntry) (index : ℕ) (m : Meaning) → Some m ≡ option_map (meaning_of P) (text_at pool index) → m.said ≡ kind_said P (some_text (text_at pool index))
kind_is_said P pool index m e = of_text (text_at pool index) e
  where
    of_text : (o : Option (List ℕ)) → Some m ≡ option_map (meaning_of P) o → m.said ≡ kind_said P (some_text o)
    of_text None e = absurd cc
    of_text (Some text) e = ap (λ (m : Meaning). m.said) (same_Some m (meaning_of P text) e)

pub no_text : (P : ProgramTables) (pool : List PoolEntry) (index : ℕ) → None ≡ option_map (meaning_of P) (text_at pool index) → [] ≡ some_text (text_at pool index)
no_text P pool index e = of_text (text_at pool index) e
  where
    of_text : (o : Option (List ℕ)) → None ≡ option_map (meaning_of P) o → [] ≡ some_text o
    of_text None e = refl
    of_text (Some text) e = absurd cc

-- ---- frame maps

pub type_known : (P : ProgramTables) (d : Desc) (found : VType) → Some found ≡ option_map (λ k. types.Class k) (kind_of P d) → desc_fault P d ≡ None
type_known P d found e = of_kind (kind_of P d) refl e
  where
    of_kind : (o : Option Kind) → kind_of P d ≡ o → Some found ≡ option_map (λ k. types.Class k) o → desc_fault P d ≡ None
    of_kind None is e = absurd cc
    of_kind (Some k) is e = kind_known P d k is

-- ---- classes that texts name

pub named_by : (P : ProgramTables) (pool : List PoolEntry) (index : ℕ) (m : Meaning) → Some m ≡ option_map (meaning_of P) (text_at pool index)
    → m.named ≡ option_and_then (λ text. option_and_then (kind_of P) (class_desc text)) (text_at pool index)
named_by P pool index m e = of_text (text_at pool index) e
  where
    of_text : (o : Option (List ℕ)) → Some m ≡ option_map (meaning_of P) o → m.named ≡ option_and_then (λ text. option_and_then (kind_of P) (class_desc text)) o
    of_text None e = absurd cc
    of_text (Some text) e = ap (λ (m : Meaning). m.named) (same_Some m (meaning_of P text) e)

pub named_by_none : (P : ProgramTables) (pool : List PoolEntry) (index : ℕ) → None ≡ option_map (meaning_of P) (text_at pool index)
    → None ≡ option_and_then (λ text. option_and_then (kind_of P) (class_desc text)) (text_at pool index)
named_by_none P pool index e = of_text (text_at pool index) e
  where
    of_text : (o : Option (List ℕ)) → None ≡ option_map (meaning_of P) o → None ≡ option_and_then (λ text. option_and_then (kind_of P) (class_desc text)) o
    of_text None e = refl
    of_text (Some text) e = absurd cc
