-- The class that a stream's name names has that name, and arrays have no more dimensions than a name can say.
use Rattle.std.proofs.Common.{◌≡◌, ℕ, zero, suc, ◌<◌, ◌≤◌, Bool, true, false, ◌||◌, nat_eq, List, [], ◌∷◌, ◌++◌, map, get_or, replicate, Option, Some, None, Result, Ok, Err, position, refl, sym, ap, subst, ◌∙◌, if◌then◌else◌, true≢false, arith}
use Rattle.std.specs.Prelude.{slice_get, ◌==◌}
use Rattle.std.specs.List.{list_any}
use Rattle.std.specs.Option.{option_map, option_map_or}
use Rattle.std.specs.Str.{bytes_eq}
use Rattle.std.proofs.lemmas.Bool.{eqb-true, eq-eqb, ne_eqb, lt-ltb}
use Rattle.std.proofs.lemmas.List.Quantifiers.{position-Some}
use Rattle.std.proofs.lemmas.Option.{slice_get-get_or}
use Rattle.std.proofs.lemmas.Slice.Eq.{bytes_eq-Decides}
use Rattle.nr_base.specs.declared.desc.fault.DescFault.{DescFault}
use Rattle.nr_base.specs.declared.desc.fault.DescFault.TheVariants as desc_faults
use Rattle.nr_base.specs.declared.desc.types.Desc.{Desc}
use Rattle.nr_base.specs.declared.desc.types.DescBase.{DescBase}
use Rattle.nr_base.specs.declared.desc.types.DescBase.TheVariants as desc_bases
use Rattle.nr_base.specs.DescReading.{desc_of}
use Rattle.nr_base.specs.Descs.{base_text, desc_text}
use Rattle.nr_base.specs.Grammar.{IsBytes}
use Rattle.nr_base.proofs.DescLaws.{desc_law}
use Rattle.nr_base.proofs.Laws.{whole_found}
use Rattle.nr_linked.specs.declared.program.kind.Base.{Base}
use Rattle.nr_linked.specs.declared.program.kind.Base.TheVariants as bases
use Rattle.nr_linked.specs.declared.program.kind.Kind.{Kind}
use Rattle.nr_linked.specs.declared.program.tables.ClassInfo.{ClassInfo}
use Rattle.nr_linked.specs.declared.program.tables.ProgramTables.{ProgramTables}
use Rattle.nr_linked.specs.Kinds.{class_in, class_kind, is_array}
use Rattle.nr_linked.specs.KindTexts.{base_desc, class_name, kind_desc, kind_text}
use Rattle.nr_linked.specs.Linked.{Linked}
use Rattle.nr_linked.specs.Programs.{class_at, class_named}
use Rattle.nr_linked.specs.Subtypes.{admits_arrays, admits_any, is_above, is_assignable, is_base_assignable}
use Rattle.nr_linked.proofs.Ascents.{itself_above}
use Rattle.nr_linked.proofs.Components.{components_same}
use Rattle.nr_model.proofs.Paths.{none_some, some_eq}
use Rattle.nr_serform.specs.ClassNumbers.{dotted, with_dot}
use Rattle.nr_serform.specs.Descriptions.{stream_name}
use Rattle.nr_serread.specs.Describing.{array_named, base_named, is_descriptor, kind_named, kind_of, with_slash}

-- ---- dots and slashes

back_again : (b : ℕ) → nat_eq 0x2F b ≡ false → with_dot (with_slash b) ≡ b
back_again b e = by (b == 0x2E) refl
  where
    other : (b == 0x2F) ≡ false
    other = ne_eqb b 0x2F (λ s. true≢false (sym (eq-eqb 0x2F b (sym s)) ∙ e))

    by : (c : Bool) → (b == 0x2E) ≡ c → with_dot (if c then 0x2F else b) ≡ b
    by true s = sym (eqb-true b 0x2E s)
    by false s = ap (λ c. if c then 0x2E else b) other

or_right : (a b : Bool) → (a || b) ≡ false → (a ≡ false) × (b ≡ false)
or_right true b e = absurd (true≢false e)
or_right false b e = (refl, e)

pub dotted_back : (name : List ℕ) → list_any (nat_eq 0x2F) name ≡ false → dotted (map with_slash name) ≡ name
dotted_back [] e = refl
dotted_back (b ∷ bs) e =
    let s = or_right (nat_eq 0x2F b) (list_any (nat_eq 0x2F) bs) e in
    (λ i. back_again b s.0 i ∷ dotted_back bs s.1 i)

slashed_bytes : (name : List ℕ) → IsBytes name → IsBytes (map with_slash name)
slashed_bytes [] f i = f i
slashed_bytes (b ∷ bs) f zero = by (b == 0x2E)
  where
    by : (c : Bool) → (if c then 0x2F else b) < 256
    by true = omega arith
    by false = f zero
slashed_bytes (b ∷ bs) f (suc i) = slashed_bytes bs (λ j. f (suc j)) i

-- ---- classes

pub position_of : {X : Type 0} (p : X → Bool) (xs : List X) (i : ℕ) → position p xs ≡ Some i → (x : X) × (slice_get xs i ≡ Some x) × (p x ≡ true)
position_of p [] i e = absurd (none_some e)
position_of p (d ∷ ds) i e = let s = position-Some p (d ∷ ds) i d e in (get_or (d ∷ ds) i d, slice_get-get_or (d ∷ ds) i d s.0, s.1)

-- a class that is named
pub record IsNamed (P : ProgramTables) (name : List ℕ) (c : ℕ) : Type 0 where
  pub entry : ClassInfo
  pub at : class_at P c ≡ Some entry
  pub called : class_name P c ≡ name

pub named_class : (P : ProgramTables) (name : List ℕ) (c : ℕ) → class_named P name ≡ Some c → IsNamed P name c
named_class P name c e =
    let s = position_of (λ (i : ClassInfo). bytes_eq i.name name) P.classes c e in
    record { entry = s.0; at = s.1; called = ap (λ o. option_map_or (λ (i : ClassInfo). i.name) o []) s.1 ∙ (bytes_eq-Decides s.0.name name).0 s.2 }

-- ---- kinds that a stream can name

pub record Known (P : ProgramTables) (kind : Kind) : Type 0 where
  pub few : kind.dims ≤ 255
  pub itself : is_array kind ≡ true → is_assignable P kind kind ≡ true

pub class_known : (P : ProgramTables) (c : ℕ) → Known P (class_kind c)
class_known P c = record { few = omega arith; itself = λ e. absurd (true≢false (sym e)) }

pub record IsStreamName (P : ProgramTables) (name : List ℕ) (kind : Kind) : Type 0 where
  pub called : stream_name P kind ≡ name
  pub known : Known P kind

or_true : (a b : Bool) → b ≡ true → (a || b) ≡ true
or_true true b e = refl
or_true false b e = e

base_itself : (P : ProgramTables) → Linked P → (b : Base) → ((c : ℕ) → class_in b ≡ Some c → (i : ClassInfo) × (class_at P c ≡ Some i)) → is_base_assignable P b b ≡ true
base_itself P linked (bases.Object c) there = let t = there c refl in or_true (admits_any P c) (is_above P c c) (itself_above P linked c t.0 t.1)
base_itself P linked bases.Bool there = refl
base_itself P linked bases.Byte there = refl
base_itself P linked bases.Char there = refl
base_itself P linked bases.Short there = refl
base_itself P linked bases.Int there = refl
base_itself P linked bases.Long there = refl

-- the base that a descriptor's base names
record IsBaseNamed (P : ProgramTables) (d : DescBase) (b : Base) : Type 0 where
  says : base_desc P b ≡ d
  there : (c : ℕ) → class_in b ≡ Some c → (i : ClassInfo) × (class_at P c ≡ Some i)

same_base : (a b : Base) → Some a ≡ Some b → a ≡ b
same_base a b e = cc

base_is : (P : ProgramTables) (d : DescBase) (b : Base) → base_named P d ≡ Some b → IsBaseNamed P d b
base_is P desc_bases.Bool b e = subst (IsBaseNamed P desc_bases.Bool) (same_base bases.Bool b e) (record { says = refl; there = λ c h. absurd (none_some h) })
base_is P desc_bases.Byte b e = subst (IsBaseNamed P desc_bases.Byte) (same_base bases.Byte b e) (record { says = refl; there = λ c h. absurd (none_some h) })
base_is P desc_bases.Char b e = subst (IsBaseNamed P desc_bases.Char) (same_base bases.Char b e) (record { says = refl; there = λ c h. absurd (none_some h) })
base_is P desc_bases.Short b e = subst (IsBaseNamed P desc_bases.Short) (same_base bases.Short b e) (record { says = refl; there = λ c h. absurd (none_some h) })
base_is P desc_bases.Int b e = subst (IsBaseNamed P desc_bases.Int) (same_base bases.Int b e) (record { says = refl; there = λ c h. absurd (none_some h) })
base_is P desc_bases.Long b e = subst (IsBaseNamed P desc_bases.Long) (same_base bases.Long b e) (record { says = refl; there = λ c h. absurd (none_some h) })
base_is P (desc_bases.Object name) b e = by (class_named P name) refl e
  where
    by : (o : Option ℕ) → class_named P name ≡ o → option_map bases.Object o ≡ Some b → IsBaseNamed P (desc_bases.Object name) b
    by None is e = absurd (none_some e)
    by (Some c) is e =
        let n = named_class P name c is in
        subst (IsBaseNamed P (desc_bases.Object name)) (same_base (bases.Object c) b e)
        (record { says = ap desc_bases.Object n.called; there = λ k h. (n.entry, subst (λ k. class_at P k ≡ Some n.entry) (some_eq h) n.at) })

-- ---- arrays

same_kind : (a b : Kind) → Some a ≡ Some b → a ≡ b
same_kind a b e = cc

record IsKindOf (P : ProgramTables) (d : Desc) (kind : Kind) : Type 0 where
  says : kind_desc P kind ≡ d
  itself : is_assignable P kind kind ≡ true

kind_is : (P : ProgramTables) → Linked P → (d : Desc) (kind : Kind) → kind_of P d ≡ Some kind → IsKindOf P d kind
kind_is P linked d kind e = by (base_named P d.base) refl e
  where
    by : (o : Option Base) → base_named P d.base ≡ o → option_map (λ base. record { dims = d.dims; base = base }) o ≡ Some kind → IsKindOf P d kind
    by None is e = absurd (none_some e)
    by (Some b) is e =
        let n = base_is P d.base b is in
        subst (IsKindOf P d) (same_kind (record { dims = d.dims; base = b }) kind e)
        (record {
          says = (λ i. record { dims = d.dims; base = n.says i });
          itself = components_same (is_base_assignable P) (admits_arrays P) d.dims b d.dims b refl ∙ base_itself P linked b n.there;
        })

-- the name of an array's class begins as no other type's
no_bracket : (b : DescBase) (rest : List ℕ) → 0x5B ∷ rest ≡ base_text b → ⊥
no_bracket desc_bases.Bool rest e = omega (arith, ap (λ z. get_or z 0 0) e)
no_bracket desc_bases.Byte rest e = omega (arith, ap (λ z. get_or z 0 0) e)
no_bracket desc_bases.Char rest e = omega (arith, ap (λ z. get_or z 0 0) e)
no_bracket desc_bases.Short rest e = omega (arith, ap (λ z. get_or z 0 0) e)
no_bracket desc_bases.Int rest e = omega (arith, ap (λ z. get_or z 0 0) e)
no_bracket desc_bases.Long rest e = omega (arith, ap (λ z. get_or z 0 0) e)
no_bracket (desc_bases.Object name) rest e = omega (arith, ap (λ z. get_or z 0 0) e)

bracket_first : (name : List ℕ) → is_descriptor name ≡ true → (rest : List ℕ) × (map with_slash name ≡ 0x5B ∷ rest)
bracket_first [] e = absurd (true≢false (sym e))
bracket_first (b ∷ bs) e = (map with_slash bs, ap (λ z. with_slash z ∷ map with_slash bs) (eqb-true b 0x5B e))

dims_of : (n : ℕ) (b : DescBase) (text rest : List ℕ) → text ≡ replicate n 0x5B ++ base_text b → text ≡ 0x5B ∷ rest → (m : ℕ) × (n ≡ suc m)
dims_of zero b text rest e f = absurd (no_bracket b rest (sym f ∙ e))
dims_of (suc m) b text rest e f = (m, refl)

module _ (P : ProgramTables) (linked : Linked P) (name : List ℕ) (fits : IsBytes name) (no_slash : list_any (nat_eq 0x2F) name ≡ false) where
  of_array : (kind : Kind) → is_array kind ≡ true → stream_name P kind ≡ dotted (kind_text P kind)
  unfolding stream_name
  of_array kind e = ap (λ b. if b then dotted (kind_text P kind) else option_map_or (λ c. dotted (class_name P c)) (class_in kind.base) []) e

  array_is : (r : Result Desc DescFault) (kind : Kind) → is_descriptor name ≡ true → desc_of (map with_slash name) ≡ r → array_named P r ≡ Some kind → IsStreamName P name kind
  array_is (Err f) kind d is e = absurd (none_some e)
  array_is (Ok t) kind d is e =
      let k = kind_is P linked t kind e in
      let g = whole_found desc_faults.BadDesc desc_law (map with_slash name) t (slashed_bytes name fits) is in
      let b = bracket_first name d in
      let m = dims_of t.dims t.base (map with_slash name) b.0 g.1 b.1 in
      let dims : kind.dims ≡ t.dims = ap (λ (z : Desc). z.dims) k.says in
      let text : kind_text P kind ≡ map with_slash name = ap desc_text k.says ∙ sym g.1 in
      let array : is_array kind ≡ true = lt-ltb 0 kind.dims (omega (arith, dims, m.1)) in
      record {
        called = of_array kind array ∙ ap dotted text ∙ dotted_back name no_slash;
        known = record { few = omega (arith, dims, g.0.0); itself = λ h. k.itself };
      }

  class_is : (kind : Kind) → option_map class_kind (class_named P (map with_slash name)) ≡ Some kind → IsStreamName P name kind
  unfolding stream_name
  class_is kind e = by (class_named P (map with_slash name)) refl e
    where
      by : (o : Option ℕ) → class_named P (map with_slash name) ≡ o → option_map class_kind o ≡ Some kind → IsStreamName P name kind
      by None is e = absurd (none_some e)
      by (Some c) is e =
          let n = named_class P (map with_slash name) c is in
          subst (IsStreamName P name) (same_kind (class_kind c) kind e)
          (record { called = ap dotted n.called ∙ dotted_back name no_slash; known = class_known P c })

pub kind_named_is : (P : ProgramTables) → Linked P → (name : List ℕ) (kind : Kind) → IsBytes name → kind_named P name ≡ Some kind → IsStreamName P name kind
unfolding kind_named
kind_named_is P linked name kind fits e = by (list_any (nat_eq 0x2F) name) refl e
  where
    by_sort : (b : Bool) → is_descriptor name ≡ b → list_any (nat_eq 0x2F) name ≡ false
        → (if b then array_named P (desc_of (map with_slash name)) else option_map class_kind (class_named P (map with_slash name))) ≡ Some kind → IsStreamName P name kind
    by_sort true d s e = array_is P linked name fits s (desc_of (map with_slash name)) kind d refl e
    by_sort false d s e = class_is P linked name fits s kind e

    by : (b : Bool) → list_any (nat_eq 0x2F) name ≡ b
        → (if b then None else (if is_descriptor name then array_named P (desc_of (map with_slash name)) else option_map class_kind (class_named P (map with_slash name)))) ≡ Some kind → IsStreamName P name kind
    by true s e = absurd (none_some e)
    by false s e = by_sort (is_descriptor name) refl s e
