-- The name that a stream has of a class names that class.
use Rattle.std.proofs.Common.{◌≡◌, ℕ, zero, suc, ◌<◌, ◌≤◌, ◌^◌, Bool, true, false, not, ◌||◌, ◌&&◌, nat_eq, nat_le, List, [], ◌∷◌, ◌++◌, length, map, replicate, Option, Some, None, Ok, refl, sym, ap, subst, ◌∙◌, if◌then◌else◌, true≢false, arith}
use Rattle.std.specs.Prelude.{T, ◌==◌, codes}
use Rattle.std.specs.List.{AllByRecursion, list_any}
use Rattle.std.specs.Option.{option_map, option_map_or}
use Rattle.std.proofs.lemmas.Bool.{eqb-true, eq-eqb, ne_eqb, lt-ltb, leb-true}
use Rattle.nr_base.specs.declared.desc.fault.DescFault.TheVariants as desc_faults
use Rattle.nr_base.specs.declared.desc.types.DescBase.TheVariants as desc_bases
use Rattle.nr_base.specs.DescReading.{desc_of}
use Rattle.nr_base.specs.Descs.{IsBase, base_text}
use Rattle.nr_base.specs.LegalNames.{class_from, is_reserved}
use Rattle.nr_base.proofs.ClassNames.{class_only}
use Rattle.nr_base.proofs.DescLaws.{desc_law}
use Rattle.nr_base.proofs.Laws.{whole_only}
use Rattle.nr_linked.specs.declared.program.built_in.BuiltIn.TheVariants as built_ins
use Rattle.nr_linked.specs.declared.program.kind.Base.{Base}
use Rattle.nr_linked.specs.declared.program.kind.Base.TheVariants as bases
use Rattle.nr_linked.specs.declared.program.kind.Kind.{Kind}
use Rattle.nr_linked.specs.declared.program.tables.ClassInfo.{ClassInfo}
use Rattle.nr_linked.specs.declared.program.tables.ProgramTables.{ProgramTables}
use Rattle.nr_linked.specs.BuiltIns.{built_in}
use Rattle.nr_linked.specs.Facts.{ProgramFacts}
use Rattle.nr_linked.specs.Kinds.{class_in, class_kind}
use Rattle.nr_linked.specs.KindTexts.{base_desc, class_name, kind_desc, kind_text}
use Rattle.nr_linked.specs.Programs.{class_at, class_named, is_interface}
use Rattle.nr_linked.specs.Sendable.{is_class_sendable, is_concrete, is_sendable}
use Rattle.nr_linked.specs.Subtypes.{admits_arrays, is_above, is_assignable, is_base_assignable}
use Rattle.nr_linked.proofs.BuiltInEntries.{built_in_at}
use Rattle.nr_linked.proofs.Components.{components_same}
use Rattle.nr_prog.specs.Members.{has_flag, is_abstract}
use Rattle.nr_model.specs.TypedHeaps.{Counts}
use Rattle.nr_model.proofs.Paths.{none_some, some_eq}
use Rattle.nr_serform.specs.ClassNumbers.{dotted, with_dot}
use Rattle.nr_serform.specs.Descriptions.{stream_name}
use Rattle.nr_serread.specs.Describing.{array_named, base_named, is_descriptor, kind_named, kind_of, with_slash}

-- ---- dots and slashes

abbrev NoDot : ℕ → Type 0
NoDot b = b ≡ 0x2E → ⊥

-- neither a dot nor a bracket
record Plain (b : ℕ) : Type 0 where
  dot : b ≡ 0x2E → ⊥
  bracket : b ≡ 0x5B → ⊥

slash_again : (b : ℕ) → NoDot b → with_slash (with_dot b) ≡ b
slash_again b n = by (b == 0x2F) refl
  where
    by : (c : Bool) → (b == 0x2F) ≡ c → with_slash (if c then 0x2E else b) ≡ b
    by true e = sym (eqb-true b 0x2F e)
    by false e = ap (λ c. if c then 0x2F else b) (ne_eqb b 0x2E n)

slashed_back : (t : List ℕ) → AllByRecursion NoDot t → map with_slash (dotted t) ≡ t
slashed_back [] a = refl
slashed_back (b ∷ bs) a = (λ i. slash_again b a.0 i ∷ slashed_back bs a.1 i)

no_slash : (t : List ℕ) → list_any (nat_eq 0x2F) (dotted t) ≡ false
no_slash [] = refl
no_slash (b ∷ bs) = by (b == 0x2F) refl (no_slash bs)
  where
    by : (c : Bool) → (b == 0x2F) ≡ c → list_any (nat_eq 0x2F) (dotted bs) ≡ false → (nat_eq 0x2F (if c then 0x2E else b) || list_any (nat_eq 0x2F) (dotted bs)) ≡ false
    by true e r = r
    by false e r = ap (λ c. c || list_any (nat_eq 0x2F) (dotted bs)) (ne_eqb 0x2F b (λ s. true≢false (sym (eq-eqb b 0x2F (sym s)) ∙ e))) ∙ r

-- ---- legal names

and_right : (a b : Bool) → (a && b) ≡ true → b ≡ true
and_right true b e = e
and_right false b e = absurd (true≢false (sym e))

and_left : (a b : Bool) → (a && b) ≡ true → a ≡ true
and_left true b e = refl
and_left false b e = absurd (true≢false (sym e))

unreserved : (b : ℕ) → not (is_reserved b) ≡ true → Plain b
unreserved b e = record {
  dot = λ s. true≢false (sym (subst (λ z. not (is_reserved z) ≡ true) s e));
  bracket = λ s. true≢false (sym (subst (λ z. not (is_reserved z) ≡ true) s e));
}

class_plain : (begun : Bool) (t : List ℕ) → class_from begun t ≡ true → AllByRecursion Plain t
class_plain begun [] e = tt
class_plain begun (b ∷ bs) e = by (b == 0x2F) refl e (λ c. class_plain c bs)
  where
    by : (c : Bool) → (b == 0x2F) ≡ c → (if c then begun && class_from false bs else (not (is_reserved b) && class_from true bs)) ≡ true
        → ((d : Bool) → class_from d bs ≡ true → AllByRecursion Plain bs) → Plain b × AllByRecursion Plain bs
    by true s e rest =
        let is = eqb-true b 0x2F s in
        (record { dot = λ d. omega (arith, is, d); bracket = λ d. omega (arith, is, d) }, rest false (and_right begun (class_from false bs) e))
    by false s e rest = (unreserved b (and_left (not (is_reserved b)) (class_from true bs) e), rest true (and_right (not (is_reserved b)) (class_from true bs) e))

plain_no_dot : (t : List ℕ) → AllByRecursion Plain t → AllByRecursion NoDot t
plain_no_dot [] a = tt
plain_no_dot (b ∷ bs) a = (a.0.dot, plain_no_dot bs a.1)

no_bracket : (t : List ℕ) → AllByRecursion Plain t → is_descriptor (dotted t) ≡ false
no_bracket [] a = refl
no_bracket (b ∷ bs) a = by (b == 0x2F)
  where
    by : (c : Bool) → ((if c then 0x2E else b) == 0x5B) ≡ false
    by true = refl
    by false = ne_eqb b 0x5B a.0.bracket

all_both : (xs ys : List ℕ) → AllByRecursion NoDot xs → AllByRecursion NoDot ys → AllByRecursion NoDot (xs ++ ys)
all_both [] ys a b = b
all_both (x ∷ xs) ys a b = (a.0, all_both xs ys a.1 b)

brackets : (n : ℕ) → AllByRecursion NoDot (replicate n 0x5B)
brackets zero = tt
brackets (suc n) = ((λ e. omega (arith, e)), brackets n)

-- ---- a class that has a name

pub record Named (P : ProgramTables) (kind : Kind) : Type 0 where
  pub back : kind_named P (stream_name P kind) ≡ Some kind
  pub short : length (stream_name P kind) < 2 ^ 16

length_dotted : (t : List ℕ) → length (dotted t) ≡ length t
length_dotted [] = refl
length_dotted (b ∷ bs) = ap suc (length_dotted bs)

abbrev There : ProgramTables → Base → Type 0
There P b = (c : ℕ) → class_in b ≡ Some c → (e : ClassInfo) × (class_at P c ≡ Some e)

module _ (P : ProgramTables) (facts : ProgramFacts P) where
  name_is : (c : ℕ) (e : ClassInfo) → class_at P c ≡ Some e → class_name P c ≡ e.name
  name_is c e at = ap (λ o. option_map_or (λ (i : ClassInfo). i.name) o []) at

  found_again : (c : ℕ) (e : ClassInfo) → class_at P c ≡ Some e → class_named P (class_name P c) ≡ Some c
  found_again c e at = ap (class_named P) (name_is c e at) ∙ (facts.linked.classes c e at).name

  plain_name : (c : ℕ) (e : ClassInfo) → class_at P c ≡ Some e → AllByRecursion Plain (class_name P c)
  plain_name c e at = subst (AllByRecursion Plain) (sym (name_is c e at)) (class_plain false e.name (class_only e.name (facts.classes c e at).name.1))

  -- each class has a short name
  pub short_name : (c : ℕ) → length (class_name P c) < 2 ^ 16
  short_name c = by (class_at P c) refl
    where
      by : (o : Option ClassInfo) → class_at P c ≡ o → length (option_map_or (λ (i : ClassInfo). i.name) o []) < 2 ^ 16
      by None at = omega arith
      by (Some e) at = (facts.classes c e at).short_name

  class_called : (c : ℕ) (e : ClassInfo) → class_at P c ≡ Some e → Named P (class_kind c)
  unfolding kind_named stream_name
  class_called c e at =
      let name = class_name P c in
      let plain = plain_name c e at in
      record {
        back = ap (λ b. if b then None else (if is_descriptor (dotted name) then array_named P (desc_of (map with_slash (dotted name))) else option_map class_kind (class_named P (map with_slash (dotted name))))) (no_slash name)
            ∙ ap (λ b. if b then array_named P (desc_of (map with_slash (dotted name))) else option_map class_kind (class_named P (map with_slash (dotted name)))) (no_bracket name plain)
            ∙ ap (λ z. option_map class_kind (class_named P z)) (slashed_back name (plain_no_dot name plain)) ∙ ap (option_map class_kind) (found_again c e at);
        short = let s = short_name c in omega (arith, length_dotted name, s);
      }

  -- ---- arrays

  base_again : (b : Base) → There P b → base_named P (base_desc P b) ≡ Some b
  base_again bases.Bool there = refl
  base_again bases.Byte there = refl
  base_again bases.Char there = refl
  base_again bases.Short there = refl
  base_again bases.Int there = refl
  base_again bases.Long there = refl
  base_again (bases.Object c) there = let t = there c refl in ap (option_map bases.Object) (found_again c t.0 t.1)

  base_legal : (b : Base) → There P b → IsBase (base_desc P b)
  base_legal bases.Bool there = tt
  base_legal bases.Byte there = tt
  base_legal bases.Char there = tt
  base_legal bases.Short there = tt
  base_legal bases.Int there = tt
  base_legal bases.Long there = tt
  base_legal (bases.Object c) there = let t = there c refl in subst (λ z. IsBase (desc_bases.Object z)) (sym (name_is c t.0 t.1)) (facts.classes c t.0 t.1).name

  base_no_dot : (b : Base) → There P b → AllByRecursion NoDot (base_text (base_desc P b))
  base_no_dot bases.Bool there = ((λ e. omega (arith, e)), tt)
  base_no_dot bases.Byte there = ((λ e. omega (arith, e)), tt)
  base_no_dot bases.Char there = ((λ e. omega (arith, e)), tt)
  base_no_dot bases.Short there = ((λ e. omega (arith, e)), tt)
  base_no_dot bases.Int there = ((λ e. omega (arith, e)), tt)
  base_no_dot bases.Long there = ((λ e. omega (arith, e)), tt)
  base_no_dot (bases.Object c) there =
      let t = there c refl in
      ((λ e. omega (arith, e)), all_both (class_name P c) (codes ";") (plain_no_dot (class_name P c) (plain_name c t.0 t.1)) ((λ e. omega (arith, e)), tt))

  array_called : (n : ℕ) (b : Base) → suc n ≤ 255 → There P b → length (kind_text P (record { dims = suc n; base = b })) ≤ 65535 → Named P (record { dims = suc n; base = b })
  unfolding kind_named stream_name
  array_called n b few there short =
      let kind : Kind = record { dims = suc n; base = b } in
      let text = kind_text P kind in
      let name : stream_name P kind ≡ dotted text = ap (λ c. if c then dotted text else option_map_or (λ c. dotted (class_name P c)) (class_in b) []) (lt-ltb 0 (suc n) (omega arith)) in
      let legal = base_legal b there in
      let read : desc_of text ≡ Ok (kind_desc P kind) = whole_only desc_faults.BadDesc desc_law text (kind_desc P kind) ((few, legal), refl) in
      let same : kind_of P (kind_desc P kind) ≡ Some kind = ap (option_map (λ z. record { dims = suc n; base = z })) (base_again b there) in
      let back = slashed_back text (all_both (replicate (suc n) 0x5B) (base_text (base_desc P b)) (brackets (suc n)) (base_no_dot b there)) in
      let whole : kind_named P (dotted text) ≡ Some kind
      = ap (λ b. if b then None else (if is_descriptor (dotted text) then array_named P (desc_of (map with_slash (dotted text))) else option_map class_kind (class_named P (map with_slash (dotted text))))) (no_slash text)
      ∙ ap (λ z. array_named P (desc_of z)) back ∙ ap (array_named P) read ∙ same in
      record {
        back = ap (kind_named P) name ∙ whole;
        short = let l = ap length name ∙ length_dotted text in omega (arith, l, short);
      }

  -- ---- what a graph has

  interface_there : (c : ℕ) → is_interface P c ≡ true → (e : ClassInfo) × (class_at P c ≡ Some e)
  interface_there c h = by (class_at P c) refl h
    where
      by : (o : Option ClassInfo) → class_at P c ≡ o → option_map_or (λ (e : ClassInfo). has_flag 0x0200 e.flags) o false ≡ true → (e : ClassInfo) × (class_at P c ≡ Some e)
      by None at h = absurd (true≢false (sym h))
      by (Some e) at h = (e, at)

  above_there : (c : ℕ) → is_above P c c ≡ true → (e : ClassInfo) × (class_at P c ≡ Some e)
  above_there c h = by (class_at P c) refl h
    where
      by : (o : Option ClassInfo) → class_at P c ≡ o → option_map_or (λ (e : ClassInfo). list_any (λ s. s == c) e.supers) o false ≡ true → (e : ClassInfo) × (class_at P c ≡ Some e)
      by None at h = absurd (true≢false (sym h))
      by (Some e) at h = (e, at)

  base_there : (b : Base) → is_base_assignable P b b ≡ true → There P b
  base_there bases.Bool h c e = absurd (none_some e)
  base_there bases.Byte h c e = absurd (none_some e)
  base_there bases.Char h c e = absurd (none_some e)
  base_there bases.Short h c e = absurd (none_some e)
  base_there bases.Int h c e = absurd (none_some e)
  base_there bases.Long h c e = absurd (none_some e)
  base_there (bases.Object d) h c e = subst (λ c. (i : ClassInfo) × (class_at P c ≡ Some i)) (some_eq e) (by_object (d == built_in P built_ins.Object) refl h)
    where
      by_sort : (a b : Bool) → is_interface P d ≡ a → is_above P d d ≡ b → (a || b) ≡ true → (i : ClassInfo) × (class_at P d ≡ Some i)
      by_sort true b x y h = interface_there d x
      by_sort false b x y h = above_there d (y ∙ h)

      by_object : (a : Bool) → (d == built_in P built_ins.Object) ≡ a → ((a || is_interface P d) || is_above P d d) ≡ true → (i : ClassInfo) × (class_at P d ≡ Some i)
      by_object true x h = let at = built_in_at P facts.linked built_ins.Object in (_, ap (class_at P) (eqb-true d (built_in P built_ins.Object) x) ∙ at)
      by_object false x h = by_sort (is_interface P d) (is_above P d d) refl refl h

  so : (b : Bool) → T b → b ≡ true
  so true h = refl
  so false h = absurd h

  sendable_there : (c : ℕ) → is_class_sendable P c ≡ true → (e : ClassInfo) × (class_at P c ≡ Some e)
  sendable_there c h = by (class_at P c) refl (and_left (is_concrete P c) _ h)
    where
      by : (o : Option ClassInfo) → class_at P c ≡ o → option_map_or (λ (e : ClassInfo). not (has_flag 0x0200 e.flags) && not (is_abstract e.flags)) o false ≡ true → (e : ClassInfo) × (class_at P c ≡ Some e)
      by None at h = absurd (true≢false (sym h))
      by (Some e) at h = (e, at)

  pub called : (kind : Kind) (n : ℕ) → kind.dims ≤ 255 → Counts P kind n → is_sendable P kind ≡ true → Named P kind
  called kind n few counts send = by kind.dims kind.base few counts send
    where
      by : (d : ℕ) (b : Base) → d ≤ 255 → Counts P (record { dims = d; base = b }) n → is_sendable P (record { dims = d; base = b }) ≡ true → Named P (record { dims = d; base = b })
      by zero (bases.Object c) few counts send = let t = sendable_there c send in class_called c t.0 t.1
      by zero bases.Bool few counts send = absurd counts
      by zero bases.Byte few counts send = absurd counts
      by zero bases.Char few counts send = absurd counts
      by zero bases.Short few counts send = absurd counts
      by zero bases.Int few counts send = absurd counts
      by zero bases.Long few counts send = absurd counts
      by (suc d) b few counts send =
          let itself : is_base_assignable P b b ≡ true = sym (components_same (is_base_assignable P) (admits_arrays P) (suc d) b (suc d) b refl) ∙ so (is_assignable P (record { dims = suc d; base = b }) (record { dims = suc d; base = b })) counts in
          let short = leb-true (length (kind_text P (record { dims = suc d; base = b }))) 65535 (sym (ap (λ a. if a then nat_le (length (kind_text P (record { dims = suc d; base = b }))) 65535 else option_map_or (is_class_sendable P) (class_in b) false) (lt-ltb 0 (suc d) (omega arith))) ∙ send) in
          array_called d b few (base_there b itself) short
