-- What the descriptor of a method says is what its entry says; and what holds of initialisers and of the methods of nrmi/Out.
use Rattle.std.proofs.Common.{◌≡◌, ℕ, zero, suc, ◌+◌, inl, inr, Bool, true, false, List, [], ◌∷◌, map, refl, sym, ap, subst, ◌∙◌, lit≤}
use Rattle.std.specs.Prelude.{Option, Some, None, All, IsTrue, slice_get, codes, is_none, is_some, if◌then◌else◌}
use Rattle.std.specs.List.{AllByRecursion}
use Rattle.std.specs.Option.{option_map}
use Rattle.std.specs.Str.{bytes_eq}
use Rattle.std.proofs.lemmas.Bool.{both_ways, not-true}
use Rattle.std.proofs.lemmas.Option.{same_Some}
use Rattle.std.proofs.lemmas.Slice.Eq.{bytes_eq-Decides}
use Rattle.nr_base.specs.declared.desc.types.DescBase.TheVariants as desc_bases
use Rattle.nr_base.specs.declared.desc.types.MethodDesc.{MethodDesc}
use Rattle.nr_base.specs.Descs.{method_desc}
use Rattle.nr_prog.specs.declared.body.loaded.Loaded.{Loaded}
use Rattle.nr_prog.specs.declared.body.whole.Body.{Body}
use Rattle.nr_prog.specs.declared.member.Code.{Code}
use Rattle.nr_prog.specs.declared.member.Method.{Method}
use Rattle.nr_prog.specs.declared.parts.ClassParts.{ClassParts}
use Rattle.nr_prog.specs.BodyText.{BodyFor}
use Rattle.nr_prog.specs.Members.{has_its_code, is_abstract}
use Rattle.nr_prog.specs.Pool.{text_at}
use Rattle.nr_linked.specs.declared.program.built_in.BuiltIn.{BuiltIn}
use Rattle.nr_linked.specs.declared.program.built_in.BuiltIn.TheVariants.{Object, Cloneable, Serializable, Restorable, Out}
use Rattle.nr_linked.specs.declared.program.kind.Kind.{Kind}
use Rattle.nr_linked.specs.declared.program.tables.MethodInfo.{MethodInfo}
use Rattle.nr_linked.specs.declared.program.tables.ProgramTables.{ProgramTables}
use Rattle.nr_linked.specs.BuiltIns.{BuiltInMethod, built_in, built_in_class, number}
use Rattle.nr_linked.specs.BuiltInTables.{built_in_method}
use Rattle.nr_linked.specs.Initialisers.{is_initialiser}
use Rattle.nr_linked.specs.KindTexts.{kind_desc}
use Rattle.nr_linked.specs.Linked.{first_built_in, is_loaded}
use Rattle.nr_linked.specs.Programs.{method_at}
use Rattle.nr_linked.specs.TypingFacts.{BuiltInFacts}
use Rattle.nr_links.specs.Links.{IsDecoded, Links}
use Rattle.nr_linked.proofs.BuiltInEntries.{not_loaded}
use Rattle.nr_linked.proofs.BuiltInLaws.{built_in_method_facts, built_in_result}
use Rattle.nr_links.proofs.Descriptors.{one_list, one_method_desc, one_option}
use Rattle.nr_links.proofs.MethodEntries.{LoadedMethod, method_cases}
use Rattle.nr_linked.proofs.Elements.{some_of}
use Rattle.nr_links.proofs.SlotFacts.{below_loaded}

pub same_bytes : (a b : List ℕ) → IsTrue (bytes_eq a b) → a ≡ b
same_bytes a b p = (bytes_eq-Decides a b).0 p

-- ---- descriptors

pub record Described (P : ProgramTables) (i : MethodInfo) : Type 0 where
  pub desc : MethodDesc
  pub spelled : method_desc desc i.desc
  pub params : map (kind_desc P) i.params ≡ desc.params
  pub result : option_map (kind_desc P) i.result ≡ desc.result

plain_described : (P : ProgramTables) (c : ℕ) (m : BuiltInMethod) (d : MethodDesc) → method_desc d m.desc → map (kind_desc P) m.params ≡ d.params → None ≡ d.result → Described P (built_in_method c m)
unfolding built_in_method
plain_described P c m d spelled params result = record { desc = d; spelled = spelled; params = params; result = result }

abbrev DescribedAt : ProgramTables → ℕ → BuiltInMethod → Type 0
DescribedAt P c m = Described P (built_in_method c m)

initialiser_described : (P : ProgramTables) (c : ℕ) → DescribedAt P c Rattle.nr_linked.specs.BuiltIns.plain_initialiser
initialiser_described P c = plain_described P c _ (record { params = []; result = None }) ((tt, tt, lit≤ tt), refl) refl refl

built_ins_described : (P : ProgramTables) (c : ℕ) (b : BuiltIn) → AllByRecursion (DescribedAt P c) (built_in_class b).methods
unfolding built_in_class
built_ins_described P c Object = (initialiser_described P c, tt)
built_ins_described P c Cloneable = tt
built_ins_described P c Serializable = tt
built_ins_described P c Restorable = tt
built_ins_described P c Out = (
  plain_described P c _ (record { params = record { dims = 1; base = desc_bases.Char } ∷ []; result = None }) ((((lit≤ tt, tt), tt), tt, lit≤ tt), refl) refl refl,
  (
    plain_described P c _ (record { params = record { dims = 0; base = desc_bases.Char } ∷ []; result = None }) ((((lit≤ tt, tt), tt), tt, lit≤ tt), refl) refl refl,
    (
      plain_described P c _ (record { params = record { dims = 0; base = desc_bases.Int } ∷ []; result = None }) ((((lit≤ tt, tt), tt), tt, lit≤ tt), refl) refl refl,
      (
        plain_described P c _ (record { params = record { dims = 0; base = desc_bases.Long } ∷ []; result = None }) ((((lit≤ tt, tt), tt), tt, lit≤ tt), refl) refl refl,
        (plain_described P c _ (record { params = []; result = None }) ((tt, tt, lit≤ tt), refl) refl refl, tt),
      ),
    ),
  ),
)
built_ins_described P c b = (initialiser_described P c, tt)

recursion_at : {X : Type 0} (Q : X → Type 0) (xs : List X) (k : ℕ) (x : X) → AllByRecursion Q xs → slice_get xs k ≡ Some x → Q x
recursion_at Q [] k x all at = absurd cc
recursion_at Q (y ∷ xs) zero x all at = subst Q (same_Some y x at) all.0
recursion_at Q (y ∷ xs) (suc k) x all at = recursion_at Q xs k x all.1 at

-- ---- code

concrete_code : (m : Method) → IsTrue (has_its_code m) → is_abstract m.flags ≡ false → is_some m.code ≡ true
unfolding has_its_code
concrete_code m p concrete = by_flag (is_abstract m.flags) concrete p
  where
    by_flag : (b : Bool) → b ≡ false → (if b then is_none m.code else is_some m.code) ≡ true → is_some m.code ≡ true
    by_flag true e p = absurd cc
    by_flag false e p = p

has_body_for : (c : ClassParts) (m : Method) (code : Option Code) (b : Option Body) → is_some code ≡ true → BodyFor c m code b → b ≡ None → ⊥
has_body_for c m None b some body none = cc
has_body_for c m (Some code) b some body none = let e = sym body.1 ∙ none in cc

module _ (classes : List Loaded) (P : ProgramTables) (links : Links classes P) (all : All IsDecoded classes) where
  pub described : (n : ℕ) (i : MethodInfo) → method_at P n ≡ Some i → Described P i
  described n i is = elim (method_cases classes P links all n i is) [
    | inl m ↦ record { desc = m.said.says; spelled = m.said.spelled; params = m.said.params; result = m.said.result }
    | inr m ↦ subst (Described P) (sym m.is) (recursion_at (DescribedAt P (first_built_in P + number m.holder)) (built_in_class m.holder).methods m.place m.method (built_ins_described P _ m.holder) m.declares)
  ]

  -- methods of one descriptor have the same parameters and result
  pub same_signature : (n m : ℕ) (i j : MethodInfo) → method_at P n ≡ Some i → method_at P m ≡ Some j → i.desc ≡ j.desc → (i.params ≡ j.params) × (i.result ≡ j.result)
  same_signature n m i j is js e =
      let a = described n i is in
      let b = described m j js in
      let d = one_method_desc a.desc b.desc j.desc (subst (method_desc a.desc) e a.spelled) b.spelled in
      let p = links.linked.methods n i is in
      let q = links.linked.methods m j js in (
        one_list P links.linked i.params j.params p.params q.params (a.params ∙ ap (λ (d : MethodDesc). d.params) d ∙ sym b.params),
        one_option P links.linked i.result j.result p.result q.result (a.result ∙ ap (λ (d : MethodDesc). d.result) d ∙ sym b.result),
      )

  -- ---- initialisers

  none_of : (o : Option Kind) → option_map (kind_desc P) o ≡ None → o ≡ None
  none_of None e = refl
  none_of (Some k) e = absurd cc

  void_result : (n : ℕ) (i : MethodInfo) (m : LoadedMethod classes P n i) → IsTrue (is_initialiser i) → i.result ≡ None
  void_result n i m init =
      let named = m.name ∙ ap (λ t. Some t) (same_bytes i.name (codes "<init>") init) in
      let v = some_of (λ text. (d : MethodDesc) × method_desc d text × (d.result ≡ None)) (text_at m.l.«class».pool m.m.desc) (m.formed.initialiser named).void in
      let same : v.0 ≡ i.desc = same_Some v.0 i.desc (sym v.1 ∙ m.desc) in
      let d = one_method_desc v.2.0 m.said.says i.desc (subst (method_desc v.2.0) same v.2.1) m.said.spelled in
      none_of i.result (m.said.result ∙ sym (ap (λ (d : MethodDesc). d.result) d) ∙ v.2.2)

  -- an initialiser gives nothing
  pub initialiser_result : (n : ℕ) (i : MethodInfo) → method_at P n ≡ Some i → IsTrue (is_initialiser i) → i.result ≡ None
  initialiser_result n i is init = elim (method_cases classes P links all n i is) [
    | inl m ↦ void_result n i m init
    | inr m ↦ ap (λ (i : MethodInfo). i.result) m.is ∙ built_in_result (first_built_in P + number m.holder) m.method
  ]

  -- ---- methods without code

  initialiser_code : (n : ℕ) (i : MethodInfo) (m : LoadedMethod classes P n i) → IsTrue (is_initialiser i) → i.body ≡ None → ⊥
  initialiser_code n i m init none =
      let named = m.name ∙ ap (λ t. Some t) (same_bytes i.name (codes "<init>") init) in
      let concrete = not-true (is_abstract m.m.flags) (m.formed.initialiser named).not_abstract in
      has_body_for m.l.«class» m.m m.m.code m.decoded (concrete_code m.m m.formed.code concrete) m.body_for (sym m.said.body ∙ none)

  out_loaded : (n : ℕ) (i : MethodInfo) (m : LoadedMethod classes P n i) → i.«class» ≡ built_in P Out → ⊥
  out_loaded n i m out = both_ways (is_loaded P (built_in P Out)) (not_loaded P Out) (subst (λ c. IsTrue (is_loaded P c)) (sym m.is_own ∙ out) (below_loaded classes P links m.own m.l m.at))

  pub built_in_facts : (n : ℕ) (i : MethodInfo) → method_at P n ≡ Some i → i.body ≡ None → BuiltInFacts P i
  built_in_facts n i is none = elim (method_cases classes P links all n i is) [
    | inl m ↦ record { out = λ out. absurd (out_loaded n i m out); initialiser = λ init. absurd (initialiser_code n i m init none) }
    | inr m ↦ subst (BuiltInFacts P) (sym m.is) (built_in_method_facts P m.holder m.method m.place m.declares)
  ]
