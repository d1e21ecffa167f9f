-- The law of the descriptors of methods.
use Rattle.std.proofs.Common.{◌≡◌, ℕ, zero, suc, ◌≤◌, ◌⊎◌, Bool, true, false, eqb, ltb, List, [], ◌∷◌, ◌++◌, Option, Some, None, Result, Ok, Err, refl, sym, ap, subst, ◌∙◌, append_assoc, arith, inl, inr}
use Rattle.std.specs.Prelude.{IfSome, IfOk}
use Rattle.std.specs.Int.{w8}
use Rattle.std.specs.List.{AllByRecursion, flat_map}
use Rattle.std.proofs.lemmas.Bool.{eqb-true, ne_eqb, ltb-false, le-ltb}
use Rattle.std.proofs.lemmas.List.{append-nil}
use Rattle.nr_base.specs.Reader.{whole}
use Rattle.nr_base.specs.Clauses.{GivesWhole}
use Rattle.nr_base.specs.Grammar.{Grammar, IsBytes, number, give, none, Then, pick, Repeat, While}
use Rattle.nr_base.specs.Descs.{desc_text, IsDesc, desc, result_text, method_text, slots, method_desc}
use Rattle.nr_base.specs.DescReading.{is_free, param_at, params_at, result_at, method_at, counted, method_of}
use Rattle.nr_base.specs.declared.desc.fault.DescFault.{DescFault}
use Rattle.nr_base.specs.declared.desc.fault.DescFault.TheVariants as faults
use Rattle.nr_base.specs.declared.desc.types.Desc.{Desc}
use Rattle.nr_base.specs.declared.desc.types.MethodDesc.{MethodDesc}
use Rattle.nr_base.proofs.Laws.{Reads, give_law, none_law, then_law, pick_law, from_law, same_law, guard_ok, whole_found, whole_only}
use Rattle.nr_base.proofs.Lists.{leaf, made, picked, picks_second, from_tagged}
use Rattle.nr_base.proofs.While.{while_law}
use Rattle.nr_base.proofs.DescTakes.{param_takes}
use Rattle.nr_base.proofs.DescLaws.{byte_law, with_head, Typed, of_typed, split, type_law}

-- a descriptor that begins with a letter, in the place of a value made of it
abbrev behind : {B : Type 0} → (Desc → B) → ℕ → Grammar B
behind f l = Then (Typed 255 l) (λ d. give (f d))

behind_to : {B : Type 0} (f : Desc → B) (l : ℕ) (y : B) (text : List ℕ) → behind f l y text → (d : Desc) × (y ≡ f d) × desc d (l ∷ text)
behind_to f l y text t = let a = leaf t in (a.0, a.1, of_typed l a.0 text a.2)

-- ---- parameters

abbrev close : ℕ
close = 0x29

abbrev taken : List Desc → Desc → Bool × List Desc
taken params d = (true, params ++ d ∷ [])

abbrev param : List Desc → Bool × List Desc → List ℕ → Type 0
param params = Then (number w8) (λ l. pick (eqb l close) (give (false, params)) (behind (taken params) l))

param_law : (params : List Desc) → Reads (param_at params) (param params)
unfolding param_at
param_law params = from_law (λ at. then_law byte_law (λ l. pick_law (eqb l close) (give_law (false, params)) (then_law (type_law 255 at l (omega arith)) (λ d. give_law (taken params d)))))

record Closed (params : List Desc) (x : Bool × List Desc) (text : List ℕ) : Type 0 where
  no_more : x.0 ≡ false
  same : x.1 ≡ params
  text_is : text ≡ close ∷ []

record OneMore (params : List Desc) (x : Bool × List Desc) (text : List ℕ) : Type 0 where
  value : Desc
  more : x.0 ≡ true
  next : x.1 ≡ params ++ value ∷ []
  spelled : desc value text

turn : (params : List Desc) (x : Bool × List Desc) (text : List ℕ) → param params x text → Closed params x text ⊎ OneMore params x text
turn params x text t =
    picked (eqb t.value close) (give (false, params)) (behind (taken params) t.value) x t.back t.second
    (λ is g. inl (record { no_more = ap (λ (z : Bool × List Desc). z.0) g.0; same = ap (λ (z : Bool × List Desc). z.1) g.0; text_is = with_head t ∙ ap (λ z. z ∷ t.back) (eqb-true _ _ is) ∙ ap (λ z. close ∷ z) g.1 }))
    (λ no g.
    let b = behind_to (taken params) t.value x t.back g in
    inr (record { value = b.0; more = ap (λ (z : Bool × List Desc). z.0) b.1; next = ap (λ (z : Bool × List Desc). z.1) b.1; spelled = subst (λ z. desc b.0 z) (sym (with_head t)) b.2 }))

-- what the parameters add to those before
record Adds (params ys : List Desc) (text : List ℕ) : Type 0 where
  items : List Desc
  joined : ys ≡ params ++ items
  each : AllByRecursion IsDesc items
  whole : text ≡ flat_map desc_text items ++ close ∷ []

closed : (params ys : List Desc) (text : List ℕ) → param params (false, ys) text → Adds params ys text
closed params ys text g =
    elim (turn params (false, ys) text g) [
      | inl a ↦ record { items = []; joined = a.same ∙ sym (append-nil params); each = tt; whole = a.text_is }
      | inr a ↦ absurd (let e : false ≡ true = a.more in cc)
    ]

one_more : (params next ys : List Desc) (text front back : List ℕ) → text ≡ front ++ back → param params (true, next) front → Adds next ys back → Adds params ys text
one_more params next ys text front back w g more =
    elim (turn params (true, next) front g) [
      | inl a ↦ absurd (let e : true ≡ false = a.no_more in cc)
      | inr a ↦ record {
        items = a.value ∷ more.items;
        joined = more.joined ∙ ap (λ z. z ++ more.items) a.next ∙ append_assoc params (a.value ∷ []) more.items;
        each = (a.spelled.0, more.each);
        whole = w ∙ ap (λ z. z ++ back) a.spelled.1 ∙ ap (λ z. desc_text a.value ++ z) more.whole ∙ sym (append_assoc (desc_text a.value) (flat_map desc_text more.items) (close ∷ []));
      }
    ]

adds : (k : ℕ) (params ys : List Desc) (text : List ℕ) → Repeat param k params ys text → Adds params ys text
adds zero params ys text g = closed params ys text g
adds (suc k) params ys text g = one_more params g.value ys text g.front g.back g.whole g.first (adds k g.value ys g.back g.second)

-- ---- and back

close_param : (params : List Desc) → param params (false, params) (close ∷ [])
close_param params = from_tagged {H = λ l. pick (eqb l close) (give (false, params)) (behind (taken params) l)} close (omega arith) ([], refl, (refl, refl))

desc_param : (params : List Desc) (d : Desc) (text : List ℕ) → desc d text → param params (taken params d) text
desc_param params d text g =
    let s = split d text g in
    from_tagged {H = λ l. pick (eqb l close) (give (false, params)) (behind (taken params) l)} s.head.letter s.head.fits
    (s.head.rest, s.head.is, picks_second (eqb s.head.letter close) (give (false, params)) (behind (taken params) s.head.letter) (taken params d) s.head.rest (ne_eqb s.head.letter close s.head.not_close) (made {f = taken params} d s.head.rest s.typed))

added : (params items : List Desc) → AllByRecursion IsDesc items → While param params (params ++ items) (flat_map desc_text items ++ close ∷ [])
added params [] each = (0, subst (λ z. param params (false, z) (close ∷ [])) (sym (append-nil params)) (close_param params))
added params (d ∷ items) each =
    let rest = added (params ++ d ∷ []) items each.1 in
    let moved : Repeat param rest.0 (params ++ d ∷ []) (params ++ d ∷ items) (flat_map desc_text items ++ close ∷ []) = subst (λ z. Repeat param rest.0 (params ++ d ∷ []) z (flat_map desc_text items ++ close ∷ [])) (append_assoc params (d ∷ []) items) rest.1 in
    (suc rest.0, record { value = params ++ d ∷ []; front = desc_text d; back = flat_map desc_text items ++ close ∷ []; first = desc_param params d (desc_text d) (each.0, refl); second = moved; whole = append_assoc (desc_text d) (flat_map desc_text items) (close ∷ []) })

abbrev params : Grammar (List Desc)
params ps text = AllByRecursion IsDesc ps × (text ≡ flat_map desc_text ps ++ close ∷ [])

params_law : Reads params_at params
unfolding params_at
params_law = same_law (while_law param_at param param_law param_takes [])
    (λ ps text g. let a = adds g.0 [] ps text g.1 in (subst (λ z. AllByRecursion IsDesc z) (sym a.joined) a.each, a.whole ∙ ap (λ z. flat_map desc_text z ++ close ∷ []) (sym a.joined)))
    (λ ps text g. subst (λ z. While param [] ps z) (sym g.1) (added [] ps g.0))

-- ---- the result

abbrev void : ℕ
void = 0x56

abbrev result : Grammar (Option Desc)
result r text = IfSome r IsDesc × (text ≡ result_text r)

abbrev result_parts : Grammar (Option Desc)
result_parts = Then (number w8) (λ l. pick (eqb l void) (give None) (behind (λ d. Some d) l))

result_to : (r : Option Desc) (text : List ℕ) → result_parts r text → result r text
result_to r text t =
    picked (eqb t.value void) (give None) (behind (λ d. Some d) t.value) r t.back t.second
    (λ is g. subst (λ z. result z text) (sym g.0) (tt, with_head t ∙ ap (λ z. z ∷ t.back) (eqb-true _ _ is) ∙ ap (λ z. void ∷ z) g.1))
    (λ no g.
    let b = behind_to (λ d. Some d) t.value r t.back g in
    subst (λ z. result z text) (sym b.1) (b.2.0, with_head t ∙ b.2.1))

result_back : (r : Option Desc) (text : List ℕ) → result r text → result_parts r text
result_back None text g = from_tagged {H = λ l. pick (eqb l void) (give None) (behind (λ d. Some d) l)} void (omega arith) ([], g.1, (refl, refl))
result_back (Some d) text g =
    let s = split d text g in
    from_tagged {H = λ l. pick (eqb l void) (give None) (behind (λ d. Some d) l)} s.head.letter s.head.fits
    (s.head.rest, s.head.is, picks_second (eqb s.head.letter void) (give None) (behind (λ d. Some d) s.head.letter) (Some d) s.head.rest (ne_eqb s.head.letter void s.head.not_void) (made {f = λ d. Some d} d s.head.rest s.typed))

result_law : Reads result_at result
unfolding result_at
result_law = same_law (from_law (λ at. then_law byte_law (λ l. pick_law (eqb l void) (give_law None) (then_law (type_law 255 at l (omega arith)) (λ d. give_law (Some d)))))) result_to result_back

-- ---- method descriptors, of which the parameters aren't counted yet

abbrev open_ : ℕ
open_ = 0x28

abbrev method : List Desc → Option Desc → MethodDesc
method ps r = record { params = ps; result = r }

abbrev IsParts : MethodDesc → Type 0
IsParts m = AllByRecursion IsDesc m.params × IfSome m.result IsDesc

abbrev parts : Grammar MethodDesc
parts m text = IsParts m × (text ≡ method_text m)

abbrev inside : Grammar MethodDesc
inside = Then params (λ ps. Then result (λ r. give (method ps r)))

abbrev method_parts : Grammar MethodDesc
method_parts = Then (number w8) (λ l. pick (eqb l open_) inside none)

text_of : (ps : List Desc) (r : Option Desc) → open_ ∷ ((flat_map desc_text ps ++ close ∷ []) ++ result_text r) ≡ method_text (method ps r)
text_of ps r = refl

inside_to : (m : MethodDesc) (text : List ℕ) → inside m text → parts m (open_ ∷ text)
inside_to m text t =
    let l = leaf t.second in
    subst (λ z. parts z (open_ ∷ text)) (sym l.1) ((t.first.0, l.2.0), ap (λ z. open_ ∷ z) (t.whole ∙ ap (λ z. z ++ t.back) t.first.1 ∙ ap (λ z. (flat_map desc_text t.value ++ close ∷ []) ++ z) l.2.1) ∙ text_of t.value l.0)

inside_back : (m : MethodDesc) → IsParts m → inside m ((flat_map desc_text m.params ++ close ∷ []) ++ result_text m.result)
inside_back m g = record {
  value = m.params;
  front = flat_map desc_text m.params ++ close ∷ [];
  back = result_text m.result;
  first = (g.0, refl);
  second = made {f = method m.params} m.result (result_text m.result) (g.1, refl);
  whole = refl;
}

method_law : Reads method_at parts
unfolding method_at
method_law = same_law (from_law (λ at. then_law byte_law (λ l. pick_law (eqb l open_) (then_law params_law (λ ps. then_law result_law (λ r. give_law (method ps r)))) (none_law (faults.BadDesc at)))))
    (λ m text t. picked (eqb t.value open_) inside none m t.back t.second
    (λ is g. subst (λ z. parts m z) (sym (with_head t ∙ ap (λ z. z ∷ t.back) (eqb-true _ _ is))) (inside_to m t.back g))
    (λ no g. absurd g))
    (λ m text g. from_tagged {H = λ l. pick (eqb l open_) inside none} open_ (omega arith) ((flat_map desc_text m.params ++ close ∷ []) ++ result_text m.result, g.1 ∙ sym (text_of m.params m.result), inside_back m g.0))

-- ---- whole texts

counted_ok : (r : Result MethodDesc DescFault) (m : MethodDesc) → counted r ≡ Ok m → (r ≡ Ok m) × (slots m.params ≤ 254)
counted_ok (Ok n) m e =
    let g = guard_ok (ltb 254 (slots n.params)) (faults.TooManyArgs (slots n.params)) n m e in
    (ap (λ z. Ok z) g.1, subst (λ z. slots z.params ≤ 254) g.1 (ltb-false _ _ g.0))
counted_ok (Err d) m e = absurd cc

pub method_found : (bytes : List ℕ) (result : Result MethodDesc DescFault) → IsBytes bytes → GivesWhole is_free result (method_of bytes) → IfOk result (λ m. method_desc m bytes)
method_found bytes (Ok m) fits e =
    let c = counted_ok (whole faults.BadDesc method_at bytes) m e in
    let g = whole_found faults.BadDesc method_law bytes m fits c.0 in
    ((g.0.0, g.0.1, c.1), g.1)
method_found bytes (Err d) fits e = tt

counts : (m : MethodDesc) → slots m.params ≤ 254 → counted (Ok m) ≡ Ok m
counts m le = rw (le-ltb 254 (slots m.params) le) refl

pub gives_method : (bytes : List ℕ) (result : Result MethodDesc DescFault) (m : MethodDesc) → GivesWhole is_free result (method_of bytes) → method_desc m bytes → GivesWhole is_free result (Ok m)
gives_method bytes result m e g =
    subst (λ z. GivesWhole is_free result z) (ap counted (whole_only faults.BadDesc method_law bytes m ((g.0.0, g.0.1), g.1)) ∙ counts m g.0.2) e
