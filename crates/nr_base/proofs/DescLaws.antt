-- The laws of descriptors.
use Rattle.std.proofs.Common.{◌≡◌, ℕ, zero, suc, ◌+◌, ◌-◌, ◌<◌, ◌≤◌, true, eqb, List, [], ◌∷◌, ◌++◌, refl, sym, ap, subst, ◌∙◌, arith}
use Rattle.std.specs.Prelude.{◌||◌, replicate}
use Rattle.std.specs.Int.{w8}
use Rattle.std.proofs.lemmas.Bool.{eqb-true, ne_eqb}
use Rattle.nr_base.specs.Grammar.{Grammar, number, give, none, Then, pick}
use Rattle.nr_base.specs.Descs.{base_text, IsBase, desc}
use Rattle.nr_base.specs.DescReading.{of_short, byte_at, base_at, type_at, desc_at}
use Rattle.nr_base.specs.declared.desc.fault.DescFault.TheVariants as faults
use Rattle.nr_base.specs.declared.desc.types.DescBase.{DescBase}
use Rattle.nr_base.specs.declared.desc.types.DescBase.TheVariants as bases
use Rattle.nr_base.specs.declared.desc.types.Desc.{Desc}
use Rattle.nr_base.proofs.Laws.{Reads, give_law, none_law, then_law, pick_law, from_law, with_fault_law, same_law}
use Rattle.nr_base.proofs.Numbers.{u8_law, byte_alone}
use Rattle.nr_base.proofs.Lists.{leaf, made, picked, picks_second, from_tagged}
use Rattle.nr_base.proofs.ClassLaw.{class, class_law}

abbrev bracket : ℕ
bracket = 0x5B

pub byte_law : Reads byte_at (number w8)
unfolding byte_at
byte_law = with_fault_law of_short u8_law

-- a byte that was read, before the text behind it
pub with_head : {A : Type 0} {H : ℕ → A → List ℕ → Type 0} {x : A} {text : List ℕ} (t : Then (number w8) H x text) → text ≡ t.value ∷ t.back
with_head t = t.whole ∙ ap (λ (z : List ℕ). z ++ t.back) (t.first.1 ∙ byte_alone t.value t.first.0)

-- ---- the types without dimensions

-- what stands behind the letter of a type
abbrev based : ℕ → Grammar DescBase
based letter b text = IsBase b × (letter ∷ text ≡ base_text b)

abbrev body : ℕ → Grammar DescBase
body letter =
    pick (eqb letter 0x5A) (give bases.Bool)
    (pick (eqb letter 0x42) (give bases.Byte)
    (pick (eqb letter 0x43) (give bases.Char)
    (pick (eqb letter 0x53) (give bases.Short)
    (pick (eqb letter 0x49) (give bases.Int)
    (pick (eqb letter 0x4A) (give bases.Long)
    (pick (eqb letter 0x4C) (Then class (λ name. give (bases.Object name)))
    (pick (eqb letter 0x46 || eqb letter 0x44) none none)))))))

constant : (letter code : ℕ) (base b : DescBase) (text : List ℕ) → base_text base ≡ code ∷ [] → IsBase base → eqb letter code ≡ true → give base b text → based letter b text
constant letter code base b text is ok e g =
    (subst IsBase (sym g.0) ok, ap (λ z. z ∷ text) (eqb-true _ _ e) ∙ ap (λ z. code ∷ z) g.1 ∙ sym is ∙ ap base_text (sym g.0))

object : (letter : ℕ) (b : DescBase) (text : List ℕ) → eqb letter 0x4C ≡ true → Then class (λ name. give (bases.Object name)) b text → based letter b text
object letter b text e t =
    let l = leaf t in
    (subst IsBase (sym l.1) (l.2.0, l.2.1), ap (λ z. z ∷ text) (eqb-true _ _ e) ∙ ap (λ z. 0x4C ∷ z) l.2.2 ∙ ap base_text (sym l.1))

based_to : (letter : ℕ) (b : DescBase) (text : List ℕ) → body letter b text → based letter b text
based_to letter b text g0 =
    picked (eqb letter 0x5A) _ _ b text g0 (λ e g. constant letter 0x5A bases.Bool b text refl tt e g) (λ e0 g1.
    picked (eqb letter 0x42) _ _ b text g1 (λ e g. constant letter 0x42 bases.Byte b text refl tt e g) (λ e1 g2.
    picked (eqb letter 0x43) _ _ b text g2 (λ e g. constant letter 0x43 bases.Char b text refl tt e g) (λ e2 g3.
    picked (eqb letter 0x53) _ _ b text g3 (λ e g. constant letter 0x53 bases.Short b text refl tt e g) (λ e3 g4.
    picked (eqb letter 0x49) _ _ b text g4 (λ e g. constant letter 0x49 bases.Int b text refl tt e g) (λ e4 g5.
    picked (eqb letter 0x4A) _ _ b text g5 (λ e g. constant letter 0x4A bases.Long b text refl tt e g) (λ e5 g6.
    picked (eqb letter 0x4C) _ _ b text g6 (λ e g. object letter b text e g) (λ e6 g7.
    picked (eqb letter 0x46 || eqb letter 0x44) none none b text g7 (λ e g. absurd g) (λ e g. absurd g))))))))

same_head : (a b : ℕ) (xs ys : List ℕ) → a ∷ xs ≡ b ∷ ys → (a ≡ b) × (xs ≡ ys)
same_head a b xs ys e = (cc, cc)

letter_is : (letter code : ℕ) (b : DescBase) (text : List ℕ) → letter ∷ text ≡ code ∷ [] → body code b [] → body letter b text
letter_is letter code b text e g =
    let h = same_head letter code text [] e in
    subst (λ z. body z b text) (sym h.0) (subst (λ z. body code b z) (sym h.1) g)

based_back : (letter : ℕ) (b : DescBase) (text : List ℕ) → based letter b text → body letter b text
based_back letter bases.Bool text g = letter_is letter 0x5A bases.Bool text g.1 (refl, refl)
based_back letter bases.Byte text g = letter_is letter 0x42 bases.Byte text g.1 (refl, refl)
based_back letter bases.Char text g = letter_is letter 0x43 bases.Char text g.1 (refl, refl)
based_back letter bases.Short text g = letter_is letter 0x53 bases.Short text g.1 (refl, refl)
based_back letter bases.Int text g = letter_is letter 0x49 bases.Int text g.1 (refl, refl)
based_back letter bases.Long text g = letter_is letter 0x4A bases.Long text g.1 (refl, refl)
based_back letter (bases.Object name) text g =
    let h = same_head letter 0x4C text (name ++ 0x3B ∷ []) g.1 in
    subst (λ z. body z (bases.Object name) text) (sym h.0) (made name text (g.0.0, g.0.1, h.1))

base_law : (at letter : ℕ) → Reads (base_at at letter) (based letter)
unfolding base_at
base_law at letter = same_law
    (pick_law (eqb letter 0x5A) (give_law bases.Bool)
    (pick_law (eqb letter 0x42) (give_law bases.Byte)
    (pick_law (eqb letter 0x43) (give_law bases.Char)
    (pick_law (eqb letter 0x53) (give_law bases.Short)
    (pick_law (eqb letter 0x49) (give_law bases.Int)
    (pick_law (eqb letter 0x4A) (give_law bases.Long)
    (pick_law (eqb letter 0x4C) (then_law class_law (λ name. give_law (bases.Object name)))
    (pick_law (eqb letter 0x46 || eqb letter 0x44) (none_law (faults.FloatDesc at)) (none_law (faults.BadDesc at))))))))))
    (based_to letter) (based_back letter)

-- ---- dimensions

-- the head of a type's text, which is neither a `)` nor a V
pub record Head (text : List ℕ) : Type 0 where
  pub letter : ℕ
  pub rest : List ℕ
  pub is : text ≡ letter ∷ rest
  pub fits : letter < 256
  pub not_close : letter ≡ 0x29 → ⊥
  pub not_void : letter ≡ 0x56 → ⊥

head_is : (letter : ℕ) (rest : List ℕ) → letter < 256 → (letter ≡ 0x29 → ⊥) → (letter ≡ 0x56 → ⊥) → Head (letter ∷ rest)
head_is letter rest fits a b = record { letter = letter; rest = rest; is = refl; fits = fits; not_close = a; not_void = b }

base_head : (b : DescBase) → Head (base_text b)
base_head bases.Bool = head_is 0x5A [] (omega arith) (λ e. omega arith) (λ e. omega arith)
base_head bases.Byte = head_is 0x42 [] (omega arith) (λ e. omega arith) (λ e. omega arith)
base_head bases.Char = head_is 0x43 [] (omega arith) (λ e. omega arith) (λ e. omega arith)
base_head bases.Short = head_is 0x53 [] (omega arith) (λ e. omega arith) (λ e. omega arith)
base_head bases.Int = head_is 0x49 [] (omega arith) (λ e. omega arith) (λ e. omega arith)
base_head bases.Long = head_is 0x4A [] (omega arith) (λ e. omega arith) (λ e. omega arith)
base_head (bases.Object name) = head_is 0x4C (name ++ 0x3B ∷ []) (omega arith) (λ e. omega arith) (λ e. omega arith)

text_head : (m : ℕ) (b : DescBase) → Head (replicate m bracket ++ base_text b)
text_head zero b = base_head b
text_head (suc m) b = head_is bracket (replicate m bracket ++ base_text b) (omega arith) (λ e. omega arith) (λ e. omega arith)

not_bracket : (letter : ℕ) (text : List ℕ) (b : DescBase) → letter ∷ text ≡ base_text b → letter ≡ bracket → ⊥
not_bracket letter text bases.Bool e is = omega (arith, (same_head letter 0x5A text [] e).0)
not_bracket letter text bases.Byte e is = omega (arith, (same_head letter 0x42 text [] e).0)
not_bracket letter text bases.Char e is = omega (arith, (same_head letter 0x43 text [] e).0)
not_bracket letter text bases.Short e is = omega (arith, (same_head letter 0x53 text [] e).0)
not_bracket letter text bases.Int e is = omega (arith, (same_head letter 0x49 text [] e).0)
not_bracket letter text bases.Long e is = omega (arith, (same_head letter 0x4A text [] e).0)
not_bracket letter text (bases.Object name) e is = omega (arith, (same_head letter 0x4C text (name ++ 0x3B ∷ []) e).0)

-- what stands behind the first letter of a type, where so many of 255 dimensions are left
pub record Typed (left letter : ℕ) (d : Desc) (text : List ℕ) : Type 0 where
  pub deeper : ℕ
  pub fits : deeper ≤ left
  pub dims : d.dims ≡ (255 - left) + deeper
  pub ok : IsBase d.base
  pub whole : letter ∷ text ≡ replicate deeper bracket ++ base_text d.base

abbrev flat : ℕ → DescBase → Desc
flat dims base = record { dims = dims; base = base }

abbrev last : ℕ → ℕ → Grammar Desc
last left letter = Then (based letter) (λ base. give (flat (255 - left) base))

last_to : (left letter : ℕ) (d : Desc) (text : List ℕ) → last left letter d text → Typed left letter d text
last_to left letter d text t =
    let l = leaf t in
    subst (λ z. Typed left letter z text) (sym l.1) (record { deeper = 0; fits = omega arith; dims = omega arith; ok = l.2.0; whole = l.2.1 })

last_back : (left letter : ℕ) (d : Desc) (text : List ℕ) → d.dims ≡ 255 - left → IsBase d.base → letter ∷ text ≡ base_text d.base → last left letter d text
last_back left letter d text e ok w = subst (λ z. last left letter (flat z d.base) text) (sym e) (made {f = flat (255 - left)} d.base text (ok, w))

abbrev more : ℕ → Grammar Desc
more k = Then (number w8) (λ l. Typed k l)

more_to : (k letter : ℕ) (d : Desc) (text : List ℕ) → suc k ≤ 255 → letter ≡ bracket → more k d text → Typed (suc k) letter d text
more_to k letter d text le is t =
    let g = t.second in
    record {
      deeper = suc g.deeper;
      fits = omega (arith, g.fits);
      dims = omega (arith, g.dims);
      ok = g.ok;
      whole = ap (λ z. z ∷ text) is ∙ ap (λ z. bracket ∷ z) (with_head t ∙ g.whole);
    }

more_back : (k m : ℕ) (d : Desc) (text : List ℕ) → suc k ≤ 255 → m ≤ k → d.dims ≡ (255 - suc k) + suc m → IsBase d.base → text ≡ replicate m bracket ++ base_text d.base → more k d text
more_back k m d text le fits dims ok w =
    let h = text_head m d.base in
    record {
      value = h.letter;
      front = h.letter ∷ [];
      back = h.rest;
      first = (h.fits, sym (byte_alone h.letter h.fits));
      second = record { deeper = m; fits = fits; dims = omega arith; ok = ok; whole = sym h.is };
      whole = w ∙ h.is;
    }

zero_back : (m letter : ℕ) (d : Desc) (text : List ℕ) → m ≤ 0 → d.dims ≡ (255 - 0) + m → IsBase d.base → letter ∷ text ≡ replicate m bracket ++ base_text d.base → pick (eqb letter bracket) none (last 0 letter) d text
zero_back zero letter d text le dims ok w = picks_second (eqb letter bracket) none (last 0 letter) d text (ne_eqb letter bracket (not_bracket letter text d.base w)) (last_back 0 letter d text (omega arith) ok w)
zero_back (suc m) letter d text le dims ok w = absurd (omega arith)

suc_back : (k m letter : ℕ) (d : Desc) (text : List ℕ) → suc k ≤ 255 → m ≤ suc k → d.dims ≡ (255 - suc k) + m → IsBase d.base → letter ∷ text ≡ replicate m bracket ++ base_text d.base → pick (eqb letter bracket) (more k) (last (suc k) letter) d text
suc_back k zero letter d text le fits dims ok w = picks_second (eqb letter bracket) (more k) (last (suc k) letter) d text (ne_eqb letter bracket (not_bracket letter text d.base w)) (last_back (suc k) letter d text (omega arith) ok w)
suc_back k (suc m) letter d text le fits dims ok w =
    let h = same_head letter bracket text (replicate m bracket ++ base_text d.base) w in
    subst (λ z. pick (eqb z bracket) (more k) (last (suc k) z) d text) (sym h.0) (more_back k m d text le (omega arith) dims ok h.1)

pub type_law : (left at letter : ℕ) → left ≤ 255 → Reads (type_at left at letter) (Typed left letter)
unfolding type_at
type_law zero at letter le = same_law (pick_law (eqb letter bracket) (none_law (faults.BadDesc at)) (then_law (base_law at letter) (λ base. give_law (flat 255 base))))
    (λ d text g. picked (eqb letter bracket) none (last 0 letter) d text g (λ e h. absurd h) (λ e h. last_to 0 letter d text h))
    (λ d text g. zero_back g.deeper letter d text g.fits g.dims g.ok g.whole)
type_law (suc k) at letter le = same_law (pick_law (eqb letter bracket) (from_law (λ next. then_law byte_law (λ l. type_law k next l (omega arith)))) (then_law (base_law at letter) (λ base. give_law (flat (255 - suc k) base))))
    (λ d text g. picked (eqb letter bracket) (more k) (last (suc k) letter) d text g (λ e h. more_to k letter d text le (eqb-true _ _ e) h) (λ e h. last_to (suc k) letter d text h))
    (λ d text g. suc_back k g.deeper letter d text le g.fits g.dims g.ok g.whole)

-- ---- descriptors of fields

pub of_typed : (letter : ℕ) (d : Desc) (text : List ℕ) → Typed 255 letter d text → desc d (letter ∷ text)
of_typed letter d text g =
    let dims : d.dims ≡ g.deeper = g.dims ∙ omega arith in
    let fits : g.deeper ≤ 255 = g.fits in
    ((omega arith, g.ok), g.whole ∙ ap (λ z. replicate z bracket ++ base_text d.base) (sym dims))

-- the head of a descriptor and what stands behind it
pub record Split (d : Desc) (text : List ℕ) : Type 0 where
  pub head : Head text
  pub typed : Typed 255 head.letter d head.rest

pub split : (d : Desc) (text : List ℕ) → desc d text → Split d text
split d text g =
    let h = text_head d.dims d.base in
    record {
      head = record { letter = h.letter; rest = h.rest; is = g.1 ∙ h.is; fits = h.fits; not_close = h.not_close; not_void = h.not_void };
      typed = record { deeper = d.dims; fits = g.0.0; dims = omega arith; ok = g.0.1; whole = sym h.is };
    }

pub desc_law : Reads desc_at desc
unfolding desc_at
desc_law = same_law (from_law (λ at. then_law byte_law (λ l. type_law 255 at l (omega arith))))
    (λ d text t. subst (λ z. desc d z) (sym (with_head t)) (of_typed t.value d t.back t.second))
    (λ d text g. let s = split d text g in
    from_tagged {H = λ l. Typed 255 l} s.head.letter s.head.fits (s.head.rest, s.head.is, s.typed))
