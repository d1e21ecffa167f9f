-- Items of a stream are read just as they are spelled.
use Rattle.std.proofs.Common.{◌≡◌, ℕ, zero, suc, ◌+◌, ◌<◌, ◌^◌, Bool, true, false, List, [], ◌∷◌, ◌++◌, length, Option, Some, None, Ok, Err, refl, sym, ap, subst, ◌∙◌, append_assoc, append-nil, if◌then◌else◌, arith}
use Rattle.std.specs.Int.{w8, w16, w32, w64, from_be_bytes, to_be_bytes}
use Rattle.std.specs.Str.{bytes_eq}
use Rattle.std.proofs.lemmas.Slice.Eq.{bytes_eq-Decides}
use Rattle.std.proofs.lemmas.List.{take_at}
use Rattle.nr_base.specs.Grammar.{IsBytes, Then, Spanned, pick, give, none, number, run}
use Rattle.nr_base.specs.Reader.{Reader, bind, pure, refuse}
use Rattle.nr_base.proofs.Bytes.{IsBytes-take}
use Rattle.nr_base.proofs.Laws.{Reads, bind_ok, then_law, give_law, none_law, from_law, same_law, with_fault_law}
use Rattle.nr_base.proofs.Numbers.{wide16, wide32, run_law, byte_alone, u8_law, u16_law, u32_law, u64_law}
use Rattle.nr_base.proofs.Spans.{spanned_law}
use Rattle.nr_linked.specs.declared.program.kind.Kind.{Kind}
use Rattle.nr_serform.specs.ClassNumbers.{utf}
use Rattle.nr_serform.specs.Entries.{Entry, Class, Text, Object}
use Rattle.nr_serread.specs.declared.fault.StreamFault.{StreamFault}
use Rattle.nr_serread.specs.declared.fault.StreamFault.TheVariants as faults
use Rattle.nr_serread.specs.Faults.{of_short}
use Rattle.nr_serread.specs.Items.{Read, u1_at, u2_at, u4_at, u8_at, utf_at, given_by, told_class, due_at, differs_at}

pub one_law : Reads u1_at (number w8)
one_law = with_fault_law of_short u8_law

pub two_law : Reads u2_at (number w16)
two_law = with_fault_law of_short u16_law

pub four_law : Reads u4_at (number w32)
four_law = with_fault_law of_short u32_law

pub eight_law : Reads u8_at (number w64)
eight_law = with_fault_law of_short u64_law

-- ---- a text behind its length

pub record IsUtf (t text : List ℕ) : Type 0 where
  pub short : length t < 2 ^ 16
  pub whole : text ≡ utf t

utf_to : (t text : List ℕ) → Then (number w16) (λ len. run len) t text → IsUtf t text
utf_to t text h = record {
  short = omega (arith, h.first.0, h.second.0);
  whole = h.whole ∙ (λ i. h.first.1 i ++ h.second.1 i) ∙ ap (λ n. to_be_bytes w16 n ++ t) (sym h.second.0);
}

utf_back : (t text : List ℕ) → IsUtf t text → Then (number w16) (λ len. run len) t text
utf_back t text h = record { value = length t; front = to_be_bytes w16 (length t); back = t; first = (omega (arith, h.short), refl); second = (refl, refl); whole = h.whole }

pub utf_law : Reads utf_at IsUtf
unfolding utf_at
utf_law = from_law (λ at. same_law (then_law two_law (λ len. with_fault_law (λ s. faults.Short at) (run_law len))) utf_to utf_back)

-- ---- what is read is of bytes

pub record WithBytes {A : Type 0} (G : A → List ℕ → Type 0) (x : A) (text : List ℕ) : Type 0 where
  pub spelled : G x text
  pub fits : IsBytes text

front_fits : (text rest : List ℕ) → IsBytes (text ++ rest) → IsBytes text
front_fits text rest f = subst IsBytes (take_at text rest (length text) refl) (IsBytes-take (length text) (text ++ rest) f)

pub bytes_law : {A F : Type 0} {r : Reader F A} {G : A → List ℕ → Type 0} → Reads r G → Reads r (WithBytes G)
bytes_law rs = record {
  found = λ p q x fits e. let t = rs.found p q x fits e in record {
    text = t.text;
    spelled = record { spelled = t.spelled; fits = front_fits t.text q.rest (subst IsBytes t.rest fits) };
    total = t.total;
    rest = t.rest;
    fits = t.fits;
  };
  only = λ x text rest total g. rs.only x text rest total g.spelled;
}

-- ---- one value with one text

pub record Is {A : Type 0} (v : A) (w : List ℕ) (x : A) (text : List ℕ) : Type 0 where
  pub value : x ≡ v
  pub whole : text ≡ w

pub pure_is : {A : Type 0} (x : A) → Reads {F = StreamFault} (pure x) (Is x [])
pure_is x = same_law (give_law x) (λ y t g. record { value = g.0; whole = g.1 }) (λ y t g. (g.value, g.whole))

-- one text, and then what is chosen by its value
pub then_is : {A B F : Type 0} {r : Reader F A} {H : B → List ℕ → Type 0} {K : B → List ℕ → Type 0} (f : A → Reader F B) (v : A) (w : List ℕ)
    → Reads r (Is v w) → Reads (f v) H
    → ((y : B) (back : List ℕ) → H y back → K y (w ++ back))
    → ((y : B) (text : List ℕ) → K y text → (back : List ℕ) × (text ≡ w ++ back) × H y back)
    → Reads (bind r f) K
unfolding bind
then_is {r = r} f v w rs fs to split = record {
  found = λ p q y fits e.
      let a = bind_ok (r p) f (y, q) e in
      let t = rs.found p a.0.1 a.0.0 fits a.1 in
      let u = fs.found a.0.1 q y t.fits (subst (λ z. f z a.0.1 ≡ Ok (y, q)) t.spelled.value a.2) in
      record {
        text = w ++ u.text;
        spelled = to y u.text u.spelled;
        total = t.total ∙ u.total;
        rest = t.rest ∙ (λ i. t.spelled.whole i ++ u.rest i) ∙ sym (append_assoc w u.text q.rest);
        fits = u.fits;
      };
  only = λ y text rest total g.
      let s = split y text g in
      let step = rs.only v w (s.0 ++ rest) total (record { value = refl; whole = refl }) in
      let later = fs.only y s.0 rest total s.2 in
      let whole : text ++ rest ≡ w ++ (s.0 ++ rest) = ap (λ z. z ++ rest) s.1 ∙ append_assoc w s.0 rest in
      rw whole (rw step later);
}

pub is_is : {A B F : Type 0} {r : Reader F A} (f : A → Reader F B) (v : A) (w : List ℕ) {v' : B} {w' : List ℕ}
    → Reads r (Is v w) → Reads (f v) (Is v' w') → Reads (bind r f) (Is v' (w ++ w'))
is_is f v w {v' = v'} {w' = w'} rs fs = then_is f v w rs fs
    (λ y back h. record { value = h.value; whole = ap (λ z. w ++ z) h.whole })
    (λ y text k. (w', k.whole, record { value = k.value; whole = refl }))

pub same_is : {A F : Type 0} {r : Reader F A} {v v' : A} {w w' : List ℕ} → v ≡ v' → w ≡ w' → Reads r (Is v w) → Reads r (Is v' w')
same_is {v = v} {v' = v'} {w = w} {w' = w'} ev ew rs =
    same_law rs (λ x t g. record { value = g.value ∙ ev; whole = g.whole ∙ ew }) (λ x t g. record { value = g.value ∙ sym ev; whole = g.whole ∙ sym ew })

-- ---- items of which one text is due

same : (xs ys : List ℕ) → bytes_eq xs ys ≡ true → xs ≡ ys
same xs ys e = (bytes_eq-Decides xs ys).0 e

itself : (xs : List ℕ) → bytes_eq xs xs ≡ true
itself xs = (bytes_eq-Decides xs xs).1 refl

abbrev IsDue : {A : Type 0} → (A → List ℕ → Type 0) → List ℕ → Bool → List ℕ → Type 0
IsDue G due b t = Then (Spanned G) (λ got. pick (bytes_eq got due) (give true) none) b t

told : (c : Bool) (got due : List ℕ) (b : Bool) (back : List ℕ) → bytes_eq got due ≡ c → pick c (give true) none b back → (b ≡ true) × (got ++ back ≡ due)
told true got due b back e g = (g.0, rw g.1 (append-nil got ∙ same got due e))
told false got due b back e g = absurd g

due_or : (b : Bool) (d : StreamFault) → Reads (given_by (if b then Ok true else Err d)) (pick b (give true) none)
unfolding given_by pure refuse
due_or true d = record { found = (give_law {F = StreamFault} true).found; only = (give_law {F = StreamFault} true).only }
due_or false d = record { found = (none_law {A = Bool} d).found; only = (none_law {A = Bool} d).only }

pub due_law : {A : Type 0} {item : Read A} {G : A → List ℕ → Type 0} (due : List ℕ) (x : A) → G x due → Reads item G → Reads (due_at item due) (Is true due)
unfolding due_at
due_law {G = G} due x g rs = from_law (λ at. same_law (then_law (spanned_law rs) (λ got. due_or (bytes_eq got due) (faults.Fields (at + differs_at got due)))) to back)
  where
    to : (b : Bool) (t : List ℕ) → IsDue G due b t → Is true due b t
    to b t h =
        let k = told (bytes_eq h.value due) h.value due b h.back refl h.second in
        record { value = k.0; whole = h.whole ∙ ap (λ z. z ++ h.back) (sym h.first.2) ∙ k.1 }

    back : (b : Bool) (t : List ℕ) → Is true due b t → IsDue G due b t
    back b t h = record { value = due; front = due; back = []; first = (x, g, refl); second = subst (λ c. pick c (give true) none b []) (sym (itself due)) (h.value, refl); whole = h.whole ∙ sym (append-nil due) }

-- each number's text is that of one that fits
four_bytes : (n : ℕ) → IsBytes (to_be_bytes w32 n)
four_bytes n zero = omega arith
four_bytes n (suc zero) = omega arith
four_bytes n (suc (suc zero)) = omega arith
four_bytes n (suc (suc (suc zero))) = omega arith
four_bytes n (suc (suc (suc (suc i)))) = omega arith

two_bytes : (n : ℕ) → IsBytes (to_be_bytes w16 n)
two_bytes n zero = omega arith
two_bytes n (suc zero) = omega arith
two_bytes n (suc (suc i)) = omega arith

pub due_one : (b : ℕ) → b < 256 → Reads (due_at u1_at (b ∷ [])) (Is true (b ∷ []))
due_one b lt = due_law (b ∷ []) b (lt, sym (byte_alone b lt)) one_law

pub due_two : (n : ℕ) → Reads (due_at u2_at (to_be_bytes w16 n)) (Is true (to_be_bytes w16 n))
due_two n =
    let t = to_be_bytes w16 n in
    due_law t (from_be_bytes w16 t) (wide16.below t (two_bytes n), sym (wide16.back t refl (two_bytes n))) two_law

pub due_four : (n : ℕ) → Reads (due_at u4_at (to_be_bytes w32 n)) (Is true (to_be_bytes w32 n))
due_four n =
    let t = to_be_bytes w32 n in
    due_law t (from_be_bytes w32 t) (wide32.below t (four_bytes n), sym (wide32.back t refl (four_bytes n))) four_law

pub due_utf : (t : List ℕ) → length t < 2 ^ 16 → Reads (due_at utf_at (utf t)) (Is true (utf t))
due_utf t short = due_law (utf t) t (record { short = short; whole = refl }) utf_law

-- ---- what is found for no byte

pub record Found {A : Type 0} (Q : A → Type 0) (x : A) (text : List ℕ) : Type 0 where
  pub found : Q x
  pub none : text ≡ []

abbrev IsClassEntry : Option Entry → Kind → Type 0
IsClassEntry o k = o ≡ Some (Class k)

pub told_class_law : (at n : ℕ) (o : Option Entry) → Reads (given_by (told_class at n o)) (Found (λ k. o ≡ Some (Class k)))
unfolding given_by pure
told_class_law at n None = record { found = λ p q y fits e. absurd cc; only = λ y t r m g. absurd cc }
told_class_law at n (Some (Text t)) = record { found = λ p q y fits e. absurd cc; only = λ y t r m g. absurd cc }
told_class_law at n (Some (Object i)) = record { found = λ p q y fits e. absurd cc; only = λ y t r m g. absurd cc }
told_class_law at n (Some (Class k)) = same_law (give_of k) (λ y t g. record { found = ap (λ z. Some (Class z)) (sym g.0); none = g.1 }) (λ y t g. (cc, g.none))
  where
    give_of : (k : Kind) → Reads (given_by {A = Kind} (Ok k)) (give k)
    give_of k = record { found = (give_law k).found; only = (give_law k).only }
