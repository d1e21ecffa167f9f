-- How long the code of a method of a class is.
use Rattle.std.proofs.Common.{◌≡◌, ℕ, ◌≤◌, ◌<◌, ◌^◌, ◌+◌, true, List, [], ◌∷◌, ◌++◌, length, get_or, Option, Some, None, Result, Ok, Err, sym, ap, subst, arith, nat_le, nat_lt, slice_get, ◌∙◌}
use Rattle.std.proofs.lemmas.List.{length-append}
use Rattle.std.proofs.lemmas.Option.{slice_get-get_or}
use Rattle.nr_prog.specs.BodyText.{code_in, code_at}
use Rattle.nr_base.proofs.ClassNames.{both_true}
use Rattle.nr_prog.specs.declared.member.Method.{Method}
use Rattle.nr_prog.specs.declared.member.Code.{Code}
use Rattle.nr_prog.specs.declared.parts.ClassParts.{ClassParts}
use Rattle.nr_prog.specs.declared.body.whole.Body.{Body}
use Rattle.nr_prog.specs.Members.{is_plain, is_code_sized}
use Rattle.nr_prog.specs.Form.{IsFormed, IsMethodFormed, IsWithinBounds, handler_count}
use Rattle.nr_code.specs.declared.fault.LoadFault.{LoadFault}
use Rattle.nr_code.specs.Bounds.{HasShortMaps, AreShort, IsSized, IsShort}
use Rattle.nr_instrs.specs.Checks.{then_on}
use Rattle.nr_code.specs.Decoding.{body_in, body_step}

sized : (m : Method) → is_plain m ≡ true → is_code_sized m.code ≡ true
unfolding is_plain
sized m e = (both_true _ (is_code_sized m.code) e).1

is_short : (o : Option Code) → is_code_sized o ≡ true → handler_count o ≤ 2 ^ 16 → HasShortMaps o → IsShort o
is_short None s h m = tt
is_short (Some code) s h m = let b = both_true (nat_lt 0 (length code.bytes)) (nat_le (length code.bytes) 65535) s in record { bytes = grind arith; handlers = h; maps = m }

pub code_len : (m : Method) (code : Code) → is_plain m ≡ true → m.code ≡ Some code → length code.bytes < 2 ^ 16
code_len m code plain has =
    let b = both_true (nat_lt 0 (length code.bytes)) (nat_le (length code.bytes) 65535) (sym (ap is_code_sized has) ∙ sized m plain) in
    grind arith

pub formed_at : (c : ClassParts) (i : ℕ) (m : Method) → IsFormed c → i < length c.methods → m ≡ get_or c.methods i m → IsMethodFormed c.pool m
formed_at c i m formed lt is = subst (IsMethodFormed c.pool) (sym is) (formed.methods i m lt)

-- the method at a place
pub short_at : (c : ClassParts) (i : ℕ) (m : Method) → IsFormed c → IsWithinBounds c → AreShort c → i < length c.methods → m ≡ get_or c.methods i m → IsShort m.code
short_at c i m formed bounds short lt is =
    subst (λ (z : Method). IsShort z.code) (sym is)
    (is_short (get_or c.methods i m).code (sized (get_or c.methods i m) (formed.methods i m lt).plain) (bounds.handlers i m lt) (short i m lt))

more : (bodies t : List (Option Body)) (r : Result (Option Body) LoadFault) → then_on r (λ b. Ok (bodies ++ b ∷ [])) ≡ Ok t → length t ≡ length bodies + 1
more bodies t (Ok b) e = let is : bodies ++ b ∷ [] ≡ t = cc in omega (arith, ap length is, length-append bodies (b ∷ []))
more bodies t (Err d) e = absurd cc

pub one_more : (c : ClassParts) (bodies t : List (Option Body)) (m : Method) → body_step c bodies m ≡ Ok t → length t ≡ length bodies + 1
unfolding body_step
one_more c bodies t m e = more bodies t (body_in c (length bodies) m m.code) e

-- ---- a method that is looked up

pub record IsAt (c : ClassParts) (i : ℕ) (m : Method) : Type 0 where
  pub within : i < length c.methods
  pub is : m ≡ get_or c.methods i m

-- the slice in which it was looked up has the methods of the class
pub is_at : (c : ClassParts) (ms : List Method) (i j : ℕ) (m : Method) → ms ≡ c.methods → j ≡ i → j < length ms → m ≡ get_or ms j m → IsAt c i m
is_at c ms i j m same at lt is = record {
  within = subst (λ (k : ℕ). k < length c.methods) at (subst (λ (z : List Method). j < length z) same lt);
  is = is ∙ ap (λ (z : List Method). get_or z j m) same ∙ ap (λ k. get_or c.methods k m) at;
}

pub slice_at : (c : ClassParts) (i : ℕ) (m : Method) → IsAt c i m → slice_get c.methods i ≡ Some m
slice_at c i m a = slice_get-get_or c.methods i m a.within ∙ ap (λ z. Some z) (sym a.is)

pub same_method : (a b : Option Method) (m n : Method) → a ≡ Some m → a ≡ Some n → m ≡ n
same_method a b m n e f = let g : Some m ≡ Some n = sym e ∙ f in cc

pub same_code : (m n : Method) (k l : Code) → m ≡ n → m.code ≡ Some k → n.code ≡ Some l → k ≡ l
same_code m n k l e f g = let h : Some k ≡ Some l = sym f ∙ ap (λ (z : Method). z.code) e ∙ g in cc

pub sized_at : (c : ClassParts) (i : ℕ) (m : Method) (code : Code) → IsFormed c → IsWithinBounds c → HasShortMaps (code_at c i) → IsAt c i m → m.code ≡ Some code → IsSized code
sized_at c i m code formed bounds short a has =
    let at = get_or c.methods i m in
    let here : m.code ≡ at.code = ap (λ (z : Method). z.code) a.is in
    let maps : HasShortMaps m.code = subst (λ o. HasShortMaps (code_in o)) (slice_at c i m a) short in
    let all = is_short at.code (sized at (formed.methods i m a.within).plain) (bounds.handlers i m a.within) (subst HasShortMaps here maps) in
    subst IsShort (sym here ∙ has) all

-- what is told of this method and its code is told of those at the place
pub told : (P : Method → Code → Type 0) (c : ClassParts) (i : ℕ) (m : Method) (code : Code) → IsAt c i m → m.code ≡ Some code → P m code
    → (n : Method) (l : Code) → slice_get c.methods i ≡ Some n → n.code ≡ Some l → P n l
told P c i m code a has p n l e f =
    let same = same_method (slice_get c.methods i) (Some m) m n (slice_at c i m a) e in
    subst (λ z. P n z) (same_code m n code l same has f) (subst (λ z. P z code) same p)
