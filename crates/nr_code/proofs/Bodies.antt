-- What is decoded is the code of the method, and the code of a method is decoded.
use Rattle.std.proofs.Common.{◌≡◌, ℕ, ◌+◌, ◌<◌, ◌^◌, List, [], ◌∷◌, ◌++◌, length, get_or, take, Option, Some, None, Result, Ok, Err, refl, sym, ap, subst, ◌∙◌, append_assoc}
use Rattle.std.specs.Prelude.{IfOk, IfSome, slice_get}
use Rattle.std.specs.List.{All}
use Rattle.std.proofs.lemmas.List.{append-nil, take_more}
use Rattle.std.proofs.lemmas.List.Elements.{All-head, All-tail}
use Rattle.nr_base.specs.Reader.{map_fault}
use Rattle.nr_base.specs.Grammar.{IsBytes}
use Rattle.nr_base.specs.Clauses.{GivesWhole, Fails}
use Rattle.nr_base.proofs.Exits.{fails_on}
use Rattle.nr_base.proofs.Laws.{ok_is, whole_found, whole_only}
use Rattle.nr_prog.specs.declared.member.Method.{Method}
use Rattle.nr_prog.specs.declared.member.Code.{Code}
use Rattle.nr_prog.specs.declared.parts.ClassParts.{ClassParts}
use Rattle.nr_prog.specs.declared.body.instruction.Instr.{Instr}
use Rattle.nr_prog.specs.declared.body.frame_map.FrameMap.{FrameMap}
use Rattle.nr_prog.specs.declared.body.whole.Body.{Body}
use Rattle.nr_prog.specs.declared.body.loaded.Loaded.{Loaded}
use Rattle.nr_prog.specs.Pool.{IsText}
use Rattle.nr_prog.specs.Form.{IsFormed, IsMethodFormed}
use Rattle.nr_prog.specs.BodyMaps.{Mapped, frames, IsMapped}
use Rattle.nr_prog.specs.BodyText.{IsBody, CodeAs, BodyFor, EachBody, HasBodies}
use Rattle.nr_instrs.specs.declared.fault.CodeFault.{CodeFault}
use Rattle.nr_code.specs.declared.fault.LoadFault.{LoadFault}
use Rattle.nr_instrs.specs.declared.fault.CodeFault.TheVariants as faults
use Rattle.nr_instrs.specs.Faults.{is_free}
use Rattle.nr_code.specs.LoadFaults.{is_load_free, of_code}
use Rattle.nr_instrs.specs.Checks.{walk}
use Rattle.nr_code.specs.HandlerChecks.{handlers_checked}
use Rattle.nr_code.specs.MapReading.{entry_of, frames_of, maps_in}
use Rattle.nr_instrs.specs.Decoding.{instrs_of}
use Rattle.nr_code.specs.Decoding.{maps_of, body_of, body_in, body_step, bodies_of}
use Rattle.nr_code.proofs.Sizes.{IsAt, slice_at, same_method, same_code, code_len}
use Rattle.nr_instrs.proofs.Settling.{then_ok, then_gives}
use Rattle.nr_instrs.proofs.Codes.{starts_below, instrs_are, instrs_give}
use Rattle.nr_code.proofs.Handlers.{ranges_are, ranges_pass}
use Rattle.nr_code.proofs.Classes.{entry_is, entry_of_is}
use Rattle.nr_code.proofs.MapLaws.{StartBelow, frames_law}

-- ---- frame maps

maps_ok : (r : Result Mapped CodeFault) (maps : List FrameMap) → maps_in r ≡ Ok maps → (s : Mapped) × (r ≡ Ok s) × (s.maps ≡ maps)
maps_ok (Ok s) maps e = (s, refl, cc)
maps_ok (Err d) maps e = absurd cc

abbrev pub AreBytes : Option (List ℕ) → Type 0
AreBytes o = IfSome o IsBytes

maps_are : (c : ClassParts) (m : Method) (is : List Instr) (o : Option (List ℕ)) (maps : List FrameMap) → IsFormed c → All IsText c.pool → IsMethodFormed c.pool m → StartBelow is → AreBytes o → maps_of c m is o ≡ Ok maps → IsMapped c m is o maps
unfolding maps_of
maps_are c m is None maps formed all method below fits e = sym (ok_is [] maps e)
maps_are c m is (Some text) maps formed all method below fits e =
    let s = maps_ok (frames_of c.pool is (entry_of c m) text) maps e in
    (entry_of c m, s.0, entry_is c m formed all method, whole_found faults.MapTag (frames_law c.pool is (entry_of c m) all below) text s.0 fits s.1, s.2)

maps_give : (c : ClassParts) (m : Method) (is : List Instr) (o : Option (List ℕ)) (maps : List FrameMap) → All IsText c.pool → StartBelow is → IsMapped c m is o maps → maps_of c m is o ≡ Ok maps
unfolding maps_of
maps_give c m is None maps all below e = ap (λ z. Ok z) (sym e)
maps_give c m is (Some text) maps all below g =
    let here : frames c.pool is (entry_of c m) g.1 text = subst (λ ls. frames c.pool is ls g.1 text) (entry_of_is c m g.0 all g.2) g.3 in
    ap maps_in (whole_only faults.MapTag (frames_law c.pool is (entry_of c m) all below) text g.1 here) ∙ ap (λ z. Ok z) g.4

-- ---- the code of a method

pub record IsGiven (c : ClassParts) (m : Method) (code : Code) : Type 0 where
  pub formed : IsFormed c
  pub texts : All IsText c.pool
  pub method : IsMethodFormed c.pool m
  pub len : length code.bytes < 2 ^ 16

pub record HasBytes (code : Code) : Type 0 where
  pub bytes : IsBytes code.bytes
  pub maps : AreBytes code.maps

body_is : (c : ClassParts) (m : Method) (code : Code) (b : Body) → IsGiven c m code → HasBytes code → body_of c m code ≡ Ok b → IsBody c m code b
unfolding body_of
body_is c m code b g fits e =
    let i = then_ok (instrs_of c.pool code.bytes) _ b e in
    let h = then_ok (handlers_checked c.pool (length code.bytes) i.value code.handlers) _ b i.gave in
    let s = then_ok (maps_of c m i.value code.maps) _ b h.gave in
    let is = instrs_are c.pool code.bytes i.value g.texts fits.bytes i.was in
    let below = starts_below c.pool i.value code.bytes g.len is.0 in
    subst (IsBody c m code) (ok_is _ b s.gave) (record {
      instrs = is.0;
      targets = is.1;
      handlers = refl;
      ranges = ranges_are c.pool (length code.bytes) i.value code.handlers h.value g.texts h.was;
      maps = maps_are c m i.value code.maps s.value g.formed g.texts g.method below fits.maps s.was;
    })

pub body_gives : (c : ClassParts) (m : Method) (code : Code) (b : Body) → IsGiven c m code → IsBody c m code b → body_of c m code ≡ Ok b
unfolding body_of
body_gives c m code b g is =
    let ranges = ranges_pass c.pool (length code.bytes) b.instrs code.handlers g.texts is.ranges in
    let below = starts_below c.pool b.instrs code.bytes g.len is.instrs in
    then_gives (instrs_of c.pool code.bytes) _ b.instrs b (instrs_give c.pool code.bytes b.instrs g.texts g.len is.instrs is.targets)
    (then_gives (handlers_checked c.pool (length code.bytes) b.instrs code.handlers) _ ranges.0 b ranges.1
    (then_gives (maps_of c m b.instrs code.maps) _ b.maps b (maps_give c m b.instrs code.maps b.maps g.texts below is.maps)
    (ap (λ hs. Ok (record { instrs = b.instrs; handlers = hs; maps = b.maps })) (sym is.handlers))))

pub decoded_is : (c : ClassParts) (m : Method) (code : Code) (r : Result Body CodeFault) → IsGiven c m code → HasBytes code → GivesWhole is_free r (body_of c m code) → IfOk r (λ b. IsBody c m code b)
decoded_is c m code (Ok b) g fits e = body_is c m code b g fits e
decoded_is c m code (Err d) g fits e = tt

pub decoded_gives : (c : ClassParts) (m : Method) (code : Code) (r : Result Body CodeFault) (b : Body) → IsGiven c m code → GivesWhole is_free r (body_of c m code) → IsBody c m code b → GivesWhole is_free r (Ok b)
decoded_gives c m code r b g e is = subst (λ read. GivesWhole is_free r read) (body_gives c m code b g is) e

-- the method and the code at the place have this body
pub code_as : (c : ClassParts) (i : ℕ) (m : Method) (code : Code) (r : Result Body CodeFault) → IsAt c i m → m.code ≡ Some code → IfOk r (λ b. IsBody c m code b) → IfOk r (λ b. CodeAs c i b)
code_as c i m code (Ok b) at has is = record { found = m; code = code; placed = slice_at c i m at; has = has; body = is }
code_as c i m code (Err d) at has is = tt

pub body_at : (c : ClassParts) (i : ℕ) (m : Method) (code : Code) (b : Body) → IsAt c i m → m.code ≡ Some code → CodeAs c i b → IsBody c m code b
body_at c i m code b at has is =
    let same : m ≡ is.found = same_method (slice_get c.methods i) (Some m) m is.found (slice_at c i m at) is.placed in
    let codes : code ≡ is.code = same_code m is.found code is.code same has is.has in
    subst (λ z. IsBody c z code b) (sym same) (subst (λ k. IsBody c is.found k b) (sym codes) is.body)

-- ---- the code of all methods

pub one_more : (c : ClassParts) (ms : List Method) (bs : List (Option Body)) (m : Method) (b : Option Body) → EachBody c ms bs → BodyFor c m m.code b → EachBody c (ms ++ m ∷ []) (bs ++ b ∷ [])
one_more c [] [] m b each here = (here, tt)
one_more c [] (y ∷ bs) m b each here = absurd each
one_more c (n ∷ ms) [] m b each here = absurd each
one_more c (n ∷ ms) (y ∷ bs) m b each here = (each.0, one_more c ms bs m b each.1 here)

abbrev pub IsGivenAll : ClassParts → Method → Type 0
IsGivenAll c m = (code : Code) → m.code ≡ Some code → IsGiven c m code

abbrev pub AllGiven : ClassParts → List Method → Type 0
AllGiven c ms = All (IsGivenAll c) ms

body_for : (c : ClassParts) (n : ℕ) (m : Method) (o : Option Code) (b : Option Body) → ((code : Code) → o ≡ Some code → IsGiven c m code) → BodyFor c m o b → body_in c n m o ≡ Ok b
unfolding body_in
body_for c n m None b given e = ap (λ z. Ok z) (sym e)
body_for c n m (Some code) b given e =
    then_gives (map_fault (of_code n) (body_of c m code)) _ e.0 b (ap (map_fault (of_code n)) (body_gives c m code e.0 (given code refl) e.2)) (ap (λ z. Ok z) (sym e.1))

all_give : (c : ClassParts) (ms : List Method) (bs before : List (Option Body)) → AllGiven c ms → EachBody c ms bs → walk (body_step c) before ms ≡ Ok (before ++ bs)
unfolding walk body_step
all_give c [] [] before given each = ap (λ z. Ok z) (sym (append-nil before))
all_give c [] (b ∷ bs) before given each = absurd each
all_give c (m ∷ ms) [] before given each = absurd each
all_give c (m ∷ ms) (b ∷ bs) before given each =
    let one : body_step c before m ≡ Ok (before ++ b ∷ []) = then_gives (body_in c (length before) m m.code) _ b (before ++ b ∷ []) (body_for c (length before) m m.code b (All-head (IsGivenAll c) m ms given) each.0) refl in
    then_gives (body_step c before m) (λ t. walk (body_step c) t ms) (before ++ b ∷ []) (before ++ (b ∷ bs)) one
    (all_give c ms bs (before ++ b ∷ []) (All-tail (IsGivenAll c) m ms given) each.1 ∙ ap (λ z. Ok z) (append_assoc before (b ∷ []) bs))

pub bodies_give : (c : ClassParts) (bs : List (Option Body)) → AllGiven c c.methods → HasBodies c bs → bodies_of c ≡ Ok bs
unfolding bodies_of
bodies_give c bs given each = all_give c c.methods bs [] given each

all_given : (c : ClassParts) → All IsText c.pool → IsFormed c → AllGiven c c.methods
all_given c all formed = λ k d lt code has.
    let m = get_or c.methods k d in
    let method = formed.methods k d lt in
    record { formed = formed; texts = all; method = method; len = code_len m code method.plain has }

pub bodies_only : (c : ClassParts) (bs : List (Option Body)) (r : Result (List (Option Body)) LoadFault) → All IsText c.pool → IsFormed c → GivesWhole is_load_free r (bodies_of c) → HasBodies c bs → GivesWhole is_load_free r (Ok bs)
bodies_only c bs r all formed e has = subst (λ read. GivesWhole is_load_free r read) (bodies_give c bs (all_given c all formed) has) e

-- one more method, at the next place
pub next_body : (c : ClassParts) (i : ℕ) (m : Method) (old new : List (Option Body)) → i < length c.methods → m ≡ get_or c.methods i m → EachBody c (take i c.methods) old
    → ((ms : List Method) → EachBody c ms old → EachBody c (ms ++ m ∷ []) new) → EachBody c (take (i + 1) c.methods) new
next_body c i m old new lt is each more =
    subst (λ ms. EachBody c ms new) (ap (λ z. take i c.methods ++ z ∷ []) is ∙ sym (take_more c.methods i m lt)) (more (take i c.methods) each)

-- ---- a class with its code

abbrev pub good : {A : Type 0} → A → Result A LoadFault
good x = Ok x

pub fails_any : {A B : Type 0} (e : LoadFault) (x : A) (y : B) → Fails is_load_free e (good {A = A} x) → Fails is_load_free e (good {A = B} y)
fails_any e x y f = fails_on is_load_free e (good x) (good y) (λ h. absurd cc) f

pub same_loaded : (c : ClassParts) (bodies : List (Option Body)) (l : Loaded) → l.class ≡ c → l.bodies ≡ bodies → l ≡ record { class = c; bodies = bodies }
same_loaded c bodies l e f = ap (λ z. record { class = z; bodies = l.bodies }) e ∙ ap (λ z. record { class = c; bodies = z }) f
