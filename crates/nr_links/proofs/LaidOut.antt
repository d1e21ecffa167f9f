-- The code of what classes link to is laid out as bytes of code spell it.
use Rattle.std.proofs.Common.{◌≡◌, ℕ, zero, suc, ◌+◌, ◌≤◌, inl, inr, List, [], ◌∷◌, ◌++◌, length, refl, sym, ap, subst, ◌∙◌, arith, not, ◌&&◌}
use Rattle.std.specs.Prelude.{Option, Some, None, All, IsTrue, nat_lt, nat_le}
use Rattle.std.specs.List.{AllZip}
use Rattle.std.specs.Option.{option_map_or}
use Rattle.std.proofs.lemmas.Bool.{and_parts, ltb-true}
use Rattle.std.proofs.lemmas.Option.{same_Some}
use Rattle.nr_base.specs.Grammar.{Times}
use Rattle.nr_prog.specs.declared.body.frame_map.FrameMap.{FrameMap}
use Rattle.nr_prog.specs.declared.body.instruction.Instr.{Instr}
use Rattle.nr_prog.specs.declared.body.loaded.Loaded.{Loaded}
use Rattle.nr_prog.specs.declared.body.whole.Body.{Body}
use Rattle.nr_prog.specs.declared.member.Code.{Code}
use Rattle.nr_prog.specs.declared.member.Method.{Method}
use Rattle.nr_prog.specs.declared.parts.ClassParts.{ClassParts}
use Rattle.nr_prog.specs.declared.pool.PoolEntry.{PoolEntry}
use Rattle.nr_prog.specs.BodyMaps.{Mapped, IsMapped, frame, with_map, at_entry}
use Rattle.nr_prog.specs.BodyStarts.{is_start}
use Rattle.nr_prog.specs.BodyText.{BodyFor, IsBody, instrs}
use Rattle.nr_prog.specs.Members.{is_plain, is_code_sized, is_native, is_synchronized, is_static, is_abstract}
use Rattle.nr_linked.specs.declared.program.tables.MethodInfo.{MethodInfo}
use Rattle.nr_linked.specs.declared.program.tables.ProgramTables.{ProgramTables}
use Rattle.nr_linked.specs.declared.program.types.VFrame.{VFrame}
use Rattle.nr_linked.specs.BuiltIns.{number}
use Rattle.nr_linked.specs.Linked.{first_built_in, frame_maps_of}
use Rattle.nr_linked.specs.Programs.{method_at}
use Rattle.nr_prog.proofs.Offsets.{spelled_stand}
use Rattle.nr_linked.proofs.BuiltInLaws.{no_code}
use Rattle.nr_links.specs.Entries.{IsFrameOf}
use Rattle.nr_links.specs.Links.{IsDecoded, Links}
use Rattle.nr_links.proofs.MethodEntries.{LoadedMethod, method_cases}
use Rattle.nr_linked.specs.Layout.{MapsStand, MethodLaidOut, IsLaidOut}

sized : (m : Method) → IsTrue (is_plain m) → IsTrue (is_code_sized m.code)
unfolding is_plain
sized m p = (and_parts (not (is_native m.flags) && not (is_synchronized m.flags) && not (is_static m.flags && is_abstract m.flags)) (is_code_sized m.code) p).1

-- ---- frame maps

-- they rise from one offset to below another, and stand where instructions start
abbrev Rises : List Instr → ℕ → List FrameMap → ℕ → Type 0
Rises is n [] k = n ≤ k
Rises is n (f ∷ fs) k = (n ≤ f.at) × IsTrue (is_start is f.at) × Rises is (f.at + 1) fs k

one_more : (is : List Instr) (n : ℕ) (fs : List FrameMap) (k : ℕ) (f : FrameMap) → Rises is n fs k → k ≤ f.at → IsTrue (is_start is f.at) → Rises is n (fs ++ f ∷ []) (f.at + 1)
one_more is n [] k f r l s = (omega (arith, r), s, omega arith)
one_more is n (g ∷ fs) k f r l s = (r.0, r.1, one_more is (g.at + 1) fs k f r.2 l s)

module _ (pool : List PoolEntry) (is : List Instr) where
  stepped : (s t : Mapped) (text : List ℕ) → Rises is 0 s.maps s.next → frame pool is s t text → Rises is 0 t.maps t.next
  stepped s t text r g =
      let d = g.second.1.value in
      let f = g.second.1.second.1.value in
      let e : t ≡ with_map s.maps (s.next + d) f = g.second.1.second.1.second.0 in
      subst (λ (t : Mapped). Rises is 0 t.maps t.next) (sym e)
      (one_more is 0 s.maps s.next (record { at = s.next + d; locals = f.0; stack = f.1 }) r (omega arith) g.second.1.second.0)

  all_stepped : (k : ℕ) (s t : Mapped) (text : List ℕ) → Rises is 0 s.maps s.next → Times (frame pool is) k s t text → Rises is 0 t.maps t.next
  all_stepped zero s t text r g = subst (λ (t : Mapped). Rises is 0 t.maps t.next) (sym g.0) r
  all_stepped (suc k) s t text r g = all_stepped k g.value t g.back (stepped s g.value g.front r g.first) g.second

  mapped : (c : ClassParts) (m : Method) → c.pool ≡ pool → (o : Option (List ℕ)) (maps : List FrameMap) → IsMapped c m is o maps → (k : ℕ) × Rises is 0 maps k
  mapped c m e None maps g = (0, subst (λ maps. Rises is 0 maps 0) (sym g) (omega arith))
  mapped c m e (Some text) maps g =
      let s = g.1 in
      let times = g.3 in
      (s.next, subst (λ maps. Rises is 0 maps s.next) g.4 (all_stepped times.value (at_entry g.0) s times.back (omega arith) (subst (λ pool. Times (frame pool is) times.value (at_entry g.0) s times.back) e times.second)))

-- the tables of maps, at the offsets of the maps
stand : (P : ProgramTables) (is : List Instr) (n k : ℕ) (fs : List FrameMap) (es : List (ℕ × VFrame)) → AllZip (IsFrameOf P) fs es → Rises is n fs k → MapsStand is n es
stand P is n k [] [] z r = tt
stand P is n k [] (e ∷ es) z r = absurd z
stand P is n k (f ∷ fs) [] z r = absurd z
stand P is n k (f ∷ fs) (e ∷ es) z r =
    let a : f.at ≡ e.0 = sym z.0.at in
    (subst (λ at. n ≤ at) a r.0, subst (λ at. IsTrue (is_start is at)) a r.1, stand P is (e.0 + 1) k fs es z.1 (subst (λ at. Rises is (at + 1) fs k) a r.2))

-- ---- methods

pub text_of_body : (c : ClassParts) (m : Method) (code : Option Code) (b : Option Body) (body : Body) → BodyFor c m code b → b ≡ Some body → (text : List ℕ) × instrs c.pool 0 body.instrs text
text_of_body c m None b body none is = let e = sym none ∙ is in absurd cc
text_of_body c m (Some code) b body some is =
    let same = same_Some some.0 body (sym some.1 ∙ is) in
    (code.bytes, subst (λ (b : Body). instrs c.pool 0 b.instrs code.bytes) same some.2.instrs)

pub of_code : (c : ClassParts) (m : Method) (code : Option Code) (b : Option Body) (body : Body) → BodyFor c m code b → b ≡ Some body → (some : Code) × (code ≡ Some some) × IsBody c m some body
of_code c m None b body none is = let e = sym none ∙ is in absurd cc
of_code c m (Some code) b body some is = (code, refl, subst (λ (b : Body). IsBody c m code b) (same_Some some.0 body (sym some.1 ∙ is)) some.2)

module _ (classes : List Loaded) (P : ProgramTables) (all : All IsDecoded classes) (links : Links classes P) where
  of_loaded : (n : ℕ) (i : MethodInfo) (body : Body) → method_at P n ≡ Some i → i.body ≡ Some body → LoadedMethod classes P n i → MethodLaidOut i body
  of_loaded n i body is has m =
      let c = m.l.«class» in
      let code = of_code c m.m m.m.code m.decoded body m.body_for (sym m.said.body ∙ has) in
      let size = subst (λ o. IsTrue (is_code_sized o)) code.1 (sized m.m m.formed.plain) in
      let long = ltb-true 0 (length code.0.bytes) (and_parts (nat_lt 0 (length code.0.bytes)) (nat_le (length code.0.bytes) 65535) size).0 in
      let r = mapped c.pool body.instrs c m.m refl code.0.maps body.maps code.2.maps in
      let same : frame_maps_of i ≡ body.maps = ap (λ o. option_map_or (λ (b : Body). b.maps) o []) has in
      record {
        order = spelled_stand c.pool body.instrs code.0.bytes long code.2.instrs;
        one_each = (links.linked.methods n i is).one_each ∙ ap (λ o. length (option_map_or (λ (b : Body). b.instrs) o [])) has;
        maps = stand P body.instrs 0 r.0 body.maps i.maps (subst (λ fs. AllZip (IsFrameOf P) fs i.maps) same m.said.maps) r.1;
      }

  pub laid_out : IsLaidOut P
  laid_out n i body is has = elim (method_cases classes P links all n i is) [
    | inl m ↦ of_loaded n i body is has m
    | inr m ↦ let none = sym (ap (λ (i : MethodInfo). i.body) m.is ∙ no_code (first_built_in P + number m.holder) m.method) ∙ has in absurd cc
  ]
