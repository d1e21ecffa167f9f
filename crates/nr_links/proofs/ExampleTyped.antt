-- The example's program is well typed.
use Rattle.std.proofs.Common.{◌≡◌, ℕ, zero, suc, List, [], ◌∷◌, length, refl, sym, ap, subst, ◌∙◌, Bool, true, false, arith, T}
use Rattle.std.specs.Prelude.{Option, Some, None, IsTrue, Contains, slice_get, find, if◌then◌else◌, ◌==◌}
use Rattle.std.specs.Option.{option_map, option_map_or}
use Rattle.std.proofs.Math.Facts.{eqb_yes}
use Rattle.std.proofs.lemmas.Option.{same_Some}
use Rattle.nr_prog.specs.declared.body.instruction.Instr.{Instr}
use Rattle.nr_prog.specs.declared.body.whole.Body.{Body}
use Rattle.nr_prog.specs.declared.member.Handler.{Handler}
use Rattle.nr_linked.specs.declared.program.kind.Kind.{Kind}
use Rattle.nr_linked.specs.declared.program.tables.MethodInfo.{MethodInfo}
use Rattle.nr_linked.specs.declared.program.tables.Resolved.{Resolved}
use Rattle.nr_linked.specs.declared.program.types.VFrame.{VFrame}
use Rattle.nr_linked.specs.declared.program.types.VType.{VType}
use Rattle.nr_linked.specs.declared.program.types.VType.TheVariants.{Int, UninitThis, Uninit, Class}
use Rattle.nr_linked.specs.BuiltIns.{built_in_class}
use Rattle.nr_linked.specs.BuiltInTables.{built_in_infos, built_in_methods, built_in_info, built_in_method}
use Rattle.nr_linked.specs.Kinds.{class_kind}
use Rattle.nr_linked.specs.Linked.{instrs_of}
use Rattle.nr_linked.specs.Sites.{Site, first_offset, site_among}
use Rattle.nr_linked.specs.TypingChecks.{Leaves}
use Rattle.nr_linked.specs.TypingFrames.{TypeFrame, frame_fits}
use Rattle.nr_linked.specs.TypingRules.{type_op}
use Rattle.nr_linked.specs.WellTyped.{targets_of, falls_through, map_at, mapped_frame, frame_among, frame_at, Onward, catchers, HandlerFits, SiteTyped, MethodTyped, WellTyped}
use Rattle.nr_links.specs.Example.{a_init, a_m, a_main, handler, tables}
use Rattle.nr_linked.proofs.Listed.{AtEach, at_place}

-- ---- the frames

abbrev types : List VType → List VType → Bool → TypeFrame
types locals operands uninit = record { locals = locals; operands = operands; this_uninit = uninit }

abbrev this_of : ℕ → VType
this_of c = Class (class_kind c)

abbrev frames : ℕ → List TypeFrame
frames n = option_map_or (λ (fs : List TypeFrame). fs) (slice_get (
    (types (UninitThis ∷ []) [] true ∷ types (UninitThis ∷ []) (UninitThis ∷ []) true ∷ types (this_of 0 ∷ []) [] false ∷ [])
    ∷ (types (this_of 0 ∷ []) [] false ∷ types (this_of 0 ∷ []) (this_of 0 ∷ []) false ∷ types (this_of 0 ∷ []) (Int ∷ []) false ∷ [])
    ∷ (types [] [] false ∷ types [] (Uninit 0 ∷ []) false ∷ types [] (Uninit 0 ∷ Uninit 0 ∷ []) false ∷ types [] (this_of 0 ∷ []) false ∷ types [] (Int ∷ []) false
    ∷ types [] (this_of 4 ∷ []) false ∷ types [] [] false ∷ types [] (Int ∷ []) false ∷ [])
    ∷ []) n) []

-- ---- sites

-- what holds of each instruction with its frame
AllSites : (Site → TypeFrame → Type 0) → List Instr → List Resolved → List TypeFrame → Type 0
AllSites C (i ∷ is) (r ∷ rs) (f ∷ fs) = C (record { instr = i; resolved = r; next = first_offset is }) f × AllSites C is rs fs
AllSites C is rs fs = Unit {0}

by_sites : (C : Site → TypeFrame → Type 0) (is : List Instr) (rs : List Resolved) (fs : List TypeFrame) → AllSites C is rs fs → (at : ℕ) (s : Site) (f : TypeFrame)
    → site_among is rs at ≡ Some s → frame_among is fs at ≡ Some f → C s f
unfolding AllSites
by_sites C [] rs fs all at s f p q = absurd cc
by_sites C (i ∷ is) [] fs all at s f p q = absurd cc
by_sites C (i ∷ is) (r ∷ rs) [] all at s f p q = absurd cc
by_sites C (i ∷ is) (r ∷ rs) (g ∷ fs) all at s f p q = cases (i.at == at) all.0 (λ p q. by_sites C is rs fs all.1 at s f p q) p q
  where
    cases : (c : Bool) → C (record { instr = i; resolved = r; next = first_offset is }) g → (site_among is rs at ≡ Some s → frame_among is fs at ≡ Some f → C s f)
        → (if c then Some (record { instr = i; resolved = r; next = first_offset is }) else site_among is rs at) ≡ Some s → (if c then Some g else frame_among is fs at) ≡ Some f → C s f
    cases true x go p q = subst (λ f. C s f) (same_Some g f q) (subst (λ s. C s g) (same_Some (record { instr = i; resolved = r; next = first_offset is }) s p) x)
    cases false x go p q = go p q

in_none : {X : Type 0} {x : X} → Contains [] x → ⊥
in_none c = let l = c.1 in absurd (omega arith)

-- an instruction of a method without handlers, which doesn't branch
plain : (m : MethodInfo) (fs : List TypeFrame) (s : Site) (f g : TypeFrame) → catchers m ≡ [] → targets_of s.instr.args ≡ [] → type_op tables m s f ≡ Leaves g → Onward tables m fs (falls_through s.instr.row.family) s.next g → SiteTyped tables m fs s f
plain m fs s f g no_handler no_branch e on = record {
  handlers = λ h k c. absurd (in_none (subst (λ hs. Contains hs (h, k)) no_handler c));
  leaves = g;
  rule = e;
  branches = λ t c. absurd (in_none (subst (λ ts. Contains ts t) no_branch c));
  onward = on;
}

-- a method without frame maps
no_maps : (m : MethodInfo) (fs : List TypeFrame) → m.maps ≡ [] → (at : ℕ) (g : TypeFrame) → map_at m at ≡ Some g → frame_at m fs at ≡ Some g
no_maps m fs e at g p = let none = subst (λ maps. option_map (λ e. mapped_frame m e.1) (find (λ e. e.0 == at) maps) ≡ Some g) e p in absurd cc

-- ---- the three methods

abbrev resolved_of : MethodInfo → List Resolved
resolved_of m = m.resolved

abbrev Typed : ℕ → MethodInfo → Type 0
Typed n m = (body : Body) → m.body ≡ Some body → MethodTyped tables m body (frames n)

init_typed : Typed 0 a_init
unfolding tables built_in_infos built_in_methods built_in_info built_in_method built_in_class AllSites
init_typed body e = record {
  places = omega arith;
  one_each = ap (λ (b : Body). length b.instrs) (same_Some _ body e);
  entry = refl;
  maps = no_maps a_init (frames 0) refl;
  sites = λ at s f p q. by_sites (SiteTyped tables a_init (frames 0)) (instrs_of a_init) (resolved_of a_init) (frames 0) (plain a_init (frames 0) _ _ (types (UninitThis ∷ []) (UninitThis ∷ []) true) refl refl refl refl, (plain a_init (frames 0) _ _ (types (this_of 0 ∷ []) [] false) refl refl refl refl, (plain a_init (frames 0) _ _ (types (this_of 0 ∷ []) [] false) refl refl refl tt, tt))) at s f p q;
}

m_typed : Typed 1 a_m
unfolding tables built_in_infos built_in_methods built_in_info built_in_method built_in_class AllSites
m_typed body e = record {
  places = omega arith;
  one_each = ap (λ (b : Body). length b.instrs) (same_Some _ body e);
  entry = refl;
  maps = no_maps a_m (frames 1) refl;
  sites = λ at s f p q. by_sites (SiteTyped tables a_m (frames 1)) (instrs_of a_m) (resolved_of a_m) (frames 1) (plain a_m (frames 1) _ _ (types (this_of 0 ∷ []) (this_of 0 ∷ []) false) refl refl refl refl, (plain a_m (frames 1) _ _ (types (this_of 0 ∷ []) (Int ∷ []) false) refl refl refl refl, (plain a_m (frames 1) _ _ (types (this_of 0 ∷ []) [] false) refl refl refl tt, tt))) at s f p q;
}

-- an instruction of main, which a handler covers
main_site : (s : Site) (f g : TypeFrame) → HandlerFits tables a_main f handler (Some (class_kind 4)) → targets_of s.instr.args ≡ [] → type_op tables a_main s f ≡ Leaves g → Onward tables a_main (frames 2) (falls_through s.instr.row.family) s.next g
    → SiteTyped tables a_main (frames 2) s f
main_site s f g h no_branch e on = record {
  handlers = λ c k p q. one c k p;
  leaves = g;
  rule = e;
  branches = λ t c. absurd (in_none (subst (λ ts. Contains ts t) no_branch c));
  onward = on;
}
  where
    one : (c : Handler) (k : Option Kind) → Contains (catchers a_main) (c, k) → HandlerFits tables a_main f c k
    one c k (zero, l, x) = subst (λ (p : Handler × Option Kind). HandlerFits tables a_main f p.0 p.1) x h
    one c k (suc i, l, x) = absurd (omega arith)

caught : (f : TypeFrame) → IsTrue (frame_fits tables (record f { operands = this_of 4 ∷ [] }) (types [] (this_of 4 ∷ []) false)) → HandlerFits tables a_main f handler (Some (class_kind 4))
unfolding tables built_in_infos built_in_methods built_in_info built_in_method built_in_class
caught f p = record { catchable = refl; room = omega arith; fits = p }

main_map : (at : ℕ) (g : TypeFrame) → map_at a_main at ≡ Some g → frame_at a_main (frames 2) at ≡ Some g
main_map at g e = cases (13 == at) (λ p. eqb_yes p) e
  where
    cases : (c : Bool) → (T c → 13 ≡ at) → option_map (λ (e : ℕ × VFrame). mapped_frame a_main e.1) (if c then Some (13, record { locals = []; stack = Class (class_kind 4) ∷ []; this_uninit = false }) else None) ≡ Some g
        → frame_at a_main (frames 2) at ≡ Some g
    cases true f e = subst (λ at. frame_at a_main (frames 2) at ≡ Some g) (f tt) e
    cases false f e = absurd cc

main_typed : Typed 2 a_main
unfolding tables built_in_infos built_in_methods built_in_info built_in_method built_in_class AllSites
main_typed body e = record {
  places = omega arith;
  one_each = ap (λ (b : Body). length b.instrs) (same_Some _ body e);
  entry = refl;
  maps = main_map;
  sites = λ at s f p q. by_sites (SiteTyped tables a_main (frames 2)) (instrs_of a_main) (resolved_of a_main) (frames 2) (main_site _ _ (types [] (Uninit 0 ∷ []) false) (caught _ refl) refl refl refl, (main_site _ _ (types [] (Uninit 0 ∷ Uninit 0 ∷ []) false) (caught _ refl) refl refl refl, (main_site _ _ (types [] (this_of 0 ∷ []) false) (caught _ refl) refl refl refl, (main_site _ _ (types [] (Int ∷ []) false) (caught _ refl) refl refl refl, (main_site _ _ (types [] [] false) (caught _ refl) refl refl refl, (main_site _ _ (types [] [] false) (caught _ refl) refl refl refl, (main_site _ _ (types [] (Int ∷ []) false) (caught _ refl) refl refl refl, (main_site _ _ (types [] [] false) (caught _ refl) refl refl tt, tt)))))))) at s f p q;
}

-- ---- the program

no_code : (n : ℕ) (m : MethodInfo) → m.body ≡ None → Typed n m
no_code n m none body e = let clash = sym none ∙ e in absurd cc

each_typed : AtEach Typed tables.methods
unfolding tables built_in_methods built_in_method built_in_class
each_typed = (init_typed, (m_typed, (main_typed, (no_code 3 _ refl, (no_code 4 _ refl, (no_code 5 _ refl, (no_code 6 _ refl, (no_code 7 _ refl, (no_code 8 _ refl, (no_code 9 _ refl, (no_code 10 _ refl, (no_code 11 _ refl, (no_code 12 _ refl, (no_code 13 _ refl, (no_code 14 _ refl, (no_code 15 _ refl, (no_code 16 _ refl, (no_code 17 _ refl, (no_code 18 _ refl, (no_code 19 _ refl, (no_code 20 _ refl, (no_code 21 _ refl, (no_code 22 _ refl, (no_code 23 _ refl, (no_code 24 _ refl, (no_code 25 _ refl, (no_code 26 _ refl, tt)))))))))))))))))))))))))))

pub typed : WellTyped tables
typed = record { frames = frames; methods = λ n m body e b. at_place Typed tables.methods n m each_typed e body b }
