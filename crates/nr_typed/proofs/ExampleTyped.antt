-- The example is well typed.
use Rattle.std.proofs.Common.{◌≡◌, ℕ, zero, suc, List, [], ◌∷◌, length, refl, sym, ap, subst, ◌∙◌, Bool, true, false, arith, T}
use Rattle.std.specs.Prelude.{Option, Some, None, IsTrue, Contains, slice_get, find, if◌then◌else◌, ◌==◌}
use Rattle.std.specs.Option.{option_map}
use Rattle.nr_prog.specs.declared.body.instruction.Instr.{Instr}
use Rattle.nr_prog.specs.declared.body.whole.Body.{Body}
use Rattle.nr_prog.specs.declared.member.Handler.{Handler}
use Rattle.nr_linked.specs.declared.program.kind.Kind.{Kind}
use Rattle.nr_linked.specs.declared.program.tables.MethodInfo.{MethodInfo}
use Rattle.nr_linked.specs.declared.program.tables.Resolved.{Resolved}
use Rattle.std.proofs.Math.Facts.{eqb_yes}
use Rattle.nr_linked.specs.Kinds.{class_kind}
use Rattle.nr_linked.specs.declared.program.types.VFrame.{VFrame}
use Rattle.nr_linked.specs.declared.program.types.VType.TheVariants.{Int, UninitThis, Uninit, Class}
use Rattle.nr_linked.specs.BuiltIns.{built_in_class}
use Rattle.nr_linked.specs.BuiltInTables.{built_in_infos, built_in_methods, built_in_info, built_in_method}
use Rattle.nr_linked.specs.Linked.{instrs_of}
use Rattle.nr_linked.specs.Sites.{Site, first_offset, site_among}
use Rattle.nr_linked.specs.TypingFrames.{TypeFrame, frame_fits}
use Rattle.nr_linked.specs.TypingChecks.{Leaves}
use Rattle.nr_linked.specs.TypingRules.{type_op}
use Rattle.nr_linked.specs.WellTyped.{targets_of, falls_through, map_at, mapped_frame, frame_among, frame_at, Onward, catchers, HandlerFits, SiteTyped, MethodTyped, WellTyped}
use Rattle.nr_typed.specs.Example.{example, base_m, main, sub_m, initialiser, frames, types, this_of, throwable}

pub none_some : {X : Type 0} {x : X} → ◌≡◌ {A = Option X} None (Some x) → ⊥
none_some e = cc

pub some_same : {X : Type 0} {x y : X} → Some x ≡ Some y → x ≡ y
some_same e = cc

-- what holds of each instruction with its frame
AllSites : (Site → TypeFrame → Type 0) → List Instr → List Resolved → List TypeFrame → Type 0
AllSites C (i ∷ is) (r ∷ rs) (f ∷ fs) = C (record { instr = i; resolved = r; next = first_offset is }) f × AllSites C is rs fs
AllSites C is rs fs = Unit {0}

by_sites : (C : Site → TypeFrame → Type 0) (is : List Instr) (rs : List Resolved) (fs : List TypeFrame) → AllSites C is rs fs → (at : ℕ) (s : Site) (f : TypeFrame)
    → site_among is rs at ≡ Some s → frame_among is fs at ≡ Some f → C s f
unfolding AllSites
by_sites C [] rs fs all at s f p q = absurd (none_some p)
by_sites C (i ∷ is) [] fs all at s f p q = absurd (none_some p)
by_sites C (i ∷ is) (r ∷ rs) [] all at s f p q = absurd (none_some q)
by_sites C (i ∷ is) (r ∷ rs) (g ∷ fs) all at s f p q = cases (i.at == at) all.0 (λ p q. by_sites C is rs fs all.1 at s f p q) p q
  where
    cases : (c : Bool) → C (record { instr = i; resolved = r; next = first_offset is }) g → (site_among is rs at ≡ Some s → frame_among is fs at ≡ Some f → C s f)
        → (if c then Some (record { instr = i; resolved = r; next = first_offset is }) else site_among is rs at) ≡ Some s → (if c then Some g else frame_among is fs at) ≡ Some f → C s f
    cases true x go p q = subst (λ f. C s f) (some_same q) (subst (λ s. C s g) (some_same p) x)
    cases false x go p q = go p q

in_none : {X : Type 0} {x : X} → Contains [] x → ⊥
in_none c = let l = c.1 in absurd (omega arith)

-- an instruction of a method without handlers, which doesn't branch
plain : (m : MethodInfo) (fs : List TypeFrame) (s : Site) (f g : TypeFrame) → catchers m ≡ [] → targets_of s.instr.args ≡ [] → type_op example m s f ≡ Leaves g → Onward example m fs (falls_through s.instr.row.family) s.next g → SiteTyped example m fs s f
plain m fs s f g no_handler no_branch e on = record {
  handlers = λ h k c. absurd (in_none (subst (λ hs. Contains hs (h, k)) no_handler c));
  leaves = g;
  rule = e;
  branches = λ t c. absurd (in_none (subst (λ ts. Contains ts t) no_branch c));
  onward = on;
}

-- a method without frame maps
no_maps : (m : MethodInfo) (fs : List TypeFrame) → m.maps ≡ [] → (at : ℕ) (g : TypeFrame) → map_at m at ≡ Some g → frame_at m fs at ≡ Some g
no_maps m fs e at g p = absurd (none_some (subst (λ maps. option_map (λ e. mapped_frame m e.1) (find (λ e. e.0 == at) maps) ≡ Some g) e p))

-- ---- the five methods

abbrev pub resolved_of : MethodInfo → List Resolved
resolved_of m = m.resolved

abbrev Typed : ℕ → MethodInfo → Type 0
Typed n m = (body : Body) → m.body ≡ Some body → MethodTyped example m body (frames n)

base_init_typed : Typed 0 (initialiser 0 6 3)
unfolding example built_in_infos built_in_methods built_in_info built_in_method built_in_class AllSites
base_init_typed body e = record {
  places = omega arith;
  one_each = ap (λ (b : Body). length b.instrs) (some_same e);
  entry = refl;
  maps = no_maps (initialiser 0 6 3) (frames 0) refl;
  sites = λ at s f p q. by_sites (SiteTyped example (initialiser 0 6 3) (frames 0)) (instrs_of (initialiser 0 6 3)) (resolved_of (initialiser 0 6 3)) (frames 0) (
    plain _ _ _ _ (types (UninitThis ∷ []) (UninitThis ∷ []) true) refl refl refl refl,
    (
      plain _ _ _ _ (types (this_of 0 ∷ []) [] false) refl refl refl refl,
      (plain _ _ _ _ (types (this_of 0 ∷ []) [] false) refl refl refl tt, tt),
    ),
  ) at s f p q;
}

sub_init_typed : Typed 3 (initialiser 1 0 0)
unfolding example built_in_infos built_in_methods built_in_info built_in_method built_in_class AllSites
sub_init_typed body e = record {
  places = omega arith;
  one_each = ap (λ (b : Body). length b.instrs) (some_same e);
  entry = refl;
  maps = no_maps (initialiser 1 0 0) (frames 3) refl;
  sites = λ at s f p q. by_sites (SiteTyped example (initialiser 1 0 0) (frames 3)) (instrs_of (initialiser 1 0 0)) (resolved_of (initialiser 1 0 0)) (frames 3) (
    plain _ _ _ _ (types (UninitThis ∷ []) (UninitThis ∷ []) true) refl refl refl refl,
    (
      plain _ _ _ _ (types (this_of 1 ∷ []) [] false) refl refl refl refl,
      (plain _ _ _ _ (types (this_of 1 ∷ []) [] false) refl refl refl tt, tt),
    ),
  ) at s f p q;
}

base_m_typed : Typed 1 base_m
unfolding example built_in_infos built_in_methods built_in_info built_in_method built_in_class AllSites
base_m_typed body e = record {
  places = omega arith;
  one_each = ap (λ (b : Body). length b.instrs) (some_same e);
  entry = refl;
  maps = no_maps base_m (frames 1) refl;
  sites = λ at s f p q. by_sites (SiteTyped example base_m (frames 1)) (instrs_of base_m) (resolved_of base_m) (frames 1) (
    plain _ _ _ _ (types (this_of 0 ∷ []) (this_of 0 ∷ []) false) refl refl refl refl,
    (
      plain _ _ _ _ (types (this_of 0 ∷ []) (Int ∷ []) false) refl refl refl refl,
      (plain _ _ _ _ (types (this_of 0 ∷ []) [] false) refl refl refl tt, tt),
    ),
  ) at s f p q;
}

sub_m_typed : Typed 4 sub_m
unfolding example built_in_infos built_in_methods built_in_info built_in_method built_in_class AllSites
sub_m_typed body e = record {
  places = omega arith;
  one_each = ap (λ (b : Body). length b.instrs) (some_same e);
  entry = refl;
  maps = no_maps sub_m (frames 4) refl;
  sites = λ at s f p q. by_sites (SiteTyped example sub_m (frames 4)) (instrs_of sub_m) (resolved_of sub_m) (frames 4) (
    plain _ _ _ _ (types (this_of 1 ∷ []) (this_of 1 ∷ []) false) refl refl refl refl,
    (
      plain _ _ _ _ (types (this_of 1 ∷ []) (Int ∷ []) false) refl refl refl refl,
      (plain _ _ _ _ (types (this_of 1 ∷ []) [] false) refl refl refl tt, tt),
    ),
  ) at s f p q;
}

-- ---- main, with its handler

abbrev catch_all : Handler
catch_all = record { start = 0; end = 12; handler = 13; catch_type = 0 }

-- an instruction of main
main_site : (s : Site) (f g : TypeFrame) → HandlerFits example main f catch_all None → targets_of s.instr.args ≡ [] → type_op example main s f ≡ Leaves g → Onward example main (frames 2) (falls_through s.instr.row.family) s.next g → SiteTyped example main (frames 2) s f
main_site s f g h no_branch e on = record {
  handlers = λ c k p q. one c k p;
  leaves = g;
  rule = e;
  branches = λ t c. absurd (in_none (subst (λ ts. Contains ts t) no_branch c));
  onward = on;
}
  where
    one : (c : Handler) (k : Option Kind) → Contains (catchers main) (c, k) → HandlerFits example main f c k
    one c k (zero, l, x) = subst (λ (p : Handler × Option Kind). HandlerFits example main f p.0 p.1) x h
    one c k (suc i, l, x) = absurd (omega arith)

caught : (f : TypeFrame) → IsTrue (frame_fits example (record f { operands = this_of throwable ∷ [] }) (types [] (this_of throwable ∷ []) false)) → HandlerFits example main f catch_all None
unfolding example built_in_infos built_in_methods built_in_info built_in_method built_in_class
caught f p = record { catchable = refl; room = omega arith; fits = p }

main_map : (at : ℕ) (g : TypeFrame) → map_at main at ≡ Some g → frame_at main (frames 2) at ≡ Some g
main_map at g e = cases (13 == at) (λ p. eqb_yes p) e
  where
    cases : (c : Bool) → (T c → 13 ≡ at) → option_map (λ (e : ℕ × VFrame). mapped_frame main e.1) (if c then Some (13, record { locals = []; stack = Class (class_kind throwable) ∷ []; this_uninit = false }) else None) ≡ Some g
        → frame_at main (frames 2) at ≡ Some g
    cases true f e = subst (λ at. frame_at main (frames 2) at ≡ Some g) (f tt) e
    cases false f e = absurd (none_some e)

main_typed : Typed 2 main
unfolding example built_in_infos built_in_methods built_in_info built_in_method built_in_class AllSites
main_typed body e = record {
  places = omega arith;
  one_each = ap (λ (b : Body). length b.instrs) (some_same e);
  entry = refl;
  maps = main_map;
  sites = λ at s f p q. by_sites (SiteTyped example main (frames 2)) (instrs_of main) (resolved_of main) (frames 2) (
    main_site _ _ (types [] (Uninit 0 ∷ []) false) (caught _ refl) refl refl refl,
    (
      main_site _ _ (types [] (Uninit 0 ∷ Uninit 0 ∷ []) false) (caught _ refl) refl refl refl,
      (
        main_site _ _ (types [] (this_of 1 ∷ []) false) (caught _ refl) refl refl refl,
        (
          main_site _ _ (types [] (Int ∷ []) false) (caught _ refl) refl refl refl,
          (
            main_site _ _ (types [] [] false) (caught _ refl) refl refl refl,
            (
              main_site _ _ (types [] [] false) (caught _ refl) refl refl refl,
              (
                main_site _ _ (types [] (Int ∷ []) false) (caught _ refl) refl refl refl,
                (main_site _ _ (types [] [] false) (caught _ refl) refl refl tt, tt),
              ),
            ),
          ),
        ),
      ),
    ),
  ) at s f p q;
}

-- ---- the program

unfoldable pub AtEach : (ℕ → MethodInfo → Type 0) → List MethodInfo → Type 0
AtEach C [] = Unit {0}
AtEach C (m ∷ ms) = C 0 m × AtEach (λ n. C (suc n)) ms

pub at_place : (C : ℕ → MethodInfo → Type 0) (ms : List MethodInfo) → AtEach C ms → (n : ℕ) (m : MethodInfo) → slice_get ms n ≡ Some m → C n m
unfolding AtEach
at_place C [] all n m e = absurd (none_some e)
at_place C (x ∷ ms) all zero m e = subst (C 0) (some_same e) all.0
at_place C (x ∷ ms) all (suc n) m e = at_place (λ n. C (suc n)) ms all.1 n m e

no_code : (n : ℕ) (m : MethodInfo) → m.body ≡ None → Typed n m
no_code n m none body e = absurd (none_some (sym none ∙ e))

pub example_typed : WellTyped example
unfolding AtEach example built_in_methods built_in_method built_in_class
example_typed = record {
  frames = frames;
  methods = λ n m body e b. at_place Typed example.methods (
    base_init_typed,
    (
      base_m_typed,
      (
        main_typed,
        (
          sub_init_typed,
          (
            sub_m_typed,
            (
              no_code 5 _ refl,
              (
                no_code 6 _ refl,
                (
                  no_code 7 _ refl,
                  (
                    no_code 8 _ refl,
                    (
                      no_code 9 _ refl,
                      (
                        no_code 10 _ refl,
                        (
                          no_code 11 _ refl,
                          (
                            no_code 12 _ refl,
                            (
                              no_code 13 _ refl,
                              (
                                no_code 14 _ refl,
                                (
                                  no_code 15 _ refl,
                                  (
                                    no_code 16 _ refl,
                                    (
                                      no_code 17 _ refl,
                                      (
                                        no_code 18 _ refl,
                                        (
                                          no_code 19 _ refl,
                                          (
                                            no_code 20 _ refl,
                                            (
                                              no_code 21 _ refl,
                                              (
                                                no_code 22 _ refl,
                                                (
                                                  no_code 23 _ refl,
                                                  (
                                                    no_code 24 _ refl,
                                                    (
                                                      no_code 25 _ refl,
                                                      (
                                                        no_code 26 _ refl,
                                                        (
                                                          no_code 27 _ refl,
                                                          (
                                                            no_code 28 _ refl,
                                                            tt,
                                                          ),
                                                        ),
                                                      ),
                                                    ),
                                                  ),
                                                ),
                                              ),
                                            ),
                                          ),
                                        ),
                                      ),
                                    ),
                                  ),
                                ),
                              ),
                            ),
                          ),
                        ),
                      ),
                    ),
                  ),
                ),
              ),
            ),
          ),
        ),
      ),
    ),
  ) n m e body b;
}
