-- The example's instructions and methods have the facts that typing takes of a linked program.
use Rattle.std.proofs.Common.{◌≡◌, ℕ, List, [], ◌∷◌, refl, sym, ap, subst, subst₂, ◌∙◌, Bool, true, false, arith, T}
use Rattle.std.specs.Prelude.{Option, Some, None, IsTrue, Contains, if◌then◌else◌, ◌==◌}
use Rattle.nr_optable.specs.Rows.{all_rows}
use Rattle.nr_optable.specs.declared.table.Row.{Row}
use Rattle.nr_prog.specs.declared.body.instruction.Args.{Args}
use Rattle.nr_prog.specs.declared.body.instruction.Args.TheVariants.{Empty, Pool, Dims}
use Rattle.nr_prog.specs.declared.body.instruction.Instr.{Instr}
use Rattle.nr_linked.specs.declared.program.kind.Kind.{Kind}
use Rattle.nr_linked.specs.declared.program.tables.MethodInfo.{MethodInfo}
use Rattle.nr_linked.specs.declared.program.tables.Resolved.{Resolved}
use Rattle.nr_linked.specs.declared.program.tables.Resolved.TheVariants as resolved
use Rattle.nr_prog.specs.Members.{is_static}
use Rattle.nr_linked.specs.Kinds.{class_kind}
use Rattle.nr_linked.specs.BuiltIns.{built_in_class}
use Rattle.nr_linked.specs.BuiltInTables.{built_in_infos, built_in_methods, built_in_info, built_in_method}
use Rattle.nr_linked.specs.Linked.{instrs_of}
use Rattle.nr_linked.specs.Programs.{method_at}
use Rattle.nr_linked.specs.Selection.{is_private}
use Rattle.nr_linked.specs.Sites.{Site, first_offset, site_among, site_at}
use Rattle.nr_linked.specs.Subtypes.{is_above, admits_any, is_assignable}
use Rattle.nr_linked.specs.Initialisers.{is_initialiser}
use Rattle.nr_linked.specs.TypingChecks.{letters_of}
use Rattle.nr_linked.specs.TypingFacts.{is_shaped, has_constant, is_makeable, CallFacts, SiteFacts, TypingFacts}
use Rattle.nr_typed.proofs.Assigning.{yes, holds}
use Rattle.nr_typed.specs.Example.{example, initialiser, base_m, main, sub_m, at, aload_0, iconst_0, ireturn, return_, pop, dup, getfield, invokespecial, invokeinterface, new_}
use Rattle.nr_typed.proofs.ExampleTyped.{none_some, some_same, AtEach, at_place, resolved_of}
use Rattle.nr_typed.proofs.ExampleFacts.{above_above, any_up, super_above, makeable_above, inherited, declared, slotted}
use Rattle.nr_typed.proofs.ExampleMethods.{thrown, never, selects, own, one_each, built_in_facts}

-- ---- instructions

AllInstrs : (Site → Type 0) → List Instr → List Resolved → Type 0
AllInstrs C (i ∷ is) (r ∷ rs) = C (record { instr = i; resolved = r; next = first_offset is }) × AllInstrs C is rs
AllInstrs C is rs = Unit {0}

by_instrs : (C : Site → Type 0) (is : List Instr) (rs : List Resolved) → AllInstrs C is rs → (at : ℕ) (s : Site) → site_among is rs at ≡ Some s → C s
unfolding AllInstrs
by_instrs C [] rs all at s p = absurd (none_some p)
by_instrs C (i ∷ is) [] all at s p = absurd (none_some p)
by_instrs C (i ∷ is) (r ∷ rs) all at s p = cases (i.at == at) all.0 (λ p. by_instrs C is rs all.1 at s p) p
  where
    cases : (c : Bool) → C (record { instr = i; resolved = r; next = first_offset is }) → (site_among is rs at ≡ Some s → C s) → (if c then Some (record { instr = i; resolved = r; next = first_offset is }) else site_among is rs at) ≡ Some s → C s
    cases true x go p = subst C (some_same p) x
    cases false x go p = go p

abbrev site : ℕ → Row → Args → Resolved → Option ℕ → Site
site offset row a found next = record { instr = at offset row a; resolved = found; next = next }

abbrev is_plain : Args → Bool
is_plain (Dims i n) = false
is_plain a = true

not_dims : (a : Args) → T (is_plain a) → (i n : ℕ) → a ≡ Dims i n → ⊥
not_dims a p i n e = subst (λ a. T (is_plain a)) e p

-- an instruction for which linking found nothing, or a slot
plain : (own offset : ℕ) (row : Row) (a : Args) (found : Resolved) (next : Option ℕ) → Contains all_rows row → IsTrue (is_shaped row.shape a) → IsTrue (has_constant row.family (letters_of row.pushes) found) → T (is_plain a)
    → ((k : Kind) → found ≡ resolved.Kind k → ⊥) → ((n c : ℕ) → found ≡ resolved.Method n c → ⊥) → SiteFacts example own (site offset row a found next)
plain own offset row a found next r sh co pl nk nm = record {
  row = r;
  shaped = sh;
  constant = co;
  kind = λ k e. absurd (nk k e);
  made = λ f k e. absurd (nk k e);
  elements = λ c k e. absurd (nk k e);
  dimensions = λ i n k e x. absurd (not_dims a pl i n e);
  call = λ f n c callee e x. absurd (nm n c e);
}

nothing_kind : (k : Kind) → resolved.Nothing ≡ resolved.Kind k → ⊥
nothing_kind k e = cc

nothing_method : (n c : ℕ) → resolved.Nothing ≡ resolved.Method n c → ⊥
nothing_method n c e = cc

slot_kind : (d i : ℕ) (k : Kind) → resolved.Slot d i ≡ resolved.Kind k → ⊥
slot_kind d i k e = cc

slot_method : (d i n c : ℕ) → resolved.Slot d i ≡ resolved.Method n c → ⊥
slot_method d i n c e = cc

method_kind : (d i : ℕ) (k : Kind) → resolved.Method d i ≡ resolved.Kind k → ⊥
method_kind d i k e = cc

kind_method : (k : Kind) (n c : ℕ) → resolved.Kind k ≡ resolved.Method n c → ⊥
kind_method k n c e = cc

same_kind : {j k : Kind} → resolved.Kind j ≡ resolved.Kind k → j ≡ k
same_kind e = cc

method_number : {a b c d : ℕ} → resolved.Method a b ≡ resolved.Method c d → a ≡ c
method_number e = cc

method_owner : {a b c d : ℕ} → resolved.Method a b ≡ resolved.Method c d → b ≡ d
method_owner e = cc

-- an instruction without operands
simple : (own offset : ℕ) (row : Row) (next : Option ℕ) → Contains all_rows row → IsTrue (is_shaped row.shape Empty) → IsTrue (has_constant row.family (letters_of row.pushes) resolved.Nothing) → SiteFacts example own (site offset row Empty resolved.Nothing next)
simple own offset row next r sh co = plain own offset row Empty resolved.Nothing next r sh co tt nothing_kind nothing_method

-- a call of method n of class c
calls : (own offset : ℕ) (row : Row) (n c : ℕ) (next : Option ℕ) (callee : MethodInfo) → method_at example n ≡ Some callee → CallFacts example own row.code c callee → Contains all_rows row → IsTrue (is_shaped row.shape (Pool 1))
    → IsTrue (has_constant row.family (letters_of row.pushes) (resolved.Method n c)) → SiteFacts example own (site offset row (Pool 1) (resolved.Method n c) next)
calls own offset row n c next callee is f r sh co = record {
  row = r;
  shaped = sh;
  constant = co;
  kind = λ k e. absurd (method_kind n c k e);
  made = λ x k e. absurd (method_kind n c k e);
  elements = λ x k e. absurd (method_kind n c k e);
  dimensions = λ i m k e x. absurd (method_kind n c k x);
  call = λ x m d callee' e y.
      let s : callee ≡ callee' = some_same (sym is ∙ (ap (method_at example) (method_number e) ∙ y)) in
      subst₂ (λ d callee. CallFacts example own row.code d callee) (method_owner e) s f;
}

-- a `new` of class c
makes : (own offset : ℕ) (c : ℕ) (next : Option ℕ) → IsTrue (is_assignable example (class_kind c) (class_kind c)) → IsTrue (is_makeable example c) → Contains all_rows new_ → SiteFacts example own (site offset new_ (Pool 1) (resolved.Kind (class_kind c)) next)
makes own offset c next self can r = record {
  row = r;
  shaped = refl;
  constant = refl;
  kind = λ k e. subst (λ k. IsTrue (is_assignable example k k)) (same_kind e) self;
  made = λ x k e. (c, sym (same_kind e), can);
  elements = λ x k e. absurd (omega arith);
  dimensions = λ i n k e x. absurd (not_dims (Pool 1) tt i n e);
  call = λ x n d callee e y. absurd (kind_method (class_kind c) n d e);
}

aload_fact : (own offset : ℕ) (next : Option ℕ) → SiteFacts example own (site offset aload_0 Empty resolved.Nothing next)
unfolding all_rows
aload_fact own offset next = simple own offset aload_0 next (27, omega arith, refl) refl refl

ireturn_fact : (own offset : ℕ) (next : Option ℕ) → SiteFacts example own (site offset ireturn Empty resolved.Nothing next)
unfolding all_rows
ireturn_fact own offset next = simple own offset ireturn next (115, omega arith, refl) refl refl

return_fact : (own offset : ℕ) (next : Option ℕ) → SiteFacts example own (site offset return_ Empty resolved.Nothing next)
unfolding all_rows
return_fact own offset next = simple own offset return_ next (118, omega arith, refl) refl refl

special_row : Contains all_rows invokespecial
unfolding all_rows
special_row = (122, omega arith, refl)

abbrev SitesAt : ℕ → MethodInfo → Type 0
SitesAt n i = (at : ℕ) (s : Site) → site_at i at ≡ Some s → SiteFacts example i.«class» s

-- a call of an initialiser
init_call : (own n c : ℕ) (callee : MethodInfo) → method_at example n ≡ Some callee → is_static callee.flags ≡ false → (callee.«class» ≡ c) × (callee.result ≡ None) → is_private callee.flags ≡ false → is_initialiser callee ≡ true → CallFacts example own 183 c callee
init_call own n c callee e st f hid init = record { static = st; initialiser = λ p. (refl, f.0, f.1); private = λ p. absurd (never (is_private callee.flags) hid (yes (is_private callee.flags) p)); ancestor = λ x y. absurd (never true (sym init ∙ y) tt) }

base_init_sites : SitesAt 0 (initialiser 0 6 3)
unfolding AtEach AllInstrs all_rows example built_in_infos built_in_info built_in_methods built_in_method built_in_class
base_init_sites at s e = by_instrs (SiteFacts example 0) (instrs_of (initialiser 0 6 3)) (resolved_of (initialiser 0 6 3))
    (aload_fact 0 0 _, (calls 0 1 invokespecial 6 3 _ _ refl (init_call 0 6 3 _ refl refl (refl, refl) refl refl) special_row refl refl, (return_fact 0 4 _, tt))) at s e

sub_init_sites : SitesAt 3 (initialiser 1 0 0)
unfolding AtEach AllInstrs all_rows example built_in_infos built_in_info built_in_methods built_in_method built_in_class
sub_init_sites at s e = by_instrs (SiteFacts example 1) (instrs_of (initialiser 1 0 0)) (resolved_of (initialiser 1 0 0))
    (aload_fact 1 0 _, (calls 1 1 invokespecial 0 0 _ _ refl (init_call 1 0 0 _ refl refl (refl, refl) refl refl) special_row refl refl, (return_fact 1 4 _, tt))) at s e

base_m_sites : SitesAt 1 base_m
unfolding AtEach AllInstrs all_rows example built_in_infos built_in_info built_in_methods built_in_method built_in_class
base_m_sites at s e = by_instrs (SiteFacts example 0) (instrs_of base_m) (resolved_of base_m)
    (aload_fact 0 0 _, (plain 0 1 getfield (Pool 1) (resolved.Slot 0 0) _ (119, omega arith, refl) refl refl tt (slot_kind 0 0) (slot_method 0 0), (ireturn_fact 0 4 _, tt))) at s e

-- a call of a method m
m_call : (own code c : ℕ) (callee : MethodInfo) → is_static callee.flags ≡ (code == 184) → is_initialiser callee ≡ false → is_private callee.flags ≡ false → (code ≡ 183 → IsTrue (is_above example own c)) → CallFacts example own code c callee
m_call own code c callee st init hid up = record { static = st; initialiser = λ p. absurd (never (is_initialiser callee) init (yes (is_initialiser callee) p)); private = λ p. absurd (never (is_private callee.flags) hid (yes (is_private callee.flags) p)); ancestor = λ x y. up x }

sub_m_sites : SitesAt 4 sub_m
unfolding AtEach AllInstrs all_rows example built_in_infos built_in_info built_in_methods built_in_method built_in_class
sub_m_sites at s e = by_instrs (SiteFacts example 1) (instrs_of sub_m) (resolved_of sub_m)
    (aload_fact 1 0 _, (calls 1 1 invokespecial 1 0 _ _ refl (m_call 1 183 0 _ refl refl refl (λ x. refl)) special_row refl refl, (ireturn_fact 1 4 _, tt))) at s e

main_sites : SitesAt 2 main
unfolding AtEach AllInstrs all_rows example built_in_infos built_in_info built_in_methods built_in_method built_in_class
main_sites at s e = by_instrs (SiteFacts example 0) (instrs_of main) (resolved_of main) (
  makes 0 0 1 _ refl refl (125, omega arith, refl),
  (
    simple 0 3 dup _ (60, omega arith, refl) refl refl,
    (
      calls 0 4 invokespecial 3 1 _ _ refl (init_call 0 3 1 _ refl refl (refl, refl) refl refl) special_row refl refl,
      (
        calls 0 7 invokeinterface 5 2 _ _ refl (m_call 0 185 2 _ refl refl refl (λ x. absurd (omega arith))) (124, omega arith, refl) refl refl,
        (
          ireturn_fact 0 12 _,
          (
            simple 0 13 pop _ (58, omega arith, refl) refl refl,
            (simple 0 14 iconst_0 _ (3, omega arith, refl) refl refl, (ireturn_fact 0 15 _, tt)),
          ),
        ),
      ),
    ),
  ),
) at s e

sites : (n : ℕ) (i : MethodInfo) (at : ℕ) (s : Site) → method_at example n ≡ Some i → site_at i at ≡ Some s → SiteFacts example i.«class» s
unfolding AtEach example built_in_methods built_in_method built_in_class
sites n i at s is e = at_place SitesAt example.methods (
  base_init_sites,
  (
    base_m_sites,
    (
      main_sites,
      (
        sub_init_sites,
        (
          sub_m_sites,
          (
            λ at s e. absurd (none_some e),
            (
              λ at s e. absurd (none_some e),
              (
                λ at s e. absurd (none_some e),
                (
                  λ at s e. absurd (none_some e),
                  (
                    λ at s e. absurd (none_some e),
                    (
                      λ at s e. absurd (none_some e),
                      (
                        λ at s e. absurd (none_some e),
                        (
                          λ at s e. absurd (none_some e),
                          (
                            λ at s e. absurd (none_some e),
                            (
                              λ at s e. absurd (none_some e),
                              (
                                λ at s e. absurd (none_some e),
                                (
                                  λ at s e. absurd (none_some e),
                                  (
                                    λ at s e. absurd (none_some e),
                                    (
                                      λ at s e. absurd (none_some e),
                                      (
                                        λ at s e. absurd (none_some e),
                                        (
                                          λ at s e. absurd (none_some e),
                                          (
                                            λ at s e. absurd (none_some e),
                                            (
                                              λ at s e. absurd (none_some e),
                                              (
                                                λ at s e. absurd (none_some e),
                                                (
                                                  λ at s e. absurd (none_some e),
                                                  (
                                                    λ at s e. absurd (none_some e),
                                                    (
                                                      λ at s e. absurd (none_some e),
                                                      (
                                                        λ at s e. absurd (none_some e),
                                                        (
                                                          λ at s e. absurd (none_some e),
                                                          tt,
                                                        ),
                                                      ),
                                                    ),
                                                  ),
                                                ),
                                              ),
                                            ),
                                          ),
                                        ),
                                      ),
                                    ),
                                  ),
                                ),
                              ),
                            ),
                          ),
                        ),
                      ),
                    ),
                  ),
                ),
              ),
            ),
          ),
        ),
      ),
    ),
  ),
) n i is at s e

pub example_facts : TypingFacts example
unfolding example built_in_infos built_in_info built_in_class
example_facts = record {
  above_above = λ c d e p q. holds (is_above example c e) (above_above c d e (yes (is_above example c d) p) (yes (is_above example d e) q));
  super_above = λ c d e. holds (is_above example c d) (super_above c d e);
  any_up = λ d e p q. holds (admits_any example e) (any_up d e (yes (admits_any example d) p) (yes (is_above example d e) q));
  cloneable = refl;
  serializable = refl;
  throwable = refl;
  thrown = thrown;
  inherited = λ c d i s p e. inherited c d i s (yes (is_above example c d) p) e;
  declared = declared;
  slotted = slotted;
  makeable = λ c p. holds (is_above example c c) (makeable_above c (yes (is_makeable example c) p));
  own = own;
  selects = selects;
  built_ins = built_in_facts;
  one_each = one_each;
  sites = sites;
}
