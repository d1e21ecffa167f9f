-- The program of the built-in classes alone keeps all that a program keeps.
use Rattle.std.proofs.Common.{◌≡◌, ℕ, ◌+◌, ◌≤◌, Bool, true, false, refl, sym, ap, subst, ◌∙◌, arith}
use Rattle.std.specs.Prelude.{Option, Some, None, slice_get, is_some, if◌then◌else◌}
use Rattle.std.specs.Option.{option_map_or, option_and_then}
use Rattle.std.proofs.lemmas.Bool.{le-ltb}
use Rattle.nr_prog.specs.declared.body.whole.Body.{Body}
use Rattle.nr_linked.specs.declared.program.tables.MethodInfo.{MethodInfo}
use Rattle.nr_linked.specs.declared.program.tables.SlotInfo.{SlotInfo}
use Rattle.nr_linked.specs.BuiltIns.{built_in_class, number}
use Rattle.nr_linked.specs.BuiltInTables.{built_in_infos, built_in_methods, built_in_tables, built_ins}
use Rattle.nr_linked.specs.Facts.{ClassTexts, MethodBounds, ProgramFacts}
use Rattle.nr_linked.specs.Linked.{first_built_in, first_built_in_method, is_loaded}
use Rattle.nr_linked.specs.Programs.{method_at}
use Rattle.nr_linked.specs.Selection.{has_body, selected, with_body, first_selected}
use Rattle.nr_linked.specs.Sites.{Site, site_at, site_among}
use Rattle.nr_linked.specs.Slots.{slots_of}
use Rattle.nr_linked.specs.TypingFacts.{BuiltInFacts, TypingFacts}
use Rattle.nr_linked.proofs.Ascents.{above_above, super_above, up}
use Rattle.nr_linked.proofs.AnyReferences.{any_up}
use Rattle.nr_linked.proofs.BuiltInEntries.{BuiltInEntry, of_built_in, of_built_in_method}
use Rattle.nr_linked.proofs.BuiltInTexts.{built_in_bounds, built_in_texts}
use Rattle.nr_linked.proofs.BuiltInLaws.{built_in_method_facts, cloneable, makeable, no_built_in_slots, no_code, serializable, throwable, thrown}
use Rattle.nr_linked.proofs.Witness.{linked}

-- ---- no class was loaded

none_loaded : (c : ℕ) → is_loaded built_in_tables c ≡ false
unfolding built_in_tables built_in_infos
none_loaded c = le-ltb c 0 (omega arith)

first_of_all : (n : ℕ) → first_built_in_method built_in_tables ≤ n
unfolding built_in_tables built_in_methods built_in_class
first_of_all n = omega arith

entry_of : (n : ℕ) (i : MethodInfo) → method_at built_in_tables n ≡ Some i → BuiltInEntry built_in_tables i
entry_of n i is = of_built_in_method built_in_tables linked n i is (first_of_all n)

no_body : (n : ℕ) (i : MethodInfo) → method_at built_in_tables n ≡ Some i → i.body ≡ None
no_body n i is = let m = entry_of n i is in ap (λ (i : MethodInfo). i.body) m.is ∙ no_code (first_built_in built_in_tables + number m.holder) m.method

no_code_at : (n : ℕ) (i : MethodInfo) (body : Body) → method_at built_in_tables n ≡ Some i → i.body ≡ Some body → ⊥
no_code_at n i body is has = let e = sym (no_body n i is) ∙ has in cc

-- ---- what typing takes

none_selected : (n c k : ℕ) → selected built_in_tables n c ≡ Some k → ⊥
none_selected n c k e = of_method (method_at built_in_tables n) e
  where
    bodiless : (m : ℕ) (o : Option MethodInfo) → method_at built_in_tables m ≡ o → option_map_or (λ (i : MethodInfo). is_some i.body) o false ≡ false
    bodiless m None is = refl
    bodiless m (Some i) is = ap is_some (no_body m i is)

    by_flag : (m : ℕ) (b : Bool) → b ≡ false → (if b then Some m else None) ≡ Some k → ⊥
    by_flag m true f e = absurd cc
    by_flag m false f e = cc

    of_first : (o : Option ℕ) → option_and_then (with_body built_in_tables) o ≡ Some k → ⊥
    of_first None e = cc
    of_first (Some m) e = by_flag m (has_body built_in_tables m) (bodiless m (method_at built_in_tables m) refl) e

    of_method : (o : Option MethodInfo) → option_and_then (λ i. option_and_then (with_body built_in_tables) (first_selected built_in_tables n i c)) o ≡ Some k → ⊥
    of_method None e = cc
    of_method (Some i) e = of_first (first_selected built_in_tables n i c) e

no_slot : (c i : ℕ) (s : SlotInfo) → slice_get (slots_of built_in_tables c) i ≡ Some s → ⊥
no_slot c i s at = let e = sym (ap (λ l. slice_get l i) (no_built_in_slots built_in_tables linked c (none_loaded c))) ∙ at in cc

no_site : (n : ℕ) (i : MethodInfo) (at : ℕ) (s : Site) → method_at built_in_tables n ≡ Some i → site_at i at ≡ Some s → ⊥
no_site n i at s is e = let x = sym (ap (λ o. option_and_then (λ (b : Body). site_among b.instrs i.resolved at) o) (no_body n i is)) ∙ e in cc

typing : TypingFacts built_in_tables
typing = record {
  above_above = above_above built_in_tables linked;
  super_above = super_above built_in_tables linked;
  any_up = λ d e any above. any_up built_in_tables linked d e any (up built_in_tables linked d e above);
  cloneable = cloneable built_in_tables linked;
  serializable = serializable built_in_tables linked;
  throwable = throwable built_in_tables linked;
  thrown = thrown built_in_tables linked;
  inherited = λ c d i s above at. absurd (no_slot d i s at);
  declared = λ c i s at. absurd (no_slot c i s at);
  slotted = λ c i s at. absurd (no_slot c i s at);
  makeable = makeable built_in_tables linked;
  own = λ n i body is has. absurd (no_code_at n i body is has);
  selects = λ n c k i j is instance shared sel js. absurd (none_selected n c k sel);
  built_ins = λ n i is none. let m = entry_of n i is in subst (BuiltInFacts built_in_tables) (sym m.is) (built_in_method_facts built_in_tables m.holder m.method m.place m.declares);
  one_each = λ n i body is has. absurd (no_code_at n i body is has);
  sites = λ n i at s is here. absurd (no_site n i at s is here);
}

pub facts : ProgramFacts built_in_tables
facts = record {
  linked = linked;
  typing = typing;
  laid_out = λ n i body is has. absurd (no_code_at n i body is has);
  suited = λ n i at s is here. absurd (no_site n i at s is here);
  classes = λ c e is. let r = of_built_in built_in_tables linked c e is (none_loaded c) in subst ClassTexts (sym r.1) (built_in_texts (first_built_in built_in_tables) (first_built_in_method built_in_tables) r.0);
  methods = λ n i is. let m = entry_of n i is in
      subst MethodBounds (sym m.is) (built_in_bounds m.holder m.place m.method (first_built_in built_in_tables + number m.holder) m.declares);
}
