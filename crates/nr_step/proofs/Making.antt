-- New objects and arrays.
use Rattle.std.proofs.Common.{◌≡◌, ℕ, ◌+◌, ◌<◌, ◌≤◌, List, ◌∷◌, length, Option, refl, sym, subst, ap, ◌∙◌, IsTrue, ◌==◌}
use Rattle.std.specs.FinMap.{insert}
use Rattle.nr_optable.specs.declared.table.Family.TheVariants.{F33}
use Rattle.nr_optable.specs.Rows.{all_rows}
use Rattle.nr_prog.specs.declared.body.instruction.Instr.{Instr}
use Rattle.nr_linked.specs.declared.program.kind.Base.TheVariants as bases
use Rattle.nr_linked.specs.declared.program.kind.Kind.{Kind}
use Rattle.nr_linked.specs.declared.program.tables.MethodInfo.{MethodInfo}
use Rattle.nr_linked.specs.declared.program.tables.ProgramTables.{ProgramTables}
use Rattle.nr_linked.specs.declared.program.tables.Resolved.{Resolved}
use Rattle.nr_linked.specs.declared.program.tables.Resolved.TheVariants as resolved
use Rattle.nr_linked.specs.Kinds.{class_kind}
use Rattle.nr_linked.specs.TypingFacts.{SiteFacts, is_makeable}
use Rattle.nr_model.specs.declared.value.Value.{Value}
use Rattle.nr_model.specs.declared.value.Value.TheVariants.{Ref}
use Rattle.nr_model.specs.Heaps.{Heap, cells, cells_of}
use Rattle.nr_model.specs.Outcomes.{max_cells}
use Rattle.nr_model.specs.ObjectRules.{new_of}
use Rattle.nr_model.specs.Rules.{on_kind}
use Rattle.nr_model.specs.Scripts.{Ending, Make, Plain, Runs, Script, Within, new_object}
use Rattle.nr_model.specs.Throws.{make_object, onward}
use Rattle.nr_heap.specs.Contents.{Contents, HasMade}
use Rattle.nr_step.specs.declared.flow.Flow.TheVariants as flows
use Rattle.nr_step.specs.declared.flow.Told.{Told}
use Rattle.nr_step.specs.Flows.{Doing, Went}
use Rattle.nr_step.specs.Instructions.{CanDo, IsRowOf, doing, site_of}
use Rattle.nr_step.specs.Windows.{Leads, view}
use Rattle.nr_step.proofs.ConstantRules.{Pushes}
use Rattle.nr_step.proofs.Families.{AllOf, family_by, rule_by}
use Rattle.nr_step.proofs.Going.{made_cells, made_more, went_by}
use Rattle.nr_step.proofs.Rows.{IsRule, nothing_left}

-- ---- a new object of the heap in code

pub made_pushed : (c : Kind) (ps : List Plain) (w : Within) → Pushes (Make c ps) w
made_pushed c ps w = λ n u e r. ap (λ (u : Within). length u.operands) (nothing_left n (record w { heap = insert w.heap r.0 (new_object c ps); operands = Ref r.0 ∷ w.operands }) u e r.2)

pub made_leads : (c : Kind) (ps : List Plain) (old new : Contents) (name : ℕ) (ls vs us : List Value) → HasMade old new name (new_object c ps) → us ≡ Ref name ∷ vs
    → Leads (Make c ps) (view old.objects ls vs) (view new.objects ls us)
made_leads c ps old new name ls vs us m put = λ k e u r.
    (name, m.fresh, subst (λ h. Runs k (view h ls (Ref name ∷ vs)) e u) m.objects (subst (λ us. Runs k (view new.objects ls us) e u) put r))

pub fills_made : (P : ProgramTables) (S : Doing) (c : Kind) (ps : List Plain) (h j : Heap) (ls vs : List Value) (told : Told) → ((n : Option ℕ) → S n ≡ Make c ps (onward n))
    → j ≡ h → told.cells ≡ cells h + cells_of (new_object c ps) → max_cells < told.cells → Went flows.Full P S (view h ls vs) told (view j ls vs)
fills_made P S c ps h j ls vs told same kept is many =
    went_by flows.Full P S (λ n. Make c ps (onward n)) (view h ls vs) told (view j ls vs) same (
      ap (λ h. view h ls vs) kept,
      (
        many,
        λ n. made_cells c ps (onward n) (view h ls vs) told.cells is
            (λ a e u r. ap (λ (u : Within). u.heap) (nothing_left n (record (view h ls vs) { heap = insert h a (new_object c ps); operands = Ref a ∷ vs }) u e r)),
      ),
    )

pub none_made : (P : ProgramTables) (S : Doing) (c : Kind) (ps : List Plain) (h j : Heap) (ls vs : List Value) (told : Told) → ((n : Option ℕ) → S n ≡ Make c ps (onward n)) → j ≡ h
    → cells h + cells_of (new_object c ps) ≤ max_cells → Went flows.NoMemory P S (view h ls vs) told (view j ls vs)
none_made P S c ps h j ls vs told same kept few =
    went_by flows.NoMemory P S (λ n. Make c ps (onward n)) (view h ls vs) told (view j ls vs) same (
      ap (λ h. view h ls vs) kept,
      λ n. made_more c ps (onward n) (view h ls vs) few
          (λ a e u r. ap (λ (u : Within). u.heap) (nothing_left n (record (view h ls vs) { heap = insert h a (new_object c ps); operands = Ref a ∷ vs }) u e r)),
    )

-- ---- new

news : AllOf (λ c. c == 187) F33
unfolding all_rows
news = refl

pub record ClassFound (P : ProgramTables) (found : Resolved) : Type 0 where
  pub number : ℕ
  pub is : found ≡ resolved.Kind (class_kind number)
  pub makeable : IsTrue (is_makeable P number)

to_kind : (found : Resolved) (F : Kind → Script) (w u : Within) (e : Ending) → Runs (on_kind found F) w e u → (k : Kind) × (found ≡ resolved.Kind k)
to_kind (resolved.Kind k) F w u e r = (k, refl)
to_kind found F w u e r = absurd r

pub kind_found : (P : ProgramTables) (own : MethodInfo) (i : Instr) (found : Resolved) (w : Within) (room : ℕ) (F : Kind → Script → Script) → ((n : Option ℕ) → doing P own i found n ≡ on_kind found (λ k. F k (onward n)))
    → CanDo P own i found w room → (k : Kind) × (found ≡ resolved.Kind k)
kind_found P own i found w room F is can =
    to_kind found (λ k. F k (onward can.next)) w can.left can.ending (subst (λ sc. Runs sc w can.ending can.left) (is can.next) can.runs)

pub new_is : (P : ProgramTables) (own : MethodInfo) (i : Instr) (found : Resolved) → IsRowOf 187 i.row → (n : Option ℕ) → doing P own i found n ≡ on_kind found (λ k. new_of P k (onward n))
new_is P own i found r n = rule_by (λ c. c == 187) F33 news P own i found 187 r refl n

pub class_found : (P : ProgramTables) (own mine : MethodInfo) (i : Instr) (found : Resolved) (w : Within) (room : ℕ) (n : Option ℕ) → IsRowOf 187 i.row → SiteFacts P mine.«class» (site_of i found n) → CanDo P own i found w room → ClassFound P found
class_found P own mine i found w room n r site can =
    let k = kind_found P own i found w room (new_of P) (new_is P own i found r) can in
    let m = site.made (family_by (λ c. c == 187) F33 news 187 i.row r refl) k.0 k.1 in
    record { number = m.0; is = k.1 ∙ ap resolved.Kind m.1; makeable = m.2 }

pub new_rule : (P : ProgramTables) (own : MethodInfo) (i : Instr) (found : Resolved) → IsRowOf 187 i.row → (f : ClassFound P found) → IsRule P own i found (make_object P f.number)
new_rule P own i found r f = λ n. new_is P own i found r n ∙ ap (λ x. on_kind x (λ k. new_of P k (onward n))) f.is

pub same_kind : (found : Resolved) (k j : Kind) → found ≡ resolved.Kind k → found ≡ resolved.Kind j → k ≡ j
same_kind found k j p q = cc

pub same_class : (c d : ℕ) (k : Kind) → k ≡ class_kind c → k.base ≡ bases.Object d → d ≡ c
same_class c d k p q = let b : bases.Object d ≡ bases.Object c = sym q ∙ ap (λ (k : Kind). k.base) p in cc
