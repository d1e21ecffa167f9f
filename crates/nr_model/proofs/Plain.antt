-- Where every reference argument is restored, a local call has no copies.
use Rattle.std.proofs.Common.{◌≡◌, ℕ, List, [], ◌∷◌, refl, sym, ap, ap₂, subst, ◌∙◌, inl}
use Rattle.std.specs.Prelude.{Option, Some, None, map}
use Rattle.std.specs.FinMap.{get}
use Rattle.nr_model.specs.declared.value.Value.{Value}
use Rattle.nr_model.specs.declared.value.Value.TheVariants.{Int, Long, Null, Ref}
use Rattle.nr_model.specs.Heaps.{Obj, Heap, on_some}
use Rattle.nr_model.specs.States.{State}
use Rattle.nr_model.specs.Pairs.{Reach, Holds}
use Rattle.nr_linked.specs.declared.program.tables.ProgramTables.{ProgramTables}
use Rattle.nr_model.specs.Locals.{IsShared, copied_value, CopyArgs, CallRun, Local}
use Rattle.nr_model.specs.LocalEntries.{AllRestorable}
use Rattle.std.specs.Ordering.{nat_cmp}
use Rattle.std.specs.FinMap.{FinMap, empty, get-empty, same_map, nat_cmp-IsAntisymmetric}
use Rattle.std.proofs.lemmas.Cmp.{nat_cmp_total}
use Rattle.nr_model.specs.Locals.{copy_of}
use Rattle.nr_model.proofs.Heaps.{sum_left}
use Rattle.nr_model.proofs.Paths.{none_some}

module _ (copies : FinMap nat_cmp ℕ) (none : (x : ℕ) → get copies x ≡ None) where
  copy_same : (x : ℕ) → copy_of copies x ≡ x
  copy_same x = ap (λ o. on_some o x (λ z. z)) (none x)

  pub same_list : (us : List Value) → map (copied_value copies) us ≡ us
  same_list [] = refl
  same_list (Int n ∷ us) = ap (λ vs. Int n ∷ vs) (same_list us)
  same_list (Long n ∷ us) = ap (λ vs. Long n ∷ vs) (same_list us)
  same_list (Null ∷ us) = ap (λ vs. Null ∷ vs) (same_list us)
  same_list (Ref a ∷ us) = ap₂ (λ b vs. Ref b ∷ vs) (copy_same a) (same_list us)

module _ (P : ProgramTables) (h : Heap) (args : List Value) (all : AllRestorable P h args) where
  all_shared : (x : ℕ) → Reach h (Holds args) x → IsShared P h args x
  all_shared x r = (r.0, all r.0 r.1, r.2, r.3)

  module _ (h1 : Heap) (args1 : List Value) (a : CopyArgs P h args h1 args1) where
    none : (x : ℕ) → get a.copies x ≡ None
    none x = go (get a.copies x) refl
      where
        go : (o : Option ℕ) → get a.copies x ≡ o → o ≡ None
        go None e = refl
        go (Some z) e = let r = a.originals x (λ f. none_some (sym f ∙ e)) in absurd (r.1 (all_shared x r.0))

    pub same_args : args1 ≡ args
    same_args = a.arguments ∙ same_list a.copies none args

    at : (q : ℕ) (o p : Option Obj) → get h q ≡ o → get h1 q ≡ p → get h1 q ≡ get h q
    at q None None e f = f ∙ sym e
    at q (Some o) p e f = a.old q (λ g. none_some (sym g ∙ e))
    at q None (Some o) e f = sum_left (a.no_more q (λ g. none_some (sym g ∙ f))) (λ n. absurd (n e)) (λ i. absurd (none_some (sym (none i.0) ∙ i.1)))

    pub same_heap : h1 ≡ h
    same_heap = same_map nat_cmp_total nat_cmp-IsAntisymmetric h1 h (λ q. at q (get h q) (get h1 q) refl refl)

  no_copies : (x : ℕ) → get (empty {X = ℕ} {R = nat_cmp}) x ≡ None
  no_copies x = get-empty nat_cmp x

  pub plain_copies : CopyArgs P h args h args
  plain_copies = record {
    copies = empty;
    originals = λ x n. absurd (n (no_copies x));
    whole = λ x r. inl (all_shared x r);
    new = λ x z e. absurd (none_some (sym (no_copies x) ∙ e));
    distinct = λ x y z e f. absurd (none_some (sym (no_copies x) ∙ e));
    objects = λ x z e. absurd (none_some (sym (no_copies x) ∙ e));
    arguments = sym (same_list empty no_copies args);
    old = λ x n. refl;
    no_more = λ y n. inl n;
  }

  pub plain_run : (m n : ℕ) (t : State) → Local P h m args n t → CallRun P h m args n t
  plain_run m n t l =
      subst (λ vs. CallRun P h m vs n t) (same_args l.heap l.args' l.copies)
      (subst (λ k. CallRun P k m l.args' n t) (same_heap l.heap l.args' l.copies) l.call)

  pub plain_local : (m n : ℕ) (t : State) → CallRun P h m args n t → Local P h m args n t
  plain_local m n t c = record { heap = h; args' = args; copies = plain_copies; call = c }
