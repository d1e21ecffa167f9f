-- Where a walk of a heap stands: what is left of it, and how much is left to do.
use Rattle.std.proofs.Common.{◌≡◌, ℕ, ◌+◌, ◌<◌, true, false, List, [], ◌∷◌, ◌++◌, length, reverse, sym, ap, subst, ◌∙◌, length-append, arith}
use Rattle.std.specs.List.{AllByRecursion}
use Rattle.std.proofs.lemmas.List.{reverse-append, reverse-reverse, length-reverse}
use Rattle.nr_linked.specs.declared.program.tables.ProgramTables.{ProgramTables}
use Rattle.nr_model.specs.declared.value.Value.{Value}
use Rattle.nr_model.specs.Heaps.{Heap}
use Rattle.nr_graph.specs.Listing.{with_last}
use Rattle.nr_graph.specs.Pictures.{FirstUnsendable, is_unsendable, names_in, next_in}
use Rattle.nr_graph.specs.Walks.{is_met, Walk, over, again, MeetsRefused, here, onward}
use Rattle.nr_graph.proofs.Left.{left_of, left_less}
use Rattle.nr_graph.proofs.Listed.{with_new}
use Rattle.nr_graph.proofs.Walks.{is_met-other, is_met-same, open_first}
use Rattle.nr_capture.specs.Drawing.{IsWalked}
use Rattle.nr_capture.specs.declared.fault.CaptureFault.{CaptureFault}
use Rattle.nr_capture.specs.declared.fault.CaptureFault.TheVariants.{NotSendable, NoMemory}
use Rattle.nr_capture.specs.Refusals.{IsOfClass, OnNotSendable, RefusesClass}
use Rattle.nr_capture.specs.Roots.{IsIn}

-- what is left of the names below n
unfoldable pub unmet : (ℕ → List ℕ) → ℕ → List ℕ → ℕ
unmet next n seen = left_of (is_met seen) (λ i. length (next i)) n

-- Finishing from here finishes the walk, and what is the first that is refused from here is so in the walk. All that was met
-- and all that comes next is in the heap.
pub record Stands (P : ProgramTables) (h : Heap) (vs : List Value) (stack seen : List ℕ) : Type 0 where
  pub there : (out : List ℕ) → Walk (next_in P h) (reverse stack) seen out → Walk (next_in P h) (names_in vs) [] out
  pub refuses : (x : ℕ) → MeetsRefused (next_in P h) (is_unsendable P h) (reverse stack) seen x → FirstUnsendable P h vs x
  pub inside : AllByRecursion (IsIn h) (reverse stack)
  pub met : AllByRecursion (IsIn h) seen
  pub sendable : AllByRecursion (λ x. is_unsendable P h x ≡ false) seen

both_all : (Q : ℕ → Type 0) (xs ys : List ℕ) → AllByRecursion Q xs → AllByRecursion Q ys → AllByRecursion Q (xs ++ ys)
both_all Q [] ys a b = b
both_all Q (x ∷ xs) ys a b = (a.0, both_all Q xs ys a.1 b)

turned : (s t : List ℕ) (r : ℕ) → s ≡ t ++ r ∷ [] → reverse s ≡ r ∷ reverse t
turned s t r e = ap reverse e ∙ reverse-append t (r ∷ [])

module _ (P : ProgramTables) (h : Heap) (vs : List Value) where
  pub at_start : (s t : List ℕ) → AllByRecursion (IsIn h) (names_in vs) → s ≡ [] → t ≡ s ++ reverse (names_in vs) → Stands P h vs t []
  at_start s t within e f =
      let is : reverse t ≡ names_in vs = ap reverse (f ∙ ap (λ x. x ++ reverse (names_in vs)) e) ∙ reverse-reverse (names_in vs) in
      record {
        there = λ out w. subst (λ x. Walk (next_in P h) x [] out) is w;
        refuses = λ x w. subst (λ xs. MeetsRefused (next_in P h) (is_unsendable P h) xs [] x) is w;
        inside = subst (AllByRecursion (IsIn h)) (sym is) within;
        met = tt;
        sendable = tt;
      }

  pub at_inside : (s t : List ℕ) (r : ℕ) (seen : List ℕ) → Stands P h vs s seen → s ≡ t ++ r ∷ [] → IsIn h r
  at_inside s t r seen a e = (subst (AllByRecursion (IsIn h)) (turned s t r e) a.inside).0

  pub at_old : (s t : List ℕ) (r : ℕ) (seen : List ℕ) → Stands P h vs s seen → s ≡ t ++ r ∷ [] → is_met seen r ≡ true → Stands P h vs t seen
  at_old s t r seen a e m =
      let is = turned s t r e in
      record {
        there = λ out w. a.there out (subst (λ x. Walk (next_in P h) x seen out) (sym is) (again m w));
        refuses = λ x w. a.refuses x (subst (λ xs. MeetsRefused (next_in P h) (is_unsendable P h) xs seen x) (sym is) (again m w));
        inside = (subst (AllByRecursion (IsIn h)) is a.inside).1;
        met = a.met;
        sendable = a.sendable;
      }

  pub at_refused : (s t : List ℕ) (r : ℕ) (seen : List ℕ) → Stands P h vs s seen → s ≡ t ++ r ∷ [] → is_met seen r ≡ false → is_unsendable P h r ≡ true → FirstUnsendable P h vs r
  at_refused s t r seen a e m u =
      a.refuses r (subst (λ xs. MeetsRefused (next_in P h) (is_unsendable P h) xs seen r) (sym (turned s t r e)) (here m u))

  pub at_new : (s t u : List ℕ) (r : ℕ) (seen seen' : List ℕ) → Stands P h vs s seen → s ≡ t ++ r ∷ [] → is_met seen r ≡ false → is_unsendable P h r ≡ false
      → seen' ≡ with_last seen r → AllByRecursion (IsIn h) (next_in P h r) → u ≡ t ++ reverse (next_in P h r) → Stands P h vs u seen'
  at_new s t u r seen seen' a e m send f within g =
      let next = next_in P h in
      let now : reverse u ≡ next r ++ reverse t = ap reverse g ∙ reverse-append t (reverse (next r)) ∙ ap (λ x. x ++ reverse t) (reverse-reverse (next r)) in
      let more : seen' ≡ seen ++ r ∷ [] = f ∙ with_new seen r m in
      let turn = turned s t r e in
      let old : IsIn h r × AllByRecursion (IsIn h) (reverse t) = subst (AllByRecursion (IsIn h)) turn a.inside in
      record {
        there = λ out w. a.there out (subst (λ x. Walk next x seen out) (sym turn)
            (open_first next r (reverse t) seen out m (subst (λ x. Walk next x (seen ++ r ∷ []) out) now (subst (λ x. Walk next (reverse u) x out) more w))));
        refuses = λ x w. a.refuses x (subst (λ xs. MeetsRefused next (is_unsendable P h) xs seen x) (sym turn)
            (onward m send (subst (λ xs. MeetsRefused next (is_unsendable P h) xs (seen ++ r ∷ []) x) now (subst (λ y. MeetsRefused next (is_unsendable P h) (reverse u) y x) more w))));
        inside = subst (AllByRecursion (IsIn h)) (sym now) (both_all (IsIn h) (next r) (reverse t) within old.1);
        met = subst (AllByRecursion (IsIn h)) (sym more) (both_all (IsIn h) seen (r ∷ []) a.met (old.0, tt));
        sendable = subst (AllByRecursion (λ x. is_unsendable P h x ≡ false)) (sym more) (both_all (λ x. is_unsendable P h x ≡ false) seen (r ∷ []) a.sendable (send, tt));
      }

  pub at_end : (s seen : List ℕ) → Stands P h vs s seen → s ≡ [] → IsWalked P h vs seen
  at_end s seen a e = record {
    order = a.there seen (subst (λ x. Walk (next_in P h) (reverse x) seen seen) (sym e) over);
    inside = a.met;
    sendable = a.sendable;
  }

-- ---- how much is left

pub smaller_old : (next : ℕ → List ℕ) (n r : ℕ) (seen s t : List ℕ) → s ≡ t ++ r ∷ [] → length t + unmet next n seen < length s + unmet next n seen
smaller_old next n r seen s t e = let l : length s ≡ length t + 1 = ap length e ∙ length-append t (r ∷ []) in omega (arith, l)

pub smaller_new : (next : ℕ → List ℕ) (n r : ℕ) (seen seen' s t u : List ℕ) → s ≡ t ++ r ∷ [] → is_met seen r ≡ false → r < n → seen' ≡ with_last seen r
    → u ≡ t ++ reverse (next r) → length u + unmet next n seen' < length s + unmet next n seen
unfolding unmet
smaller_new next n r seen seen' s t u e m l f g =
    let a : length s ≡ length t + 1 = ap length e ∙ length-append t (r ∷ []) in
    let b : length u ≡ length t + length (next r) = ap length g ∙ length-append t (reverse (next r)) ∙ ap (λ x. length t + x) (length-reverse (next r)) in
    let more : seen' ≡ seen ++ r ∷ [] = f ∙ with_new seen r m in
    let same : left_of (is_met seen') (λ i. length (next i)) n ≡ left_of (is_met (seen ++ r ∷ [])) (λ i. length (next i)) n = ap (λ xs. left_of (is_met xs) (λ i. length (next i)) n) more in
    let d = left_less (is_met seen) (is_met (seen ++ r ∷ [])) (λ i. length (next i)) r (λ q ne. is_met-other seen r q ne) n l m (is_met-same seen r) in
    omega (arith, a, b, same, d)

-- ---- a refusal

pub refused_by : (P : ProgramTables) (h : Heap) (vs : List Value) (x : ℕ) (fault : CaptureFault) → OnNotSendable fault (λ c. IsOfClass h x c) → OnNotSendable fault (λ c. is_unsendable P h x ≡ true)
    → (is_unsendable P h x ≡ true → FirstUnsendable P h vs x) → OnNotSendable fault (λ c. RefusesClass P h vs c)
refused_by P h vs x (NotSendable c) of_class refused first = record { name = x; first = first refused; of_class = of_class }
refused_by P h vs x NoMemory of_class refused first = tt
