-- The loop that makes the outline of the loaded classes, one after the other.
use Rattle.std.proofs.Common.{◌≡◌, ℕ, suc, ◌+◌, ◌*◌, ◌≤◌, ◌^◌, List, [], ◌∷◌, ◌++◌, length, map, refl, sym, ap, subst, ◌∙◌, arith, append_assoc, length-append}
use Rattle.std.specs.Prelude.{Option, All}
use Rattle.std.specs.List.{flat_map, zip}
use Rattle.std.proofs.lemmas.List.{length-map, nil_from_length}
use Rattle.nr_prog.specs.declared.body.loaded.Loaded.{Loaded}
use Rattle.nr_prog.specs.declared.body.whole.Body.{Body}
use Rattle.nr_prog.specs.declared.member.Method.{Method}
use Rattle.nr_prog.specs.declared.parts.ClassParts.{ClassParts}
use Rattle.nr_linked.specs.declared.program.tables.ClassInfo.{ClassInfo}
use Rattle.nr_linked.specs.declared.program.tables.MethodInfo.{MethodInfo}
use Rattle.nr_prog.specs.BodyText.{EachBody, HasBodies}
use Rattle.nr_links.specs.Entries.{method_count}
use Rattle.nr_linkrules.specs.Outline.{outline_class, outline_classes, outline_method, outline_methods}
use Rattle.nr_link.proofs.Loops.{append_nil}

-- ---- counts

pub class_count : (names : List (List ℕ)) (first : ℕ) (classes : List Loaded) → length (outline_classes names first classes) ≡ length classes
unfolding outline_classes
class_count names first [] = refl
class_count names first (l ∷ ls) = let e = class_count names (first + length l.«class».methods) ls in omega (arith, e)

-- a method and a body each
pub both_long : (c : ClassParts) (ms : List Method) (bs : List (Option Body)) → EachBody c ms bs → length (zip ms bs) ≡ length ms
both_long c [] [] h = refl
both_long c (m ∷ ms) (b ∷ bs) h = let e = both_long c ms bs h.1 in omega (arith, e)
both_long c [] (b ∷ bs) h = absurd h
both_long c (m ∷ ms) [] h = absurd h

abbrev pub HasAll : Loaded → Type 0
HasAll l = HasBodies l.«class» l.bodies

first_of_all : (l : Loaded) (ls : List Loaded) → All HasAll (l ∷ ls) → HasAll l
first_of_all l ls all = all 0 l (omega arith)

others_of_all : (l : Loaded) (ls : List Loaded) → All HasAll (l ∷ ls) → All HasAll ls
others_of_all l ls all = λ k d lt. all (suc k) d (omega (arith, lt))

entry_count : (c : ℕ) (l : Loaded) → HasAll l → length (map (outline_method c l.«class».pool) (zip l.«class».methods l.bodies)) ≡ length l.«class».methods
entry_count c l h = length-map (zip l.«class».methods l.bodies) (outline_method c l.«class».pool) ∙ both_long l.«class» l.«class».methods l.bodies h

pub method_counts : (c : ℕ) (classes : List Loaded) → All HasAll classes → length (outline_methods c classes) ≡ method_count classes
unfolding outline_methods
method_counts c [] all = refl
method_counts c (l ∷ ls) all =
    let here = entry_count c l (first_of_all l ls all) in
    let rest = method_counts (c + 1) ls (others_of_all l ls all) in
    let sum = length-append (map (outline_method c l.«class».pool) (zip l.«class».methods l.bodies)) (outline_methods (c + 1) ls) in
    let both = length-append l.«class».methods (flat_map (λ (l : Loaded). l.«class».methods) ls) in
    omega (arith, here, rest, sum, both)

-- ---- the loop

-- the tables so far, and the classes that are left, of all of them
pub record Outlining (names : List (List ℕ)) (all : List Loaded) (classes : List ClassInfo) (methods : List MethodInfo) (left : List Loaded) : Type 0 where
  pub entries : classes ++ outline_classes names (length methods) left ≡ outline_classes names 0 all
  pub methods_are : methods ++ outline_methods (length classes) left ≡ outline_methods 0 all
  pub bodies : All HasAll left
  pub few_classes : length classes + length left ≤ 1024
  pub few_methods : length methods + 65536 * length left ≤ 2 ^ 26

pub begins : (names : List (List ℕ)) (all left : List Loaded) → left ≡ all → All HasAll all → length all ≤ 1024 → Outlining names all [] [] left
begins names all left e bodies few =
    let many = ap length e in
    record {
      entries = ap (λ l. outline_classes names 0 l) e;
      methods_are = ap (λ l. outline_methods 0 l) e;
      bodies = subst (All HasAll) (sym e) bodies;
      few_classes = omega (arith, many, few);
      few_methods = omega (arith, many, few);
    }

module _ (names : List (List ℕ)) (all : List Loaded) (classes : List ClassInfo) (methods : List MethodInfo) (l : Loaded) (before after : List Loaded) (is : before ≡ l ∷ after)
    (o : Outlining names all classes methods before) (more : List ClassInfo) (found : List MethodInfo) where
  pub goes_on : more ≡ classes ++ outline_class names (length methods) l.«class» ∷ []
      → found ≡ methods ++ map (outline_method (length classes) l.«class».pool) (zip l.«class».methods l.bodies)
      → length l.«class».methods ≤ 2 ^ 16 → Outlining names all more found after
  unfolding outline_classes outline_methods
  goes_on e f few =
      let bodies = subst (All HasAll) is o.bodies in
      let fresh = map (outline_method (length classes) l.«class».pool) (zip l.«class».methods l.bodies) in
      let here = entry_count (length classes) l (first_of_all l after bodies) in
      let class_sum : length more ≡ length classes + 1 = omega (arith, ap length e, length-append classes (outline_class names (length methods) l.«class» ∷ [])) in
      let method_sum : length found ≡ length methods + length l.«class».methods = omega (arith, ap length f, length-append methods fresh, here) in
      let left = ap length is in
      record {
        entries = ap (λ n. more ++ outline_classes names n after) method_sum
            ∙ ap (λ m. m ++ outline_classes names (length methods + length l.«class».methods) after) e
            ∙ append_assoc classes (outline_class names (length methods) l.«class» ∷ []) (outline_classes names (length methods + length l.«class».methods) after)
            ∙ sym (ap (λ b. classes ++ outline_classes names (length methods) b) is) ∙ o.entries;
        methods_are = ap (λ n. found ++ outline_methods n after) class_sum
            ∙ ap (λ m. m ++ outline_methods (length classes + 1) after) f
            ∙ append_assoc methods fresh (outline_methods (length classes + 1) after)
            ∙ sym (ap (λ b. methods ++ outline_methods (length classes) b) is) ∙ o.methods_are;
        bodies = others_of_all l after bodies;
        few_classes = omega (arith, class_sum, left, o.few_classes);
        few_methods = omega (arith, method_sum, left, few, o.few_methods);
      }

module _ (names : List (List ℕ)) (all : List Loaded) (classes : List ClassInfo) (methods : List MethodInfo) (left : List Loaded) (n : ℕ) (len : length left ≡ n) (none : n ≡ 0)
    (o : Outlining names all classes methods left) where
  pub all_classes : classes ≡ outline_classes names 0 all
  unfolding outline_classes
  all_classes = sym (append_nil classes) ∙ ap (λ l. classes ++ outline_classes names (length methods) l) (sym (nil_from_length left (len ∙ none))) ∙ o.entries

  pub all_methods : methods ≡ outline_methods 0 all
  unfolding outline_methods
  all_methods = sym (append_nil methods) ∙ ap (λ l. methods ++ outline_methods (length classes) l) (sym (nil_from_length left (len ∙ none))) ∙ o.methods_are
