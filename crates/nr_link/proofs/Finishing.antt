-- What linking finds for methods, put together.
use Rattle.std.proofs.Common.{◌≡◌, ℕ, zero, suc, ◌+◌, ◌-◌, ◌<◌, ◌≤◌, List, [], ◌∷◌, ◌++◌, length, drop, get_or, take, map, refl, sym, ap, subst, ◌∙◌, append_assoc, arith}
use Rattle.std.specs.Prelude.{All, Option, Some, None}
use Rattle.std.proofs.lemmas.List.{nil_from_length}
use Rattle.std.specs.List.{flat_map, zip}
use Rattle.std.specs.Option.{option_map_or, option_or}
use Rattle.nr_prog.specs.declared.body.whole.Body.{Body}
use Rattle.nr_linked.specs.declared.program.tables.MethodInfo.{MethodInfo}
use Rattle.nr_linked.specs.declared.program.tables.ProgramTables.{ProgramTables}
use Rattle.nr_linked.specs.Linked.{first_built_in_method}
use Rattle.nr_linkrules.specs.declared.fault.LinkFault.{LinkFault}
use Rattle.nr_linkrules.specs.Completion.{completed}
use Rattle.nr_linkrules.specs.Faults.{first_of}
use Rattle.nr_linkrules.specs.LinkFaults.{code_faults}
use Rattle.nr_linkrules.specs.SiteRules.{around_fault, code_fault}
use Rattle.nr_link.specs.declared.completion.Found.{Found}
use Rattle.nr_link.specs.Completing.{completed_by, found_for}
use Rattle.nr_link.specs.Finished.{finished, later_methods, loaded_methods}
use Rattle.nr_link.proofs.AroundMethods.{no_around_fault}
use Rattle.nr_link.proofs.CodedMethods.{no_code_fault}
use Rattle.nr_link.proofs.Loops.{append_nil, none_zip, one_each}
use Rattle.nr_link.proofs.Parts.{first_of_both, or_none}

-- ---- methods without code

none_of : (fault : MethodInfo → Option LinkFault) → ((i : MethodInfo) → i.body ≡ None → fault i ≡ None) → (is : List MethodInfo) → All (λ (i : MethodInfo). i.body ≡ None) is → first_of fault is ≡ None
unfolding first_of
none_of fault h [] all = refl
none_of fault h (i ∷ is) all =
    ap (λ o. option_or o (first_of fault is)) (h i (all 0 i (omega arith))) ∙ none_of fault h is (λ k d lt. all (suc k) d (omega (arith, lt)))

halves : {X : Type 0} (n : ℕ) (xs : List X) → take n xs ++ drop n xs ≡ xs
halves zero xs = refl
halves (suc n) [] = refl
halves (suc n) (x ∷ xs) = ap (λ ys. x ∷ ys) (halves n xs)

module _ (P : ProgramTables) (later : All (λ (i : MethodInfo). i.body ≡ None) (later_methods P)) where
  in_loaded : (fault : MethodInfo → Option LinkFault) → ((i : MethodInfo) → i.body ≡ None → fault i ≡ None) → first_of fault P.methods ≡ first_of fault (loaded_methods P)
  in_loaded fault h =
      ap (first_of fault) (sym (halves _ P.methods)) ∙ first_of_both fault (loaded_methods P) (later_methods P)
      ∙ ap (option_or (first_of fault (loaded_methods P))) (none_of fault h (later_methods P) later) ∙ or_none (first_of fault (loaded_methods P))

  -- the faults of code are those of the methods of classes that were loaded
  pub faults_in_loaded : option_or (first_of (code_fault P) (loaded_methods P)) (first_of (around_fault P) (loaded_methods P)) ≡ code_faults P
  unfolding code_faults
  faults_in_loaded = sym (λ i. option_or (in_loaded (code_fault P) (no_code_fault P) i) (in_loaded (around_fault P) (no_around_fault P) i))

-- ---- methods completed

by_found : (P : ProgramTables) (i : MethodInfo) → completed_by i (found_for P i) ≡ completed P i
unfolding completed
by_found P i = refl

zipped : (P : ProgramTables) (n : ℕ) (is : List MethodInfo) → map (λ (p : MethodInfo × Found). completed_by p.0 p.1) (zip is (map (found_for P) (take n is))) ≡ map (completed P) (take n is)
zipped P zero [] = refl
zipped P zero (i ∷ is) = refl
zipped P (suc n) [] = refl
zipped P (suc n) (i ∷ is) = λ j. by_found P i j ∷ zipped P n is j

dropped : (n : ℕ) (is : List MethodInfo) (m : ℕ) → m ≡ length (take n is) → drop m is ≡ drop n is
dropped n is m e = ap (λ m. drop m is) e ∙ short n is
  where
    short : (n : ℕ) (is : List MethodInfo) → drop (length (take n is)) is ≡ drop n is
    short zero is = refl
    short (suc n) [] = refl
    short (suc n) (i ∷ is) = short n is

pub all_completed : (P : ProgramTables) (n : ℕ) (is : List MethodInfo) (found : List Found) → found ≡ map (found_for P) (take n is)
    → map (λ (p : MethodInfo × Found). completed_by p.0 p.1) (zip is found) ++ drop (length found) is ≡ map (completed P) (take n is) ++ drop n is
all_completed P n is found e =
    ap (λ (found : List Found). map (λ (p : MethodInfo × Found). completed_by p.0 p.1) (zip is found) ++ drop (length found) is) e
    ∙ (λ j. zipped P n is j ++ dropped n is (length (map (found_for P) (take n is))) (Rattle.std.proofs.lemmas.List.length-map (take n is) (found_for P)) j)

-- ---- a loop over methods and what was found for them

pub completes : (i : MethodInfo) (f : Found) (before after : List MethodInfo) (found more : List Found) (out total : List MethodInfo)
    → before ≡ i ∷ after → found ≡ f ∷ more
    → out ++ (map (λ (p : MethodInfo × Found). completed_by p.0 p.1) (zip before found) ++ drop (length found) before) ≡ total
    → (out ++ completed_by i f ∷ []) ++ (map (λ (p : MethodInfo × Found). completed_by p.0 p.1) (zip after more) ++ drop (length more) after) ≡ total
completes i f before after found more out total b e so_far =
    append_assoc out (completed_by i f ∷ []) _
    ∙ sym (λ j. out ++ (map (λ (p : MethodInfo × Found). completed_by p.0 p.1) (zip (b j) (e j)) ++ drop (length (e j)) (b j))) ∙ so_far

-- where nothing more was found
nothing_found : (is : List MethodInfo) → map (λ (p : MethodInfo × Found). completed_by p.0 p.1) (zip is []) ++ is ≡ is
nothing_found is = ap (λ (ps : List (MethodInfo × Found)). map (λ (p : MethodInfo × Found). completed_by p.0 p.1) ps ++ is) (none_zip is)

pub leaves : (i : MethodInfo) (before after : List MethodInfo) (found : List Found) (out total : List MethodInfo) → before ≡ i ∷ after → found ≡ []
    → out ++ (map (λ (p : MethodInfo × Found). completed_by p.0 p.1) (zip before found) ++ drop (length found) before) ≡ total
    → (out ++ i ∷ []) ++ (map (λ (p : MethodInfo × Found). completed_by p.0 p.1) (zip after found) ++ drop (length found) after) ≡ total
leaves i before after found out total b e so_far =
    append_assoc out (i ∷ []) _
    ∙ ap (λ (found : List Found). out ++ i ∷ (map (λ (p : MethodInfo × Found). completed_by p.0 p.1) (zip after found) ++ drop (length found) after)) e
    ∙ ap (λ (is : List MethodInfo). out ++ i ∷ is) (nothing_found after)
    ∙ ap (λ (is : List MethodInfo). out ++ is) (sym (nothing_found before ∙ b))
    ∙ ap (λ (found : List Found). out ++ (map (λ (p : MethodInfo × Found). completed_by p.0 p.1) (zip before found) ++ drop (length found) before)) (sym e)
    ∙ so_far

pub all_done : (before : List MethodInfo) (found : List Found) (out total : List MethodInfo) → before ≡ []
    → out ++ (map (λ (p : MethodInfo × Found). completed_by p.0 p.1) (zip before found) ++ drop (length found) before) ≡ total → out ≡ total
all_done before found out total b so_far =
    sym (append_nil out) ∙ ap (λ (is : List MethodInfo). out ++ is) (sym (none_dropped (length found)))
    ∙ ap (λ (is : List MethodInfo). out ++ (map (λ (p : MethodInfo × Found). completed_by p.0 p.1) (zip is found) ++ drop (length found) is)) (sym b) ∙ so_far
  where
    none : List MethodInfo
    none = []

    none_dropped : (n : ℕ) → drop n none ≡ []
    none_dropped zero = refl
    none_dropped (suc n) = refl

-- ---- a loop over items and what each gives

pub tails : {X Y : Type 0} (f : X → Y) (i : ℕ) (xs : List X) (d : X) (y : Y) (before after : List Y) → i < length xs → before ≡ y ∷ after → before ≡ map f (drop i xs) → after ≡ map f (drop (i + 1) xs)
tails f i xs d y before after lt b all =
    let e : y ∷ after ≡ f (get_or xs i d) ∷ map f (drop (i + 1) xs) = sym b ∙ all ∙ one_each f i xs d lt in cc

-- the same of lists that were made longer
pub completes_on : (i : MethodInfo) (f : Found) (before after : List MethodInfo) (found more : List Found) (out longer : List MethodInfo) (y : MethodInfo) (total : List MethodInfo)
    → before ≡ i ∷ after → found ≡ f ∷ more → y ≡ completed_by i f → longer ≡ out ++ y ∷ []
    → out ++ (map (λ (p : MethodInfo × Found). completed_by p.0 p.1) (zip before found) ++ drop (length found) before) ≡ total
    → longer ++ (map (λ (p : MethodInfo × Found). completed_by p.0 p.1) (zip after more) ++ drop (length more) after) ≡ total
completes_on i f before after found more out longer y total b e is l so_far =
    ap (λ (ys : List MethodInfo). ys ++ (map (λ (p : MethodInfo × Found). completed_by p.0 p.1) (zip after more) ++ drop (length more) after)) (l ∙ ap (λ (y : MethodInfo). out ++ y ∷ []) is)
    ∙ completes i f before after found more out total b e so_far

pub leaves_on : (i : MethodInfo) (before after : List MethodInfo) (found later : List Found) (out longer total : List MethodInfo) → before ≡ i ∷ after → found ≡ later → length found ≡ 0 → longer ≡ out ++ i ∷ []
    → out ++ (map (λ (p : MethodInfo × Found). completed_by p.0 p.1) (zip before found) ++ drop (length found) before) ≡ total
    → longer ++ (map (λ (p : MethodInfo × Found). completed_by p.0 p.1) (zip after later) ++ drop (length later) after) ≡ total
leaves_on i before after found later out longer total b same none l so_far =
    ap (λ (ys : List MethodInfo). ys ++ (map (λ (p : MethodInfo × Found). completed_by p.0 p.1) (zip after later) ++ drop (length later) after)) l
    ∙ leaves i before after later out total b (sym same ∙ nil_from_length found none)
    (ap (λ (fs : List Found). out ++ (map (λ (p : MethodInfo × Found). completed_by p.0 p.1) (zip before fs) ++ drop (length fs) before)) (sym same) ∙ so_far)

-- ---- the methods of classes that were loaded, as the first of all

pub loaded_by : (P : ProgramTables) (count len : ℕ) (ms : List MethodInfo) → count ≡ len - 23 → len ≡ length P.methods → ms ≡ P.methods → take count ms ≡ loaded_methods P
loaded_by P count len ms c l m =
    let n : count ≡ length P.methods - 23 = c ∙ ap (λ n. n - 23) l in
    λ i. take (n i) (m i)

pub faults_by : (P : ProgramTables) → All (λ (i : MethodInfo). i.body ≡ None) (later_methods P) → (ms : List MethodInfo) → ms ≡ loaded_methods P
    → option_or (first_of (code_fault P) ms) (first_of (around_fault P) ms) ≡ code_faults P
faults_by P later ms e = ap (λ (ms : List MethodInfo). option_or (first_of (code_fault P) ms) (first_of (around_fault P) ms)) e ∙ faults_in_loaded P later

pub finishes : (P : ProgramTables) (ms methods : List MethodInfo) (found : List Found) → ms ≡ loaded_methods P → found ≡ map (found_for P) ms
    → methods ≡ map (λ (p : MethodInfo × Found). completed_by p.0 p.1) (zip P.methods found) ++ drop (length found) P.methods
    → record P { methods = methods } ≡ finished P
finishes P ms methods found e f m =
    let all = m ∙ all_completed P (first_built_in_method P) P.methods found (f ∙ ap (map (found_for P)) e) in
    λ i. record P { methods = all i }
