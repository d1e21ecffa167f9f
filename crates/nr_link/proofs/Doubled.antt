-- The walk that looks for a second class of one name.
use Rattle.std.proofs.Common.{◌≡◌, ℕ, zero, suc, ◌+◌, ◌<◌, ◌≤◌, not, List, [], ◌∷◌, ◌++◌, length, map, take, drop, get_or, Option, None, refl, sym, ap, subst, ◌∙◌, arith}
use Rattle.std.specs.List.{list_any}
use Rattle.std.proofs.lemmas.List.{length-map, take_all}
use Rattle.std.specs.Str.{bytes_eq}
use Rattle.nr_prog.specs.declared.body.loaded.Loaded.{Loaded}
use Rattle.nr_linkrules.specs.declared.fault.LinkFault.{LinkFault}
use Rattle.nr_linkrules.specs.declared.fault.LinkFault.TheVariants as faults
use Rattle.nr_linkrules.specs.ClassRules.{doubled_fault}
use Rattle.nr_linkrules.specs.Faults.{Fails, first_numbered, unless}
use Rattle.nr_linkrules.specs.Outline.{own_name, own_names}
use Rattle.nr_link.proofs.Walks.{ends, fails_in, goes_on}

taken : {X Y : Type 0} (f : X → Y) (xs : List X) (i : ℕ) (d : X) → i < length xs → take (i + 1) (map f xs) ≡ take i (map f xs) ++ f (get_or xs i d) ∷ []
taken f [] i d lt = absurd (omega (arith, lt))
taken f (x ∷ xs) zero d lt = refl
taken f (x ∷ xs) (suc i) d lt =
    let e : suc i + 1 ≡ suc (i + 1) = omega arith in
    ap (λ n. take n (f x ∷ map f xs)) e ∙ ap (λ ys. f x ∷ ys) (taken f xs i d (omega (arith, lt)))

-- the names so far are those of the classes before place i
pub record Walk (classes : List Loaded) (i : ℕ) (names : List (List ℕ)) : Type 0 where
  pub found : first_numbered (doubled_fault (own_names classes)) i (drop i classes) ≡ first_numbered (doubled_fault (own_names classes)) 0 classes
  pub seen : names ≡ take i (own_names classes)

-- what is looked at with the names so far
abbrev pub fault_with : List (List ℕ) → Loaded → Option LinkFault
fault_with names l = unless (not (list_any (bytes_eq (own_name l.«class»)) names)) (faults.DoubledClass (own_name l.«class»))

module _ (classes : List Loaded) (i : ℕ) (l : Loaded) (names : List (List ℕ)) (lt : i < length classes) (here : l ≡ get_or classes i l) (walk : Walk classes i names) where
  same : fault_with names l ≡ doubled_fault (own_names classes) i (get_or classes i l)
  same = ap (λ names. fault_with names l) walk.seen ∙ ap (doubled_fault (own_names classes) i) here

  pub walks_on : (more : List (List ℕ)) → fault_with names l ≡ None → more ≡ names ++ own_name l.«class» ∷ [] → Walk classes (i + 1) more
  walks_on more none e = record {
    found = goes_on (doubled_fault (own_names classes)) i i classes l (first_numbered (doubled_fault (own_names classes)) 0 classes) lt (sym same ∙ none) walk.found;
    seen = e ∙ ap (λ names. names ++ own_name l.«class» ∷ []) walk.seen ∙ ap (λ (l : Loaded). take i (own_names classes) ++ own_name l.«class» ∷ []) here
        ∙ sym (taken (λ (l : Loaded). own_name l.«class») classes i l lt);
  }

  pub fails : (e : LinkFault) → Fails e (fault_with names l) → Fails e (first_numbered (doubled_fault (own_names classes)) 0 classes)
  fails e f = fails_in (doubled_fault (own_names classes)) i i classes l (first_numbered (doubled_fault (own_names classes)) 0 classes) e lt (subst (Fails e) same f) walk.found

pub walked : (classes : List Loaded) (i : ℕ) (names : List (List ℕ)) → length classes ≤ i → Walk classes i names → first_numbered (doubled_fault (own_names classes)) 0 classes ≡ None
walked classes i names le walk = ends (doubled_fault (own_names classes)) i i classes (first_numbered (doubled_fault (own_names classes)) 0 classes) le walk.found

pub all_seen : (classes : List Loaded) (i : ℕ) (names : List (List ℕ)) → length classes ≤ i → Walk classes i names → names ≡ own_names classes
all_seen classes i names le walk =
    walk.seen ∙ take_all i (own_names classes) (subst (λ n. n ≤ i) (sym (length-map classes (λ (l : Loaded). own_name l.«class»))) le)

pub begins : (classes : List Loaded) (names : List (List ℕ)) → names ≡ [] → Walk classes 0 names
begins classes names e = record { found = refl; seen = e ∙ sym (take-zero (own_names classes)) }
  where
    take-zero : {X : Type 0} (xs : List X) → take 0 xs ≡ []
    take-zero xs = refl
