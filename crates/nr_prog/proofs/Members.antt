-- What is known of a member whose name and descriptor were read.
use Rattle.std.proofs.Common.{◌≡◌, ℕ, ◌+◌, ◌<◌, ◌≤◌, Bool, false, ◌&&◌, ◌||◌, List, length, get_or, take, drop, Option, Some, None, refl, sym, ap, subst, ◌∙◌}
use Rattle.std.proofs.lemmas.List.Folds.{list_any_more}
use Rattle.std.specs.Str.{bytes_eq}
use Rattle.std.specs.List.{list_any}
use Rattle.std.specs.Option.{option_map_or}
use Rattle.nr_prog.specs.declared.pool.PoolEntry.{PoolEntry}
use Rattle.nr_prog.specs.Pool.{text_at}
use Rattle.nr_prog.specs.declared.member.Field.{Field}
use Rattle.nr_prog.specs.declared.member.Method.{Method}
use Rattle.nr_prog.specs.declared.fault.FormFault.{FormFault}
use Rattle.nr_prog.specs.Faults.{Fails, first_fault}
use Rattle.nr_prog.specs.Rules.{field_fault, method_fault, members_fault}
use Rattle.nr_prog.specs.Members.{spells, is_spelled, is_among, is_in, is_in_profile, is_profile_method}
use Rattle.nr_prog.proofs.Walks.{goes_on, fails_in, ends}
use Rattle.nr_prog.specs.LegalTests.{is_void_desc}

pub spells_at : (test : List ℕ → Bool) (pool : List PoolEntry) (index : ℕ) (text : List ℕ) → text_at pool index ≡ Some text → spells test pool index ≡ test text
unfolding spells
spells_at test pool index text e = ap (λ o. option_map_or test o false) e

-- the texts are among the earlier ones
pub among_at : (earlier : List ℕ → List ℕ → Bool) (pool : List PoolEntry) (n d : ℕ) (name desc : List ℕ) → text_at pool n ≡ Some name → text_at pool d ≡ Some desc → is_among earlier pool n d ≡ earlier name desc
unfolding is_among
among_at earlier pool n d name desc a b = spells_at (λ x. spells (earlier x) pool d) pool n name a ∙ spells_at (earlier name) pool d desc b

pub spelled_at : (pool : List PoolEntry) (x y : List ℕ) (n d : ℕ) (name desc : List ℕ) → text_at pool n ≡ Some name → text_at pool d ≡ Some desc → is_spelled pool x y n d ≡ (bytes_eq x name && bytes_eq y desc)
unfolding is_spelled
spelled_at pool x y n d name desc a b = λ i. spells_at (bytes_eq x) pool n name a i && spells_at (bytes_eq y) pool d desc b i

pub profile_at : (pool : List PoolEntry) (m : Method) (name desc : List ℕ) (void : Bool) → text_at pool m.name ≡ Some name → text_at pool m.desc ≡ Some desc → void ≡ is_void_desc desc → is_profile_method pool m ≡ is_in_profile name void m
unfolding is_profile_method
profile_at pool m name desc void a b v =
    spells_at (λ x. spells (λ y. is_in_profile x (is_void_desc y) m) pool m.desc) pool m.name name a
    ∙ spells_at (λ y. is_in_profile name (is_void_desc y) m) pool m.desc desc b ∙ ap (λ t. is_in_profile name t m) (sym v)

-- ---- members in order

module _ {X : Type 0} (name_of desc_of : X → ℕ) (fault : (List ℕ → List ℕ → Bool) → ℕ → X → Option FormFault) (pool : List PoolEntry) (members : List X) where
  abbrev fault_at : ℕ → X → Option FormFault
  fault_at place m = fault (is_in name_of desc_of pool (take place members)) place m

  -- A walk along the members is at place i: the fault of all is that of those from there on, and the earlier ones
  -- are told.
  pub record Walk (i : ℕ) (earlier : List ℕ → List ℕ → Bool) : Type 0 where
    pub found : first_fault fault_at i (drop i members) ≡ members_fault name_of desc_of fault pool members
    pub seen : (x y : List ℕ) → earlier x y ≡ is_in name_of desc_of pool (take i members) x y

  -- a fault does not depend on how the earlier members are told
  same_fault : (place : ℕ) (m : X) (p q : List ℕ → List ℕ → Bool) → ((x y : List ℕ) → p x y ≡ q x y) → fault p place m ≡ fault q place m
  same_fault place m p q same = λ i. fault (λ x y. same x y i) place m

  pub begins : (earlier : List ℕ → List ℕ → Bool) → ((x y : List ℕ) → earlier x y ≡ false) → Walk 0 earlier
  unfolding is_in
  begins earlier none = record { found = refl; seen = none }

  -- the member m at place i has no fault
  pub walks_on : (i : ℕ) (m : X) (earlier later : List ℕ → List ℕ → Bool) → i < length members → m ≡ get_or members i m → fault earlier i m ≡ None
      → ((x y : List ℕ) → later x y ≡ (earlier x y || is_spelled pool x y (name_of m) (desc_of m)))
      → Walk i earlier → Walk (i + 1) later
  unfolding is_in
  walks_on i m earlier later lt here none more walk =
      let is_like : X → List ℕ → List ℕ → Bool = λ n x y. is_spelled pool x y (name_of n) (desc_of n) in
      record {
        found = goes_on fault_at i i members m (members_fault name_of desc_of fault pool members) lt
            (ap (fault_at i) (sym here) ∙ sym (same_fault i m earlier (is_in name_of desc_of pool (take i members)) walk.seen) ∙ none) walk.found;
        seen = λ x y. more x y ∙ ap (λ (t : Bool). t || is_like m x y) (walk.seen x y)
            ∙ ap (λ (n : X). list_any (λ k. is_like k x y) (take i members) || is_like n x y) here
            ∙ sym (list_any_more (λ (n : X). is_like n x y) members i m lt);
      }

  -- the member m at place i has one
  pub fails : (i : ℕ) (m : X) (earlier : List ℕ → List ℕ → Bool) (e : FormFault) → i < length members → m ≡ get_or members i m → Fails e (fault earlier i m)
      → Walk i earlier → Fails e (members_fault name_of desc_of fault pool members)
  fails i m earlier e lt here f walk =
      fails_in fault_at i i members m (members_fault name_of desc_of fault pool members) e lt
      (subst (λ o. Fails e o) (same_fault i m earlier (is_in name_of desc_of pool (take i members)) walk.seen ∙ ap (fault_at i) here) f) walk.found

  pub walked : (i : ℕ) (earlier : List ℕ → List ℕ → Bool) → length members ≤ i → Walk i earlier → members_fault name_of desc_of fault pool members ≡ None
  walked i earlier le walk = ends fault_at i i members (members_fault name_of desc_of fault pool members) le walk.found

-- a walk along fields
abbrev pub FieldWalk : List PoolEntry → List Field → ℕ → (List ℕ → List ℕ → Bool) → Type 0
FieldWalk pool fields = Walk (λ (f : Field). f.name) (λ (f : Field). f.desc) (λ earlier place. field_fault pool earlier) pool fields

abbrev pub MethodWalk : List PoolEntry → List Method → ℕ → (List ℕ → List ℕ → Bool) → Type 0
MethodWalk pool methods = Walk (λ (m : Method). m.name) (λ (m : Method). m.desc) (method_fault pool) pool methods
