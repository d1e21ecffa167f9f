-- What is found for instructions, one after the other.
use Rattle.std.proofs.Common.{◌≡◌, ℕ, ◌+◌, ◌<◌, Bool, true, false, List, [], ◌∷◌, ◌++◌, length, drop, get_or, map, refl, sym, ap, subst, ◌∙◌}
use Rattle.std.specs.Prelude.{Option, Some, None, Ok, Err, if◌then◌else◌}
use Rattle.std.specs.Bool.{MatchBool}
use Rattle.std.specs.Option.{option_map_or}
use Rattle.nr_prog.specs.declared.pool.PoolEntry.{PoolEntry}
use Rattle.nr_prog.specs.BodyNames.{desc_text_at}
use Rattle.nr_instrs.specs.Checks.{then_on}
use Rattle.nr_linked.specs.declared.program.kind.Kind.{Kind}
use Rattle.nr_linked.specs.declared.program.tables.ProgramTables.{ProgramTables}
use Rattle.nr_linked.specs.declared.program.tables.Resolved.{Resolved}
use Rattle.nr_linked.specs.declared.program.tables.Resolved.TheVariants as resolved
use Rattle.nr_linked.specs.Programs.{method_at}
use Rattle.nr_links.specs.Named.{name_text_at}
use Rattle.nr_linkrules.specs.declared.fault.LinkFault.{LinkFault}
use Rattle.nr_linkrules.specs.declared.fault.LinkFault.TheVariants as faults
use Rattle.nr_linkrules.specs.Completion.{or_nothing}
use Rattle.nr_linkrules.specs.Faults.{Fails, first_of, is_free}
use Rattle.nr_linkrules.specs.Outline.{some_text}
use Rattle.nr_linkrules.specs.SiteRules.{Finding, Place, Search, callable, can_call, fault_of, kind_at, no_method, on_member, or_fault}
use Rattle.nr_link.proofs.Loops.{maps_at}
use Rattle.nr_link.proofs.Walks.{either, goes_on_of}

-- what fails as a search does fails by its fault
pub fault_is : {A : Type 0} (e : LinkFault) (o : Finding A) → MatchBool (is_free e) (Unit {0}) (o ≡ Err e) → Fails e (fault_of o)
fault_is e o f = either (is_free e) (λ is. ap fault_of is) f

pub no_fault : {A : Type 0} (o : Finding A) (x : A) → o ≡ Ok x → fault_of o ≡ None
no_fault o x is = ap fault_of is

pub found_is : (o : Finding Resolved) (r : Resolved) → o ≡ Ok r → r ≡ or_nothing o
found_is o r is = sym (ap or_nothing is)

-- ---- a member of a class or an array that is known

pub of_kind : (P : ProgramTables) (pool : List PoolEntry) (search_in : Search) (named member : ℕ) (k : Kind) (name desc : List ℕ) (found : Finding Resolved) → kind_at P pool named ≡ Ok k
    → name ≡ some_text (name_text_at pool member) → desc ≡ some_text (desc_text_at pool member) → search_in name desc k ≡ found → on_member P pool search_in named member ≡ found
of_kind P pool search_in named member k name desc found is n d e =
    ap (λ (o : Finding Kind). then_on o (search_in (some_text (name_text_at pool member)) (some_text (desc_text_at pool member)))) is
    ∙ (λ i. search_in (sym n i) (sym d i) k) ∙ e

pub call_found : (P : ProgramTables) (p : Place) (code m c : ℕ) (found : Option (ℕ × ℕ)) (can : Bool) → found ≡ Some (m, c) → can ≡ option_map_or (can_call P p.own code c) (method_at P m) false → can ≡ true
    → ◌≡◌ {A = Finding Resolved} (then_on (or_fault (no_method p) found) (λ m. callable P p code m.1 m.0)) (Ok (resolved.Method m c))
call_found P p code m c found can is test e =
    ap (λ (found : Option (ℕ × ℕ)). then_on (or_fault (no_method p) found) (λ m. callable P p code m.1 m.0)) is
    ∙ ap (λ b. if b then Ok (resolved.Method m c) else Err (faults.MemberKind p.class_name p.method p.at)) (sym test ∙ e)

pub call_refused : (P : ProgramTables) (p : Place) (code m c : ℕ) (found : Option (ℕ × ℕ)) (can : Bool) → found ≡ Some (m, c) → can ≡ option_map_or (can_call P p.own code c) (method_at P m) false → can ≡ false
    → ◌≡◌ {A = Finding Resolved} (then_on (or_fault (no_method p) found) (λ m. callable P p code m.1 m.0)) (Err (faults.MemberKind p.class_name p.method p.at))
call_refused P p code m c found can is test e =
    ap (λ (found : Option (ℕ × ℕ)). then_on (or_fault (no_method p) found) (λ m. callable P p code m.1 m.0)) is
    ∙ ap (λ b. if b then Ok (resolved.Method m c) else Err (faults.MemberKind p.class_name p.method p.at)) (sym test ∙ e)

-- ---- loops

-- an item that was taken from its place has no fault
pub goes_at_of : {X : Type 0} (fault : X → Option LinkFault) (i : ℕ) (xs : List X) (x : X) (total : Option LinkFault) → i < length xs → x ≡ get_or xs i x
    → fault x ≡ None → first_of fault (drop i xs) ≡ total → first_of fault (drop (i + 1) xs) ≡ total
goes_at_of fault i xs x total lt here none so_far = goes_on_of fault i xs x total lt (subst (λ y. fault y ≡ None) here none) so_far

-- what is put at the end of a list is what the item gives
pub pushes : {X Y : Type 0} (f : X → Y) (i : ℕ) (xs : List X) (x : X) (out longer : List Y) (y : Y) (total : List Y) → i < length xs → x ≡ get_or xs i x → y ≡ f x → longer ≡ out ++ y ∷ []
    → out ++ map f (drop i xs) ≡ total → longer ++ map f (drop (i + 1) xs) ≡ total
pushes f i xs x out longer y total lt here e is so_far = ap (λ ys. ys ++ map f (drop (i + 1) xs)) is ∙ maps_at f i xs x out y total lt here e so_far
