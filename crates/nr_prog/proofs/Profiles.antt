-- Methods of the profile, as a test and as facts.
use Rattle.std.proofs.Common.{◌≡◌, ℕ, Bool, true, false, not, ◌&&◌, ◌||◌, List, Some, refl, sym, ap, ◌∙◌}
use Rattle.std.specs.Prelude.{codes}
use Rattle.std.specs.Str.{bytes_eq}
use Rattle.std.specs.List.{All}
use Rattle.std.specs.Cmp.Lexicographic.{bytes_decides}
use Rattle.nr_base.proofs.ClassNames.{both_true, and_true}
use Rattle.nr_prog.specs.declared.pool.PoolEntry.{PoolEntry}
use Rattle.nr_prog.specs.declared.member.Method.{Method}
use Rattle.nr_prog.specs.Pool.{IsText, text_at}
use Rattle.nr_prog.specs.Legal.{IsVoidDesc}
use Rattle.nr_prog.specs.LegalTests.{is_void_desc}
use Rattle.nr_prog.specs.Members.{spells, is_static, is_abstract, is_plain, is_initialiser_formed, is_in_profile, is_profile_method}
use Rattle.nr_prog.specs.Form.{Spells, IsInitialiser}
use Rattle.nr_prog.proofs.LegalLaws.{void_is, of_void}
use Rattle.nr_prog.proofs.Members.{spells_at, profile_at}
use Rattle.nr_prog.proofs.Distinct.{has_text}
use Rattle.nr_prog.proofs.Spelled.{spells_is, text_of}

abbrev init : List ℕ
init = codes "<init>"

-- a method's descriptor returns nothing
abbrev void_of : List PoolEntry → Method → Type 0
void_of pool m = Spells IsVoidDesc pool m.desc

pub record InProfile (pool : List PoolEntry) (m : Method) : Type 0 where
  pub plain : is_plain m ≡ true
  pub initialiser : text_at pool m.name ≡ Some init → IsInitialiser pool m

owed : (a b : Bool) → a ≡ true → (not a || b) ≡ true → b ≡ true
owed true b e f = f
owed false b e f = absurd cc

owing : (a b : Bool) → (a ≡ true → b ≡ true) → (not a || b) ≡ true
owing true b h = h refl
owing false b h = refl

three : (a b c : Bool) → ((a && b) && c) ≡ true → (a ≡ true) × (b ≡ true) × (c ≡ true)
three true true c e = (refl, refl, e)
three true false c e = absurd cc
three false b c e = absurd cc

of_three : (a b c : Bool) → a ≡ true → b ≡ true → c ≡ true → ((a && b) && c) ≡ true
of_three true true c e f g = g
of_three true false c e f g = absurd cc
of_three false b c e f g = absurd cc

initialiser_is : (pool : List PoolEntry) (m : Method) (name desc : List ℕ) → All IsText pool → text_at pool m.name ≡ Some name → text_at pool m.desc ≡ Some desc
    → is_initialiser_formed name (is_void_desc desc) m.flags ≡ true → text_at pool m.name ≡ Some init → IsInitialiser pool m
initialiser_is pool m name desc all named described e is =
    let same : name ≡ init = cc in
    let t = three (not (is_static m.flags)) (not (is_abstract m.flags)) (is_void_desc desc) (owed (bytes_eq name init) _ ((bytes_decides name init).1 same) e) in
    record { not_static = t.0; not_abstract = t.1; void = spells_is is_void_desc IsVoidDesc pool m.desc all void_is (spells_at is_void_desc pool m.desc desc described ∙ t.2) }

of_initialiser : (pool : List PoolEntry) (m : Method) (name desc : List ℕ) → text_at pool m.name ≡ Some name → text_at pool m.desc ≡ Some desc
    → (text_at pool m.name ≡ Some init → IsInitialiser pool m) → is_initialiser_formed name (is_void_desc desc) m.flags ≡ true
of_initialiser pool m name desc named described h =
    owing (bytes_eq name init) _ (λ same.
    let is = h (named ∙ ap (λ (t : List ℕ). Some t) ((bytes_decides name init).0 same)) in
    let t = text_of IsVoidDesc pool m.desc is.void in
    let here : t.0 ≡ desc = same_text t.0 desc (sym t.1 ∙ described) in
    of_three (not (is_static m.flags)) (not (is_abstract m.flags)) (is_void_desc desc) is.not_static is.not_abstract (sym (ap is_void_desc here) ∙ of_void t.0 t.2))
  where
    same_text : (a b : List ℕ) → Some a ≡ Some b → a ≡ b
    same_text a b e = cc

pub profile_is : (pool : List PoolEntry) (m : Method) → All IsText pool → is_profile_method pool m ≡ true → InProfile pool m
unfolding is_profile_method is_in_profile
profile_is pool m all e =
    let name = has_text (λ x. spells (λ y. is_in_profile x (is_void_desc y) m) pool m.desc) pool m.name e in
    let inner = sym (spells_at (λ x. spells (λ y. is_in_profile x (is_void_desc y) m) pool m.desc) pool m.name name.0 name.1) ∙ e in
    let desc = has_text (λ y. is_in_profile name.0 (is_void_desc y) m) pool m.desc inner in
    let both = both_true (is_plain m) (is_initialiser_formed name.0 (is_void_desc desc.0) m.flags)
    (sym (spells_at (λ y. is_in_profile name.0 (is_void_desc y) m) pool m.desc desc.0 desc.1) ∙ inner) in
    record { plain = both.0; initialiser = initialiser_is pool m name.0 desc.0 all name.1 desc.1 both.1 }

pub of_profile : (pool : List PoolEntry) (m : Method) (name desc : List ℕ) → text_at pool m.name ≡ Some name → text_at pool m.desc ≡ Some desc → InProfile pool m → is_profile_method pool m ≡ true
unfolding is_in_profile
of_profile pool m name desc named described h =
    profile_at pool m name desc (is_void_desc desc) named described refl
    ∙ and_true (is_plain m) (is_initialiser_formed name (is_void_desc desc) m.flags) h.plain (of_initialiser pool m name desc named described h.initialiser)
