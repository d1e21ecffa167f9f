-- How a description is written, class by class on the way up.
use Rattle.std.proofs.Common.{◌≡◌, ℕ, ◌<◌, ◌^◌, Bool, true, false, List, [], ◌∷◌, ◌++◌, length, nat_le, refl, sym, ap, subst, ◌∙◌, append_assoc, append-nil, arith, if◌then◌else◌}
use Rattle.std.specs.Prelude.{Option, Some, None, T}
use Rattle.std.specs.Option.{option_and_then, option_map_or, IfSome}
use Rattle.std.specs.Int.{w32, to_be_bytes}
use Rattle.std.proofs.Math.Facts.{leb_yes}
use Rattle.std.proofs.lemmas.Bool.{false≢true}
use Rattle.nr_linked.specs.declared.program.kind.Kind.{Kind}
use Rattle.nr_linked.specs.declared.program.tables.ProgramTables.{ProgramTables}
use Rattle.nr_linked.specs.Facts.{ProgramFacts}
use Rattle.nr_linked.specs.Kinds.{class_in, class_kind, is_array}
use Rattle.nr_linked.specs.KindTexts.{kind_text}
use Rattle.nr_linked.specs.Sendable.{is_class_sendable, is_sendable}
use Rattle.nr_serform.specs.ClassNumbers.{class_number}
use Rattle.nr_serform.specs.Descriptions.{Describes, IsNumberOf, nothing, again, anew, described_super, own_table, own_text, super_but_object}
use Rattle.nr_serform.specs.Entries.{Class}
use Rattle.nr_serform.specs.Handles.{Table, has, handle, handle_text}
use Rattle.nr_serwrite.proofs.Heights.{height, super_is_lower}
use Rattle.nr_serwrite.specs.Texts.{Climbs, HasShortName, IsDescribed, written_number}

-- ---- names

-- what a call carries has a short name
pub sendable_short : (P : ProgramTables) (kind : Kind) → T (is_sendable P kind) → HasShortName P kind
sendable_short P kind s a = by (is_array kind) a s
  where
    by : (b : Bool) → b ≡ true → T (if b then nat_le (length (kind_text P kind)) 65535 else option_map_or (is_class_sendable P) (class_in kind.base) false) → length (kind_text P kind) < 2 ^ 16
    by true e s = let l = leb_yes s in omega (arith, l)
    by false e s = absurd (false≢true e)

-- a class has one, as each superclass
pub super_short : (P : ProgramTables) (kind : Kind) → IfSome (described_super P kind) (HasShortName P)
unfolding described_super
super_short P kind = by (is_array kind) (class_in kind.base)
  where
    no_array : (o : Option ℕ) → IfSome (option_and_then (λ d. Some (class_kind d)) o) (HasShortName P)
    no_array None = tt
    no_array (Some d) = λ e. absurd (false≢true e)

    by : (a : Bool) (o : Option ℕ) → IfSome (if a then None else option_and_then (λ c. option_and_then (λ d. Some (class_kind d)) (super_but_object P c)) o) (HasShortName P)
    by true o = tt
    by false None = tt
    by false (Some c) = no_array (super_but_object P c)

-- ---- numbers

abbrev pub Numbered : ProgramTables → Kind → ℕ → Bool → Bool → Type 0
Numbered P kind n true true = n ≡ 0
Numbered P kind n true false = n < 2 ^ 64
Numbered P kind n false canonical = n ≡ option_map_or (class_number P) (class_in kind.base) 0

pub number_is : (P : ProgramTables) (kind : Kind) → IsNumberOf P true kind (written_number P kind)
number_is P kind = by (is_array kind)
  where
    by : (b : Bool) → Numbered P kind (if b then 0 else option_map_or (class_number P) (class_in kind.base) 0) b true
    by true = refl
    by false = refl

-- ---- the way up

module _ (P : ProgramTables) (kind : Option Kind) (table : Table) (out : List ℕ) where
  pub climb_none : IfSome kind (HasShortName P) → Climbs P kind table out kind table out
  climb_none short = record { text = []; written = sym (append-nil out); describes = λ rest after d. d; short = short }

  pub climb_short : (k : Kind) (next : Option Kind) (t : Table) (o : List ℕ) → Climbs P kind table out next t o → next ≡ Some k → HasShortName P k
  climb_short k next t o c is = subst (λ n. IfSome n (HasShortName P)) is c.short

  -- one class more
  pub climb_on : (k : Kind) (next next' : Option Kind) (t t' : Table) (o o' : List ℕ) → Climbs P kind table out next t o → next ≡ Some k → has t (Class k) ≡ false
      → o' ≡ o ++ own_text P t k (written_number P k) → t' ≡ own_table P t k → next' ≡ described_super P k → Climbs P kind table out next' t' o'
  climb_on k next next' t t' o o' c is h eo et above = record {
    text = c.text ++ own_text P t k (written_number P k);
    written = eo ∙ ap (λ z. z ++ own_text P t k (written_number P k)) c.written ∙ append_assoc out c.text (own_text P t k (written_number P k));
    describes = λ rest after d.
        let own = own_text P t k (written_number P k) in
        let up = subst (λ z. Describes P true z (own_table P t k) rest after) above (subst (λ z. Describes P true next' z rest after) et d) in
        let here : Describes P true (Some k) t (own ++ rest) after = anew (written_number P k) h (number_is P k) up refl in
        let more = c.describes (own ++ rest) after (subst (λ z. Describes P true z t (own ++ rest) after) (sym is) here) in
        subst (λ z. Describes P true kind table z after) (sym (append_assoc c.text own rest)) more;
    short = subst (λ z. IfSome z (HasShortName P)) (sym above) (super_short P k);
  }

  ends : (text : List ℕ) (next : Option Kind) (t : Table) (o o' : List ℕ) → Climbs P kind table out next t o → Describes P true next t text t → o' ≡ o ++ text → IsDescribed P kind table out t o'
  ends text next t o o' c d e = record {
    text = c.text ++ text;
    written = e ∙ ap (λ z. z ++ text) c.written ∙ append_assoc out c.text text;
    described = c.describes text t d;
  }

  -- one that has a handle
  pub climb_known : (k : Kind) (next : Option Kind) (t : Table) (o o' : List ℕ) (n : ℕ) → Climbs P kind table out next t o → next ≡ Some k → has t (Class k) ≡ true → n ≡ handle t (Class k)
      → o' ≡ o ++ 0x71 ∷ to_be_bytes w32 n → IsDescribed P kind table out t o'
  climb_known k next t o o' n c is h number e =
      ends (handle_text t (Class k)) next t o o' c (subst (λ z. Describes P true z t (handle_text t (Class k)) t) (sym is) (again h refl))
      (e ∙ ap (λ z. o ++ 0x71 ∷ to_be_bytes w32 z) number)

  -- none
  pub climb_over : (next : Option Kind) (t : Table) (o o' : List ℕ) → Climbs P kind table out next t o → next ≡ None → o' ≡ o ++ 0x70 ∷ [] → IsDescribed P kind table out t o'
  climb_over next t o o' c is e = ends (0x70 ∷ []) next t o o' c (subst (λ z. Describes P true z t (0x70 ∷ []) t) (sym is) (nothing refl)) e

-- the measure of the way up
pub climbs_less : (P : ProgramTables) → ProgramFacts P → (k : Kind) (next next' : Option Kind) → next ≡ Some k → next' ≡ described_super P k → height P next' < height P next
climbs_less P facts k next next' is above =
    let l = super_is_lower P facts.linked k in
    let a = ap (height P) is in
    let b = ap (height P) above in
    omega (arith, l, a, b)
