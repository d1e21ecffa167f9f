-- Descriptions that are read are spelled so.
use Rattle.std.proofs.Common.{◌≡◌, ℕ, suc, Bool, true, false, not, ◌&&◌, List, [], ◌∷◌, ◌++◌, length, Option, Some, None, Result, Ok, Err, refl, sym, ap, subst, ◌∙◌, ◌⊎◌, inl, inr, append_assoc, append-nil, if◌then◌else◌, true≢false}
use Rattle.std.specs.Int.{w16, w32, w64, to_be_bytes}
use Rattle.std.specs.Option.{option_and_then}
use Rattle.std.specs.Str.{bytes_eq}
use Rattle.std.specs.Prelude.{◌==◌}
use Rattle.std.proofs.lemmas.Bool.{eqb-true}
use Rattle.std.proofs.lemmas.Slice.Eq.{bytes_eq-Decides}
use Rattle.nr_base.specs.Grammar.{IsBytes}
use Rattle.nr_base.specs.Reader.{pure, choose}
use Rattle.nr_linked.specs.declared.program.kind.Kind.{Kind}
use Rattle.nr_linked.specs.declared.program.tables.ProgramTables.{ProgramTables}
use Rattle.nr_linked.specs.Facts.{ProgramFacts}
use Rattle.nr_linked.specs.Kinds.{class_kind}
use Rattle.nr_linked.specs.KindTexts.{class_name}
use Rattle.nr_linked.specs.Subtypes.{is_assignable}
use Rattle.nr_serform.specs.ClassNumbers.{dotted, utf}
use Rattle.nr_serform.specs.Descriptions.{Describes, IsNumberOf, nothing, again, anew, described_fields, described_super, fields_text, own_table, own_text, stream_name}
use Rattle.nr_serform.specs.Entries.{Class, is_same_kind}
use Rattle.nr_serform.specs.Handles.{Table, entry_at, handle_text, has, objects}
use Rattle.nr_serread.specs.declared.fault.StreamFault.{StreamFault}
use Rattle.nr_serread.specs.declared.fault.StreamFault.TheVariants as faults
use Rattle.nr_serread.specs.Items.{given_by, told_class_at}
use Rattle.nr_serread.specs.Describing.{behind_name_at, desc_at, is_of_sort, kind_named, name_at, new_desc_at, new_kind, new_super_at, no_super_at, old_desc_at, or_refuse, own_at, suited, super_at, supers_at, unless_described}
use Rattle.nr_serlaws.proofs.Items.{IsUtf, WithBytes, bytes_law, four_law, told_class_law, utf_law}
use Rattle.nr_serlaws.proofs.Fields.{IsOwn, own_law}
use Rattle.nr_serlaws.proofs.Finds.{Finds, bind_finds, bind_never, choose_finds, choose_never, from_finds, from_never, given_finds, never_finds, of_reads, pure_finds, refuse_never, tag_finds, weaken}
use Rattle.nr_serlaws.proofs.Tables.{Keeps, class_at_handle, handle_is, has_entry, keeps_own, objects_own, same_kind_is}
use Rattle.nr_serlaws.proofs.Chains.{Up, up_end, up_more, ups}
use Rattle.nr_serlaws.proofs.Names.{Known, class_known, kind_named_is}
use Rattle.nr_serlaws.proofs.Shorts.{fields_short}

both_true : (a b : Bool) → (a && b) ≡ true → (a ≡ true) × (b ≡ true)
both_true true b e = (refl, e)
both_true false b e = absurd (true≢false (sym e))

abbrev given_if : Bool → StreamFault → Result Bool StreamFault
given_if b e = if b then Ok true else Err e

not_true : (b : Bool) → not b ≡ true → b ≡ false
not_true true e = absurd (true≢false (sym e))
not_true false e = refl

pub regroup : (a b c d e : List ℕ) → a ++ (b ++ (c ++ (d ++ e))) ≡ a ++ b ++ c ++ d ++ e
regroup a b c d e = sym (append_assoc (a ++ b ++ c) d e ∙ append_assoc (a ++ b) c (d ++ e) ∙ append_assoc a b (c ++ (d ++ e)))

-- a handle of a class, whose text was read behind the tag 71
told_finds : (at : ℕ) (table : Table) {K : Kind → List ℕ → Type 0}
    → ((kind : Kind) (n : ℕ) → entry_at table n ≡ Some (Class kind) → K kind (to_be_bytes w32 n)) → Finds (told_class_at at table) K
unfolding told_class_at
told_finds at table {K = K} k = bind_finds (of_reads four_law) (λ n front g.
    weaken (of_reads (told_class_law at n (entry_at table n))) (λ kind back f.
    subst (λ z. K kind (front ++ z)) (sym f.none) (subst (K kind) (sym (append-nil front)) (subst (K kind) (sym g.1) (k kind n f.found)))))

-- the text of the handle is the one that is spelled
handle_spelled : (Q : Kind → Type 0) (table : Table) (n : ℕ) (kind : Kind) → Keeps Q table → entry_at table n ≡ Some (Class kind) → 0x71 ∷ to_be_bytes w32 n ≡ handle_text table (Class kind)
handle_spelled Q table n kind keeps e = ap (λ z. 0x71 ∷ to_be_bytes w32 z) (handle_is table n (Class kind) keeps.once e)

module _ (P : ProgramTables) (facts : ProgramFacts P) where
  abbrev Good : Table → Type 0
  Good table = Keeps (Known P) table

  -- a description, of a class or of none, with what is kept of handles
  pub record Described (o : Option Kind) (table after : Table) (text : List ℕ) : Type 0 where
    pub describes : Describes P false o table text after
    pub keeps : Keeps (Known P) after
    pub same : objects after ≡ objects table

  -- ---- behind the last superclass

  no_super_finds : (table : Table) → Finds (no_super_at table) (λ b text. text ≡ 0x70 ∷ [])
  unfolding no_super_at
  no_super_finds table = from_finds (λ at. tag_finds (λ tag. choose_finds (tag == 0x70)
      (λ e. pure_finds true (ap (λ z. z ∷ []) (eqb-true tag 0x70 e)))
      (λ e. never_finds (choose_never (tag == 0x71) (bind_never _ (λ k. refuse_never _)) (choose_never (tag == 0x72) (from_never (λ name. bind_never _ (λ text. refuse_never _))) (refuse_never _))))))

  -- ---- what stands behind a name

  own_finds : (kind : Kind) (table : Table) → Finds (own_at P kind table) (IsOwn P kind table)
  own_finds kind table = of_reads (own_law P kind table (fields_short P facts kind))

  own_whole : (kind : Kind) (table after : Table) (name front back : List ℕ) → IsUtf name front → (h : IsOwn P kind table after back) → name ≡ stream_name P kind
      → 0x72 ∷ (front ++ back) ≡ own_text P table kind h.number
  own_whole kind table after name front back u h e =
      ap (λ z. 0x72 ∷ z) ((λ i. (u.whole ∙ ap utf e) i ++ h.text_is i)
      ∙ regroup (utf (stream_name P kind)) (to_be_bytes w64 h.number) (2 ∷ to_be_bytes w16 (length (described_fields P kind))) (fields_text (table ++ Class kind ∷ []) (described_fields P kind)) (0x78 ∷ []))

  -- ---- superclasses

  pub record IsSuper (c : ℕ) (table : Table) (r : Bool × Table) (text : List ℕ) : Type 0 where
    pub either : ((r.0 ≡ false) × (r.1 ≡ table) × (has table (Class (class_kind c)) ≡ true) × (text ≡ handle_text table (Class (class_kind c))))
        ⊎ ((r.0 ≡ true) × (r.1 ≡ own_table P table (class_kind c)) × (has table (Class (class_kind c)) ≡ false)
        × ((number : ℕ) × IsNumberOf P false (class_kind c) number × (text ≡ own_text P table (class_kind c) number)))

  class_stream_name : (c : ℕ) → dotted (class_name P c) ≡ stream_name P (class_kind c)
  unfolding stream_name
  class_stream_name c = refl

  new_super_finds : (c : ℕ) (table : Table) → Finds (new_super_at P c table) (λ t text. IsSuper c table (true, t) (0x72 ∷ text))
  unfolding new_super_at
  new_super_finds c table = from_finds (λ at. bind_finds (of_reads utf_law) (λ name front u.
      choose_finds (bytes_eq name (dotted (class_name P c)) && not (has table (Class (class_kind c))))
      (λ e. weaken (own_finds (class_kind c) table) (λ after back h.
      let b = both_true (bytes_eq name (dotted (class_name P c))) (not (has table (Class (class_kind c)))) e in
      let called = (bytes_eq-Decides name (dotted (class_name P c))).0 b.0 ∙ class_stream_name c in
      record { either = inr (refl, h.after_is, not_true _ b.1, (h.number, h.is_number, own_whole (class_kind c) table after name front back u h called)) }))
      (λ e. never_finds (refuse_never _))))

  super_finds : (c : ℕ) (table : Table) → Good table → Finds (super_at P c table) (IsSuper c table)
  unfolding super_at
  super_finds c table good = from_finds (λ at. tag_finds (λ tag. choose_finds (tag == 0x71)
      (λ e. bind_finds (told_finds at table {K = λ kind text. (n : ℕ) × (entry_at table n ≡ Some (Class kind)) × (text ≡ to_be_bytes w32 n)} (λ kind n h. (n, h, refl)))
      (λ kind front h. choose_finds (is_same_kind (class_kind c) kind)
      (λ s. pure_finds (false, table) (told tag e kind h.0 front h.1 h.2 (same_kind_is (class_kind c) kind s)))
      (λ s. never_finds (refuse_never _))))
      (λ e. choose_finds (tag == 0x72)
      (λ f. bind_finds (new_super_finds c table) (λ t front h. pure_finds (true, t) (subst (IsSuper c table (true, t)) (sym (ap (λ z. tag ∷ z) (append-nil front) ∙ ap (λ z. z ∷ front) (eqb-true tag 0x72 f))) h)))
      (λ f. never_finds (refuse_never _)))))
    where
      told : (tag : ℕ) → (tag == 0x71) ≡ true → (kind : Kind) (n : ℕ) (front : List ℕ) → entry_at table n ≡ Some (Class kind) → front ≡ to_be_bytes w32 n → class_kind c ≡ kind → IsSuper c table (false, table) (tag ∷ (front ++ []))
      told tag e kind n front h w s =
          let there : entry_at table n ≡ Some (Class (class_kind c)) = h ∙ ap (λ z. Some (Class z)) (sym s) in
          record {
            either = inl (
              refl,
              refl,
              has_entry table n (Class (class_kind c)) there,
              ((λ i. eqb-true tag 0x71 e i ∷ (append-nil front ∙ w) i) ∙ handle_spelled (Known P) table n (class_kind c) good there),
            );
          }

  supers_finds : {o : Option Kind} {cs : List ℕ} → Up P o cs → (table : Table) → Good table → Finds (supers_at P cs table) (λ after text. Described o table after text)
  unfolding supers_at
  supers_finds up_end table good = bind_finds (no_super_finds table) (λ b front h. pure_finds table (record {
    describes = nothing (append-nil front ∙ h);
    keeps = good;
    same = refl;
  }))
  supers_finds (up_more {c} {cs} up) table good = bind_finds (super_finds c table good) (λ r front h. by (λ t more. supers_finds up t more) r front h.either)
    where
      by : ((t : Table) → Good t → Finds (supers_at P cs t) (λ after text. Described (described_super P (class_kind c)) t after text)) → (r : Bool × Table) (front : List ℕ)
          → ((r.0 ≡ false) × (r.1 ≡ table) × (has table (Class (class_kind c)) ≡ true) × (front ≡ handle_text table (Class (class_kind c))))
          ⊎ ((r.0 ≡ true) × (r.1 ≡ own_table P table (class_kind c)) × (has table (Class (class_kind c)) ≡ false)
          × ((number : ℕ) × IsNumberOf P false (class_kind c) number × (front ≡ own_text P table (class_kind c) number)))
          → Finds (choose r.0 (supers_at P cs r.1) (pure r.1)) (λ after back. Described (Some (class_kind c)) table after (front ++ back))
      by above r front (inl a) = choose_finds r.0 (λ e. absurd (true≢false (sym e ∙ a.0))) (λ e. pure_finds r.1 (record {
        describes = subst (λ t. Describes P false (Some (class_kind c)) table (front ++ []) t) (sym a.1) (again a.2 (append-nil front ∙ a.3));
        keeps = subst (λ t. Keeps (Known P) t) (sym a.1) good;
        same = ap objects a.1;
      }))
      by above r front (inr a) = choose_finds r.0
          (λ e. weaken (above r.1 (subst (λ t. Keeps (Known P) t) (sym a.1) (keeps_own (Known P) P table (class_kind c) good a.2 (class_known P c)))) (λ after back d. record {
            describes = anew a.3.0 a.2 a.3.1 (subst (λ t. Describes P false (described_super P (class_kind c)) t back after) a.1 d.describes) (ap (λ z. z ++ back) a.3.2);
            keeps = d.keeps;
            same = d.same ∙ ap objects a.1 ∙ objects_own P table (class_kind c);
          }))
          (λ e. absurd (true≢false (sym a.0 ∙ e)))

  -- ---- the description of a new object

  pub record IsDescribed (array : Bool) (wanted : Kind) (table : Table) (r : Kind × Table) (text : List ℕ) : Type 0 where
    pub so : Described (Some r.0) table r.1 text
    pub sort : is_of_sort P array r.0 ≡ true
    pub suits : is_assignable P r.0 wanted ≡ true
    pub known : Known P r.0

  suited_finds : (wanted : Kind) (start : ℕ) (kind : Kind) → Finds (given_by (suited P wanted start kind)) (λ b text. (is_assignable P kind wanted ≡ true) × (text ≡ []))
  suited_finds wanted start kind = given_finds (suited P wanted start kind) (λ b e. (by (is_assignable P kind wanted) b e, refl))
    where
      by : (c b : Bool) → given_if c (faults.SlotType start) ≡ Ok b → c ≡ true
      by true b e = refl
      by false b e = absurd cc

  old_finds : (array : Bool) (wanted : Kind) (start at : ℕ) (table : Table) → Good table → Finds (old_desc_at P array wanted start at table) (λ r text. IsDescribed array wanted table r (0x71 ∷ text))
  unfolding old_desc_at
  old_finds array wanted start at table good =
      bind_finds (told_finds at table {K = λ kind text. (n : ℕ) × (entry_at table n ≡ Some (Class kind)) × (text ≡ to_be_bytes w32 n)} (λ kind n h. (n, h, refl)))
      (λ kind front h. choose_finds (is_of_sort P array kind)
      (λ s. bind_finds (suited_finds wanted start kind) (λ b none f. pure_finds (kind, table) (record {
        so = record {
          describes = again (has_entry table h.0 (Class kind) h.1)
              (ap (λ z. 0x71 ∷ z) (ap (λ z. front ++ (z ++ [])) f.1 ∙ append-nil front ∙ h.2) ∙ handle_spelled (Known P) table h.0 kind good h.1);
          keeps = good;
          same = refl;
        };
        sort = s;
        suits = f.0;
        known = class_at_handle (Known P) table h.0 kind good h.1;
      })))
      (λ s. never_finds (refuse_never _)))

  -- the name of a class that is described anew
  record IsNewName (array : Bool) (table : Table) (kind : Kind) (text : List ℕ) : Type 0 where
    name : List ℕ
    spelled : IsUtf name text
    called : stream_name P kind ≡ name
    sort : is_of_sort P array kind ≡ true
    new : has table (Class kind) ≡ false
    known : Known P kind

  utf_bytes : (name text : List ℕ) → IsUtf name text → IsBytes text → IsBytes name
  utf_bytes name text u fits i = subst (λ z. IsBytes z) u.whole fits (suc (suc i))

  name_finds : (array : Bool) (table : Table) → Finds (name_at P array table) (IsNewName array table)
  unfolding name_at
  name_finds array table = from_finds (λ at. bind_finds (of_reads (bytes_law utf_law)) (λ name front u.
      given_finds (or_refuse (faults.ClassName at) (new_kind P array table name)) (λ kind e.
      by name front u kind (kind_named P name) refl (refused (new_kind P array table name) at kind e))))
    where
      refused : (o : Option Kind) (at : ℕ) (kind : Kind) → or_refuse (faults.ClassName at) o ≡ Ok kind → o ≡ Some kind
      refused None at kind e = absurd cc
      refused (Some k) at kind e = cc

      by_test : (name front : List ℕ) → WithBytes IsUtf name front → (k kind : Kind) → kind_named P name ≡ Some k → (b : Bool) → (is_of_sort P array k && not (has table (Class k))) ≡ b
          → (if b then Some k else None) ≡ Some kind → IsNewName array table kind (front ++ [])
      by_test name front u k kind is false t e = absurd cc
      by_test name front u k kind is true t e =
          let same : k ≡ kind = cc in
          let n = kind_named_is P facts.linked name k (utf_bytes name front u.spelled u.fits) is in
          let b = both_true (is_of_sort P array k) (not (has table (Class k))) t in
          subst (λ k. IsNewName array table k (front ++ [])) same (record {
            name = name;
            spelled = subst (IsUtf name) (sym (append-nil front)) u.spelled;
            called = n.called;
            sort = b.0;
            new = not_true _ b.1;
            known = n.known;
          })

      by : (name front : List ℕ) → WithBytes IsUtf name front → (kind : Kind) (o : Option Kind) → kind_named P name ≡ o → option_and_then (unless_described P array table) o ≡ Some kind → IsNewName array table kind (front ++ [])
      by name front u kind None is e = absurd cc
      by name front u kind (Some k) is e = by_test name front u k kind is (is_of_sort P array k && not (has table (Class k))) refl e

  behind_finds : (array : Bool) (table : Table) → Good table → (kind : Kind) (front : List ℕ) → IsNewName array table kind front
      → Finds (behind_name_at P kind table) (λ after back. Described (Some kind) table after (0x72 ∷ (front ++ back)))
  unfolding behind_name_at
  behind_finds array table good kind front n = bind_finds (own_finds kind table) (λ t own h.
      weaken (supers_finds (ups P facts.linked kind) t (subst (λ t. Keeps (Known P) t) (sym h.after_is) (keeps_own (Known P) P table kind good n.new n.known))) (λ after up d. record {
        describes = anew h.number n.new h.is_number (subst (λ t. Describes P false (described_super P kind) t up after) h.after_is d.describes)
            (ap (λ z. 0x72 ∷ z) (sym (append_assoc front own up)) ∙ ap (λ z. z ++ up) (own_whole kind table t n.name front own n.spelled h (sym n.called)));
        keeps = d.keeps;
        same = d.same ∙ ap objects h.after_is ∙ objects_own P table kind;
      }))

  new_finds : (array : Bool) (wanted : Kind) (start : ℕ) (table : Table) → Good table → Finds (new_desc_at P array wanted start table) (λ r text. IsDescribed array wanted table r (0x72 ∷ text))
  unfolding new_desc_at
  new_finds array wanted start table good =
      bind_finds (name_finds array table) (λ kind front n.
      bind_finds (suited_finds wanted start kind) (λ b none f.
      bind_finds (behind_finds array table good kind front n) (λ t back d. pure_finds (kind, t) (record {
        so = subst (λ z. Described (Some kind) table t (0x72 ∷ (front ++ z))) (sym (ap (λ z. z ++ (back ++ [])) f.1 ∙ append-nil back)) d;
        sort = n.sort;
        suits = f.0;
        known = n.known;
      }))))

  pub desc_finds : (array : Bool) (wanted : Kind) (start : ℕ) (table : Table) → Good table → Finds (desc_at P array wanted start table) (IsDescribed array wanted table)
  unfolding desc_at
  desc_finds array wanted start table good = from_finds (λ at. tag_finds (λ tag. choose_finds (tag == 0x71)
      (λ e. weaken (old_finds array wanted start at table good) (λ r text d. subst (λ z. IsDescribed array wanted table r (z ∷ text)) (sym (eqb-true tag 0x71 e)) d))
      (λ e. choose_finds (tag == 0x72)
      (λ f. weaken (new_finds array wanted start table good) (λ r text d. subst (λ z. IsDescribed array wanted table r (z ∷ text)) (sym (eqb-true tag 0x72 f)) d))
      (λ f. never_finds (refuse_never _)))))
