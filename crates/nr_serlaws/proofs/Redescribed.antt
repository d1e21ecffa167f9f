-- Descriptions that are spelled are read.
use Rattle.std.proofs.Common.{◌≡◌, ℕ, suc, ◌+◌, ◌*◌, ◌<◌, ◌^◌, Bool, true, false, not, ◌&&◌, List, [], ◌∷◌, ◌++◌, length, Option, Some, None, Ok, Err, refl, sym, ap, subst, ◌∙◌, append_assoc, append-nil, length-append, if◌then◌else◌, true≢false, arith}
use Rattle.std.specs.Int.{w16, w32, w64, to_be_bytes}
use Rattle.std.specs.Option.{option_and_then, option_map_or}
use Rattle.std.proofs.lemmas.Slice.Eq.{bytes_eq-Decides}
use Rattle.nr_linked.specs.declared.program.kind.Kind.{Kind}
use Rattle.nr_linked.specs.declared.program.tables.ProgramTables.{ProgramTables}
use Rattle.nr_linked.specs.Facts.{ProgramFacts}
use Rattle.nr_linked.specs.Kinds.{class_in, class_kind, is_array}
use Rattle.nr_linked.specs.KindTexts.{class_name}
use Rattle.nr_linked.specs.Subtypes.{is_assignable}
use Rattle.nr_serform.specs.ClassNumbers.{class_number, dotted, utf}
use Rattle.nr_serform.specs.Descriptions.{Describes, IsNumberOf, nothing, again, anew, described_fields, described_super, fields_text, own_table, own_text, stream_name}
use Rattle.nr_serform.specs.Entries.{Class}
use Rattle.nr_serform.specs.Handles.{Table, entry_at, handle, handle_text, has}
use Rattle.nr_serread.specs.declared.fault.StreamFault.TheVariants as faults
use Rattle.nr_serread.specs.Items.{given_by, told_class, told_class_at}
use Rattle.nr_serread.specs.Describing.{behind_name_at, desc_at, is_of_sort, name_at, new_desc_at, new_kind, new_super_at, no_super_at, old_desc_at, or_refuse, own_at, suited, super_at, supers_at, unless_described}
use Rattle.nr_serlaws.proofs.Items.{four_law, utf_law}
use Rattle.nr_serlaws.proofs.Fields.{NumberBy, behind_text, own_law}
use Rattle.nr_serlaws.proofs.Shorts.{fields_short}
use Rattle.nr_serlaws.proofs.Described.{regroup}
use Rattle.nr_serlaws.proofs.Chains.{Up, up_end, up_more, ups}
use Rattle.nr_serlaws.proofs.Tables.{same_itself}
use Rattle.nr_serlaws.proofs.Gives.{Gives, gives_bind, gives_false, gives_from, gives_given, gives_pure, gives_reads, gives_tag, gives_text, gives_true}
use Rattle.nr_serlaws.proofs.Called.{Named, short_name}
use Rattle.nr_serlaws.proofs.Bounds.{own_bound, refound}

-- the numbers of all classes fit 64 bits
abbrev pub NumbersFit : ProgramTables → Type 0
NumbersFit P = (c : ℕ) → class_number P c < 2 ^ 64

-- few handles for the bytes that were read and are left
abbrev pub Few : Table → List ℕ → Type 0
Few table text = 2 * length table + length text < 2 ^ 32

module _ (P : ProgramTables) (facts : ProgramFacts P) (numbers : NumbersFit P) where
  -- ---- handles

  told_gives : (at : ℕ) (table : Table) (kind : Kind) → has table (Class kind) ≡ true → length table < 2 ^ 31 → Gives (told_class_at at table) kind (to_be_bytes w32 (handle table (Class kind)))
  unfolding told_class_at
  told_gives at table kind h few =
      let r = refound table (Class kind) h in
      let place = r.place in
      gives_text (append-nil (to_be_bytes w32 (handle table (Class kind))))
      (gives_bind {x = handle table (Class kind)} (λ n. given_by (told_class at n (entry_at table n))) (gives_reads four_law (omega (arith, place, few), refl))
      (gives_given (ap (told_class at (handle table (Class kind))) r.at)))

  -- ---- what stands behind a name

  number_small : (kind : Kind) (n : ℕ) → IsNumberOf P false kind n → n < 2 ^ 64
  number_small kind n h = by (is_array kind) h
    where
      of_class : (o : Option ℕ) → n ≡ option_map_or (class_number P) o 0 → n < 2 ^ 64
      of_class None e = omega (arith, e)
      of_class (Some c) e = let l = numbers c in omega (arith, e, l)

      by : (b : Bool) → NumberBy P kind n b false → n < 2 ^ 64
      by true h = h
      by false h = of_class (class_in kind.base) h

  own_gives : (kind : Kind) (table : Table) (n : ℕ) → IsNumberOf P false kind n → Gives (own_at P kind table) (own_table P table kind) (to_be_bytes w64 n ++ behind_text P table kind)
  own_gives kind table n h = gives_reads (own_law P kind table (fields_short P facts kind)) (record { number = n; is_number = h; small = number_small kind n h; after_is = refl; text_is = refl })

  own_whole : (kind : Kind) (table : Table) (n : ℕ) → 0x72 ∷ (utf (stream_name P kind) ++ (to_be_bytes w64 n ++ behind_text P table kind)) ≡ own_text P table kind n
  own_whole kind table n = ap (λ z. 0x72 ∷ z) (regroup (utf (stream_name P kind)) (to_be_bytes w64 n) (2 ∷ to_be_bytes w16 (length (described_fields P kind))) (fields_text (table ++ Class kind ∷ []) (described_fields P kind)) (0x78 ∷ []))

  -- ---- superclasses

  no_super_gives : (table : Table) → Gives (no_super_at table) true (0x70 ∷ [])
  unfolding no_super_at
  no_super_gives table = gives_from (λ at. gives_tag _ 0x70 (omega arith) (gives_true _ refl (gives_pure true)))

  super_name : (c : ℕ) → stream_name P (class_kind c) ≡ dotted (class_name P c)
  unfolding stream_name
  super_name c = refl

  length_dotted : (t : List ℕ) → length (dotted t) ≡ length t
  length_dotted [] = refl
  length_dotted (b ∷ bs) = ap suc (length_dotted bs)

  and_not : (a b : Bool) → a ≡ true → b ≡ false → (a && not b) ≡ true
  and_not true false x y = refl
  and_not true true x y = absurd (true≢false y)
  and_not false b x y = absurd (true≢false (sym x))

  new_super_gives : (c : ℕ) (table : Table) (n : ℕ) → has table (Class (class_kind c)) ≡ false → IsNumberOf P false (class_kind c) n
      → Gives (new_super_at P c table) (own_table P table (class_kind c)) (utf (stream_name P (class_kind c)) ++ (to_be_bytes w64 n ++ behind_text P table (class_kind c)))
  unfolding new_super_at
  new_super_gives c table n new h =
      let s = short_name P facts c in
      let l = length_dotted (class_name P c) in
      gives_text (ap (λ z. utf z ++ (to_be_bytes w64 n ++ behind_text P table (class_kind c))) (sym (super_name c)))
      (gives_from (λ at. gives_bind {x = dotted (class_name P c)} _ (gives_reads utf_law (record { short = omega (arith, s, l); whole = refl }))
      (gives_true _ (and_not _ _ ((bytes_eq-Decides (dotted (class_name P c)) (dotted (class_name P c))).1 refl) new) (own_gives (class_kind c) table n h))))

  super_again : (c : ℕ) (table : Table) → has table (Class (class_kind c)) ≡ true → length table < 2 ^ 31 → Gives (super_at P c table) (false, table) (handle_text table (Class (class_kind c)))
  unfolding super_at
  super_again c table h few = gives_from (λ at. gives_tag _ 0x71 (omega arith) (gives_true _ refl
      (gives_text (append-nil (to_be_bytes w32 (handle table (Class (class_kind c))))) (gives_bind {x = class_kind c} _ (told_gives at table (class_kind c) h few) (gives_true _ (same_itself (Class (class_kind c))) (gives_pure (false, table)))))))

  super_anew : (c : ℕ) (table : Table) (n : ℕ) → has table (Class (class_kind c)) ≡ false → IsNumberOf P false (class_kind c) n → Gives (super_at P c table) (true, own_table P table (class_kind c)) (own_text P table (class_kind c) n)
  unfolding super_at
  super_anew c table n new h = gives_text (own_whole (class_kind c) table n) (gives_from (λ at. gives_tag _ 0x72 (omega arith) (gives_false _ refl (gives_true _ refl
      (gives_text (append-nil (utf (stream_name P (class_kind c)) ++ (to_be_bytes w64 n ++ behind_text P table (class_kind c))))
      (gives_bind {x = own_table P table (class_kind c)} _ (new_super_gives c table n new h) (gives_pure (true, own_table P table (class_kind c)))))))))

  few_table : (table : Table) (text : List ℕ) → Few table text → length table < 2 ^ 31
  few_table table text few = omega (arith, few)

  pub supers_gives : {o : Option Kind} {cs : List ℕ} → Up P o cs → {table after : Table} {text : List ℕ} → Describes P false o table text after → Few table text → Gives (supers_at P cs table) after text
  unfolding supers_at
  supers_gives up_end {table = table} (nothing t) few = gives_text (sym t) (gives_bind {x = true} _ (no_super_gives table) (gives_pure table))
  supers_gives (up_more {c} {cs} up) {table = table} {text = text} (again h t) few =
      gives_text (append-nil (handle_text table (Class (class_kind c))) ∙ sym t)
      (gives_bind {x = (false, table)} _ (super_again c table h (few_table table text few)) (gives_false _ refl (gives_pure table)))
  supers_gives (up_more {c} {cs} up) {table = table} {text = text} (anew {up = more} number h n d t) few =
      let b = own_bound P table (class_kind c) number in
      let l = ap length t in
      let m = length-append (own_text P table (class_kind c) number) more in
      gives_text (sym t)
      (gives_bind {x = (true, own_table P table (class_kind c))} _ (super_anew c table number h n) (gives_true _ refl (supers_gives up d (omega (arith, few, b, l, m)))))

  -- ---- the description of a new object

  suited_gives : (wanted : Kind) (start : ℕ) (kind : Kind) → is_assignable P kind wanted ≡ true → Gives (given_by (suited P wanted start kind)) true []
  suited_gives wanted start kind e = gives_given (ap (λ b. if b then Ok true else Err (faults.SlotType start)) e)

  old_gives : (array : Bool) (wanted : Kind) (start at : ℕ) (kind : Kind) (table : Table) → is_of_sort P array kind ≡ true → is_assignable P kind wanted ≡ true → has table (Class kind) ≡ true → length table < 2 ^ 31
      → Gives (old_desc_at P array wanted start at table) (kind, table) (to_be_bytes w32 (handle table (Class kind)))
  unfolding old_desc_at
  old_gives array wanted start at kind table sort suits h few =
      gives_text (append-nil (to_be_bytes w32 (handle table (Class kind))))
      (gives_bind {x = kind} _ (told_gives at table kind h few) (gives_true _ sort (gives_bind {x = true} {back = []} _ (suited_gives wanted start kind suits) (gives_pure (kind, table)))))

  name_gives : (array : Bool) (kind : Kind) (table : Table) → is_of_sort P array kind ≡ true → has table (Class kind) ≡ false → Named P kind → Gives (name_at P array table) kind (utf (stream_name P kind))
  unfolding name_at
  name_gives array kind table sort new named =
      let test = and_not (is_of_sort P array kind) (has table (Class kind)) sort new in
      let found : new_kind P array table (stream_name P kind) ≡ Some kind = ap (option_and_then (unless_described P array table)) named.back ∙ ap (λ b. if b then Some kind else None) test in
      gives_from (λ at. gives_text (append-nil (utf (stream_name P kind)))
      (gives_bind {x = stream_name P kind} _ (gives_reads utf_law (record { short = named.short; whole = refl })) (gives_given (ap (or_refuse (faults.ClassName at)) found))))

  new_gives : (array : Bool) (wanted : Kind) (start : ℕ) (kind : Kind) (table : Table) {after : Table} {up : List ℕ} (n : ℕ) → is_of_sort P array kind ≡ true → is_assignable P kind wanted ≡ true → has table (Class kind) ≡ false → Named P kind
      → IsNumberOf P false kind n → Describes P false (described_super P kind) (own_table P table kind) up after → Few (own_table P table kind) up
      → Gives (new_desc_at P array wanted start table) (kind, after) (utf (stream_name P kind) ++ ((to_be_bytes w64 n ++ behind_text P table kind) ++ up))
  unfolding new_desc_at behind_name_at
  new_gives array wanted start kind table {after} {up} n sort suits new named h d few =
      gives_bind {x = kind} _ (name_gives array kind table sort new named)
      (gives_bind {x = true} {front = []} _ (suited_gives wanted start kind suits)
      (gives_text (append-nil ((to_be_bytes w64 n ++ behind_text P table kind) ++ up))
      (gives_bind {x = after} _ (gives_bind {x = own_table P table kind} _ (own_gives kind table n h) (supers_gives (ups P facts.linked kind) d few)) (gives_pure (kind, after)))))

  desc_by : (array : Bool) (wanted : Kind) (start : ℕ) {o : Option Kind} {table after : Table} {text : List ℕ} → Describes P false o table text after → (kind : Kind) → o ≡ Some kind → is_of_sort P array kind ≡ true → is_assignable P kind wanted ≡ true → Named P kind → Few table text
      → Gives (desc_at P array wanted start table) (kind, after) text
  unfolding desc_at
  desc_by array wanted start (nothing t) kind e sort suits named few = absurd cc
  desc_by array wanted start {table = table} {text = text} (again {kind = k} h t) kind e sort suits named few =
      let same : k ≡ kind = cc in
      let h' = subst (λ z. has table (Class z) ≡ true) same h in
      gives_text (sym (t ∙ ap (λ z. handle_text table (Class z)) same))
      (gives_from (λ at. gives_tag _ 0x71 (omega arith) (gives_true _ refl (old_gives array wanted start at kind table sort suits h' (few_table table text few)))))
  desc_by array wanted start {table = table} {after = after} {text = text} (anew {kind = k} {up = up} number h n d t) kind e sort suits named few =
      let same : k ≡ kind = cc in
      let h' = subst (λ z. has table (Class z) ≡ false) same h in
      let n' = subst (λ z. IsNumberOf P false z number) same n in
      let d' = subst (λ z. Describes P false (described_super P z) (own_table P table z) up after) same d in
      let t' = t ∙ ap (λ z. own_text P table z number ++ up) same in
      let b = own_bound P table kind number in
      let l = ap length t' in
      let m = length-append (own_text P table kind number) up in
      gives_text (ap (λ z. 0x72 ∷ z) (sym (append_assoc (utf (stream_name P kind)) (to_be_bytes w64 number ++ behind_text P table kind) up)) ∙ ap (λ z. z ++ up) (own_whole kind table number) ∙ sym t')
      (gives_from (λ at. gives_tag _ 0x72 (omega arith) (gives_false _ refl (gives_true _ refl (new_gives array wanted start kind table number sort suits h' named n' d' (omega (arith, few, b, l, m)))))))

  pub desc_gives : (array : Bool) (wanted : Kind) (start : ℕ) (kind : Kind) {table after : Table} {text : List ℕ} → Describes P false (Some kind) table text after → is_of_sort P array kind ≡ true → is_assignable P kind wanted ≡ true → Named P kind → Few table text
      → Gives (desc_at P array wanted start table) (kind, after) text
  desc_gives array wanted start kind d sort suits named few = desc_by array wanted start d kind refl sort suits named few
