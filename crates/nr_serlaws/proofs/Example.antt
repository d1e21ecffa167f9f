-- A program, a text and its graph that meet the premises: the built-in classes, and an array of one int.
use Rattle.std.proofs.Common.{◌≡◌, ◌++◌, nat_lt, ℕ, zero, suc, ◌+◌, ◌-◌, ◌<◌, ◌≤◌, ◌^◌, ℤ, pos, List, [], ◌∷◌, Bool, true, false, refl, sym, ap, subst, ◌∙◌, Some, None, Ok, length, Option, arith}
use Rattle.std.specs.List.{list_all}
use Rattle.std.specs.Option.{option_and_then, option_map_or}
use Rattle.std.proofs.lemmas.Bool.{le-ltb, ltb-true}
use Rattle.nr_base.proofs.ClassNames.{both_true}
use Rattle.nr_base.specs.DescReading.{desc_at as field_desc_at, byte_at, letter_at, class_letter_at, class_at as class_name_at, type_at, base_at}
use Rattle.nr_base.specs.Grammar.{IsBytes}
use Rattle.nr_base.specs.Reader.{bind, pure, refuse, choose, from, with_fault, spanned, whole, repeat, while_more}
use Rattle.nr_prog.specs.Members.{spells}
use Rattle.nr_prog.specs.Pool.{text_at}
use Rattle.nr_linked.specs.declared.program.kind.Base.TheVariants as bases
use Rattle.nr_linked.specs.declared.program.kind.Kind.{Kind}
use Rattle.nr_linked.specs.declared.program.tables.ClassInfo.{ClassInfo}
use Rattle.nr_linked.specs.declared.program.tables.ProgramTables.{ProgramTables}
use Rattle.nr_linked.specs.BuiltInTables.{built_in_infos, built_in_info, built_in_tables}
use Rattle.nr_linked.specs.BuiltIns.{built_in_class}
use Rattle.nr_linked.specs.Facts.{ProgramFacts}
use Rattle.nr_linked.specs.KindTexts.{class_name}
use Rattle.nr_linked.specs.Programs.{class_at}
use Rattle.nr_linked.specs.Sendable.{has_feature}
use Rattle.nr_linked.proofs.BuiltInEntries.{info_of, of_built_in}
use Rattle.nr_linked.proofs.WitnessFacts.{facts}
use Rattle.nr_graph.specs.declared.graph.Slot.TheVariants.{Int}
use Rattle.nr_graph.specs.declared.graph.Node.{Node}
use Rattle.nr_graph.specs.declared.graph.Graph.{Graph}
use Rattle.nr_serform.specs.ClassNumbers.{class_number, parts_number}
use Rattle.nr_serform.specs.Descriptions.{nothing, anew as described, described_super, stream_name, described_fields}
use Rattle.nr_serform.specs.Entries.{Class, Object}
use Rattle.nr_serform.specs.Spelling.{over, plain, anew, items_of}
use Rattle.nr_serform.specs.Streams.{IsCanonical}
use Rattle.nr_serread.specs.Items.{utf_at, told_object_at, told_class_at, given_by, due_at}
use Rattle.nr_serread.specs.Describing.{kind_named, string_at, field_at, fields_at, uid_at, own_at, described_supers, no_super_at, new_super_at, super_at, supers_at, name_at, behind_name_at, new_desc_at, old_desc_at, desc_at}
use Rattle.nr_serread.specs.Reading.{kept, number_at, opened, open_at, open_slots_at, object_at, array_at, old_content_at, content_at, slot_at, next_at, until_done, slots_at, header_at, graph_at, stream_of}
use Rattle.nr_serlaws.proofs.Redescribed.{NumbersFit}
use Rattle.nr_serlaws.proofs.Whole.{read_is_spelled}

abbrev ints : Kind
ints = record { dims = 1; base = bases.Int }

-- an array of the int 1
abbrev pub one : Graph
one = record { nodes = record { kind = ints; slots = Int (pos 1) ∷ [] } ∷ []; roots = Some 0 ∷ [] }

-- 75, the description of int arrays, 00000001 00000001
abbrev description : List ℕ
description = 0x72 ∷ 0 ∷ 2 ∷ 0x5B ∷ 0x49 ∷ 0 ∷ 0 ∷ 0 ∷ 0 ∷ 0 ∷ 0 ∷ 0 ∷ 0 ∷ 2 ∷ 0 ∷ 0 ∷ 0x78 ∷ 0x70 ∷ []

abbrev contents : List ℕ
contents = 0x75 ∷ (description ++ 0 ∷ 0 ∷ 0 ∷ 1 ∷ 0 ∷ 0 ∷ 0 ∷ 1 ∷ [])

abbrev pub text : List ℕ
text = 0xAC ∷ 0xED ∷ 0 ∷ 5 ∷ contents

pub is_read : stream_of built_in_tables 1 text ≡ Ok one
unfolding bind pure refuse choose from with_fault spanned whole repeat while_more field_desc_at byte_at letter_at class_letter_at class_name_at type_at base_at utf_at told_object_at told_class_at given_by kind_named due_at string_at field_at fields_at uid_at own_at described_supers no_super_at new_super_at super_at supers_at name_at behind_name_at new_desc_at old_desc_at desc_at kept number_at opened open_at open_slots_at object_at array_at old_content_at content_at slot_at next_at until_done slots_at header_at graph_at built_in_infos built_in_info built_in_class stream_name described_fields class_number parts_number spells text_at has_feature built_in_tables
is_read = refl

bytes_by : (bs : List ℕ) → list_all (λ b. nat_lt b 256) bs ≡ true → IsBytes bs
bytes_by [] s i = omega arith
bytes_by (b ∷ bs) s zero = ltb-true b 256 (both_true (nat_lt b 256) (list_all (λ b. nat_lt b 256) bs) s).0
bytes_by (b ∷ bs) s (suc i) = bytes_by bs (both_true (nat_lt b 256) (list_all (λ b. nat_lt b 256) bs) s).1 i

pub are_bytes : IsBytes text
are_bytes = bytes_by text refl

-- built-in classes have no numbers
read_none : (f m : ℕ) (b : _) → (built_in_info f m b).read ≡ None
unfolding built_in_info
read_none f m b = refl

how_many : length built_in_tables.classes ≡ 22
unfolding built_in_tables built_in_infos
how_many = refl

pub numbers_fit : NumbersFit built_in_tables
unfolding class_number
numbers_fit c = by (class_at built_in_tables c) refl
  where
    none : (e : ClassInfo) → e.read ≡ None → option_map_or (parts_number (class_name built_in_tables c)) e.read 0 < 2 ^ 64
    none e h = subst (λ o. option_map_or (parts_number (class_name built_in_tables c)) o 0 < 2 ^ 64) (sym h) (omega arith)

    by : (o : Option ClassInfo) → class_at built_in_tables c ≡ o → option_map_or (parts_number (class_name built_in_tables c)) (option_and_then (λ e. e.read) o) 0 < 2 ^ 64
    by None e = omega arith
    by (Some i) e =
        let b = of_built_in built_in_tables facts.linked c i e (le-ltb c _ (let n = how_many in omega (arith, n))) in
        none i (ap (λ (z : ClassInfo). z.read) b.1 ∙ read_none _ _ b.0)

pub is_canonical : IsCanonical built_in_tables text one
unfolding described_super stream_name described_fields items_of
is_canonical = record {
  contents = contents;
  begins = refl;
  after = Class ints ∷ Object 0 ∷ [];
  spelled = anew refl refl refl refl (described 0 refl refl (nothing refl) refl) refl (plain (0 ∷ 0 ∷ 0 ∷ 1 ∷ []) refl refl refl (over refl)) (over refl);
  whole = refl;
  spellable = (read_is_spelled built_in_tables facts 1 text one are_bytes is_read).0.spellable;
}

pub small_text : length text < 2 ^ 32
small_text = omega arith
