-- The first faults of lists of classes, computed by the definition.
use Rattle.std.proofs.Common.{◌≡◌, List, map, refl, Option}
use Rattle.nr_base.specs.DescReading.{byte_at, letter_at, class_letter_at, class_at, base_at, type_at, desc_at, param_at, params_at, result_at, method_at}
use Rattle.nr_base.specs.Reader.{bind, pure, refuse, choose, from, with_fault, times, onto, sized, until, to_end, repeat, while_more, spanned, whole}
use Rattle.nr_base.specs.Names.{six_bits_at, two_at, three_at, unit_at}
use Rattle.nr_base.specs.Names as names
use Rattle.nr_prog.specs.BodyNames.{class_text_at, desc_text_at}
use Rattle.nr_prog.specs.LegalTests.{is_class_text}
use Rattle.nr_prog.specs.Members.{spells, is_spelled, is_in}
use Rattle.nr_prog.specs.Pool.{text_at}
use Rattle.nr_prog.specs.TextForms.{class_desc}
use Rattle.nr_linked.specs.BuiltIns.{built_in_class}
use Rattle.nr_linked.specs.BuiltInTables.{built_in_info, built_in_infos, built_in_method, built_in_methods}
use Rattle.nr_linkrules.specs.declared.fault.LinkFault.{LinkFault}
use Rattle.nr_linkrules.specs.ClassRules.{list_fault, known_fault, named_above_fault, above_fault, cycle_fault, override_fault, field_fault, method_fault, members_fault}
use Rattle.nr_linkrules.specs.Examples.{Example, above_examples, list_examples, member_examples, site_examples}
use Rattle.nr_linkrules.specs.Faults.{first_numbered, first_of}
use Rattle.nr_linkrules.specs.Layout.{kind_said, supers_in, slot_of, slots_read, slots_in, numbered, laid_out}
use Rattle.nr_linkrules.specs.LinkFaults.{first_class_fault, classes_fault, code_faults, link_fault}
use Rattle.nr_linkrules.specs.Outline.{outline_class, outline_classes, outline_method, outline_methods, outline}
use Rattle.nr_linkrules.specs.Reaches.{reaches_by}
use Rattle.nr_linkrules.specs.SiteRules.{class_named_by, kind_named, instr_found, code_fault, handler_fault, map_fault, around_fault}

-- the faults that are found, and those that are told
abbrev found : List Example → List (Option LinkFault)
found examples = map (λ e. link_fault e.classes) examples

abbrev told : List Example → List (Option LinkFault)
told examples = map (λ e. e.fault) examples

pub lists : found list_examples ≡ told list_examples
unfolding list_examples link_fault list_fault first_of first_numbered classes_fault first_class_fault known_fault named_above_fault above_fault reaches_by cycle_fault override_fault field_fault method_fault members_fault laid_out numbered supers_in slots_in slots_read slot_of kind_said code_faults code_fault around_fault handler_fault map_fault instr_found kind_named class_named_by outline outline_classes outline_class outline_methods outline_method built_in_infos built_in_info built_in_class built_in_methods built_in_method class_text_at desc_text_at text_at spells is_spelled is_in class_desc is_class_text byte_at letter_at class_letter_at class_at base_at type_at desc_at param_at params_at result_at method_at bind pure refuse choose from with_fault times onto sized until to_end repeat while_more spanned whole six_bits_at two_at three_at unit_at names.byte_at
lists = refl

pub above : found above_examples ≡ told above_examples
unfolding above_examples link_fault list_fault first_of first_numbered classes_fault first_class_fault known_fault named_above_fault above_fault reaches_by cycle_fault override_fault field_fault method_fault members_fault laid_out numbered supers_in slots_in slots_read slot_of kind_said code_faults code_fault around_fault handler_fault map_fault instr_found kind_named class_named_by outline outline_classes outline_class outline_methods outline_method built_in_infos built_in_info built_in_class built_in_methods built_in_method class_text_at desc_text_at text_at spells is_spelled is_in class_desc is_class_text byte_at letter_at class_letter_at class_at base_at type_at desc_at param_at params_at result_at method_at bind pure refuse choose from with_fault times onto sized until to_end repeat while_more spanned whole six_bits_at two_at three_at unit_at names.byte_at
above = refl

pub members : found member_examples ≡ told member_examples
unfolding member_examples link_fault list_fault first_of first_numbered classes_fault first_class_fault known_fault named_above_fault above_fault reaches_by cycle_fault override_fault field_fault method_fault members_fault laid_out numbered supers_in slots_in slots_read slot_of kind_said code_faults code_fault around_fault handler_fault map_fault instr_found kind_named class_named_by outline outline_classes outline_class outline_methods outline_method built_in_infos built_in_info built_in_class built_in_methods built_in_method class_text_at desc_text_at text_at spells is_spelled is_in class_desc is_class_text byte_at letter_at class_letter_at class_at base_at type_at desc_at param_at params_at result_at method_at bind pure refuse choose from with_fault times onto sized until to_end repeat while_more spanned whole six_bits_at two_at three_at unit_at names.byte_at
members = refl

pub sites : found site_examples ≡ told site_examples
unfolding site_examples link_fault list_fault first_of first_numbered classes_fault first_class_fault known_fault named_above_fault above_fault reaches_by cycle_fault override_fault field_fault method_fault members_fault laid_out numbered supers_in slots_in slots_read slot_of kind_said code_faults code_fault around_fault handler_fault map_fault instr_found kind_named class_named_by outline outline_classes outline_class outline_methods outline_method built_in_infos built_in_info built_in_class built_in_methods built_in_method class_text_at desc_text_at text_at spells is_spelled is_in class_desc is_class_text byte_at letter_at class_letter_at class_at base_at type_at desc_at param_at params_at result_at method_at bind pure refuse choose from with_fault times onto sized until to_end repeat while_more spanned whole six_bits_at two_at three_at unit_at names.byte_at
sites = refl
