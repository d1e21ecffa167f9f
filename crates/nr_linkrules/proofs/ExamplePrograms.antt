-- A class and an interface that link: what they make, computed by the definition.
use Rattle.std.proofs.Common.{◌≡◌, refl, None, Ok, Err}
use Rattle.std.specs.Prelude.{codes}
use Rattle.nr_base.specs.DescReading.{byte_at, letter_at, class_letter_at, class_at, base_at, type_at, desc_at, param_at, params_at, result_at, method_at}
use Rattle.nr_base.specs.Reader.{bind, pure, refuse, choose, from, with_fault, times, onto, sized, until, to_end, repeat, while_more, spanned, whole}
use Rattle.nr_base.specs.Names.{six_bits_at, two_at, three_at, unit_at}
use Rattle.nr_base.specs.Names as names
use Rattle.nr_prog.specs.BodyNames.{class_text_at, desc_text_at}
use Rattle.nr_prog.specs.LegalTests.{is_class_text}
use Rattle.nr_prog.specs.Members.{spells, is_spelled, is_in}
use Rattle.nr_prog.specs.Pool.{text_at}
use Rattle.nr_prog.specs.TextForms.{class_desc}
use Rattle.nr_linked.specs.BuiltIns.{built_in_class}
use Rattle.nr_linked.specs.BuiltInTables.{built_in_info, built_in_infos, built_in_method, built_in_methods}
use Rattle.nr_links.specs.Example.{loaded, tables}
use Rattle.nr_linkrules.specs.declared.fault.LinkFault.TheVariants as faults
use Rattle.nr_linkrules.specs.ClassRules.{list_fault, known_fault, named_above_fault, above_fault, cycle_fault, override_fault, field_fault, method_fault, members_fault}
use Rattle.nr_linkrules.specs.Completion.{completed, linked_program}
use Rattle.nr_linkrules.specs.Examples.{runnable}
use Rattle.nr_linkrules.specs.Faults.{first_numbered, first_of}
use Rattle.nr_linkrules.specs.Layout.{kind_said, supers_in, slot_of, slots_read, slots_in, numbered, laid_out}
use Rattle.nr_linkrules.specs.LinkFaults.{first_class_fault, classes_fault, code_faults, link_fault}
use Rattle.nr_linkrules.specs.Mains.{main_of, service_of}
use Rattle.nr_linkrules.specs.Outline.{outline_class, outline_classes, outline_method, outline_methods, outline}
use Rattle.nr_linkrules.specs.Reaches.{reaches_by}
use Rattle.nr_linkrules.specs.SiteRules.{class_named_by, kind_named, instr_found, code_fault, handler_fault, map_fault, around_fault}

pub fault : link_fault loaded ≡ None
unfolding loaded link_fault list_fault first_of first_numbered classes_fault first_class_fault known_fault named_above_fault above_fault reaches_by cycle_fault override_fault field_fault method_fault members_fault laid_out numbered supers_in slots_in slots_read slot_of kind_said code_faults code_fault around_fault handler_fault map_fault instr_found kind_named class_named_by outline outline_classes outline_class outline_methods outline_method built_in_infos built_in_info built_in_class built_in_methods built_in_method class_text_at desc_text_at text_at spells is_spelled is_in class_desc is_class_text byte_at letter_at class_letter_at class_at base_at type_at desc_at param_at params_at result_at method_at bind pure refuse choose from with_fault times onto sized until to_end repeat while_more spanned whole six_bits_at two_at three_at unit_at names.byte_at
fault = refl

pub program : linked_program loaded ≡ tables
unfolding loaded tables linked_program completed link_fault list_fault first_of first_numbered classes_fault first_class_fault known_fault named_above_fault above_fault reaches_by cycle_fault override_fault field_fault method_fault members_fault laid_out numbered supers_in slots_in slots_read slot_of kind_said code_faults code_fault around_fault handler_fault map_fault instr_found kind_named class_named_by outline outline_classes outline_class outline_methods outline_method built_in_infos built_in_info built_in_class built_in_methods built_in_method class_text_at desc_text_at text_at spells is_spelled is_in class_desc is_class_text byte_at letter_at class_letter_at class_at base_at type_at desc_at param_at params_at result_at method_at bind pure refuse choose from with_fault times onto sized until to_end repeat while_more spanned whole six_bits_at two_at three_at unit_at names.byte_at
program = refl

pub main : main_of (runnable tables) (codes "A") ≡ Ok 2
unfolding runnable tables main_of built_in_infos built_in_info built_in_class built_in_methods built_in_method
main = refl

pub no_main : main_of tables (codes "A") ≡ Err (faults.NoMain (codes "A"))
unfolding tables main_of built_in_infos built_in_info built_in_class
no_main = refl

pub main_without_code : main_of (runnable tables) (codes "Face") ≡ Err (faults.NoMain (codes "Face"))
unfolding runnable tables main_of built_in_infos built_in_info built_in_class built_in_methods built_in_method
main_without_code = refl

pub main_of_none : main_of tables (codes "B") ≡ Err (faults.NoClass (codes "B"))
unfolding tables main_of built_in_infos built_in_info built_in_class
main_of_none = refl

pub service : service_of tables (codes "A") ≡ Ok 0
unfolding tables service_of built_in_infos built_in_info built_in_class
service = refl

pub interface : service_of tables (codes "Face") ≡ Err (faults.NoService (codes "Face"))
unfolding tables service_of built_in_infos built_in_info built_in_class
interface = refl

pub built_in : service_of tables (codes "nrmi/Out") ≡ Err (faults.NoService (codes "nrmi/Out"))
unfolding tables service_of built_in_infos built_in_info built_in_class
built_in = refl

pub no_service : service_of tables (codes "B") ≡ Err (faults.NoClass (codes "B"))
unfolding tables service_of built_in_infos built_in_info built_in_class
no_service = refl
