use Rattle.nr_base.proofs.DescTexts.{desc_text_utf, desc_utf, method_text_utf, method_utf}
use Rattle.nr_base.proofs.law.descriptors_are_names.Goals as goal

pub returns : goal.returns
returns c = record { types = desc_utf; methods = method_utf; all_types = desc_text_utf; all_methods = method_text_utf }
