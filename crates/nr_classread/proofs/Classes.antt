-- The class that is read is that of the file, and each class of a file is read.
use Rattle.std.proofs.Common.{◌≡◌, ℕ, List, Option, Some, None, Result, Ok, Err, ap, subst, ◌∙◌}
use Rattle.std.specs.Prelude.{IfOk}
use Rattle.nr_base.specs.Reader.{map_fault}
use Rattle.nr_base.specs.Clauses.{GivesWhole}
use Rattle.nr_base.specs.Grammar.{IsBytes}
use Rattle.nr_base.proofs.Laws.{map_fault_ok, whole_found, whole_only}
use Rattle.nr_prog.specs.declared.fault.FormFault.{FormFault}
use Rattle.nr_prog.specs.declared.parts.ClassParts.{ClassParts}
use Rattle.nr_prog.specs.Form.{IsFormed, IsWithinBounds, class_or, class_of as class_of_parts}
use Rattle.nr_prog.specs.Rules.{form_fault}
use Rattle.nr_prog.proofs.FormLaw as laws
use Rattle.nr_classread.specs.declared.fault.ClassFault.{ClassFault}
use Rattle.nr_classread.specs.declared.fault.ClassFault.TheVariants as faults
use Rattle.nr_classread.specs.Faults.{is_free, of_form}
use Rattle.nr_classread.specs.ClassText.{ReadsAs}
use Rattle.nr_classread.specs.ClassReading.{parts_of, formed, class_of}
use Rattle.nr_classread.proofs.Files.{file_law}
use Rattle.nr_classread.proofs.Bounds.{file_bounds}

pub is_within : (bytes : List ℕ) (c : ClassParts) → IsBytes bytes → parts_of bytes ≡ Ok c → IsWithinBounds c
is_within bytes c fits e = file_bounds c bytes (whole_found faults.Trailing file_law bytes c fits e)

of_class_or : (parts c : ClassParts) (fault : Option FormFault) → class_or parts fault ≡ Ok c → parts ≡ c
of_class_or parts c None e = cc
of_class_or parts c (Some fault) e = absurd cc

of_parts : (r : Result ClassParts ClassFault) (c : ClassParts) → formed r ≡ Ok c → r ≡ Ok c
of_parts (Ok parts) c e = ap (λ z. Ok z) (of_class_or parts c (form_fault parts) (map_fault_ok of_form (class_of_parts parts) c e))
of_parts (Err d) c e = absurd cc

class_only : (bytes : List ℕ) (c : ClassParts) → ReadsAs bytes c → class_of bytes ≡ Ok c
class_only bytes c g =
    ap formed (whole_only faults.Trailing file_law bytes c g.0) ∙ ap (λ z. map_fault of_form (class_or c z)) (laws.of_formed c g.1)

pub is_found : (bytes : List ℕ) (r : Result ClassParts ClassFault) → IsBytes bytes → GivesWhole is_free r (class_of bytes) → IfOk r IsFormed → IfOk r (λ c. ReadsAs bytes c)
is_found bytes (Ok c) fits e is = (whole_found faults.Trailing file_law bytes c fits (of_parts (parts_of bytes) c e), is)
is_found bytes (Err d) fits e is = tt

pub is_read : (bytes : List ℕ) (r : Result ClassParts ClassFault) (c : ClassParts) → ReadsAs bytes c → GivesWhole is_free r (class_of bytes) → GivesWhole is_free r (Ok c)
is_read bytes r c g e = subst (λ read. GivesWhole is_free r read) (class_only bytes c g) e
