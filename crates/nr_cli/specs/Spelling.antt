-- How names and faults are spelled. The project's own rules.
use Rattle.std.specs.Prelude.{ℕ, ◌+◌, ◌/◌, ◌%◌, ◌&&◌, List, [], ◌∷◌, ◌++◌, flat_map, codes, cond, nat_le, nat_lt}
use Rattle.std.specs.Fmt.{decimal, signed_decimal}
use Rattle.nr_prog.specs.declared.fault.FormFault.{FormFault}
use Rattle.nr_prog.specs.declared.fault.FormFault.TheVariants as form
use Rattle.nr_classread.specs.declared.fault.ClassFault.{ClassFault}
use Rattle.nr_classread.specs.declared.fault.ClassFault.TheVariants as faults
use Rattle.nr_code.specs.CodeFault.{CodeFault}
use Rattle.nr_code.specs.CodeFault.TheVariants as code_faults
use Rattle.nr_run.specs.declared.ran.Limit.{Limit}
use Rattle.nr_run.specs.declared.ran.Limit.TheVariants as limits
use Rattle.nr_cli.specs.declared.ending.LoadFault.{LoadFault}
use Rattle.nr_cli.specs.declared.ending.LoadFault.TheVariants.{Read, Code, FileTooLong, FolderTooLong}

-- a capital hexadecimal digit
abbrev pub hex_digit : ℕ → ℕ
hex_digit d = cond (nat_lt d 10) (48 + d) (55 + d)

-- A byte from 21 to 7E stands for itself. Another is `\x` and two digits.
abbrev pub spelled_byte : ℕ → List ℕ
spelled_byte b = cond (nat_le 33 b && nat_le b 126) (b ∷ []) (92 ∷ 120 ∷ hex_digit (b / 16) ∷ hex_digit (b % 16) ∷ [])

abbrev pub spelled : List ℕ → List ℕ
spelled name = flat_map spelled_byte name

-- A fault is its name and its numbers, in decimal.
abbrev pub spelled_form : FormFault → List ℕ
spelled_form (form.PoolKind index) = codes "PoolKind " ++ decimal index
spelled_form (form.BadName index) = codes "BadName " ++ decimal index
spelled_form (form.BadDesc index) = codes "BadDesc " ++ decimal index
spelled_form (form.Doubled index) = codes "Doubled " ++ decimal index
spelled_form (form.CodePresence method) = codes "CodePresence " ++ decimal method
spelled_form (form.OutOfProfile method) = codes "OutOfProfile " ++ decimal method
spelled_form form.NoMemory = codes "NoMemory"

abbrev pub spelled_class : ClassFault → List ℕ
spelled_class (faults.Short at) = codes "Short " ++ decimal at
spelled_class faults.BadMagic = codes "BadMagic"
spelled_class (faults.Version minor major) = codes "Version " ++ decimal minor ++ codes " " ++ decimal major
spelled_class (faults.PoolTag at tag) = codes "PoolTag " ++ decimal at ++ codes " " ++ decimal tag
spelled_class (faults.AttrLength at) = codes "AttrLength " ++ decimal at
spelled_class (faults.DoubledAttr at) = codes "DoubledAttr " ++ decimal at
spelled_class (faults.Trailing at) = codes "Trailing " ++ decimal at
spelled_class (faults.Form fault) = spelled_form fault
spelled_class faults.NoMemory = codes "NoMemory"

abbrev pub spelled_code : CodeFault → List ℕ
spelled_code (code_faults.UnknownOp at) = codes "UnknownOp " ++ decimal at
spelled_code (code_faults.OutOfProfile at code) = codes "OutOfProfile " ++ decimal at ++ codes " " ++ decimal code
spelled_code (code_faults.Short at) = codes "Short " ++ decimal at
spelled_code (code_faults.Target at to) = codes "Target " ++ decimal at ++ codes " " ++ signed_decimal to
spelled_code (code_faults.PoolUse at) = codes "PoolUse " ++ decimal at
spelled_code (code_faults.SwitchOrder at) = codes "SwitchOrder " ++ decimal at
spelled_code (code_faults.HandlerRange index) = codes "HandlerRange " ++ decimal index
spelled_code (code_faults.MapTag at) = codes "MapTag " ++ decimal at
spelled_code (code_faults.MapOrder at) = codes "MapOrder " ++ decimal at
spelled_code code_faults.NoMemory = codes "NoMemory"

abbrev pub spelled_fault : LoadFault → List ℕ
spelled_fault (Read fault) = spelled_class fault
spelled_fault (Code method fault) = codes "Code " ++ decimal method ++ codes " " ++ spelled_code fault
spelled_fault FileTooLong = codes "FileTooLong"
spelled_fault FolderTooLong = codes "FolderTooLong"

-- a limit of the machine
abbrev pub spelled_limit : Limit → List ℕ
spelled_limit limits.Cells = codes "cells"
spelled_limit limits.Depth = codes "depth"
spelled_limit limits.Output = codes "output"
