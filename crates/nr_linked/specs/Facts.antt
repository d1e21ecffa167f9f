-- What each program keeps: the condition on which tables are a program's, and what each holder of one can use. The facts
-- follow from linking class files that were decoded.
use Rattle.std.specs.Prelude.{◌≡◌, ℕ, ◌<◌, ◌≤◌, ◌^◌, length, Some, All}
use Rattle.nr_linked.specs.declared.program.tables.ClassInfo.{ClassInfo}
use Rattle.nr_linked.specs.declared.program.tables.MethodInfo.{MethodInfo}
use Rattle.nr_linked.specs.declared.program.tables.ProgramTables.{ProgramTables}
use Rattle.nr_prog.specs.Legal.{IsClassText}
use Rattle.nr_linked.specs.Layout.{IsLaidOut}
use Rattle.nr_linked.specs.Linked.{Linked, handlers_of}
use Rattle.nr_linked.specs.Programs.{class_at, method_at}
use Rattle.nr_linked.specs.Suited.{IsSuited}
use Rattle.nr_linked.specs.TypingFacts.{TypingFacts}

-- the texts of a class and of its slots: their lengths fit 16 bits (JVM Specification 4.4.7)
pub record ClassTexts (e : ClassInfo) : Type 0 where
  -- its name is legal (4.2.1)
  pub name : IsClassText e.name
  pub short_name : length e.name < 2 ^ 16
  pub slot_names : All (λ s. length s.name < 2 ^ 16) e.slots
  pub slot_descs : All (λ s. length s.desc < 2 ^ 16) e.slots

-- bounds of what a method has
pub record MethodBounds (i : MethodInfo) : Type 0 where
  pub short_name : length i.name < 2 ^ 16
  pub short_desc : length i.desc < 2 ^ 16
  -- parameters, without `this` (4.3.3)
  pub few_params : length i.params ≤ 254
  -- exception handlers: the place of each among them fits 16 bits (4.7.3)
  pub few_handlers : length (handlers_of i) ≤ 2 ^ 16

pub record ProgramFacts (P : ProgramTables) : Type 0 where
  -- the tables are those of classes that were linked
  pub linked : Linked P
  -- what typing takes of them
  pub typing : TypingFacts P
  -- code: instructions from offset 0 on, rising, with something found for each, and frame maps at instructions
  pub laid_out : IsLaidOut P
  -- each instruction has operands, and was found something, of its row
  pub suited : IsSuited P
  pub classes : (c : ℕ) (e : ClassInfo) → class_at P c ≡ Some e → ClassTexts e
  pub methods : (m : ℕ) (i : MethodInfo) → method_at P m ≡ Some i → MethodBounds i
