-- The program that some classes make, without asking whether they keep the rules of linking: the outline of the classes, laid
-- out, with what linking finds for each method. What isn't found is left out; where there is no fault all is found.
use Rattle.std.specs.Prelude.{ℕ, List, [], ◌++◌, length, map, Option, Some, None, Result, Ok, Err, ◌==◌, if◌then◌else◌}
use Rattle.std.specs.List.{flat_map, list_any}
use Rattle.std.specs.Option.{option_and_then, option_map, option_to_list}
use Rattle.nr_base.specs.DescReading.{method_of}
use Rattle.nr_base.specs.declared.desc.fault.DescFault.{DescFault}
use Rattle.nr_base.specs.declared.desc.types.Desc.{Desc}
use Rattle.nr_base.specs.declared.desc.types.MethodDesc.{MethodDesc}
use Rattle.nr_prog.specs.declared.body.frame_map.FrameMap.{FrameMap}
use Rattle.nr_prog.specs.declared.body.frame_map.MapType.{MapType}
use Rattle.nr_prog.specs.declared.body.frame_map.MapType.TheVariants as map_types
use Rattle.nr_prog.specs.declared.body.loaded.Loaded.{Loaded}
use Rattle.nr_prog.specs.declared.member.Handler.{Handler}
use Rattle.nr_prog.specs.declared.pool.PoolEntry.{PoolEntry}
use Rattle.nr_linked.specs.declared.program.kind.Kind.{Kind}
use Rattle.nr_linked.specs.declared.program.tables.MethodInfo.{MethodInfo}
use Rattle.nr_linked.specs.declared.program.tables.ProgramTables.{ProgramTables}
use Rattle.nr_linked.specs.declared.program.tables.Resolved.{Resolved}
use Rattle.nr_linked.specs.declared.program.tables.Resolved.TheVariants as resolved
use Rattle.nr_linked.specs.declared.program.types.VFrame.{VFrame}
use Rattle.nr_linked.specs.declared.program.types.VType.{VType}
use Rattle.nr_linked.specs.declared.program.types.VType.TheVariants as types
use Rattle.nr_linked.specs.BuiltInTables.{built_in_methods}
use Rattle.nr_linked.specs.Linked.{frame_maps_of, handlers_of, instrs_of}
use Rattle.nr_linked.specs.TypingCalls.{is_uninit_this}
use Rattle.nr_linked.specs.TypingFrames.{in_places}
use Rattle.nr_linkrules.specs.Layout.{kind_of, laid_out}
use Rattle.nr_linkrules.specs.Outline.{outline, outline_methods}
use Rattle.nr_linkrules.specs.SiteRules.{Finding, instr_found, kind_at, place_in, pool_of}

-- ---- descriptors

abbrev pub kinds_of : ProgramTables → List Desc → List Kind
kinds_of P ds = flat_map (λ d. option_to_list (kind_of P d)) ds

abbrev pub params_in : ProgramTables → Result MethodDesc DescFault → List Kind
params_in P (Ok m) = kinds_of P m.params
params_in P (Err e) = []

abbrev pub result_in : ProgramTables → Result MethodDesc DescFault → Option Kind
result_in P (Ok m) = option_and_then (kind_of P) m.result
result_in P (Err e) = None

-- ---- instructions and exception handlers

abbrev pub or_nothing : Finding Resolved → Resolved
or_nothing (Ok r) = r
or_nothing (Err fault) = resolved.Nothing

abbrev pub kind_or_none : Finding Kind → Option Kind
kind_or_none (Ok k) = Some k
kind_or_none (Err fault) = None

abbrev pub resolved_in : ProgramTables → MethodInfo → List Resolved
resolved_in P i = map (λ n. or_nothing (instr_found P (place_in P i) (pool_of P i) n)) (instrs_of i)

-- what the handler catches: all, or the class that it names
abbrev pub caught : ProgramTables → List PoolEntry → Handler → Option Kind
caught P pool h = if h.catch_type == 0 then None else kind_or_none (kind_at P pool h.catch_type)

-- ---- frame maps

abbrev pub type_of : ProgramTables → MapType → Option VType
type_of P map_types.Top = Some types.Top
type_of P map_types.Int = Some types.Int
type_of P map_types.Long = Some types.Long
type_of P map_types.Null = Some types.Null
type_of P map_types.UninitThis = Some types.UninitThis
type_of P (map_types.Uninit at) = Some (types.Uninit at)
type_of P (map_types.Object d) = option_map (λ k. types.Class k) (kind_of P d)

abbrev pub types_of : ProgramTables → List MapType → List VType
types_of P ts = flat_map (λ t. option_to_list (type_of P t)) ts

-- the frame of a frame map, at its offset
abbrev pub frame_of : ProgramTables → FrameMap → ℕ × VFrame
frame_of P f = (
  f.at,
  record {
    locals = in_places (types_of P f.locals);
    stack = types_of P f.stack;
    this_uninit = list_any is_uninit_this (in_places (types_of P f.locals));
  },
)

-- ---- the whole

-- P has the classes laid out
unfoldable pub completed : ProgramTables → MethodInfo → MethodInfo
completed P i = record i {
  params = params_in P (method_of i.desc);
  result = result_in P (method_of i.desc);
  resolved = resolved_in P i;
  catches = map (caught P (pool_of P i)) (handlers_of i);
  maps = map (frame_of P) (frame_maps_of i);
}

unfoldable pub linked_program : List Loaded → ProgramTables
linked_program classes = record {
  classes = (laid_out (outline classes)).classes;
  methods = map (completed (laid_out (outline classes))) (outline_methods 0 classes) ++ built_in_methods (length classes);
}
