-- Decoding the code of a method, and of all methods of a class, with the first fault: instructions, then targets, then exception handlers, then frame
-- maps. The project's own rule.
use Rattle.std.specs.Prelude.{ℕ, List, [], ◌∷◌, ◌++◌, length, Option, Some, None, Result, Ok}
use Rattle.nr_base.specs.Reader.{map_fault}
use Rattle.nr_prog.specs.declared.member.Method.{Method}
use Rattle.nr_prog.specs.declared.member.Code.{Code}
use Rattle.nr_prog.specs.declared.parts.ClassParts.{ClassParts}
use Rattle.nr_prog.specs.declared.body.instruction.Instr.{Instr}
use Rattle.nr_prog.specs.declared.body.frame_map.FrameMap.{FrameMap}
use Rattle.nr_prog.specs.declared.body.whole.Body.{Body}
use Rattle.nr_instrs.specs.declared.fault.CodeFault.{CodeFault}
use Rattle.nr_prog.specs.declared.body.loaded.Loaded.{Loaded}
use Rattle.nr_classread.specs.ClassReading.{class_of}
use Rattle.nr_code.specs.declared.fault.LoadFault.{LoadFault}
use Rattle.nr_code.specs.LoadFaults.{of_class, of_code}
use Rattle.nr_instrs.specs.Checks.{then_on, walk}
use Rattle.nr_instrs.specs.Decoding.{instrs_of}
use Rattle.nr_code.specs.HandlerChecks.{handlers_checked}
use Rattle.nr_code.specs.MapReading.{entry_of, frames_of, maps_in}

unfoldable pub maps_of : ClassParts → Method → List Instr → Option (List ℕ) → Result (List FrameMap) CodeFault
maps_of c m is None = Ok []
maps_of c m is (Some contents) = maps_in (frames_of c.pool is (entry_of c m) contents)

unfoldable pub body_of : ClassParts → Method → Code → Result Body CodeFault
body_of c m code =
    then_on (instrs_of c.pool code.bytes) (λ is.
    then_on (handlers_checked c.pool (length code.bytes) is code.handlers) (λ n.
    then_on (maps_of c m is code.maps) (λ maps.
    Ok (record { instrs = is; handlers = code.handlers; maps = maps }))))

-- ---- classes with the code of their methods

-- the code of one method, where it has some
unfoldable pub body_in : ClassParts → ℕ → Method → Option Code → Result (Option Body) LoadFault
body_in c place m None = Ok None
body_in c place m (Some code) = then_on (map_fault (of_code place) (body_of c m code)) (λ b. Ok (Some b))

-- one more, behind those of the methods before
unfoldable pub body_step : ClassParts → List (Option Body) → Method → Result (List (Option Body)) LoadFault
body_step c bodies m = then_on (body_in c (length bodies) m m.code) (λ b. Ok (bodies ++ b ∷ []))

unfoldable pub bodies_of : ClassParts → Result (List (Option Body)) LoadFault
bodies_of c = walk (body_step c) [] c.methods

unfoldable pub loaded_of : List ℕ → Result Loaded LoadFault
loaded_of bytes = then_on (map_fault of_class (class_of bytes)) (λ c. then_on (bodies_of c) (λ bodies. Ok (record { class = c; bodies = bodies })))
