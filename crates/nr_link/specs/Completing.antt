-- Methods with what linking finds for them.
use Rattle.std.specs.Prelude.{map}
use Rattle.nr_base.specs.DescReading.{method_of}
use Rattle.nr_linked.specs.declared.program.tables.MethodInfo.{MethodInfo}
use Rattle.nr_linked.specs.declared.program.tables.ProgramTables.{ProgramTables}
use Rattle.nr_linked.specs.Linked.{frame_maps_of, handlers_of}
use Rattle.nr_linkrules.specs.Completion.{caught, frame_of, params_in, resolved_in, result_in}
use Rattle.nr_linkrules.specs.SiteRules.{pool_of}
use Rattle.nr_link.specs.declared.around.Around.{Around}
use Rattle.nr_link.specs.declared.completion.Found.{Found}
use Rattle.nr_link.specs.declared.completion.Signature.{Signature}

abbrev pub signature_of : ProgramTables → MethodInfo → Signature
signature_of P i = record { params = params_in P (method_of i.desc); result = result_in P (method_of i.desc) }

abbrev pub around_of : ProgramTables → MethodInfo → Around
around_of P i = record { catches = map (caught P (pool_of P i)) (handlers_of i); maps = map (frame_of P) (frame_maps_of i) }

-- what linking finds for the method
abbrev pub found_for : ProgramTables → MethodInfo → Found
found_for P i = record { signature = signature_of P i; resolved = resolved_in P i; around = around_of P i }

-- the method with that
abbrev pub completed_by : MethodInfo → Found → MethodInfo
completed_by i f = record i {
  params = f.signature.params;
  result = f.signature.result;
  resolved = f.resolved;
  catches = f.around.catches;
  maps = f.around.maps;
}
