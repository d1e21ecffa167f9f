-- The parameters of a method by what its descriptor spells, as a class keeps it.
use Rattle.std.specs.Prelude.{List, Option, Some, None}
use Rattle.std.specs.Option.{option_map}
use Rattle.nr_prog.specs.declared.body.frame_map.MapType.{MapType}
use Rattle.nr_prog.specs.declared.text.MethodForm.{MethodForm}
use Rattle.nr_prog.specs.declared.text.TextForm.{TextForm}

abbrev pub params_in : Option MethodForm → Option (List MapType)
params_in m = option_map (λ m. m.params) m

abbrev pub listed_params : Option TextForm → Option (List MapType)
listed_params None = None
listed_params (Some form) = params_in form.method
