-- The types of the parameters of a method, as a class keeps them.
use Rattle.std.proofs.Common.{◌≡◌, ℕ, List, [], Option, Some, None, Result, Ok, Err, sym, ap, refl, ◌∙◌}
use Rattle.std.specs.Option.{option_map_or, unwrap_or}
use Rattle.nr_base.specs.DescReading.{method_of}
use Rattle.nr_base.specs.declared.desc.fault.DescFault.{DescFault}
use Rattle.nr_base.specs.declared.desc.types.MethodDesc.{MethodDesc}
use Rattle.nr_prog.specs.declared.member.Method.{Method}
use Rattle.nr_prog.specs.declared.parts.ClassParts.{ClassParts}
use Rattle.nr_prog.specs.declared.body.frame_map.MapType.{MapType}
use Rattle.nr_prog.specs.declared.text.TextForm.{TextForm}
use Rattle.nr_prog.specs.TextForms.{method_form, form_of, form_at}
use Rattle.nr_prog.proofs.FormTests.{part}
use Rattle.nr_code.specs.EntryForms.{params_in, listed_params}
use Rattle.nr_code.specs.MapReading.{types_of, params_of}

by_result : (r : Result MethodDesc DescFault) → unwrap_or (params_in (method_form r)) [] ≡ types_of r
by_result (Ok m) = refl
by_result (Err e) = refl

abbrev types_in : TextForm → List MapType
types_in form = unwrap_or (params_in form.method) []

same : (bytes : List ℕ) → types_in (form_of bytes) ≡ types_of (method_of bytes)
unfolding form_of
same bytes = by_result (method_of bytes)

by_form : (o : Option TextForm) → option_map_or types_in o [] ≡ unwrap_or (listed_params o) []
by_form (Some form) = refl
by_form None = refl

all : (c : ClassParts) (m : Method) → unwrap_or (listed_params (form_at c.pool m.desc)) [] ≡ params_of c m
unfolding params_of
all c m = sym (by_form (form_at c.pool m.desc)) ∙ part types_in (λ text. types_of (method_of text)) [] same c.pool m.desc

pub params_told : (c : ClassParts) (m : Method) (types : List MapType) → listed_params (form_at c.pool m.desc) ≡ Some types → types ≡ params_of c m
params_told c m types e = sym (ap (λ o. unwrap_or o []) e) ∙ all c m

pub params_untold : (c : ClassParts) (m : Method) → listed_params (form_at c.pool m.desc) ≡ None → [] ≡ params_of c m
params_untold c m e = sym (ap (λ o. unwrap_or o []) e) ∙ all c m
