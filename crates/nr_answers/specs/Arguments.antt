-- Arguments of a request, and whether they go where the method's parameters are (the project's own; what goes where a kind
-- is wanted is that of JVM Specification 4.10.1.2).
use Rattle.std.specs.Prelude.{ℕ, List, [], ◌∷◌, Bool, true, false, not, ◌&&◌, count_by, Option}
use Rattle.std.specs.List.{filter}
use Rattle.std.specs.Option.{option_map_or}
use Rattle.nr_linked.specs.declared.program.kind.Base.{Base}
use Rattle.nr_linked.specs.declared.program.kind.Base.TheVariants as bases
use Rattle.nr_linked.specs.declared.program.kind.Kind.{Kind}
use Rattle.nr_linked.specs.declared.program.tables.ProgramTables.{ProgramTables}
use Rattle.nr_linked.specs.Kinds.{is_reference}
use Rattle.nr_linked.specs.Programs.{params_of}
use Rattle.nr_linked.specs.Subtypes.{is_assignable}
use Rattle.nr_message.specs.declared.message.Arg.{Arg}
use Rattle.nr_message.specs.declared.message.Arg.TheVariants as args
use Rattle.nr_graph.specs.declared.graph.Graph.{Graph}
use Rattle.nr_graph.specs.Graphs.{node_kind}

-- ---- kinds of arguments

abbrev pub is_long_base : Base → Bool
is_long_base bases.Long = true
is_long_base base = false

-- the argument's own kind is the parameter's: a reference, a long, or an int for every other primitive type
abbrev pub is_passed_as : Kind → Arg → Bool
is_passed_as kind args.Reference = is_reference kind
is_passed_as kind (args.Int n) = not (is_reference kind) && not (is_long_base kind.base)
is_passed_as kind (args.Long n) = not (is_reference kind) && is_long_base kind.base

-- one argument for each parameter
abbrev pub are_passed_as : List Kind → List Arg → Bool
are_passed_as [] [] = true
are_passed_as (k ∷ ks) (a ∷ more) = is_passed_as k a && are_passed_as ks more
are_passed_as ks more = false

-- ---- references: they are the roots of the stream, in order

abbrev pub is_reference_arg : Arg → Bool
is_reference_arg args.Reference = true
is_reference_arg a = false

abbrev pub root_count : List Arg → ℕ
root_count passed = count_by is_reference_arg passed

-- the kinds of the parameters that take references
abbrev pub reference_params : ProgramTables → ℕ → List Kind
reference_params P m = filter is_reference (params_of P m)

-- a root goes where the kind is wanted; null goes anywhere
abbrev pub root_goes : ProgramTables → Graph → Kind → Option ℕ → Bool
root_goes P g kind r = option_map_or (λ i. option_map_or (λ k. is_assignable P k kind) (node_kind g i) false) r true

abbrev pub roots_go : ProgramTables → Graph → List Kind → List (Option ℕ) → Bool
roots_go P g [] [] = true
roots_go P g (k ∷ ks) (r ∷ rs) = root_goes P g k r && roots_go P g ks rs
roots_go P g ks rs = false
