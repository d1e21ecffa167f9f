-- How a server looks at a request, the body of a call's frame: all checks, in their order (the project's own).
use Rattle.std.specs.Prelude.{◌≡◌, ℕ, List, length, take, true, false, nat_lt, Option, Some, None, Ok, Err, if◌then◌else◌}
use Rattle.std.specs.Int.{w32, from_be_bytes}
use Rattle.std.specs.Option.{option_and_then}
use Rattle.nr_linked.specs.declared.program.tables.ProgramTables.{ProgramTables}
use Rattle.nr_linked.specs.Programs.{params_of}
use Rattle.nr_linked.specs.Selection.{static_named, with_body}
use Rattle.nr_message.specs.declared.fault.MessageFault.{MessageFault}
use Rattle.nr_message.specs.declared.fault.MessageFault.TheVariants as faults
use Rattle.nr_message.specs.declared.message.Call.{Call}
use Rattle.nr_message.specs.declared.serve_fault.ServeFault.{ServeFault}
use Rattle.nr_message.specs.declared.serve_fault.ServeFault.TheVariants.{BadRequest, NoSuchMethod}
use Rattle.nr_message.specs.Reading.{call_of}
use Rattle.nr_graph.specs.declared.graph.Graph.{Graph}
use Rattle.nr_serform.specs.Streams.{Spells}
use Rattle.nr_answers.specs.Arguments.{are_passed_as, reference_params, root_count, roots_go}

-- the number that a reply repeats: the request's first four bytes, or 0 where it has fewer
abbrev pub request_number : List ℕ → ℕ
request_number body = if nat_lt (length body) 4 then 0 else from_be_bytes w32 (take 4 body)

-- the code of a request that can't be read; a fault that isn't of calls counts as the first
abbrev pub reading_code : MessageFault → ℕ
reading_code (faults.Short at) = 1
reading_code (faults.NameBad at) = 2
reading_code (faults.BudgetBad n) = 3
reading_code (faults.ArgKind at) = 4
reading_code e = 1

-- the method that is called: a public static one with a body, which the service itself declares
abbrev pub called_method : ProgramTables → ℕ → Call → Option ℕ
called_method P service m = option_and_then (with_body P) (static_named P service m.name m.desc)

-- the request can be read, and calls a method of the service
pub record Request (P : ProgramTables) (service : ℕ) (body : List ℕ) : Type 0 where
  pub call : Call
  pub read : call_of body ≡ Ok call
  pub method : ℕ
  pub found : called_method P service call ≡ Some method

-- the call's stream spells the graph, which has a root for each reference argument
abbrev pub SpellsRoots : ProgramTables → Call → Graph → Type 0
SpellsRoots P m g = (length g.roots ≡ root_count m.args) × Spells P m.stream g

-- ---- refusals: the first check that fails

pub data RefusedAs (P : ProgramTables) (service : ℕ) (body : List ℕ) : ServeFault → Type 0 where
  unread : {e : MessageFault} → call_of body ≡ Err e → RefusedAs P service body (BadRequest (reading_code e))
  no_method : {m : Call} → call_of body ≡ Ok m → called_method P service m ≡ None → RefusedAs P service body NoSuchMethod
  other_count : (q : Request P service body) → (length q.call.args ≡ length (params_of P q.method) → ⊥)
      → RefusedAs P service body (BadRequest 5)
  other_kind : (q : Request P service body) → length q.call.args ≡ length (params_of P q.method)
      → are_passed_as (params_of P q.method) q.call.args ≡ false → RefusedAs P service body (BadRequest 6)
  no_graph : (q : Request P service body) → are_passed_as (params_of P q.method) q.call.args ≡ true
      → ((g : Graph) → SpellsRoots P q.call g → ⊥) → RefusedAs P service body (BadRequest 7)
  other_class : (q : Request P service body) (g : Graph) → are_passed_as (params_of P q.method) q.call.args ≡ true
      → SpellsRoots P q.call g → roots_go P g (reference_params P q.method) g.roots ≡ false
      → RefusedAs P service body (BadRequest 8)

-- ---- what is let through

pub record Accepted (P : ProgramTables) (service : ℕ) (body : List ℕ) : Type 0 where
  pub request : Request P service body
  pub kinds : are_passed_as (params_of P request.method) request.call.args ≡ true
  pub graph : Graph
  pub spelled : SpellsRoots P request.call graph
  pub classes : roots_go P graph (reference_params P request.method) graph.roots ≡ true
