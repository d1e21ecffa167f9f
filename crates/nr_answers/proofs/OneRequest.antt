-- A request is one call of one method, with one graph where a text spells one; and it is refused or accepted.
use Rattle.std.proofs.Common.{◌≡◌, ◌<◌, ◌^◌, ◌&&◌, ℕ, List, [], ◌∷◌, length, Bool, true, false, refl, sym, ap, subst, ◌∙◌, arith}
use Rattle.std.specs.Prelude.{Ok, Err, Result, None}
use Rattle.nr_linked.specs.declared.program.kind.Kind.{Kind}
use Rattle.nr_linked.specs.declared.program.tables.ProgramTables.{ProgramTables}
use Rattle.nr_linked.specs.Programs.{params_of}
use Rattle.nr_model.proofs.Paths.{none_some, some_eq}
use Rattle.nr_message.specs.declared.fault.MessageFault.{MessageFault}
use Rattle.nr_message.specs.declared.message.Arg.{Arg}
use Rattle.nr_message.specs.declared.message.Call.{Call}
use Rattle.nr_message.specs.declared.serve_fault.ServeFault.{ServeFault}
use Rattle.nr_message.specs.declared.serve_fault.ServeFault.TheVariants.{BadRequest}
use Rattle.nr_message.specs.Reading.{call_of}
use Rattle.nr_graph.specs.declared.graph.Graph.{Graph}
use Rattle.nr_answers.specs.Arguments.{are_passed_as, is_passed_as, reference_params, roots_go}
use Rattle.nr_answers.specs.Once.{SpellsOneGraph}
use Rattle.nr_answers.specs.Requests.{Accepted, RefusedAs, Request, SpellsRoots, called_method, no_graph, no_method, other_class, other_count, other_kind, reading_code, unread}

abbrev Reading : Type 0
Reading = Result Call MessageFault

ok_one : (a b : Call) → ◌≡◌ {A = Reading} (Ok a) (Ok b) → a ≡ b
ok_one a b e = cc

ok_no_err : (a : Call) (f : MessageFault) → ◌≡◌ {A = Reading} (Ok a) (Err f) → ⊥
ok_no_err a f e = cc

err_one : (e f : MessageFault) → ◌≡◌ {A = Reading} (Err e) (Err f) → e ≡ f
err_one e f is = cc

not_true : false ≡ true → ⊥
not_true e = cc

and_second : (a b : Bool) → (a && b) ≡ true → b ≡ true
and_second true b e = e
and_second false b e = absurd (not_true e)

passed_long : (ks : List Kind) (xs : List Arg) → are_passed_as ks xs ≡ true → length xs ≡ length ks
passed_long [] [] e = refl
passed_long [] (x ∷ xs) e = absurd (not_true e)
passed_long (k ∷ ks) [] e = absurd (not_true e)
passed_long (k ∷ ks) (x ∷ xs) e = let more = passed_long ks xs (and_second (is_passed_as k x) (are_passed_as ks xs) e) in omega (arith, more)

module _ (P : ProgramTables) (service : ℕ) (body : List ℕ) where
  pub same_call : (q p : Request P service body) → q.call ≡ p.call
  same_call q p = ok_one q.call p.call (sym q.read ∙ p.read)

  pub same_method : (q p : Request P service body) → q.method ≡ p.method
  same_method q p = some_eq (sym q.found ∙ ap (called_method P service) (same_call q p) ∙ p.found)

  same_kinds : (q p : Request P service body) → are_passed_as (params_of P q.method) q.call.args ≡ are_passed_as (params_of P p.method) p.call.args
  same_kinds q p =
      ap (λ (m : ℕ). are_passed_as (params_of P m) q.call.args) (same_method q p) ∙ ap (λ (c : Call). are_passed_as (params_of P p.method) c.args) (same_call q p)

  module _ (one : SpellsOneGraph P) (short : (q : Request P service body) → length q.call.stream < 2 ^ 32) where
    pub same_graph : (q p : Request P service body) (f g : Graph) → SpellsRoots P q.call f → SpellsRoots P p.call g → f ≡ g
    same_graph q p f g a b =
        let also : SpellsRoots P q.call g = subst (λ (m : Call). SpellsRoots P m g) (sym (same_call q p)) b in
        one q.call.stream f g (short q) (a.0 ∙ sym also.0) a.1 also.1

    -- ---- refused or accepted

    pub refused_accepted : {f : ServeFault} → RefusedAs P service body f → Accepted P service body → ⊥
    refused_accepted (unread {e = e} is) r = ok_no_err r.request.call e (sym r.request.read ∙ is)
    refused_accepted (no_method {m = m} is none) r =
        none_some (sym none ∙ ap (called_method P service) (ok_one m r.request.call (sym is ∙ r.request.read)) ∙ r.request.found)
    refused_accepted (other_count q count) r =
        count (passed_long (params_of P q.method) q.call.args (same_kinds q r.request ∙ r.kinds))
    refused_accepted (other_kind q count kind) r = not_true (sym kind ∙ same_kinds q r.request ∙ r.kinds)
    refused_accepted (no_graph q kinds none) r = none r.graph (subst (λ (m : Call). SpellsRoots P m r.graph) (same_call r.request q) r.spelled)
    refused_accepted (other_class q g kinds spells goes) r =
        not_true (sym goes ∙ ap (λ (m : ℕ). roots_go P g (reference_params P m) g.roots) (same_method q r.request)
        ∙ ap (λ (h : Graph). roots_go P h (reference_params P r.request.method) h.roots) (same_graph q r.request g r.graph spells r.spelled) ∙ r.classes)

    -- ---- one refusal

    count_at : (q p : Request P service body) → length p.call.args ≡ length (params_of P p.method) → length q.call.args ≡ length (params_of P q.method)
    count_at q p e =
        ap (λ (c : Call). length c.args) (same_call q p) ∙ e ∙ ap (λ (m : ℕ). length (params_of P m)) (sym (same_method q p))

    read_not : {e : MessageFault} → call_of body ≡ Err e → {m : Call} → call_of body ≡ Ok m → ⊥
    read_not {e = e} is {m = m} read = ok_no_err m e (sym read ∙ is)

    found_not : {m : Call} → call_of body ≡ Ok m → called_method P service m ≡ None → Request P service body → ⊥
    found_not {m = m} read none q = none_some (sym none ∙ ap (called_method P service) (ok_one m q.call (sym read ∙ q.read)) ∙ q.found)

    long_of : (q : Request P service body) → are_passed_as (params_of P q.method) q.call.args ≡ true → length q.call.args ≡ length (params_of P q.method)
    long_of q kinds = passed_long (params_of P q.method) q.call.args kinds

    graph_at : (q p : Request P service body) (g : Graph) → SpellsRoots P p.call g → SpellsRoots P q.call g
    graph_at q p g a = subst (λ (m : Call). SpellsRoots P m g) (same_call p q) a

    kinds_differ : (q p : Request P service body) → are_passed_as (params_of P q.method) q.call.args ≡ false → are_passed_as (params_of P p.method) p.call.args ≡ true → ⊥
    kinds_differ q p no_kind kinds = not_true (sym no_kind ∙ same_kinds q p ∙ kinds)

    pub one_refusal : {f g : ServeFault} → RefusedAs P service body f → RefusedAs P service body g → f ≡ g
    one_refusal (unread {e = e} is) (unread {e = d} also) = ap (λ (x : MessageFault). BadRequest (reading_code x)) (err_one e d (sym is ∙ also))
    one_refusal (unread is) (no_method read none) = absurd (read_not is read)
    one_refusal (unread is) (other_count p count) = absurd (read_not is p.read)
    one_refusal (unread is) (other_kind p count kind) = absurd (read_not is p.read)
    one_refusal (unread is) (no_graph p kinds none) = absurd (read_not is p.read)
    one_refusal (unread is) (other_class p g kinds spells goes) = absurd (read_not is p.read)
    one_refusal (no_method read none) (unread is) = absurd (read_not is read)
    one_refusal (no_method read none) (no_method also nothing) = refl
    one_refusal (no_method read none) (other_count p count) = absurd (found_not read none p)
    one_refusal (no_method read none) (other_kind p count kind) = absurd (found_not read none p)
    one_refusal (no_method read none) (no_graph p kinds nothing) = absurd (found_not read none p)
    one_refusal (no_method read none) (other_class p g kinds spells goes) = absurd (found_not read none p)
    one_refusal (other_count q count) (unread is) = absurd (read_not is q.read)
    one_refusal (other_count q count) (no_method read none) = absurd (found_not read none q)
    one_refusal (other_count q count) (other_count p other) = refl
    one_refusal (other_count q count) (other_kind p long kind) = absurd (count (count_at q p long))
    one_refusal (other_count q count) (no_graph p kinds none) = absurd (count (count_at q p (long_of p kinds)))
    one_refusal (other_count q count) (other_class p g kinds spells goes) = absurd (count (count_at q p (long_of p kinds)))
    one_refusal (other_kind q long kind) (unread is) = absurd (read_not is q.read)
    one_refusal (other_kind q long kind) (no_method read none) = absurd (found_not read none q)
    one_refusal (other_kind q long kind) (other_count p count) = absurd (count (count_at p q long))
    one_refusal (other_kind q long kind) (other_kind p also other) = refl
    one_refusal (other_kind q long kind) (no_graph p kinds none) = absurd (kinds_differ q p kind kinds)
    one_refusal (other_kind q long kind) (other_class p g kinds spells goes) = absurd (kinds_differ q p kind kinds)
    one_refusal (no_graph q kinds none) (unread is) = absurd (read_not is q.read)
    one_refusal (no_graph q kinds none) (no_method read nothing) = absurd (found_not read nothing q)
    one_refusal (no_graph q kinds none) (other_count p count) = absurd (count (count_at p q (long_of q kinds)))
    one_refusal (no_graph q kinds none) (other_kind p long kind) = absurd (kinds_differ p q kind kinds)
    one_refusal (no_graph q kinds none) (no_graph p also nothing) = refl
    one_refusal (no_graph q kinds none) (other_class p g also spells goes) = absurd (none g (graph_at q p g spells))
    one_refusal (other_class q g kinds spells goes) (unread is) = absurd (read_not is q.read)
    one_refusal (other_class q g kinds spells goes) (no_method read none) = absurd (found_not read none q)
    one_refusal (other_class q g kinds spells goes) (other_count p count) = absurd (count (count_at p q (long_of q kinds)))
    one_refusal (other_class q g kinds spells goes) (other_kind p long kind) = absurd (kinds_differ p q kind kinds)
    one_refusal (other_class q g kinds spells goes) (no_graph p also none) = absurd (none g (graph_at p q g spells))
    one_refusal (other_class q g kinds spells goes) (other_class p h also reads differs) = refl
