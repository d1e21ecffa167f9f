-- The tables that classes link to have the facts that typing takes of them.
use Rattle.std.proofs.Common.{◌≡◌, ℕ, ◌+◌, inl, inr, List, [], length, refl, sym, ap, subst, ◌∙◌}
use Rattle.std.specs.Prelude.{Option, Some, None, All, IsTrue}
use Rattle.std.specs.List.{AllZip}
use Rattle.std.specs.Option.{option_and_then, option_map_or}
use Rattle.nr_prog.specs.declared.body.loaded.Loaded.{Loaded}
use Rattle.nr_prog.specs.declared.body.whole.Body.{Body}
use Rattle.nr_linked.specs.declared.program.tables.MethodInfo.{MethodInfo}
use Rattle.nr_linked.specs.declared.program.tables.ProgramTables.{ProgramTables}
use Rattle.nr_linked.specs.declared.program.tables.Resolved.TheVariants as resolved
use Rattle.nr_linked.specs.BuiltIns.{number}
use Rattle.nr_linked.specs.Facts.{ProgramFacts}
use Rattle.nr_linked.specs.Linked.{first_built_in, instrs_of, is_resolved_in}
use Rattle.nr_linked.specs.Programs.{method_at}
use Rattle.nr_linked.specs.Sites.{Site, site_among, site_at}
use Rattle.nr_linked.specs.TypingFacts.{SiteFacts, TypingFacts}
use Rattle.nr_links.specs.Found.{IsCallFound, IsFound}
use Rattle.nr_links.specs.Links.{IsDecoded, Links}
use Rattle.nr_linked.proofs.AnyReferences.{any_up}
use Rattle.nr_linked.proofs.BuiltInLaws.{cloneable, makeable, no_code, serializable, throwable, thrown}
use Rattle.nr_links.proofs.Bounds.{class_texts, method_bounds}
use Rattle.nr_links.proofs.Calling.{call_facts}
use Rattle.nr_links.proofs.Described.{built_in_facts}
use Rattle.nr_links.proofs.Instructions.{found_at, passes_found, row_listed, shaped, text_at_site}
use Rattle.nr_links.proofs.LaidOut.{laid_out, text_of_body}
use Rattle.nr_links.proofs.Suits.{suited}
use Rattle.nr_links.proofs.MethodEntries.{LoadedMethod, method_cases}
use Rattle.nr_links.proofs.Selecting.{selects}
use Rattle.nr_linked.proofs.Declaring.{own_above}
use Rattle.nr_links.proofs.SiteFacts.{called, constant, dimensions, elements, kind_itself, made}
use Rattle.nr_links.proofs.SlotFacts.{declared_slot, inherited, slotted}
use Rattle.nr_linked.proofs.Ascents.{above_above, entry_of_above, super_above, up}

-- ---- sites

module _ (classes : List Loaded) (P : ProgramTables) (links : Links classes P) (all : All IsDecoded classes) where
  loaded_site : (n : ℕ) (i : MethodInfo) (m : LoadedMethod classes P n i) (body : Body) (at : ℕ) (s : Site) → method_at P n ≡ Some i → i.body ≡ Some body → site_among body.instrs i.resolved at ≡ Some s → SiteFacts P i.«class» s
  loaded_site n i m body at s is has among =
      let pool = m.l.«class».pool in
      let same : instrs_of i ≡ body.instrs = ap (λ o. option_map_or (λ (b : Body). b.instrs) o []) has in
      let found = found_at (IsFound P m.own pool) body.instrs i.resolved (subst (λ is. AllZip (IsFound P m.own pool) is i.resolved) same m.said.resolved) at s among in
      let text = text_of_body m.l.«class» m.m m.m.code m.decoded body m.body_for (sym m.said.body ∙ has) in
      let t = text_at_site pool 0 body.instrs i.resolved text.0 text.1 at s among in
      let known = passes_found (is_resolved_in P) body.instrs i.resolved (links.linked.methods n i is).resolved at s among in
      let e = entry_of_above P links.linked i.«class» i.«class» (own_above P links.linked n i is) in
      record {
        row = row_listed pool s.instr t;
        shaped = shaped pool s.instr.row t.0 s.instr.row.shape s.instr.args t.2.spelled.0 t.2.spelled.2;
        constant = constant P m.own pool s.instr s.resolved t found;
        kind = λ k r. kind_itself P links.linked k (subst (λ r. IsTrue (is_resolved_in P r)) r known);
        elements = λ code k r. elements P m.own pool s.instr k t (subst (IsFound P m.own pool s.instr) r found) code;
        made = λ family k r. made P m.own pool s.instr k (subst (IsFound P m.own pool s.instr) r found) family;
        dimensions = λ index count k a r. dimensions P m.own pool s.instr index count k t (subst (IsFound P m.own pool s.instr) r found) a;
        call = λ family k c callee r callee_is. let call = called P m.own pool s.instr k c (subst (IsFound P m.own pool s.instr) r found) family in
            call_facts classes P links all i.«class» s.instr.row.code e.0 pool call.named call.member (resolved.Method k c) e.1
            (subst (λ own. IsCallFound P own s.instr.row.code pool call.named call.member (resolved.Method k c)) (sym m.is_own) call.call) k c callee refl callee_is;
      }

  site_facts : (n : ℕ) (i : MethodInfo) (at : ℕ) (s : Site) → method_at P n ≡ Some i → site_at i at ≡ Some s → SiteFacts P i.«class» s
  site_facts n i at s is here = of_body i.body refl here
    where
      of_body : (o : Option Body) → i.body ≡ o → option_and_then (λ (b : Body). site_among b.instrs i.resolved at) o ≡ Some s → SiteFacts P i.«class» s
      of_body None none e = absurd cc
      of_body (Some body) some e = elim (method_cases classes P links all n i is) [
        | inl m ↦ loaded_site n i m body at s is some e
        | inr m ↦ let none = sym (ap (λ (i : MethodInfo). i.body) m.is ∙ no_code (first_built_in P + number m.holder) m.method) ∙ some in absurd cc
      ]

  one_each : (n : ℕ) (i : MethodInfo) (body : Body) → method_at P n ≡ Some i → i.body ≡ Some body → length i.resolved ≡ length body.instrs
  one_each n i body is has = (links.linked.methods n i is).one_each ∙ ap (λ o. length (option_map_or (λ (b : Body). b.instrs) o [])) has

  typing_facts : TypingFacts P
  typing_facts = record {
    above_above = above_above P links.linked;
    super_above = super_above P links.linked;
    any_up = λ d e any above. any_up P links.linked d e any (up P links.linked d e above);
    cloneable = cloneable P links.linked;
    serializable = serializable P links.linked;
    throwable = throwable P links.linked;
    thrown = thrown P links.linked;
    inherited = inherited classes P links;
    declared = declared_slot classes P links;
    slotted = slotted classes P links;
    makeable = makeable P links.linked;
    own = λ n i body is has. own_above P links.linked n i is;
    selects = λ n c k i j is instance shared sel js. selects classes P links all n c k i j is shared sel js;
    built_ins = built_in_facts classes P links all;
    one_each = one_each;
    sites = site_facts;
  }

  -- ---- all that a program keeps

  pub program_facts : ProgramFacts P
  program_facts = record {
    linked = links.linked;
    typing = typing_facts;
    laid_out = laid_out classes P all links;
    suited = suited classes P all links;
    classes = λ c e is. class_texts classes P links all c e is;
    methods = λ n i is. method_bounds classes P links all n i is;
  }
