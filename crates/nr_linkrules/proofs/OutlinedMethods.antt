-- The methods of the program that classes link to are, without what linking finds, those of the outline of the classes.
use Rattle.std.proofs.Common.{◌≡◌, ℕ, zero, suc, ◌+◌, List, [], ◌∷◌, ◌++◌, length, map, take, drop, refl, sym, ap, subst, ◌∙◌, arith, length-append}
use Rattle.std.specs.Prelude.{All, Option, Some, None, slice_get}
use Rattle.std.specs.List.{flat_map, zip}
use Rattle.std.specs.Option.{option_map}
use Rattle.std.proofs.lemmas.List.{length-map}
use Rattle.std.proofs.lemmas.Option.{same_Some, slice_get-map, slice_get_within}
use Rattle.nr_prog.specs.declared.body.loaded.Loaded.{Loaded}
use Rattle.nr_prog.specs.declared.body.whole.Body.{Body}
use Rattle.nr_prog.specs.declared.member.Method.{Method}
use Rattle.nr_prog.specs.declared.parts.ClassParts.{ClassParts}
use Rattle.nr_linked.specs.declared.program.tables.MethodInfo.{MethodInfo}
use Rattle.nr_linked.specs.declared.program.tables.ProgramTables.{ProgramTables}
use Rattle.nr_prog.specs.BodyText.{EachBody}
use Rattle.nr_linked.specs.BuiltInTables.{built_in_methods}
use Rattle.nr_linked.specs.Linked.{first_built_in_method}
use Rattle.nr_linked.specs.Programs.{method_at}
use Rattle.nr_links.specs.Entries.{method_count}
use Rattle.nr_links.specs.Links.{IsDecoded, Links}
use Rattle.nr_links.proofs.MethodEntries.{Stands, method_from, stand}
use Rattle.nr_linked.proofs.Elements.{get_below}
use Rattle.nr_linkrules.specs.Outline.{bare_method, outline, outline_method, outline_methods, some_text}
use Rattle.nr_linkrules.proofs.Outlined.{first_method, loaded_count}
use Rattle.nr_linkrules.proofs.Parts.{drop_map, get_back, get_front, map_parts, two_parts, zip_at, zip_length}

-- ---- one body a method

one_each : (c : ClassParts) (ms : List Method) (bs : List (Option Body)) → EachBody c ms bs → length bs ≡ length ms
one_each c [] [] h = refl
one_each c [] (b ∷ bs) h = absurd h
one_each c (m ∷ ms) [] h = absurd h
one_each c (m ∷ ms) (b ∷ bs) h = let rest = one_each c ms bs h.1 in omega (arith, rest)

pub one_body_each : (l : Loaded) → IsDecoded l → length l.bodies ≡ length l.«class».methods
one_body_each l decoded = one_each l.«class» l.«class».methods l.bodies decoded.bodies

-- the first class and the others
pub all_parts : (P : Loaded → Type 0) (l : Loaded) (ls : List Loaded) → All P (l ∷ ls) → P l × All P ls
all_parts P l ls all = (all 0 l (omega arith), λ k d lt. all (suc k) d (omega (arith, lt)))

-- ---- the methods of an outline

own_methods : ℕ → Loaded → List MethodInfo
own_methods c l = map (outline_method c l.«class».pool) (zip l.«class».methods l.bodies)

own_length : (c : ℕ) (l : Loaded) → IsDecoded l → length (own_methods c l) ≡ length l.«class».methods
unfolding own_methods
own_length c l decoded =
    length-map (zip l.«class».methods l.bodies) (outline_method c l.«class».pool) ∙ zip_length l.«class».methods l.bodies (one_body_each l decoded)

pub outlined_length : (c : ℕ) (classes : List Loaded) → All IsDecoded classes → length (outline_methods c classes) ≡ method_count classes
unfolding outline_methods own_methods
outlined_length c [] all = refl
outlined_length c (l ∷ ls) all =
    let parts = all_parts IsDecoded l ls all in
    let rest = outlined_length (c + 1) ls parts.1 in
    let own = own_length c l parts.0 in
    let sum = length-append (own_methods c l) (outline_methods (c + 1) ls) in
    let counts = length-append l.«class».methods (flat_map (λ (l : Loaded). l.«class».methods) ls) in
    omega (arith, rest, own, sum, counts)

-- the method at a place of a class
pub outlined_at : (first : ℕ) (classes : List Loaded) → All IsDecoded classes → (own : ℕ) (l : Loaded) (place : ℕ) (m : Method) (decoded : Option Body)
    → slice_get classes own ≡ Some l → slice_get l.«class».methods place ≡ Some m → slice_get l.bodies place ≡ Some decoded
    → slice_get (outline_methods first classes) (method_count (take own classes) + place) ≡ Some (outline_method (first + own) l.«class».pool (m, decoded))
unfolding outline_methods own_methods
outlined_at first [] all own l place m decoded at declares decodes = absurd cc
outlined_at first (k ∷ ls) all zero l place m decoded at declares decodes =
    let same = same_Some k l at in
    let parts = all_parts IsDecoded k ls all in
    let declared = subst (λ (l : Loaded). slice_get l.«class».methods place ≡ Some m) (sym same) declares in
    let body = subst (λ (l : Loaded). slice_get l.bodies place ≡ Some decoded) (sym same) decodes in
    let short = slice_get_within k.«class».methods place m declared in
    let own = own_length first k parts.0 in
    let sum : 0 + place ≡ place = omega arith in
    let number : first ≡ first + zero = omega arith in
    ap (slice_get (own_methods first k ++ outline_methods (first + 1) ls)) sum
    ∙ get_front (own_methods first k) (outline_methods (first + 1) ls) place (omega (arith, short, own))
    ∙ slice_get-map (outline_method first k.«class».pool) (zip k.«class».methods k.bodies) place
    ∙ ap (option_map (outline_method first k.«class».pool)) (zip_at k.«class».methods k.bodies place m decoded declared body)
    ∙ (λ i. Some (outline_method (number i) (same i).«class».pool (m, decoded)))
outlined_at first (k ∷ ls) all (suc own) l place m decoded at declares decodes =
    let parts = all_parts IsDecoded k ls all in
    let count = own_length first k parts.0 in
    let counts = length-append k.«class».methods (flat_map (λ (l : Loaded). l.«class».methods) (take own ls)) in
    let sum : method_count (take (suc own) (k ∷ ls)) + place ≡ length (own_methods first k) + (method_count (take own ls) + place) = omega (arith, count, counts) in
    let number : first + 1 + own ≡ first + suc own = omega arith in
    ap (slice_get (own_methods first k ++ outline_methods (first + 1) ls)) sum
    ∙ get_back (own_methods first k) (outline_methods (first + 1) ls) (method_count (take own ls) + place)
    ∙ outlined_at (first + 1) ls parts.1 own l place m decoded at declares decodes
    ∙ ap (λ n. Some (outline_method n l.«class».pool (m, decoded))) number

-- ---- the methods of the program

same_entry : (i j : MethodInfo) → i.«class» ≡ j.«class» → i.name ≡ j.name → i.desc ≡ j.desc → i.flags ≡ j.flags → i.max_stack ≡ j.max_stack → i.max_locals ≡ j.max_locals → i.body ≡ j.body
    → bare_method i ≡ bare_method j
unfolding bare_method
same_entry i j own name desc flags max_stack max_locals body = λ at. record {
  «class» = own at;
  name = name at;
  desc = desc at;
  flags = flags at;
  params = [];
  result = None;
  max_stack = max_stack at;
  max_locals = max_locals at;
  body = body at;
  resolved = [];
  catches = [];
  maps = [];
}

module _ (classes : List Loaded) (P : ProgramTables) (links : Links classes P) (all : All IsDecoded classes) where
  entry_is : (n : ℕ) (i : MethodInfo) (s : Stands classes n) → method_at P n ≡ Some i → bare_method i ≡ bare_method (outline_method (0 + s.own) s.l.«class».pool (s.m, s.decoded))
  unfolding outline_method
  entry_is n i s is =
      let f = method_from classes P links n i s.own s.l s.m s.place s.decoded is s.at s.declares s.decodes s.sum in
      same_entry i (outline_method (0 + s.own) s.l.«class».pool (s.m, s.decoded))
      (let e : s.own ≡ 0 + s.own = omega arith in f.is_own ∙ e)
      (ap some_text (sym f.name))
      (ap some_text (sym f.desc))
      f.flags f.said.max_stack f.said.max_locals f.said.body

  front : (n : ℕ) (i : MethodInfo) → slice_get (map bare_method (outline_methods 0 classes)) n ≡ Some i → slice_get (map bare_method P.methods) n ≡ Some i
  front n i at =
      let w = slice_get_within (map bare_method (outline_methods 0 classes)) n i at in
      let count = length-map (outline_methods 0 classes) bare_method in
      let total = outlined_length 0 classes all in
      let s = stand classes all n (omega (arith, w, count, total)) in
      let j = get_below P.methods n (omega (arith, w, count, total, links.method_count)) in
      let there = outlined_at 0 classes all s.own s.l s.place s.m s.decoded s.at s.declares s.decodes in
      slice_get-map bare_method P.methods n ∙ ap (option_map bare_method) j.1 ∙ ap (λ i. Some i) (entry_is n j.0 s j.1)
      ∙ sym (ap (option_map bare_method) (ap (slice_get (outline_methods 0 classes)) s.sum ∙ there)) ∙ sym (slice_get-map bare_method (outline_methods 0 classes) n) ∙ at

  pub methods_are : map bare_method P.methods ≡ map bare_method (outline classes).methods
  unfolding outline
  methods_are =
      two_parts (map bare_method P.methods) (map bare_method (outline_methods 0 classes)) (map bare_method (built_in_methods (length classes))) front
      (ap (λ n. drop n (map bare_method P.methods)) (length-map (outline_methods 0 classes) bare_method ∙ outlined_length 0 classes all ∙ sym (first_method classes P links))
      ∙ drop_map bare_method (first_built_in_method P) P.methods ∙ ap (map bare_method) links.linked.built_in_methods
      ∙ ap (λ n. map bare_method (built_in_methods n)) (loaded_count classes P links))
      ∙ sym (map_parts bare_method (outline_methods 0 classes) (built_in_methods (length classes)))
