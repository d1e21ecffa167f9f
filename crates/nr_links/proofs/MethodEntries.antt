-- The methods of a program: each comes from a class file, or is one of the built-in classes.
use Rattle.std.proofs.Common.{◌≡◌, ℕ, zero, suc, ◌+◌, ◌<◌, ◌⊎◌, inl, inr, false, List, [], ◌∷◌, map, take, refl, sym, ap, subst, ◌∙◌, arith}
use Rattle.std.specs.Prelude.{Option, Some, All, IsTrue, slice_get, ◌==◌}
use Rattle.std.specs.List.{flat_map, range_with_len}
use Rattle.std.specs.Option.{option_map, option_map_or}
use Rattle.std.proofs.lemmas.Bool.{cases_lt, eqb-true}
use Rattle.std.proofs.lemmas.Option.{get_or_from_slice_get, same_Some, slice_get-map, slice_get_within}
use Rattle.nr_prog.specs.declared.body.loaded.Loaded.{Loaded}
use Rattle.nr_prog.specs.declared.body.whole.Body.{Body}
use Rattle.nr_prog.specs.declared.member.Method.{Method}
use Rattle.nr_prog.specs.declared.parts.ClassParts.{ClassParts}
use Rattle.nr_prog.specs.declared.pool.PoolEntry.{PoolEntry}
use Rattle.nr_prog.specs.BodyText.{BodyFor, EachBody}
use Rattle.nr_prog.specs.Form.{IsMethodFormed}
use Rattle.nr_prog.specs.Pool.{text_at}
use Rattle.nr_linked.specs.declared.program.tables.ClassInfo.{ClassInfo}
use Rattle.nr_linked.specs.declared.program.tables.MethodInfo.{MethodInfo}
use Rattle.nr_linked.specs.declared.program.tables.ProgramTables.{ProgramTables}
use Rattle.nr_linked.specs.Linked.{Texts, is_method_of, method_texts, read_texts}
use Rattle.nr_linked.specs.Programs.{class_at, method_at, methods_of}
use Rattle.nr_links.specs.Entries.{IsMethodAs, method_count}
use Rattle.nr_links.specs.Links.{IsDecoded, Links}
use Rattle.nr_linked.proofs.BuiltInEntries.{BuiltInEntry, of_built_in_method}
use Rattle.nr_linked.proofs.Elements.{get_below, get_flat, get_mapped, get_range, passes_at}
use Rattle.nr_links.proofs.SlotFacts.{below_loaded, loaded_entry}

-- ---- one of a class file

pub record LoadedMethod (classes : List Loaded) (P : ProgramTables) (n : ℕ) (i : MethodInfo) : Type 0 where
  pub own : ℕ
  pub l : Loaded
  pub m : Method
  pub place : ℕ
  pub decoded : Option Body
  pub at : slice_get classes own ≡ Some l
  pub is_own : i.«class» ≡ own
  pub declares : slice_get l.«class».methods place ≡ Some m
  pub decodes : slice_get l.bodies place ≡ Some decoded
  pub name : text_at l.«class».pool m.name ≡ Some i.name
  pub desc : text_at l.«class».pool m.desc ≡ Some i.desc
  pub flags : i.flags ≡ m.flags
  pub formed : IsMethodFormed l.«class».pool m
  pub body_for : BodyFor l.«class» m m.code decoded
  pub said : IsMethodAs P own l.«class».pool m decoded i

pub all_at : {X : Type 0} (Q : X → Type 0) (xs : List X) (k : ℕ) (x : X) → All Q xs → slice_get xs k ≡ Some x → Q x
all_at Q xs k x all at = subst Q (get_or_from_slice_get xs k x x at) (all k x (slice_get_within xs k x at))

body_at : (c : ClassParts) (ms : List Method) (bs : List (Option Body)) (k : ℕ) (m : Method) → EachBody c ms bs → slice_get ms k ≡ Some m → (b : Option Body) × (slice_get bs k ≡ Some b) × BodyFor c m m.code b
body_at c [] [] k m all at = absurd cc
body_at c [] (b ∷ bs) k m all at = absurd cc
body_at c (n ∷ ms) [] k m all at = absurd all
body_at c (n ∷ ms) (b ∷ bs) zero m all at = (b, refl, subst (λ (m : Method). BodyFor c m m.code b) (same_Some n m at) all.0)
body_at c (n ∷ ms) (b ∷ bs) (suc k) m all at = body_at c ms bs k m all.1 at

-- ---- where a method stands in the class files

pub record Stands (classes : List Loaded) (n : ℕ) : Type 0 where
  pub own : ℕ
  pub l : Loaded
  pub m : Method
  pub place : ℕ
  pub decoded : Option Body
  pub at : slice_get classes own ≡ Some l
  pub declares : slice_get l.«class».methods place ≡ Some m
  pub decodes : slice_get l.bodies place ≡ Some decoded
  pub sum : n ≡ method_count (take own classes) + place
  pub formed : IsMethodFormed l.«class».pool m
  pub body_for : BodyFor l.«class» m m.code decoded

pub stand : (classes : List Loaded) → All IsDecoded classes → (n : ℕ) → n < method_count classes → Stands classes n
stand classes all n below =
    let m = get_below (flat_map (λ (l : Loaded). l.«class».methods) classes) n below in
    let r = get_flat (λ (l : Loaded). l.«class».methods) classes n m.0 m.1 in
    let decoded = all_at IsDecoded classes r.0 r.1 all r.3 in
    let body = body_at r.1.«class» r.1.«class».methods r.1.bodies r.2 m.0 decoded.bodies r.4 in
    record {
      own = r.0;
      l = r.1;
      m = m.0;
      place = r.2;
      decoded = body.0;
      at = r.3;
      declares = r.4;
      decodes = body.1;
      sum = r.5;
      formed = all_at (IsMethodFormed r.1.«class».pool) r.1.«class».methods r.2 m.0 decoded.formed.methods r.4;
      body_for = body.2;
    }

-- names, descriptors and flags that are read alike are alike
texts_same : (a b : List ℕ) (f : ℕ) (x y : Option (List ℕ)) (g : ℕ) → ◌≡◌ {A = Option (Texts × ℕ)} (Some ((x, y), g)) (Some ((Some a, Some b), f)) → (x ≡ Some a) × (y ≡ Some b) × (f ≡ g)
texts_same a b f x y g e =
    let p = same_Some ((x, y), g) ((Some a, Some b), f) e in
    (ap (λ (t : Texts × ℕ). t.0.0) p, ap (λ (t : Texts × ℕ). t.0.1) p, sym (ap (λ (t : Texts × ℕ). t.1) p))

module _ (classes : List Loaded) (P : ProgramTables) (links : Links classes P) where
  -- the number of the method at a place of a class, and what the table says of it
  pub record Numbered (c : ℕ) (e : ClassInfo) (pool : List PoolEntry) (m : Method) (place : ℕ) : Type 0 where
    pub among : slice_get (methods_of P c) place ≡ Some (e.first_method + place)
    pub texts : method_texts P (e.first_method + place) ≡ read_texts pool m

  numbered : (c : ℕ) (e : ClassInfo) (l : Loaded) (m : Method) (place : ℕ) → slice_get classes c ≡ Some l → class_at P c ≡ Some e → slice_get l.«class».methods place ≡ Some m → Numbered c e l.«class».pool m place
  numbered c e l m place at is declares =
      let entry = loaded_entry classes P links c e is (below_loaded classes P links c l at) in
      let same = same_Some entry.l l (sym entry.at ∙ at) in
      let all = subst (λ (l : Loaded). map (method_texts P) (methods_of P c) ≡ map (read_texts l.«class».pool) l.«class».methods) same entry.read_as.methods in
      let there = ap (λ ts. slice_get ts place) all ∙ slice_get-map (read_texts l.«class».pool) l.«class».methods place ∙ ap (option_map (read_texts l.«class».pool)) declares in
      let r = get_mapped (method_texts P) (methods_of P c) place (read_texts l.«class».pool m) there in
      let range = ap (λ o. option_map_or (λ (e : ClassInfo). range_with_len e.first_method e.methods) o []) is in
      let n = (get_range e.first_method e.methods place r.0 (sym (ap (λ ns. slice_get ns place) range) ∙ r.1)).0 in
      record {
        among = subst (λ n. slice_get (methods_of P c) place ≡ Some n) n r.1;
        texts = sym (subst (λ n. read_texts l.«class».pool m ≡ method_texts P n) n r.2);
      }

  -- what the table says of the method at a place of a class file
  pub record MethodFrom (i : MethodInfo) (own : ℕ) (l : Loaded) (m : Method) (decoded : Option Body) : Type 0 where
    pub is_own : i.«class» ≡ own
    pub name : text_at l.«class».pool m.name ≡ Some i.name
    pub desc : text_at l.«class».pool m.desc ≡ Some i.desc
    pub flags : i.flags ≡ m.flags
    pub said : IsMethodAs P own l.«class».pool m decoded i

  pub method_from : (n : ℕ) (i : MethodInfo) (c : ℕ) (l : Loaded) (m : Method) (place : ℕ) (decoded : Option Body) → method_at P n ≡ Some i → slice_get classes c ≡ Some l → slice_get l.«class».methods place ≡ Some m
      → slice_get l.bodies place ≡ Some decoded → n ≡ method_count (take c classes) + place → MethodFrom i c l m decoded
  method_from n i c l m place decoded is at declares decodes sum =
      let w = slice_get_within classes c l at in
      let e = get_below P.classes c (omega (arith, links.class_count, w)) in
      let said = links.entries c l e.0 at e.1 in
      let number = numbered c e.0 l m place at e.1 declares in
      let same : e.0.first_method + place ≡ n = omega (arith, sum, said.first_method) in
      let here = ap (method_at P) same ∙ is in
      let texts = texts_same i.name i.desc i.flags (text_at l.«class».pool m.name) (text_at l.«class».pool m.desc) m.flags
      (sym number.texts ∙ ap (option_map (λ (i : MethodInfo). ((Some i.name, Some i.desc), i.flags))) here) in
      let class_same = passes_at (is_method_of P c) (methods_of P c) place (e.0.first_method + place) (links.linked.classes c e.0 e.1).methods number.among in
      record {
        is_own = eqb-true i.«class» c (subst (λ o. IsTrue (option_map_or (λ (i : MethodInfo). i.«class» == c) o false)) here class_same);
        name = texts.0;
        desc = texts.1;
        flags = texts.2;
        said = said.methods place m decoded i declares decodes here;
      }

  -- a method by its number: it stands in a class file, or behind all of them
  pub method_cases : All IsDecoded classes → (n : ℕ) (i : MethodInfo) → method_at P n ≡ Some i → LoadedMethod classes P n i ⊎ BuiltInEntry P i
  method_cases all n i is = elim (cases_lt n (method_count classes)) [
    | inl below ↦ let s = stand classes all n below in
        let f = method_from n i s.own s.l s.m s.place s.decoded is s.at s.declares s.decodes s.sum in
        inl (record {
          own = s.own;
          l = s.l;
          m = s.m;
          place = s.place;
          decoded = s.decoded;
          at = s.at;
          is_own = f.is_own;
          declares = s.declares;
          decodes = s.decodes;
          name = f.name;
          desc = f.desc;
          flags = f.flags;
          formed = s.formed;
          body_for = s.body_for;
          said = f.said;
        })
    | inr past ↦ inr (of_built_in_method P links.linked n i is (omega (arith, links.method_count, past)))
  ]
