-- Two programs that the same classes link to have one table of classes.
use Rattle.std.proofs.Common.{◌≡◌, ℕ, inl, inr, List, length, sym, ◌∙◌}
use Rattle.std.specs.Prelude.{Some, IsTrue}
use Rattle.std.proofs.lemmas.Bool.{cases_Bool}
use Rattle.std.proofs.lemmas.Option.{same_Some}
use Rattle.nr_prog.specs.declared.body.loaded.Loaded.{Loaded}
use Rattle.nr_linked.specs.declared.program.tables.ClassInfo.{ClassInfo}
use Rattle.nr_linked.specs.declared.program.tables.ProgramTables.{ProgramTables}
use Rattle.nr_linked.specs.Linked.{is_loaded}
use Rattle.nr_linked.specs.Programs.{class_at}
use Rattle.nr_links.specs.Links.{Links}
use Rattle.nr_links.proofs.OneClass.{counted, one_rising, slots_from, steps, super_in_list}
use Rattle.nr_links.proofs.OneNames.{back, same_list, same_options, same_past_classes, there, twins}

class_same : (e f : ClassInfo) → e.name ≡ f.name → e.flags ≡ f.flags → e.super_class ≡ f.super_class → e.interfaces ≡ f.interfaces → e.supers ≡ f.supers → e.slots ≡ f.slots
    → e.first_method ≡ f.first_method → e.methods ≡ f.methods → e.read ≡ f.read → e ≡ f
class_same e f name flags super_class interfaces supers slots first_method methods read =
    λ i. record { name = name i; flags = flags i; super_class = super_class i; interfaces = interfaces i; supers = supers i; slots = slots i; first_method = first_method i; methods = methods i; read = read i }

module _ (classes : List Loaded) (P Q : ProgramTables) (L : Links classes P) (M : Links classes Q) where
  loaded_same : (c : ℕ) (e f : ClassInfo) → class_at P c ≡ Some e → class_at Q c ≡ Some f → IsTrue (is_loaded P c) → e ≡ f
  loaded_same c e f is js p =
      let t = twins classes P Q L M c e f is js p in
      let up = steps classes P Q L M c e f is js in
      let a = L.entries c t.l e t.at is in
      let b = M.entries c t.l f t.at js in
      class_same e f
      (same_Some e.name f.name (sym t.mine.name ∙ t.theirs.name))
      (t.mine.flags ∙ sym t.theirs.flags)
      up.super_class
      up.interfaces
      (one_rising e.supers f.supers a.rising b.rising (λ d. super_in_list classes P Q L M c d e f is js) (λ d. super_in_list classes Q P M L c d f e js is))
      (slots_from classes P Q L M (length P.classes) c (L.linked.classes c e is).ends e f is js)
      (a.first_method ∙ sym b.first_method)
      (counted classes P Q L M P c e t.l.«class» is t.mine.methods ∙ sym (counted classes P Q L M Q c f t.l.«class» js t.theirs.methods))
      (a.read ∙ sym b.read)

  same_class : (c : ℕ) → class_at P c ≡ class_at Q c
  same_class c = elim (cases_Bool (is_loaded P c)) [
    | inl p ↦ same_options (class_at P c) (class_at Q c) (λ e f is js. loaded_same c e f is js p) (there classes P Q L M c) (back classes P Q L M c)
    | inr p ↦ same_past_classes classes P Q L M c p
  ]

  pub one_table : P.classes ≡ Q.classes
  one_table = same_list P.classes Q.classes same_class
