-- How a new node comes to the state.
use Rattle.std.proofs.Common.{◌≡◌, ℕ, suc, replicate, ◌+◌, ◌-◌, ◌<◌, ◌≤◌, ◌^◌, List, [], ◌∷◌, ◌++◌, length, reverse, Bool, true, Result, Ok, Err, Option, refl, sym, ap, ◌∙◌, append_assoc, arith}
use Rattle.std.proofs.lemmas.Bool.{le-leb}
use Rattle.std.proofs.lemmas.List.{reverse-append}
use Rattle.nr_base.specs.Place.{Place}
use Rattle.nr_base.specs.Reader.{pure, refuse, choose}
use Rattle.nr_linked.specs.declared.program.kind.Kind.{Kind}
use Rattle.nr_graph.specs.declared.graph.Slot.TheVariants.{Node as At}
use Rattle.nr_graph.specs.declared.graph.Node.{Node}
use Rattle.nr_graph.specs.declared.graph.Graph.{Graph}
use Rattle.nr_serform.specs.Entries.{Object}
use Rattle.nr_serform.specs.Handles.{Table}
use Rattle.nr_serread.specs.declared.work.Left.{Left}
use Rattle.nr_serread.specs.declared.work.Frame.{Frame}
use Rattle.nr_serread.specs.declared.due.Due.{Due}
use Rattle.nr_serread.specs.Reading.{State, with_slot, open_at, opened}
use Rattle.nr_serread.specs.Working.{left_due, frames_due, Fits}
use Rattle.nr_serread.specs.declared.work.Work.{Work}

pub pushed_due : (old fs gs : List Frame) (f : Frame) (roots : List Due) → fs ≡ old → gs ≡ fs ++ f ∷ [] → frames_due (reverse gs) ++ roots ≡ left_due f.node f.left ++ (frames_due (reverse old) ++ roots)
pushed_due old fs gs f roots a b = rw (b, a, reverse-append old (f ∷ [])) (append_assoc (left_due f.node f.left) (frames_due (reverse old)) roots)

pub opened_is : (d : Due) (start count : ℕ) (kind : Kind) (ks due : List Due) (s : State) (g : Graph) (nodes : List Node) (cells : ℕ) (before after : Table) (p : Place) → count < 2 ^ 20 - s.cells
    → g ≡ with_slot d.owner (At (length s.graph.nodes)) s.graph → nodes ≡ g.nodes ++ record { kind = kind; slots = [] } ∷ [] → after ≡ before ++ Object (length s.graph.nodes) ∷ []
    → cells ≡ s.cells → due ≡ ks ++ s.due
    → open_at d start kind before count ks s p ≡ Ok (record { graph = record { nodes = nodes; roots = g.roots }; table = after; cells = cells + (count + 1); due = due }, p)
unfolding open_at opened pure refuse choose
opened_is d start count kind ks due s g nodes cells before after p few eg en et ec ed =
    rw (en, et, ec, ed, eg, le-leb (s.cells + (count + 1)) (2 ^ 20) (omega arith)) refl

pub fits_again : (w : Work) (old cells count n : ℕ) → cells + (count + 1) ≤ 2 ^ 20 → old ≤ cells → n ≤ old + 1 → n ≤ cells + (count + 1)
fits_again w old cells count n a b c = omega arith

pub next_due : (fs gs : List Frame) (i : ℕ) (l m : Left) (d : Due) (roots : List Due) → left_due i l ≡ d ∷ left_due i m → gs ≡ fs ++ record { node = i; left = m } ∷ []
    → left_due i l ++ (frames_due (reverse fs) ++ roots) ≡ d ∷ (frames_due (reverse gs) ++ roots)
next_due fs gs i l m d roots e g = ap (λ z. z ++ (frames_due (reverse fs) ++ roots)) e ∙ ap (λ z. d ∷ z) (sym (pushed_due fs fs gs (record { node = i; left = m }) roots refl g))

pub root_due : (fs : List Frame) (d : Due) (roots : List Due) → fs ≡ [] → frames_due (reverse fs) ++ (d ∷ roots) ≡ d ∷ (frames_due (reverse fs) ++ roots)
root_due fs d roots e = rw e refl

pub one_root : (n i : ℕ) (a b : Due) → i < n → b ≡ a → replicate (n - i) a ≡ b ∷ replicate (n - (i + 1)) a
one_root n i a b lt e = rw (e, more) refl
  where
    more : n - i ≡ suc (n - (i + 1))
    more = omega arith

pub no_root : (n i : ℕ) (a : Due) → n ≤ i → replicate (n - i) a ≡ []
no_root n i a le = rw none refl
  where
    none : n - i ≡ 0
    none = omega arith

pub no_due : (fs : List Frame) → fs ≡ [] → frames_due (reverse fs) ++ [] ≡ []
no_due fs e = rw e refl
