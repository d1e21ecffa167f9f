-- What the test of `Reaches` tells is what stands above.
use Rattle.std.proofs.Common.{◌≡◌, ℕ, zero, suc, ◌<◌, ◌⊎◌, inl, inr, refl, subst, arith, ◌&&◌}
use Rattle.std.specs.Prelude.{IsTrue, ◌==◌, ◌↔◌, length}
use Rattle.std.proofs.lemmas.Bool.{and_from, and_parts, eq-eqb, eqb-true, or_cases, or_left, or_right}
use Rattle.nr_linked.specs.declared.program.tables.ProgramTables.{ProgramTables}
use Rattle.nr_linked.specs.Programs.{class_at}
use Rattle.nr_linked.specs.Subtypes.{Above, further, itself}
use Rattle.nr_links.proofs.Reaching.{direct_step, step_direct}
use Rattle.nr_linked.proofs.Ascents.{above_trans, one_step}
use Rattle.nr_linkrules.specs.Reaches.{is_step, reaches, reaches_by}

module _ (P : ProgramTables) where
  wider : (k c d : ℕ) → IsTrue (reaches_by P k c d) → IsTrue (reaches_by P (suc k) c d)
  unfolding reaches_by
  wider k c d p = or_left (reaches_by P k c d) (reaches_by P k c k && reaches_by P k k d) p

  by_way : (k c d : ℕ) → IsTrue (reaches_by P k c k) → IsTrue (reaches_by P k k d) → IsTrue (reaches_by P (suc k) c d)
  unfolding reaches_by
  by_way k c d p q = or_right (reaches_by P k c d) (reaches_by P k c k && reaches_by P k k d) (and_from (reaches_by P k c k) (reaches_by P k k d) p q)

  parts : (k c d : ℕ) → IsTrue (reaches_by P (suc k) c d) → IsTrue (reaches_by P k c d) ⊎ (IsTrue (reaches_by P k c k) × IsTrue (reaches_by P k k d))
  unfolding reaches_by
  parts k c d p = elim (or_cases (reaches_by P k c d) (reaches_by P k c k && reaches_by P k k d) p) [
    | inl q ↦ inl q
    | inr q ↦ inr (and_parts (reaches_by P k c k) (reaches_by P k k d) q)
  ]

  -- by way of a class below k
  join : (k c j d : ℕ) → j < k → IsTrue (reaches_by P k c j) → IsTrue (reaches_by P k j d) → IsTrue (reaches_by P k c d)
  join zero c j d l p q = absurd (omega (arith, l))
  join (suc k) c j d l p q = elim (last j k l) [
    | inl e ↦ by_way k c d (to_last c (subst (λ j. IsTrue (reaches_by P (suc k) c j)) e p)) (from_last d (subst (λ j. IsTrue (reaches_by P (suc k) j d)) e q))
    | inr m ↦ elim (parts k c j p) [
      | inl a ↦ elim (parts k j d q) [
        | inl b ↦ wider k c d (join k c j d m a b)
        | inr b ↦ by_way k c d (join k c j k m a b.0) b.1
      ]
      | inr a ↦ elim (parts k j d q) [
        | inl b ↦ by_way k c d a.0 (join k k j d m a.1 b)
        | inr b ↦ by_way k c d a.0 b.1
      ]
    ]
  ]
    where
      last : (j k : ℕ) → j < suc k → (j ≡ k) ⊎ (j < k)
      last j k l = grind arith

      to_last : (c : ℕ) → IsTrue (reaches_by P (suc k) c k) → IsTrue (reaches_by P k c k)
      to_last c p = elim (parts k c k p) [ inl a ↦ a | inr a ↦ a.0 ]

      from_last : (d : ℕ) → IsTrue (reaches_by P (suc k) k d) → IsTrue (reaches_by P k k d)
      from_last d p = elim (parts k k d p) [ inl a ↦ a | inr a ↦ a.1 ]

  -- ---- the relation

  at_once : (c d : ℕ) → IsTrue (reaches_by P zero c d) → Above P c d
  unfolding reaches_by
  at_once c d p = elim (or_cases (c == d) (is_step P c d) p) [
    | inl e ↦ subst (λ d. Above P c d) (eqb-true c d e) itself
    | inr s ↦ one_step P c d (step_direct (class_at P c) d s)
  ]

  pub reached_above : (k c d : ℕ) → IsTrue (reaches_by P k c d) → Above P c d
  reached_above zero c d p = at_once c d p
  reached_above (suc k) c d p = elim (parts k c d p) [
    | inl a ↦ reached_above k c d a
    | inr a ↦ above_trans P c k d (reached_above k c k a.0) (reached_above k k d a.1)
  ]

  widest : (k c d : ℕ) → IsTrue (reaches_by P zero c d) → IsTrue (reaches_by P k c d)
  widest zero c d p = p
  widest (suc k) c d p = wider k c d (widest k c d p)

  here : (c : ℕ) → IsTrue (reaches_by P zero c c)
  unfolding reaches_by
  here c = or_left (c == c) (is_step P c c) (eq-eqb c c refl)

  stepped : (c d : ℕ) → IsTrue (is_step P c d) → IsTrue (reaches_by P zero c d)
  unfolding reaches_by
  stepped c d p = or_right (c == d) (is_step P c d) p

  above_reached : (n : ℕ) → ((c s : ℕ) → IsTrue (is_step P c s) → s < n) → (c d : ℕ) → Above P c d → IsTrue (reaches_by P n c d)
  above_reached n short c d itself = widest n c c (here c)
  above_reached n short c d (further {s = s} step rest) =
      let one = direct_step (class_at P c) s step in
      join n c s d (short c s one) (widest n c s (stepped c s one)) (above_reached n short s d rest)

  -- where each step leads to a class of the program
  pub reaches_above : ((c s : ℕ) → IsTrue (is_step P c s) → s < length P.classes) → (c d : ℕ) → IsTrue (reaches P c d) ↔ Above P c d
  reaches_above short c d = (reached_above (length P.classes) c d, above_reached (length P.classes) short c d)
