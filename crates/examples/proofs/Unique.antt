-- "Show that no two differing outcomes satisfy a statement.": the law, for each form that a statement has here.
use mathlib.Core.Path.{◌≡◌, refl, sym, ◌∙◌}
use seplogic.Ra.Ura.{Ura}
use base.Logic.{SProp, ent, sep, id⊢, via, mono_r, fst∗, snd∗}
use prog.Memory.{Memory}
use prog.Routine.{Routine}
use types.Logic.{Logic}
use contract.Monad.{Fun, conj, conj_l, conj_r, fact, fact_i, fact_use}
use contract.Lifetimes.{Lfts}
use denote.Triple.Entry.{Args}
use denote.Triple.Clauses.{Ended, Clauses, Lasts, at_exit}

-- A statement says something of a result and of the contents at exit of what was lent. No two differing outcomes satisfy it: of two that do, the
-- results
-- are the same and so are the contents.
module _ {M : Type 1} (𝓤 : Ura M) where
  abbrev pub Single : {R L : Type 0} → (R → L → SProp 𝓤) → Type 1
  Single {R} {L} says =
      (r r' : R) (ws ws' : L) → ent 𝓤 (conj 𝓤 (says r ws) (says r' ws')) (fact 𝓤 ((r ≡ r') × (ws ≡ ws')))

  -- the law: facts that a statement says, and that only one outcome has
  pub single : {R L : Type 0} (says : R → L → SProp 𝓤) (K : R → L → Type 0) → ((r : R) (ws : L) → ent 𝓤 (says r ws) (fact 𝓤 (K r ws)))
      → ((r r' : R) (ws ws' : L) → K r ws → K r' ws' → (r ≡ r') × (ws ≡ ws')) → Single says
  single says K said same r r' ws ws' =
      fact_use 𝓤 (K r ws) (via 𝓤 (says r ws) (conj_l 𝓤 _ _) (said r ws)) (λ p.
      fact_use 𝓤 (K r' ws') (via 𝓤 (says r' ws') (conj_r 𝓤 _ _) (said r' ws')) (λ q. fact_i 𝓤 _ _ (same r r' ws ws' p q)))

  both : (φ ψ : Type 0) → ent 𝓤 (sep 𝓤 (fact 𝓤 φ) (fact 𝓤 ψ)) (fact 𝓤 (φ × ψ))
  both φ ψ =
      fact_use 𝓤 φ (fst∗ 𝓤 (fact 𝓤 φ) (fact 𝓤 ψ)) (λ p. fact_use 𝓤 ψ (snd∗ 𝓤 (fact 𝓤 φ) (fact 𝓤 ψ)) (λ q. fact_i 𝓤 _ _ (p, q)))

  -- "result ≡ definition", where nothing was lent that can be written to
  pub alone : {R L : Type 0} (d : R) → ((v w : L) → v ≡ w) → Single (λ (r : R) (ws : L). fact 𝓤 (r ≡ d))
  alone d still = single _ (λ r ws. r ≡ d) (λ r ws. id⊢ 𝓤 _) (λ r r' ws ws' p q. (p ∙ sym q, still ws ws'))

  -- the same, and "content at exit ≡ definition" of a lent slice
  pub lent_one : {R L B : Type 0} (d : R) (b : B) (look : L → B) → ((v w : L) → look v ≡ look w → v ≡ w)
      → Single (λ (r : R) (ws : L). sep 𝓤 (fact 𝓤 (r ≡ d)) (fact 𝓤 (look ws ≡ b)))
  lent_one d b look told =
      single _ (λ r ws. (r ≡ d) × (look ws ≡ b)) (λ r ws. both _ _)
      (λ r r' ws ws' p q. (p.0 ∙ sym q.0, told ws ws' (p.1 ∙ sym q.1)))

  -- the same of two lent slices
  pub lent_two : {R L B C : Type 0} (d : R) (b : B) (c : C) (look : L → B) (look' : L → C)
      → ((v w : L) → look v ≡ look w → look' v ≡ look' w → v ≡ w)
      → Single (λ (r : R) (ws : L). sep 𝓤 (fact 𝓤 (r ≡ d)) (sep 𝓤 (fact 𝓤 (look ws ≡ b)) (fact 𝓤 (look' ws ≡ c))))
  lent_two d b c look look' told =
      single _ (λ r ws. (r ≡ d) × ((look ws ≡ b) × (look' ws ≡ c)))
      (λ r ws. via 𝓤 (sep 𝓤 (fact 𝓤 (r ≡ d)) (fact 𝓤 ((look ws ≡ b) × (look' ws ≡ c)))) (mono_r 𝓤 (fact 𝓤 (r ≡ d)) (both _ _)) (both _ _))
      (λ r r' ws ws' p q. (p.0 ∙ sym q.0, told ws ws' (p.1.0 ∙ sym q.1.0) (p.1.1 ∙ sym q.1.1)))

  -- of three, the first a lent tally
  pub lent_three : {R L B C D : Type 0} (d : R) (b : B) (c : C) (e : D) (look : L → B) (look' : L → C) (look'' : L → D)
      → ((v w : L) → look v ≡ look w → look' v ≡ look' w → look'' v ≡ look'' w → v ≡ w)
      → Single (λ (r : R) (ws : L). sep 𝓤 (fact 𝓤 (r ≡ d)) (sep 𝓤 (fact 𝓤 (look ws ≡ b)) (sep 𝓤 (fact 𝓤 (look' ws ≡ c)) (fact 𝓤
      (look'' ws ≡ e)))))
  lent_three d b c e look look' look'' told =
      single _ (λ r ws. (r ≡ d) × ((look ws ≡ b) × ((look' ws ≡ c) × (look'' ws ≡ e))))
      (λ r ws.
      via 𝓤 (sep 𝓤 (fact 𝓤 (r ≡ d)) (fact 𝓤 ((look ws ≡ b) × ((look' ws ≡ c) × (look'' ws ≡ e)))))
      (mono_r 𝓤 (fact 𝓤 (r ≡ d))
      (via 𝓤 (sep 𝓤 (fact 𝓤 (look ws ≡ b)) (fact 𝓤 ((look' ws ≡ c) × (look'' ws ≡ e)))) (mono_r 𝓤 (fact 𝓤 (look ws ≡ b)) (both _ _)) (both _ _)))
      (both _ _))
      (λ r r' ws ws' p q.
      (p.0 ∙ sym q.0, told ws ws' (p.1.0 ∙ sym q.1.0) (p.1.1.0 ∙ sym q.1.1.0) (p.1.1.1 ∙ sym q.1.1.1)))

  -- nothing but what is lent: there is no result
  pub only_lent : {L B : Type 0} (b : B) (look : L → B) → ((v w : L) → look v ≡ look w → v ≡ w)
      → Single (λ (r : Unit {0}) (ws : L). fact 𝓤 (look ws ≡ b))
  only_lent b look told =
      single _ (λ r ws. look ws ≡ b) (λ r ws. id⊢ 𝓤 _) (λ r r' ws ws' p q. (refl, told ws ws' (p ∙ sym q)))

  pub only_two : {L B C : Type 0} (b : B) (c : C) (look : L → B) (look' : L → C)
      → ((v w : L) → look v ≡ look w → look' v ≡ look' w → v ≡ w)
      → Single (λ (r : Unit {0}) (ws : L). sep 𝓤 (fact 𝓤 (look ws ≡ b)) (fact 𝓤 (look' ws ≡ c)))
  only_two b c look look' told =
      single _ (λ r ws. (look ws ≡ b) × (look' ws ≡ c)) (λ r ws. both _ _)
      (λ r r' ws ws' p q. (refl, told ws ws' (p.0 ∙ sym q.0) (p.1 ∙ sym q.1)))

  -- a second statement beside the equation widens nothing
  pub besides : {R L : Type 0} (d : R) (more : R → Type 0) → ((v w : L) → v ≡ w)
      → Single (λ (r : R) (ws : L). sep 𝓤 (fact 𝓤 (r ≡ d)) (fact 𝓤 (more r)))
  besides d more still =
      single _ (λ r ws. (r ≡ d) × more r) (λ r ws. both _ _) (λ r r' ws ws' p q. (p.0 ∙ sym q.0, still ws ws'))

-- a function's contract, as the checker has it
abbrev pub Contract : {M : Type 1} (𝓤 : Ura M) → Ended → Type 2
Contract 𝓤 T = Logic 𝓤 → (Memory → SProp 𝓤) → (Routine → Fun 𝓤) → Clauses 𝓤 T

-- it has a single outcome for each input
module _ {M : Type 1} {𝓤 : Ura M} (𝓛 : Logic 𝓤) (mem : Memory → SProp 𝓤) (run : Routine → Fun 𝓤) where
  abbrev pub One : (T : Ended) → Contract 𝓤 T → Type 1
  One T c =
      (κs : Lfts T.signature.lifetimes) (a : Args T.signature κs) (g : (c 𝓛 mem run κs a).ghost)
      → Single 𝓤 (λ r (ws : Lasts T κs a). (c 𝓛 mem run κs a).ensures g r (at_exit T κs a ws))
