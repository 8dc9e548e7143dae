-- Runs of the machine that end, or go on.
use Rattle.std.proofs.Common.{◌≡◌, ℕ, ◌+◌, ◌-◌, ◌<◌, ◌≤◌, sym, ap, ◌∙◌, subst, arith, ⊎_elim}
use Rattle.std.proofs.lemmas.Bool.{cases_lt}
use Rattle.alpha_isa.specs.Program.{Program}
use Rattle.alpha_isa.specs.State.{State}
use Rattle.alpha_isa.specs.Step.{Halt, MachineNext, Goes, Over, exec, go_on}
use Rattle.alpha_isa.specs.Laws.{output_at}
use Rattle.alpha_isa.proofs.Runs.{exec_split, exec_more}
use Rattle.machine_model.specs.Laws.{IsPrefix}

-- the rest of a run
pub rest-of : (p : Program) (j m : ℕ) (s t : State) → j ≤ m → exec p j s ≡ Goes t → exec p m s ≡ exec p (m - j) t
rest-of p j m s t le e =
    let sum : m ≡ j + (m - j) = omega arith in
    ap (λ n. exec p n s) sum ∙ exec_split p j (m - j) s ∙ ap (λ r. go_on r (exec p (m - j))) e

-- a run that is over stays over
stays-over : (p : Program) (j m : ℕ) (s l : State) (h : Halt) → j ≤ m → exec p j s ≡ Over h l → exec p m s ≡ Over h l
stays-over p j m s l h le e =
    let sum : m ≡ j + (m - j) = omega arith in
    ap (λ n. exec p n s) sum ∙ exec_split p j (m - j) s ∙ ap (λ r. go_on r (exec p (m - j))) e

-- it has one end
pub one-end : (p : Program) (j m : ℕ) (s : State) (h g : Halt) (l t : State) → exec p j s ≡ Over h l → exec p m s ≡ Over g t → Over g t ≡ Over h l
one-end p j m s h g l t e f = ⊎_elim
    (λ lt. sym f ∙ stays-over p j m s l h (omega (arith, lt)) e)
    (λ le. sym (stays-over p m j s t g (omega (arith, le)) f) ∙ e)
    (cases_lt j m)

goes-over : (t l : State) (h : Halt) → Goes t ≡ Over h l → ⊥
goes-over t l h e = cc

-- where it still goes on it has not come to its end
pub goes-before : (p : Program) (j m : ℕ) (s t l : State) (h : Halt) → exec p m s ≡ Goes t → exec p j s ≡ Over h l → m < j
goes-before p j m s t l h f e = ⊎_elim
    (λ lt. lt)
    (λ le. absurd (goes-over t l h (sym f ∙ stays-over p j m s l h (omega (arith, le)) e)))
    (cases_lt m j)

pub over-behind : (p : Program) (j m : ℕ) (s t l : State) (h : Halt) → exec p m s ≡ Over h l → exec p j s ≡ Goes t → j < m
over-behind p j m s t l h f e = goes-before p m j s t l h e f

-- the output of more steps begins with that of fewer
pub front-of : (p : Program) (m j : ℕ) (s : State) (x y : MachineNext) → m ≤ j → exec p m s ≡ x → exec p j s ≡ y → IsPrefix (output_at x) (output_at y)
front-of p m j s x y le e f =
    subst (λ z. IsPrefix (output_at z) (output_at y)) e
    (subst (λ z. IsPrefix (output_at (exec p m s)) (output_at z)) f (exec_more p m j s le))
