-- Runs by their numbers of steps.
use Rattle.std.proofs.Common.{refl, ◌≡◌, ℕ, zero, suc, ◌+◌, ap, ◌∙◌, arith}
use Rattle.mem_model.specs.World.{Rooms}
use Rattle.mem_model.specs.Ending.{Ending}
use Rattle.machine_model.specs.Code.{Code}
use Rattle.machine_model.specs.Machine.{Config, Next, Goes, Over, step, go_on, exec}

module _ (V S : Type 0) (rooms : Rooms) (c : Code V S) where
  add_on : (n m : ℕ) (x : Next S) → ((k : Config S) → exec V S rooms c (n + m) k ≡ go_on (exec V S rooms c n k) (exec V S rooms c m)) → go_on x (exec V S rooms c (n + m)) ≡ go_on (go_on x (exec V S rooms c n)) (exec V S rooms c m)
  add_on n m (Goes k) h = h k
  add_on n m (Over e) h = refl

  pub steps_add_up : (n m : ℕ) (k : Config S) → exec V S rooms c (n + m) k ≡ go_on (exec V S rooms c n k) (exec V S rooms c m)
  steps_add_up zero m k = let sum : zero + m ≡ m = omega arith in ap (λ j. exec V S rooms c j k) sum
  steps_add_up (suc n) m k =
      let sum : suc n + m ≡ suc (n + m) = omega arith in
      ap (λ j. exec V S rooms c j k) sum ∙ add_on n m (step V S rooms c k) (steps_add_up n m)

  keep : (more n : ℕ) (x : Next S) (e : Ending) → ((k : Config S) → exec V S rooms c n k ≡ Over e → exec V S rooms c (n + more) k ≡ Over e) → go_on x (exec V S rooms c n) ≡ Over e → go_on x (exec V S rooms c (n + more)) ≡ Over e
  keep more n (Goes k) e h is = h k is
  keep more n (Over f) e h is = is

  pub steps_keep : (n more : ℕ) (k : Config S) (e : Ending) → exec V S rooms c n k ≡ Over e → exec V S rooms c (n + more) k ≡ Over e
  steps_keep zero more k e is = absurd (cc)
  steps_keep (suc n) more k e is =
      let sum : suc n + more ≡ suc (n + more) = omega arith in
      ap (λ j. exec V S rooms c j k) sum ∙ keep more n (step V S rooms c k) e (λ j h. steps_keep n more j e h) is

  one_over : (x : Next S) (e f : Ending) → x ≡ Over e → x ≡ Over f → e ≡ f
  one_over x e f a b = cc

  pub one_ending : (n m : ℕ) (k : Config S) (e f : Ending) → exec V S rooms c n k ≡ Over e → exec V S rooms c m k ≡ Over f → e ≡ f
  one_ending n m k e f x y =
      let sum : n + m ≡ m + n = omega arith in
      one_over (exec V S rooms c (n + m) k) e f (steps_keep n m k e x) (ap (λ j. exec V S rooms c j k) sum ∙ steps_keep m n k f y)
