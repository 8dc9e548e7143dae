-- An image that behaves as each ending of a program is the same as that.
use Rattle.std.proofs.Common.{◌≡◌, ℕ, List, [], refl, sym, ap, ◌∙◌, subst, arith, append-nil}
use Rattle.alpha_isa.specs.Program.{Program}
use Rattle.alpha_isa.specs.Behave as image
use Rattle.alpha_isa.specs.Behave.{Behaviour, behave_a, output_of}
use Rattle.mem_model.specs.Ending.{Ending, Done, Trap, Undefined, More, ending_output, IsDefined}
use Rattle.machine_model.specs.Laws.{IsPrefix}
use Rattle.alloc_model.specs.Places.{Plan}
use Rattle.image_theorem.specs.program_images.Runs.{turns_for}
use Rattle.image_theorem.specs.program_images.Images.{HasBehaviour, AgreesWith}
use Rattle.image_theorem.specs.program_images.Programs.{ImageBehaves}
use Rattle.image_theorem.specs.same_runs.Same.{IsDoneAt, IsTrapAt, IsSame}

prefix-same : (xs ys : List ℕ) → ys ≡ xs → IsPrefix xs ys
prefix-same xs ys e = ([], e ∙ sym (append-nil xs))

module _ (p : Program) (plans : List Plan) (stack : ℕ) (input : List ℕ) (at : (turns : ℕ) → Ending) (behaves : (n : ℕ) → ImageBehaves p plans stack input n (at n)) (defined : (n : ℕ) → IsDefined (at n)) where
  -- the ending within enough turns agrees with what the image does
  agrees : (m : ℕ) → AgreesWith (behave_a p stack input m) (at (turns_for plans m))
  agrees m = (behaves (turns_for plans m)).only m (omega arith)

  done-is : (n : ℕ) (e : Ending) → at n ≡ e → IsDefined e → (output : List ℕ) (status : ℕ) → AgreesWith (image.Done output status) e → IsDoneAt at output status
  done-is n (Done w k) is d output status h = record { turns = n; world = w; is = is ∙ ap (Done w) (sym h.0); same = sym h.1 }
  done-is n (Trap w k) is d output status h = absurd h
  done-is n (More w) is d output status h = absurd h
  done-is n (Undefined w k) is d output status h = absurd d

  trap-is : (n : ℕ) (e : Ending) → at n ≡ e → IsDefined e → (output : List ℕ) (code : ℕ) → AgreesWith (image.Trap output code) e → IsTrapAt at output code
  trap-is n (Trap w k) is d output code h = record { turns = n; world = w; is = is ∙ ap (Trap w) (sym h.0); same = sym h.1 }
  trap-is n (Done w k) is d output code h = absurd h
  trap-is n (More w) is d output code h = absurd h
  trap-is n (Undefined w k) is d output code h = absurd d

  not-stuck : (e : Ending) → IsDefined e → (output : List ℕ) (pc : ℕ) → AgreesWith (image.Stuck output pc) e → ⊥
  not-stuck (Done w k) d output pc h = h
  not-stuck (Trap w k) d output pc h = h
  not-stuck (More w) d output pc h = h
  not-stuck (Undefined w k) d output pc h = d

  output-is : (turns : ℕ) (e : Ending) → IsDefined e → HasBehaviour p stack input turns e → (m : ℕ) × IsPrefix (ending_output e) (output_of (behave_a p stack input m))
  output-is turns (Done w k) d h = (h.0, prefix-same w.outer.output (output_of (behave_a p stack input h.0)) (ap output_of h.1))
  output-is turns (Trap w k) d h = (h.0, prefix-same w.outer.output (output_of (behave_a p stack input h.0)) (ap output_of h.1))
  output-is turns (More w) d h = (h.0, prefix-same w.outer.output (output_of (behave_a p stack input h.0)) (ap output_of h.1))
  output-is turns (Undefined w k) d h = absurd d

  only-output : (x : Behaviour) (e : Ending) → IsDefined e → AgreesWith x e → IsPrefix (output_of x) (ending_output e)
  only-output (image.Done output status) (Done w k) d h = prefix-same output w.outer.output (sym h.1)
  only-output (image.Trap output code) (Trap w k) d h = prefix-same output w.outer.output (sym h.1)
  only-output (image.More output) (Done w k) d h = h
  only-output (image.More output) (Trap w k) d h = h
  only-output (image.More output) (More w) d h = h
  only-output (image.Done output status) (Trap w k) d h = absurd h
  only-output (image.Done output status) (More w) d h = absurd h
  only-output (image.Trap output code) (Done w k) d h = absurd h
  only-output (image.Trap output code) (More w) d h = absurd h
  only-output (image.Stuck output pc) (Done w k) d h = absurd h
  only-output (image.Stuck output pc) (Trap w k) d h = absurd h
  only-output (image.Stuck output pc) (More w) d h = absurd h
  only-output x (Undefined w k) d h = absurd d

  same : IsSame p stack input at
  same = record {
    done = λ n w status e. subst (HasBehaviour p stack input n) e (behaves n).behaves;
    traps = λ n w code e. subst (HasBehaviour p stack input n) e (behaves n).behaves;
    only_done = λ m output status e. done-is (turns_for plans m) (at (turns_for plans m)) refl (defined (turns_for plans m)) output status (subst (λ x. AgreesWith x (at (turns_for plans m))) e (agrees m));
    only_traps = λ m output code e. trap-is (turns_for plans m) (at (turns_for plans m)) refl (defined (turns_for plans m)) output code (subst (λ x. AgreesWith x (at (turns_for plans m))) e (agrees m));
    never_stuck = λ m output pc e. not-stuck (at (turns_for plans m)) (defined (turns_for plans m)) output pc (subst (λ x. AgreesWith x (at (turns_for plans m))) e (agrees m));
    outputs = λ n. output-is n (at n) (defined n) (behaves n).behaves;
    only_outputs = λ m. (turns_for plans m, only-output (behave_a p stack input m) (at (turns_for plans m)) (defined (turns_for plans m)) (agrees m));
  }

pub runs_are_same : (p : Program) (plans : List Plan) (stack : ℕ) (input : List ℕ) (at : (turns : ℕ) → Ending) → ((n : ℕ) → ImageBehaves p plans stack input n (at n)) → ((n : ℕ) → IsDefined (at n)) → IsSame p stack input at
runs_are_same p plans stack input at behaves defined = same p plans stack input at behaves defined
