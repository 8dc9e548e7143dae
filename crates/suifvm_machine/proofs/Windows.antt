-- The registers of a call as the end of the stack.
use Rattle.std.proofs.Common.{◌≡◌, ◌≢◌, ℕ, zero, suc, ◌+◌, ◌<◌, ◌≤◌, List, [], ◌∷◌, ◌++◌, take, drop, length, length-set, append-nil, get_or, replicate, refl, sym, ap, ◌∙◌, inl, inr, arith}
use Rattle.std.specs.Prelude.{slice_set, if◌then◌else◌}
use Rattle.std.proofs.Math.Path.{fun_ext}
use Rattle.std.proofs.lemmas.Bool.{cases_eq, eq-eqb, ne_eqb}
use Rattle.std.proofs.lemmas.List.{get_or-drop, get_or-set_same, get_or-set_other, take-set-le, take-append-le}
use Rattle.mem_model.specs.declared.value.Value.{Value}
use Rattle.mem_model.specs.declared.value.Value.TheVariants.{Unset}
use Rattle.suifvm_machine.specs.model.Windows.{Grows}
use Rattle.suifvm_meaning.specs.Behave.{registers_of, set_register}

-- unset values behind a list change none of its registers
pub get_unset : (vs : List Value) (n k : ℕ) → get_or (vs ++ replicate n Unset) k Unset ≡ get_or vs k Unset
get_unset [] n k = unset n k
  where
    unset : (n k : ℕ) → get_or (replicate n Unset) k Unset ≡ Unset
    unset zero k = refl
    unset (suc n) zero = refl
    unset (suc n) (suc k) = unset n k
get_unset (v ∷ vs) n zero = refl
get_unset (v ∷ vs) n (suc k) = get_unset vs n k

pub registers_unset : (vs : List Value) (n : ℕ) → registers_of (vs ++ replicate n Unset) ≡ registers_of vs
registers_unset vs n = fun_ext (get_unset vs n)

module _ (old grown new : List Value) (base r : ℕ) (v : Value) (within : base ≤ length old) (grows : Grows old grown) (there : base + r < length grown) (is : new ≡ slice_set grown (base + r) v) where
  same : (k : ℕ) → k ≡ r → get_or (drop base new) k Unset ≡ set_register r v (registers_of (drop base old)) k
  same k e =
      get_or-drop base new k Unset
      ∙ ap (λ xs. get_or xs (base + k) Unset) is
      ∙ ap (λ j. get_or (slice_set grown (base + r) v) (base + j) Unset) e
      ∙ get_or-set_same grown (base + r) v Unset there
      ∙ sym (ap (λ b. if b then v else registers_of (drop base old) k) (eq-eqb k r e))

  other : (k : ℕ) → (k ≡ r → ⊥) → get_or (drop base new) k Unset ≡ set_register r v (registers_of (drop base old)) k
  other k ne =
      let apart : base + k ≢ base + r = λ e. ne (omega (arith, e)) in
      get_or-drop base new k Unset
      ∙ ap (λ xs. get_or xs (base + k) Unset) is
      ∙ get_or-set_other grown (base + r) (base + k) v Unset apart
      ∙ ap (λ xs. get_or xs (base + k) Unset) grows.is
      ∙ get_unset old grows.count (base + k)
      ∙ sym (get_or-drop base old k Unset)
      ∙ sym (ap (λ b. if b then v else registers_of (drop base old) k) (ne_eqb k r ne))

  pub set_window : registers_of (drop base new) ≡ set_register r v (registers_of (drop base old))
  set_window = fun_ext (λ k. elim (cases_eq k r) [ inl e ↦ same k e | inr ne ↦ other k ne ])

  pub set_below : take base new ≡ take base old
  set_below =
      ap (take base) is ∙ take-set-le base grown (base + r) v (omega arith)
      ∙ ap (take base) grows.is ∙ take-append-le base old (replicate grows.count Unset) within

  pub set_within : base ≤ length new
  set_within =
      let len : length new ≡ length grown = ap length is ∙ length-set grown (base + r) v in
      omega (arith, len, there)

pub grows_none : (old : List Value) → Grows old old
grows_none old = record { count = 0; is = sym (append-nil old) }

pub grows_by : (old new : List Value) (count : ℕ) → new ≡ old ++ replicate count Unset → Grows old new
grows_by old new count is = record { count = count; is = is }

pub set_window_at : (old grown : List Value) (base r place : ℕ) (v : Value) → base ≤ length old → Grows old grown → place < length grown → place ≡ base + r → registers_of (drop base (slice_set grown place v)) ≡ set_register r v (registers_of (drop base old))
set_window_at old grown base r place v within grows there is =
    set_window old grown (slice_set grown place v) base r v within grows (omega (arith, there, is)) (ap (λ k. slice_set grown k v) is)
