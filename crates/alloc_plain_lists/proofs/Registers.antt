-- Tests of lists of registers, and what each instruction reads and writes.
use Rattle.std.proofs.Common.{◌≡◌, ◌⊎◌, ℕ, zero, suc, ◌<◌, ◌≤◌, ◌==◌, ◌||◌, ◌&&◌, List, [], ◌∷◌, ◌++◌, Bool, true, false, refl, inl, inr, subst, ⊎_elim, length, take, arith}
use Rattle.std.specs.Prelude.{Contains, not, filter, min, if◌then◌else◌}
use Rattle.std.specs.List.{list_all, AllByRecursion}
use Rattle.std.proofs.lemmas.Bool.{eqb-true}
use Rattle.temp_ir.specs.declared.operation.Service.TheVariants.{End, PutByte, GetByte, Trap}
use Rattle.temp_ir.specs.declared.insn.FixedRegister.{FixedRegister}
use Rattle.temp_ir.specs.declared.insn.FixedRegister.TheVariants.{Value, Argument0, Argument1, Argument2, Argument3, Argument4, Argument5, Dividend, Divisor, Answer}
use Rattle.temp_ir.specs.declared.insn.FirstOperand.TheVariants as s
use Rattle.temp_ir.specs.declared.insn.SecondOperand.TheVariants as o
use Rattle.temp_ir.specs.declared.insn.TempInsn.{TempInsn}
use Rattle.temp_ir.specs.declared.insn.TempInsn.TheVariants as i
use Rattle.temp_ir.specs.Insns.{reads_of, writes_of}
use Rattle.temp_ir.specs.Fixed.{argument_registers, register_number, fixed_writes_of, ended_of, has_number, written_behind}
use Rattle.alloc_model.specs.Effect.{places_written}
use Rattle.alloc_plain_lists.proofs.Sets.{test_or_not, Lawful}

-- ---- which numbers a list has

pub or_first : (a b : Bool) → a ≡ true → (a || b) ≡ true
or_first true b e = refl
or_first false b e = absurd (cc)

pub or_second : (a b : Bool) → b ≡ true → (a || b) ≡ true
or_second true b e = refl
or_second false b e = e

pub or_not_first : (a b : Bool) → a ≡ false → (a || b) ≡ true → b ≡ true
or_not_first true b e h = absurd (cc)
or_not_first false b e h = h

pub and_first : (a b : Bool) → (a && b) ≡ true → a ≡ true
and_first true b e = refl
and_first false b e = absurd (cc)

pub and_second : (a b : Bool) → (a && b) ≡ true → b ≡ true
and_second true b e = e
and_second false b e = absurd (cc)

pub not_then : (b : Bool) → not b ≡ true → b ≡ false
not_then true e = absurd (cc)
not_then false e = refl

has_either : (xs ys : List ℕ) (r : ℕ) → has_number (xs ++ ys) r ≡ true → (has_number xs r ≡ true) ⊎ (has_number ys r ≡ true)
has_either [] ys r is = inr is
has_either (x ∷ xs) ys r is =
    ⊎_elim (λ e. inl (or_first (x == r) (has_number xs r) e))
    (λ e. ⊎_elim (λ h. inl (or_second (x == r) (has_number xs r) h)) inr (has_either xs ys r (or_not_first (x == r) (has_number (xs ++ ys) r) e is)))
    (test_or_not (x == r))

module _ (p : ℕ → Bool) (w : ℕ) (ws : List ℕ) (r : ℕ) (rest : has_number (filter p ws) r ≡ true → (has_number ws r ≡ true) × (p r ≡ true)) where
  kept_behind : has_number (filter p ws) r ≡ true → (has_number (w ∷ ws) r ≡ true) × (p r ≡ true)
  kept_behind h = let both = rest h in (or_second (w == r) (has_number ws r) both.0, both.1)

  kept_first : p w ≡ true → has_number (filter p (w ∷ ws)) r ≡ true → (has_number (w ∷ ws) r ≡ true) × (p r ≡ true)
  kept_first e is =
      let in_either = subst (λ b. has_number (if b then w ∷ filter p ws else filter p ws) r ≡ true) e is in
      ⊎_elim (λ same. (or_first (w == r) (has_number ws r) same, subst (λ u. p u ≡ true) (eqb-true w r same) e))
      (λ other. kept_behind (or_not_first (w == r) (has_number (filter p ws) r) other in_either))
      (test_or_not (w == r))

  kept_case : has_number (filter p (w ∷ ws)) r ≡ true → (has_number (w ∷ ws) r ≡ true) × (p r ≡ true)
  kept_case is =
      ⊎_elim (λ e. kept_first e is)
      (λ e. kept_behind (subst (λ b. has_number (if b then w ∷ filter p ws else filter p ws) r ≡ true) e is))
      (test_or_not (p w))

has_kept : (p : ℕ → Bool) (ws : List ℕ) (r : ℕ) → has_number (filter p ws) r ≡ true → (has_number ws r ≡ true) × (p r ≡ true)
has_kept p [] r is = absurd (cc)
has_kept p (w ∷ ws) r is = kept_case p w ws r (has_kept p ws r) is

-- behind an instruction: what it writes, and what was written and is not ended
pub behind_either : (ws : List ℕ) (x : TempInsn) (r : ℕ) → has_number (written_behind ws x) r ≡ true → (has_number (fixed_writes_of x) r ≡ true) ⊎ ((has_number ws r ≡ true) × (has_number (ended_of x) r ≡ false))
behind_either ws x r is =
    ⊎_elim inl (λ h. let kept = has_kept (λ register. not (has_number (ended_of x) register)) ws r h in
    inr (kept.0, not_then (has_number (ended_of x) r) kept.1))
    (has_either (fixed_writes_of x) (filter (λ register. not (has_number (ended_of x) register)) ws) r is)

pub has_contains : (xs : List ℕ) (r : ℕ) → has_number xs r ≡ true → Contains xs r
has_contains [] r is = absurd (cc)
has_contains (x ∷ xs) r is =
    ⊎_elim (λ same. (0, omega arith, eqb-true x r same))
    (λ other. let (k, within, at) = has_contains xs r (or_not_first (x == r) (has_number xs r) other is) in (suc k, omega (arith, within), at))
    (test_or_not (x == r))

pub all_has : (ws rs : List ℕ) (r : ℕ) → list_all (has_number ws) rs ≡ true → Contains rs r → has_number ws r ≡ true
all_has ws [] r all (k, within, is) = absurd (omega (arith, within))
all_has ws (q ∷ rs) r all (zero, within, is) =
    subst (λ u. has_number ws u ≡ true) is (and_first (has_number ws q) (list_all (has_number ws) rs) all)
all_has ws (q ∷ rs) r all (suc k, within, is) =
    all_has ws rs r (and_second (has_number ws q) (list_all (has_number ws) rs) all) (k, omega (arith, within), is)

-- ---- fixed registers are none of the first three that temporaries are given

abbrev pub IsHigh : ℕ → Type 0
IsHigh r = (r < 1) ⊎ (4 ≤ r)

has_in : (xs : List ℕ) (r : ℕ) → AllByRecursion IsHigh xs → has_number xs r ≡ true → IsHigh r
has_in [] r all is = absurd (cc)
has_in (x ∷ xs) r all is =
    ⊎_elim (λ same. subst IsHigh (eqb-true x r same) all.0)
    (λ other. has_in xs r all.1 (or_not_first (x == r) (has_number xs r) other is)) (test_or_not (x == r))

front_high : (n : ℕ) (xs : List ℕ) → AllByRecursion IsHigh xs → AllByRecursion IsHigh (take n xs)
front_high zero xs all = tt
front_high (suc n) [] all = tt
front_high (suc n) (x ∷ xs) all = (all.0, front_high n xs all.1)

number_high : (r : FixedRegister) → IsHigh (register_number r)
number_high Value = inl (omega arith)
number_high Argument0 = inr (omega arith)
number_high Argument1 = inr (omega arith)
number_high Argument2 = inr (omega arith)
number_high Argument3 = inr (omega arith)
number_high Argument4 = inr (omega arith)
number_high Argument5 = inr (omega arith)
number_high Dividend = inr (omega arith)
number_high Divisor = inr (omega arith)
number_high Answer = inr (omega arith)

writes_high : (x : TempInsn) → AllByRecursion IsHigh (fixed_writes_of x)
writes_high (i.ToFixed register source) = (number_high register, tt)
writes_high (i.SetFixed register number) = (number_high register, tt)
writes_high (i.Call function arguments) = (inl (omega arith), tt)
writes_high (i.Divide routine) = (inr (omega arith), tt)
writes_high (i.Serve GetByte) = (inl (omega arith), tt)
writes_high (i.Serve End) = tt
writes_high (i.Serve PutByte) = tt
writes_high (i.Serve Trap) = tt
writes_high (i.Address op destination base plus) = tt
writes_high (i.ObjectAddress destination place plus) = tt
writes_high (i.Load op destination pointer plus) = tt
writes_high (i.Store op value pointer plus) = tt
writes_high (i.Operate op destination left right) = tt
writes_high (i.Extend op destination source) = tt
writes_high (i.FromFixed destination register) = tt
writes_high (i.WriteArgument number source) = tt
writes_high (i.ReadArgument destination number) = tt
writes_high (i.Branch op source block) = tt
writes_high (i.Jump block) = tt
writes_high (i.Return with_value) = tt
writes_high i.Mark = tt

pub written_high : (x : TempInsn) (r : ℕ) → has_number (fixed_writes_of x) r ≡ true → IsHigh r
written_high x r is = has_in (fixed_writes_of x) r (writes_high x) is

pub arguments_high : (params r : ℕ) → has_number (argument_registers params) r ≡ true → IsHigh r
arguments_high params r is =
    has_in (argument_registers params) r
    (front_high (min params 6) (16 ∷ 17 ∷ 18 ∷ 19 ∷ 20 ∷ 21 ∷ [])
    (inr (omega arith), (inr (omega arith), (inr (omega arith), (inr (omega arith), (inr (omega arith), (inr (omega arith), tt)))))))
    is

-- ---- each instruction reads two temporaries at most and writes one at most, and then nothing else

pub lawful : (x : TempInsn) → Lawful (writes_of x) (fixed_writes_of x) (places_written x)
lawful (i.Address op destination base plus) = tt
lawful (i.ObjectAddress destination place plus) = tt
lawful (i.Load op destination pointer plus) = tt
lawful (i.Store op value pointer plus) = tt
lawful (i.Operate op destination left right) = tt
lawful (i.Extend op destination source) = tt
lawful (i.ToFixed register source) = tt
lawful (i.FromFixed destination register) = tt
lawful (i.SetFixed register number) = tt
lawful (i.WriteArgument number source) = tt
lawful (i.ReadArgument destination number) = tt
lawful (i.Branch op source block) = tt
lawful (i.Jump block) = tt
lawful (i.Call function arguments) = tt
lawful (i.Divide routine) = tt
lawful (i.Serve service) = tt
lawful (i.Return with_value) = tt
lawful i.Mark = tt

pub few : (x : TempInsn) → (length (reads_of x) ≤ 2) × (length (writes_of x) ≤ 1)
few (i.Address op destination s.Zero plus) = (omega arith, omega arith)
few (i.Address op destination (s.Temp t) plus) = (omega arith, omega arith)
few (i.ObjectAddress destination place plus) = (omega arith, omega arith)
few (i.Load op destination pointer plus) = (omega arith, omega arith)
few (i.Store op s.Zero pointer plus) = (omega arith, omega arith)
few (i.Store op (s.Temp t) pointer plus) = (omega arith, omega arith)
few (i.Operate op destination s.Zero (o.Temp u)) = (omega arith, omega arith)
few (i.Operate op destination s.Zero (o.Literal n)) = (omega arith, omega arith)
few (i.Operate op destination (s.Temp t) (o.Temp u)) = (omega arith, omega arith)
few (i.Operate op destination (s.Temp t) (o.Literal n)) = (omega arith, omega arith)
few (i.Extend op destination (o.Temp u)) = (omega arith, omega arith)
few (i.Extend op destination (o.Literal n)) = (omega arith, omega arith)
few (i.ToFixed register source) = (omega arith, omega arith)
few (i.FromFixed destination register) = (omega arith, omega arith)
few (i.SetFixed register number) = (omega arith, omega arith)
few (i.WriteArgument number source) = (omega arith, omega arith)
few (i.ReadArgument destination number) = (omega arith, omega arith)
few (i.Branch op source block) = (omega arith, omega arith)
few (i.Jump block) = (omega arith, omega arith)
few (i.Call function arguments) = (omega arith, omega arith)
few (i.Divide routine) = (omega arith, omega arith)
few (i.Serve service) = (omega arith, omega arith)
few (i.Return with_value) = (omega arith, omega arith)
few i.Mark = (omega arith, omega arith)
