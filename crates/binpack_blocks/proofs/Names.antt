-- What an instruction names, by what stands at each place.
use Rattle.std.proofs.Common.{◌≡◌, ◌≢◌, ℕ, zero, suc, ◌+◌, ◌<◌, ◌≤◌, ◌==◌, ◌||◌, List, [], ◌∷◌, ◌++◌, Bool, true, false, Option, Some, None, if◌then◌else◌, refl, sym, ap, ◌∙◌, length, arith}
use Rattle.std.specs.Prelude.{not, slice_get}
use Rattle.std.proofs.lemmas.Bool.{eqb-true, eq-eqb}
use Rattle.temp_ir.specs.declared.insn.FirstOperand.TheVariants as s
use Rattle.temp_ir.specs.declared.insn.SecondOperand.TheVariants as o
use Rattle.temp_ir.specs.declared.insn.TempInsn.{TempInsn}
use Rattle.temp_ir.specs.declared.insn.TempInsn.TheVariants as i
use Rattle.temp_ir.specs.Insns.{reads_of, writes_of}
use Rattle.temp_ir.specs.Fixed.{has_number}
use Rattle.alloc_rules.specs.Visits.{names_temp}
use Rattle.binpack_blocks.specs.declared.held.Held.{Held}
use Rattle.binpack_blocks.specs.model.Bins.{Bins, held_in, has_temp, IsOnce}
use Rattle.binpack_blocks.specs.model.Choices.{is_it, is_idle}

-- it reads two temporaries at most and writes one at most
pub few : (x : TempInsn) → (length (reads_of x) ≤ 2) × (length (writes_of x) ≤ 1)
few (i.Address op destination s.Zero plus) = (omega arith, omega arith)
few (i.Address op destination (s.Temp t) plus) = (omega arith, omega arith)
few (i.ObjectAddress destination place plus) = (omega arith, omega arith)
few (i.Load op destination pointer plus) = (omega arith, omega arith)
few (i.Store op s.Zero pointer plus) = (omega arith, omega arith)
few (i.Store op (s.Temp t) pointer plus) = (omega arith, omega arith)
few (i.Operate op destination s.Zero (o.Temp u)) = (omega arith, omega arith)
few (i.Operate op destination s.Zero (o.Literal n)) = (omega arith, omega arith)
few (i.Operate op destination (s.Temp t) (o.Temp u)) = (omega arith, omega arith)
few (i.Operate op destination (s.Temp t) (o.Literal n)) = (omega arith, omega arith)
few (i.Extend op destination (o.Temp u)) = (omega arith, omega arith)
few (i.Extend op destination (o.Literal n)) = (omega arith, omega arith)
few (i.ToFixed register source) = (omega arith, omega arith)
few (i.FromFixed destination register) = (omega arith, omega arith)
few (i.SetFixed register number) = (omega arith, omega arith)
few (i.WriteArgument number source) = (omega arith, omega arith)
few (i.ReadArgument destination number) = (omega arith, omega arith)
few (i.Branch op source block) = (omega arith, omega arith)
few (i.Jump block) = (omega arith, omega arith)
few (i.Call function arguments) = (omega arith, omega arith)
few (i.Divide routine) = (omega arith, omega arith)
few (i.Serve service) = (omega arith, omega arith)
few (i.Return with_value) = (omega arith, omega arith)
few i.Mark = (omega arith, omega arith)

few_reads : (xs : List ℕ) (t : ℕ) → length xs ≤ 2 → (is_it (slice_get xs 0) t || is_it (slice_get xs 1) t) ≡ has_number xs t
few_reads [] t most = refl
few_reads (a ∷ []) t most = refl
few_reads (a ∷ b ∷ []) t most = ap (λ c. (a == t) || c) (or_none (b == t))
  where
    or_none : (c : Bool) → c ≡ (c || false)
    or_none true = refl
    or_none false = refl
few_reads (a ∷ b ∷ c ∷ xs) t most = absurd (omega (arith, most))

few_writes : (xs : List ℕ) (t : ℕ) → length xs ≤ 1 → is_it (slice_get xs 0) t ≡ has_number xs t
few_writes [] t most = refl
few_writes (a ∷ []) t most = or_none (a == t)
  where
    or_none : (c : Bool) → c ≡ (c || false)
    or_none true = refl
    or_none false = refl
few_writes (a ∷ b ∷ xs) t most = absurd (omega (arith, most))

pub names_are : (x : TempInsn) (t : ℕ) → ((is_it (slice_get (reads_of x) 0) t || is_it (slice_get (reads_of x) 1) t) || is_it (slice_get (writes_of x) 0) t) ≡ names_temp x t
names_are x t =
    ap (λ c. c || is_it (slice_get (writes_of x) 0) t) (few_reads (reads_of x) t (few x).0)
    ∙ ap (λ c. has_number (reads_of x) t || c) (few_writes (writes_of x) t (few x).1)

-- ---- of four registers one is idle

drop_one : ℕ → List ℕ → List ℕ
drop_one y [] = []
drop_one y (x ∷ xs) = if x == y then xs else x ∷ drop_one y xs

dropped : (y : ℕ) (xs : List ℕ) → has_number xs y ≡ true → length xs ≡ suc (length (drop_one y xs))
unfolding drop_one
dropped y [] e = absurd (cc)
dropped y (x ∷ xs) e = go (dropped y xs) (x == y) refl
  where
    go : (has_number xs y ≡ true → length xs ≡ suc (length (drop_one y xs))) → (b : Bool) → (x == y) ≡ b → suc (length xs) ≡ suc (length (if x == y then xs else x ∷ drop_one y xs))
    go rest true f = ap (λ v. suc (length (if v then xs else x ∷ drop_one y xs))) (sym f)
    go rest false f =
        let k : has_number xs y ≡ true = sym (ap (λ c. c || has_number xs y) f) ∙ e in
        ap suc (rest k) ∙ ap (λ v. suc (length (if v then xs else x ∷ drop_one y xs))) (sym f)

stays : (m y : ℕ) (xs : List ℕ) → m ≢ y → has_number xs m ≡ true → has_number (drop_one y xs) m ≡ true
unfolding drop_one
stays m y [] n e = e
stays m y (x ∷ xs) n e = go (stays m y xs n) (x == y) (x == m) refl refl
  where
    go : (has_number xs m ≡ true → has_number (drop_one y xs) m ≡ true) → (b c : Bool) → (x == y) ≡ b → (x == m) ≡ c → has_number (if x == y then xs else x ∷ drop_one y xs) m ≡ true
    go rest true true f g = absurd (n (sym (eqb-true x m g) ∙ eqb-true x y f))
    go rest true false f g = ap (λ v. has_number (if v then xs else x ∷ drop_one y xs) m) f ∙ sym (ap (λ c. c || has_number xs m) g) ∙ e
    go rest false true f g = ap (λ v. has_number (if v then xs else x ∷ drop_one y xs) m) f ∙ ap (λ c. c || has_number (drop_one y xs) m) g
    go rest false false f g =
        let k : has_number xs m ≡ true = sym (ap (λ c. c || has_number xs m) g) ∙ e in
        ap (λ v. has_number (if v then xs else x ∷ drop_one y xs) m) f ∙ ap (λ c. c || has_number (drop_one y xs) m) g ∙ rest k

pigeon : (n : ℕ) (f : ℕ → ℕ) (names : List ℕ) → ((q : ℕ) → q < n → has_number names (f q) ≡ true) → ((q r : ℕ) → q < n → r < n → f q ≡ f r → q ≡ r) → n ≤ length names
pigeon zero f names a inj = omega arith
pigeon (suc n) f names a inj =
    let d = dropped (f n) names (a n (omega arith)) in
    let i = pigeon n f (drop_one (f n) names) (λ q w. stays (f q) (f n) names (λ e. let g : q ≡ n = inj q n (omega arith) (omega arith) e in omega (arith, g, w)) (a q (omega arith))) (λ q r w v e. inj q r (omega arith) (omega arith) e) in
    omega (arith, d, i)

temp_in : Option Held → ℕ
temp_in None = 0
temp_in (Some h) = h.temp

busy : (x : TempInsn) (p : Option Held) → is_idle x p ≡ false → (has_temp p (temp_in p) ≡ true) × (names_temp x (temp_in p) ≡ true)
unfolding temp_in
busy x None e = absurd (cc)
busy x (Some h) e = (eq-eqb h.temp h.temp refl, named (names_temp x h.temp) e)
  where
    named : (b : Bool) → not b ≡ false → b ≡ true
    named true e = refl
    named false e = absurd (cc)

has_both : (xs ys : List ℕ) (t : ℕ) → (has_number xs t || has_number ys t) ≡ has_number (xs ++ ys) t
has_both [] ys t = refl
has_both (x ∷ xs) ys t = or_in_turn (x == t) (has_number xs t) (has_number ys t) ∙ ap (λ c. (x == t) || c) (has_both xs ys t)
  where
    or_in_turn : (b c d : Bool) → ((b || c) || d) ≡ (b || (c || d))
    or_in_turn true c d = refl
    or_in_turn false c d = refl

length_both : (xs ys : List ℕ) → length (xs ++ ys) ≡ length xs + length ys
length_both [] ys = omega arith
length_both (x ∷ xs) ys = let rest = length_both xs ys in omega (arith, rest)

pub some_idle : (x : TempInsn) (bins : Bins) → IsOnce bins → ((q : ℕ) → 1 ≤ q → q < 5 → is_idle x (held_in bins q) ≡ false) → ⊥
some_idle x bins once all =
    let most = few x in
    let reads = most.0 in
    let writes = most.1 in
    let size = length_both (reads_of x) (writes_of x) in
    let many = pigeon 4 (λ q. temp_in (held_in bins (1 + q))) (reads_of x ++ writes_of x)
    (λ q w. sym (has_both (reads_of x) (writes_of x) (temp_in (held_in bins (1 + q)))) ∙ (busy x (held_in bins (1 + q)) (all (1 + q) (omega arith) (omega (arith, w)))).1)
    (λ q r w v e.
    let a = (busy x (held_in bins (1 + q)) (all (1 + q) (omega arith) (omega (arith, w)))).0 in
    let b = (busy x (held_in bins (1 + r)) (all (1 + r) (omega arith) (omega (arith, v)))).0 in
    let same = once (temp_in (held_in bins (1 + r))) (1 + q) (1 + r) (ap (has_temp (held_in bins (1 + q))) (sym e) ∙ a) b in
    omega (arith, same)) in
    omega (arith, many, size, reads, writes)
