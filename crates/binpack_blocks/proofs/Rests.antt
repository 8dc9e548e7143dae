-- Fixed values in registers, from the end of a block.
use Rattle.std.proofs.Common.{◌≡◌, ◌≢◌, ◌⊎◌, ℕ, zero, suc, ◌+◌, ◌-◌, ◌<◌, ◌≤◌, ◌==◌, ◌&&◌, ◌||◌, nat_lt, List, [], ◌∷◌, ◌++◌, Bool, true, false, refl, sym, ap, ◌∙◌, inl, inr, subst, ⊎_elim, length, drop, take, arith}
use Rattle.std.specs.Prelude.{not, slice_get, slice_index_or, Some, min}
use Rattle.std.proofs.lemmas.Bool.{eqb-true, ltb-true, ltb-false}
use Rattle.std.proofs.Math.Path.{fun_ext}
use Rattle.bk_bits.specs.Sets.{has}
use Rattle.temp_ir.specs.declared.insn.FixedRegister.{FixedRegister}
use Rattle.temp_ir.specs.declared.insn.FixedRegister.TheVariants.{Value, Argument0, Argument1, Argument2, Argument3, Argument4, Argument5, Dividend, Divisor, Answer}
use Rattle.temp_ir.specs.declared.operation.Service.TheVariants.{End, PutByte, GetByte, Trap}
use Rattle.temp_ir.specs.declared.insn.TempInsn.{TempInsn}
use Rattle.temp_ir.specs.declared.insn.TempInsn.TheVariants as i
use Rattle.temp_ir.specs.Fixed.{has_number, fixed_reads_of, fixed_writes_of, ended_of, register_number, argument_registers}
use Rattle.alloc_rules.specs.Visits.{fixes, takes_away, names_temp, holds_fixed_value}
use Rattle.std.proofs.Common.{◌*◌, append_assoc, append-nil}
use Rattle.std.specs.Prelude.{All}
use Rattle.std.proofs.lemmas.Option.{slice_get_within, get_or_from_slice_get}
use Rattle.alloc_model.specs.declared.allocation.Transfer.{Transfer}
use Rattle.alloc_rules.specs.declared.scan.Lifetimes.{Lifetimes}
use Rattle.binpack_blocks.specs.declared.block.Lists.{Lists}
use Rattle.binpack_blocks.specs.model.Steps.{Site, State}
use Rattle.binpack_blocks.specs.model.Rows.{Rows, is_wanted, unmade}
use Rattle.binpack_blocks.specs.model.Rows.Rows.{NoRow, OneMore}
use Rattle.binpack_blocks.specs.model.Lists.{AddsRows}
use Rattle.binpack_blocks.specs.model.Visits.{Visits}
use Rattle.binpack_blocks.specs.model.Choices.{AreOpen}
use Rattle.binpack_blocks.specs.model.Standing.{IsStanding, AreStanding}
use Rattle.binpack_blocks.proofs.Holders.{same_or_not, test_or_not, not_both}

-- a fixed register, or none of registers 1 to 8 and below 32
abbrev IsRole : ℕ → Type 0
IsRole r = ((r ≡ 0) ⊎ (16 ≤ r)) × (r < 32)

abbrev AreRoles : List ℕ → Type 0
AreRoles rs = (r : ℕ) → has_number rs r ≡ true → IsRole r

no_roles : AreRoles []
no_roles r e = absurd (cc)

more_roles : (r : ℕ) (rs : List ℕ) → IsRole r → AreRoles rs → AreRoles (r ∷ rs)
more_roles r rs one all q e = ⊎_elim
    (λ (same : (r == q) ≡ true). subst IsRole (eqb-true r q same) one)
    (λ (other : (r == q) ≡ false). all q (sym (ap (λ c. c || has_number rs q) other) ∙ e))
    (test_or_not (r == q))

role_of : (r : FixedRegister) → IsRole (register_number r)
role_of Value = (inl refl, omega arith)
role_of Argument0 = (inr (omega arith), omega arith)
role_of Argument1 = (inr (omega arith), omega arith)
role_of Argument2 = (inr (omega arith), omega arith)
role_of Argument3 = (inr (omega arith), omega arith)
role_of Argument4 = (inr (omega arith), omega arith)
role_of Argument5 = (inr (omega arith), omega arith)
role_of Dividend = (inr (omega arith), omega arith)
role_of Divisor = (inr (omega arith), omega arith)
role_of Answer = (inr (omega arith), omega arith)

front_roles : (n : ℕ) (xs : List ℕ) → AreRoles xs → AreRoles (take n xs)
front_roles zero xs all q e = absurd (none q e)
  where
    none : (q : ℕ) → has_number [] q ≡ true → ⊥
    none q e = cc
front_roles (suc n) [] all q e = absurd (cc)
front_roles (suc n) (x ∷ xs) all q e = ⊎_elim
    (λ (same : (x == q) ≡ true). all q (ap (λ c. c || has_number xs q) same))
    (λ (other : (x == q) ≡ false). front_roles n xs (λ p f. all p (or_also (x == p) (has_number xs p) f)) q (sym (ap (λ c. c || has_number (take n xs) q) other) ∙ e))
    (test_or_not (x == q))
  where
    or_also : (b c : Bool) → c ≡ true → (b || c) ≡ true
    or_also true c e = refl
    or_also false c e = e

argument_roles : (count : ℕ) → AreRoles (argument_registers count)
argument_roles count = front_roles (min count 6) (16 ∷ 17 ∷ 18 ∷ 19 ∷ 20 ∷ 21 ∷ [])
    (more_roles 16 (17 ∷ 18 ∷ 19 ∷ 20 ∷ 21 ∷ []) (inr (omega arith), omega arith) (more_roles 17 (18 ∷ 19 ∷ 20 ∷ 21 ∷ []) (inr (omega arith), omega arith)
    (more_roles 18 (19 ∷ 20 ∷ 21 ∷ []) (inr (omega arith), omega arith) (more_roles 19 (20 ∷ 21 ∷ []) (inr (omega arith), omega arith)
    (more_roles 20 (21 ∷ []) (inr (omega arith), omega arith) (more_roles 21 [] (inr (omega arith), omega arith) no_roles))))))

read_roles : (x : TempInsn) → AreRoles (fixed_reads_of x)
read_roles (i.FromFixed destination register) = more_roles (register_number register) [] (role_of register) no_roles
read_roles (i.Call function arguments) = argument_roles arguments
read_roles (i.Divide routine) = more_roles 24 (25 ∷ []) (inr (omega arith), omega arith) (more_roles 25 [] (inr (omega arith), omega arith) no_roles)
read_roles (i.Serve End) = more_roles 0 (16 ∷ []) (inl refl, omega arith) (more_roles 16 [] (inr (omega arith), omega arith) no_roles)
read_roles (i.Serve PutByte) = more_roles 0 (16 ∷ []) (inl refl, omega arith) (more_roles 16 [] (inr (omega arith), omega arith) no_roles)
read_roles (i.Serve GetByte) = more_roles 0 [] (inl refl, omega arith) no_roles
read_roles (i.Serve Trap) = more_roles 16 [] (inr (omega arith), omega arith) no_roles
read_roles (i.Return true) = more_roles 0 [] (inl refl, omega arith) no_roles
read_roles (i.Return false) = no_roles
read_roles (i.Address op destination base plus) = no_roles
read_roles (i.ObjectAddress destination place plus) = no_roles
read_roles (i.Load op destination pointer plus) = no_roles
read_roles (i.Store op value pointer plus) = no_roles
read_roles (i.Operate op destination left right) = no_roles
read_roles (i.Extend op destination source) = no_roles
read_roles (i.ToFixed register source) = no_roles
read_roles (i.SetFixed register number) = no_roles
read_roles (i.WriteArgument number source) = no_roles
read_roles (i.ReadArgument destination number) = no_roles
read_roles (i.Branch op source block) = no_roles
read_roles (i.Jump block) = no_roles
read_roles i.Mark = no_roles

-- an instruction that names a temporary takes away none but such registers
taken_role : (x : TempInsn) → ((t : ℕ) → names_temp x t ≡ false) ⊎ AreRoles (fixed_writes_of x ++ ended_of x)
taken_role (i.ToFixed register source) = inr (more_roles (register_number register) [] (role_of register) no_roles)
taken_role (i.SetFixed register number) = inl (λ t. refl)
taken_role (i.Call function arguments) = inl (λ t. refl)
taken_role (i.Divide routine) = inl (λ t. refl)
taken_role (i.Serve service) = inl (λ t. refl)
taken_role (i.Return with_value) = inl (λ t. refl)
taken_role (i.Address op destination base plus) = inr no_roles
taken_role (i.ObjectAddress destination place plus) = inr no_roles
taken_role (i.Load op destination pointer plus) = inr no_roles
taken_role (i.Store op value pointer plus) = inr no_roles
taken_role (i.Operate op destination left right) = inr no_roles
taken_role (i.Extend op destination source) = inr no_roles
taken_role (i.FromFixed destination register) = inr no_roles
taken_role (i.WriteArgument number source) = inr no_roles
taken_role (i.ReadArgument destination number) = inr no_roles
taken_role (i.Branch op source block) = inr no_roles
taken_role (i.Jump block) = inl (λ t. refl)
taken_role i.Mark = inl (λ t. refl)

low_no_role : (r : ℕ) → 1 ≤ r → r < 5 → IsRole r → ⊥
low_no_role r low high (inl e, w) = omega (arith, low, e)
low_no_role r low high (inr e, w) = omega (arith, high, e)

has_both : (xs ys : List ℕ) (t : ℕ) → (has_number xs t || has_number ys t) ≡ has_number (xs ++ ys) t
has_both [] ys t = refl
has_both (x ∷ xs) ys t = or_in_turn (x == t) (has_number xs t) (has_number ys t) ∙ ap (λ c. (x == t) || c) (has_both xs ys t)
  where
    or_in_turn : (b c d : Bool) → ((b || c) || d) ≡ (b || (c || d))
    or_in_turn true c d = refl
    or_in_turn false c d = refl

-- a fixed value stands in none but such registers
pub holds_role : (r : ℕ) (insns : List TempInsn) → holds_fixed_value r insns ≡ true → ((r ≡ 0) ⊎ (16 ≤ r)) × (r < 32)
holds_role r [] e = absurd (cc)
holds_role r (x ∷ insns) e = ⊎_elim
    (λ (reads : has_number (fixed_reads_of x) r ≡ true). read_roles x r reads)
    (λ (none : has_number (fixed_reads_of x) r ≡ false).
    holds_role r insns (second (not (takes_away x r)) (holds_fixed_value r insns) (sym (ap (λ c. c || (not (takes_away x r) && holds_fixed_value r insns)) none) ∙ e)))
    (test_or_not (has_number (fixed_reads_of x) r))
  where
    second : (b c : Bool) → (b && c) ≡ true → c ≡ true
    second true c e = e
    second false c e = absurd (cc)

-- so the first registers are open where a temporary is named
pub first_open : (x : TempInsn) (rest : List TempInsn) (standing : List Bool) (t : ℕ) → IsStanding rest standing → names_temp x t ≡ true → AreOpen x standing
first_open x rest standing t stands named r low high =
    ap (λ c. not c && not (has standing r)) unfixed ∙ ap not (stands.each r (omega (arith, high)) ∙ unclaimed)
  where
    none_of : (b : Bool) → (b ≡ true → ⊥) → b ≡ false
    none_of true f = absurd (f refl)
    none_of false f = refl

    untaken : takes_away x r ≡ false
    untaken = none_of (takes_away x r) (λ e. ⊎_elim
        (λ (none : (t : ℕ) → names_temp x t ≡ false). not_both (names_temp x t) named (none t))
        (λ (roles : AreRoles (fixed_writes_of x ++ ended_of x)). low_no_role r low high (roles r (sym (has_both (fixed_writes_of x) (ended_of x) r) ∙ e)))
        (taken_role x))

    unread : has_number (fixed_reads_of x) r ≡ false
    unread = none_of (has_number (fixed_reads_of x) r) (λ e. low_no_role r low high (read_roles x r e))

    unfixed : fixes x r ≡ false
    unfixed = ap (λ c. c || takes_away x r) unread ∙ untaken

    unclaimed : holds_fixed_value r rest ≡ false
    unclaimed = none_of (holds_fixed_value r rest) (λ e. low_no_role r low high (holds_role r rest e))

past_has : (set : List Bool) (r : ℕ) → length set ≤ r → has set r ≡ false
past_has [] r past = refl
past_has (b ∷ set) zero past = absurd (omega (arith, past))
past_has (b ∷ set) (suc r) past = past_has set r (omega (arith, past))

-- the list is the test
pub standing_is : (rest : List TempInsn) (standing : List Bool) → IsStanding rest standing → has standing ≡ (λ r. holds_fixed_value r rest)
standing_is rest standing stands = fun_ext (λ r. by r (nat_lt r 32) refl)
  where
    by : (r : ℕ) (c : Bool) → nat_lt r 32 ≡ c → has standing r ≡ holds_fixed_value r rest
    by r true e = stands.each r (ltb-true r 32 e)
    by r false e =
        let past = ltb-false r 32 e in
        let size = stands.size in
        past_has standing r (omega (arith, past, size)) ∙ sym (none (holds_fixed_value r rest) refl)
      where
        none : (b : Bool) → holds_fixed_value r rest ≡ b → b ≡ false
        none true h = absurd (let low = (holds_role r rest h).1 in let past = ltb-false r 32 e in omega (arith, low, past))
        none false h = refl

-- ---- one more row

pub has_last : (f : ℕ → Bool) (set zs : List Bool) (b : Bool) (n q : ℕ) → zs ≡ set ++ b ∷ [] → length set ≡ n → q < n + 1 → (q < n → has set q ≡ f q) → b ≡ f n → has zs q ≡ f q
has_last f set zs b n q e size within before now = ap (λ z. has z q) e ∙ ⊎_elim
    (λ (same : q ≡ n). ap (has (set ++ b ∷ [])) (same ∙ sym size) ∙ seam set ∙ now ∙ ap f (sym same))
    (λ (ne : q ≢ n). left set q (omega (arith, within, ne, size)) ∙ before (omega (arith, within, ne)))
    (same_or_not q n)
  where
    seam : (set : List Bool) → has (set ++ b ∷ []) (length set) ≡ b
    seam [] = refl
    seam (c ∷ set) = seam set

    left : (set : List Bool) (q : ℕ) → q < length set → has (set ++ b ∷ []) q ≡ has set q
    left [] q w = absurd (omega (arith, w))
    left (c ∷ set) zero w = refl
    left (c ∷ set) (suc q) w = left set q (omega (arith, w))

pub one_longer : {A : Type 0} (xs zs : List A) (x : A) (n : ℕ) → zs ≡ xs ++ x ∷ [] → length xs ≡ n → length zs ≡ n + 1
one_longer {A} xs zs x n e size = ap (λ (z : List A). length z) e ∙ go xs ∙ ap (λ k. k + 1) size
  where
    go : (xs : List A) → length (xs ++ x ∷ []) ≡ length xs + 1
    go [] = refl
    go (y ∷ xs) = let rest = go xs in omega (arith, rest)

drop_here : (insns : List TempInsn) (at : ℕ) (x : TempInsn) → slice_get insns at ≡ Some x → x ∷ drop (suc at) insns ≡ drop at insns
drop_here [] at x e = absurd (cc)
drop_here (y ∷ insns) zero x e = ap (λ z. z ∷ insns) (sym (one e))
  where
    one : Some y ≡ Some x → y ≡ x
    one e = cc
drop_here (y ∷ insns) (suc at) x e = drop_here insns at x e

pub standing_last : (insns : List TempInsn) (done : ℕ) (rows zs : List (List Bool)) (behind row : List Bool) (x : TempInsn) → done < length insns → zs ≡ rows ++ row ∷ [] → length rows ≡ done + 1 →
    AreStanding insns done rows → slice_get insns (length insns - 1 - done) ≡ Some x → behind ≡ slice_index_or rows done [] →
    ((rest : List TempInsn) → IsStanding rest behind → IsStanding (x ∷ rest) row) → AreStanding insns (done + 1) zs
standing_last insns done rows zs behind row x within e size before is at_behind next = record {
  each = λ k le. subst (λ z. IsStanding (drop (length insns - k) insns) (slice_index_or z k [])) (sym e) (⊎_elim
      (λ (same : k ≡ done + 1). subst (λ j. IsStanding (drop (length insns - j) insns) (slice_index_or (rows ++ row ∷ []) j [])) (sym same) newest)
      (λ (ne : k ≢ done + 1). subst (λ z. IsStanding (drop (length insns - k) insns) z) (sym (left rows k (omega (arith, le, ne, size)))) (before.each k (omega (arith, le, ne))))
      (same_or_not k (done + 1)));
}
  where
    left : (rows : List (List Bool)) (k : ℕ) → k < length rows → slice_index_or (rows ++ row ∷ []) k [] ≡ slice_index_or rows k []
    left [] k w = absurd (omega (arith, w))
    left (r ∷ rows) zero w = refl
    left (r ∷ rows) (suc k) w = left rows k (omega (arith, w))

    seam : (rows : List (List Bool)) (n : ℕ) → n ≡ length rows → slice_index_or (rows ++ row ∷ []) n [] ≡ row
    seam [] zero e = refl
    seam [] (suc n) e = absurd (omega (arith, e))
    seam (r ∷ rows) zero e = absurd (omega (arith, e))
    seam (r ∷ rows) (suc n) e = seam rows n (omega (arith, e))

    here : x ∷ drop (length insns - done) insns ≡ drop (length insns - (done + 1)) insns
    here =
        let a : suc (length insns - 1 - done) ≡ length insns - done = omega (arith, within) in
        let b : length insns - 1 - done ≡ length insns - (done + 1) = omega (arith, within) in
        ap (λ n. x ∷ drop n insns) (sym a) ∙ drop_here insns (length insns - 1 - done) x is ∙ ap (λ n. drop n insns) b

    newest : IsStanding (drop (length insns - (done + 1)) insns) (slice_index_or (rows ++ row ∷ []) (done + 1) [])
    newest = subst (λ z. IsStanding (drop (length insns - (done + 1)) insns) z) (sym (seam rows (done + 1) (sym size)))
        (subst (λ xs. IsStanding xs row) here (next (drop (length insns - done) insns) (subst (λ z. IsStanding (drop (length insns - done) insns) z) (sym at_behind) (before.each done (omega arith)))))

-- the row of an instruction
pub row_standing : (insns : List TempInsn) (place : ℕ) (rows : List (List Bool)) (behind : List Bool) → place < length insns → AreStanding insns (length insns) rows →
    behind ≡ slice_index_or rows (length insns - 1 - place) [] → IsStanding (drop (suc place) insns) behind
row_standing insns place rows behind within standing is =
    let a : length insns - (length insns - 1 - place) ≡ suc place = omega (arith, within) in
    subst (λ n. IsStanding (drop n insns) behind) a
    (subst (λ z. IsStanding (drop (length insns - (length insns - 1 - place)) insns) z) (sym is) (standing.each (length insns - 1 - place) (omega arith)))

abbrev pub site_with : (temps : ℕ) → Lifetimes → (number : ℕ) → TempInsn → (stands : ℕ → Bool) → Site
site_with temps l number x stands = record { insn = x; before = is_wanted l (2 * number); behind = is_wanted l (2 * number + 1); stands = stands; temps = temps }

pub all_at : {A : Type 0} (P : A → Type 0) (xs : List A) (k : ℕ) (x : A) → All P xs → slice_get xs k ≡ Some x → P x
all_at P xs k x all is = subst P (get_or_from_slice_get xs k x x is) (all k x (slice_get_within xs k x is))

-- one more row of a block
pub adds_one : (temps : ℕ) (l : Lifetimes) (number : ℕ) (insns : List TempInsn) (u v w : State) (at : ℕ) (start old new : Lists) (x : TempInsn) (standing : List Bool) (xs : List Transfer) (rs : List ℕ) →
    slice_get insns at ≡ Some x → IsStanding (drop (suc at) insns) standing → Visits (site_with temps l (number + at) x (has standing)) (unmade v) w xs rs →
    new.transfers ≡ old.transfers ++ xs ∷ [] → new.registers ≡ old.registers ++ rs ∷ [] →
    AddsRows temps l number insns u at start old v → AddsRows temps l number insns u (at + 1) start new w
adds_one temps l number insns u v w at start old new x standing xs rs is stands visits et er before = record {
  transfers = before.transfers ++ xs ∷ [];
  registers = before.registers ++ rs ∷ [];
  transfers_are = et ∙ ap (λ ts. ts ++ xs ∷ []) before.transfers_are ∙ append_assoc start.transfers before.transfers (xs ∷ []);
  registers_are = er ∙ ap (λ qs. qs ++ rs ∷ []) before.registers_are ∙ append_assoc start.registers before.registers (rs ∷ []);
  rows = subst (λ n. Rows temps l number insns u n (before.transfers ++ xs ∷ []) (before.registers ++ rs ∷ []) w) (let e : suc at ≡ at + 1 = omega arith in e)
      (OneMore before.rows x is xs rs w (subst (λ f. Visits (site_with temps l (number + at) x f) (unmade v) w xs rs) (standing_is (drop (suc at) insns) standing stands) visits));
}

pub adds_none : (temps : ℕ) (l : Lifetimes) (number : ℕ) (insns : List TempInsn) (u : State) (start : Lists) → AddsRows temps l number insns u 0 start start u
adds_none temps l number insns u start = record {
  transfers = [];
  registers = [];
  transfers_are = sym (append-nil start.transfers);
  registers_are = sym (append-nil start.registers);
  rows = NoRow;
}
