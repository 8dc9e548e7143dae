-- A plan fits the frame of its function.
use Rattle.std.proofs.Common.{◌≡◌, ℕ, zero, suc, ◌<◌, ◌≤◌, Bool, true, false, List, [], ◌∷◌, length, refl, sym, ap, subst, arith, ⊎_elim, eq-eqb}
use Rattle.std.specs.Prelude.{◌==◌, ◌||◌, slice_index_or, All}
use Rattle.std.specs.List.{list_any}
use Rattle.std.proofs.lemmas.Bool.{cases_lt}
use Rattle.std.proofs.lemmas.List.Elements.{All-from_recursion, All-head, All-tail, All-contains}
use Rattle.temp_ir.specs.Fixed.{has_number}
use Rattle.alloc_model.specs.declared.allocation.Transfer.{Transfer}
use Rattle.alloc_model.specs.declared.allocation.Transfer.TheVariants.{Store, Load, Shift}
use Rattle.alloc_model.specs.Places.{Plan, linear_number, transfers_at, registers_at}
use Rattle.alloc_model.specs.Faithful.{given_registers, IsGivenRegister, named_registers, IsTransfer, HasLists}
use Rattle.frame_memory.specs.flat_frames.Shapes.{FrameShape}
use Rattle.frame_simulation.specs.placed_steps.Laws.{is_usable, MayHold, AllMayHold}
use Rattle.frame_simulation.specs.placed_steps.Points.{MayTransfer, AllMayTransfer}
use Rattle.frame_simulation.specs.function_shapes.Shapes.{names_in, shape_of, PlanFits}

-- the given registers are usable
all-usable : All (λ r. is_usable r ≡ true) given_registers
all-usable = All-from_recursion (λ r. is_usable r ≡ true) given_registers (refl, (refl, (refl, (refl, (refl, (refl, (refl, (refl, (refl, (refl, (refl, (refl, (refl, (refl, (refl, (refl, (refl, (refl, (refl, (refl, (refl, (refl, (refl, (refl, (refl, (refl, tt))))))))))))))))))))))))))

given-usable : (r : ℕ) → IsGivenRegister r → is_usable r ≡ true
given-usable r h = All-contains (λ q. is_usable q ≡ true) given_registers r all-usable h

-- ---- tests of lists

or-left : (b c : Bool) → b ≡ true → (b || c) ≡ true
or-left b c e = ap (λ z. z || c) e

or-right : (b c : Bool) → c ≡ true → (b || c) ≡ true
or-right true c e = refl
or-right false c e = e

number-here : (r : ℕ) (rs : List ℕ) → has_number (r ∷ rs) r ≡ true
number-here r rs = or-left (r == r) (has_number rs r) (eq-eqb r r refl)

any-at : {X : Type 0} (p : X → Bool) (xs : List X) (n : ℕ) (d : X) → n < length xs → p (slice_index_or xs n d) ≡ true → list_any p xs ≡ true
any-at p [] n d lt e = absurd (omega (arith, lt))
any-at p (x ∷ xs) zero d lt e = or-left (p x) (list_any p xs) e
any-at p (x ∷ xs) (suc n) d lt e = or-right (p x) (list_any p xs) (any-at p xs n d (omega (arith, lt)) e)

index-past : {X : Type 0} (xs : List X) (n : ℕ) (d : X) → length xs ≤ n → slice_index_or xs n d ≡ d
index-past [] n d le = refl
index-past (x ∷ xs) zero d le = absurd (omega (arith, le))
index-past (x ∷ xs) (suc n) d le = index-past xs n d (omega (arith, le))

-- ---- a frame that saves what is named

may-hold : (s : FrameShape) (r : ℕ) → IsGivenRegister r → s.saves r ≡ true → MayHold s r
may-hold s r given saved = record { usable_one = given-usable r given; saved = λ from to. saved }

may-transfer : (s : FrameShape) (x : Transfer) → ((r : ℕ) → has_number (named_registers x) r ≡ true → s.saves r ≡ true) → IsTransfer s.temps IsGivenRegister x → MayTransfer s x
may-transfer s (Store t r) cover h = (h.0, may-hold s r (All-head IsGivenRegister r [] h.1) (cover r (number-here r [])))
may-transfer s (Load t r) cover h = (h.0, may-hold s r (All-head IsGivenRegister r [] h.1) (cover r (number-here r [])))
may-transfer s (Shift t from to) cover h = (
  may-hold s from (All-head IsGivenRegister from (to ∷ []) h.1) (cover from (number-here from (to ∷ []))),
  may-hold s to (All-head IsGivenRegister to [] (All-tail IsGivenRegister from (to ∷ []) h.1)) (cover to (or-right (from == to) (has_number (to ∷ []) to) (number-here to []))),
)

all-may-transfer : (s : FrameShape) (xs : List Transfer) → ((r : ℕ) → names_in xs r ≡ true → s.saves r ≡ true) → All (IsTransfer s.temps IsGivenRegister) xs → AllMayTransfer s xs
all-may-transfer s [] cover h = tt
all-may-transfer s (x ∷ xs) cover h = (
  may-transfer s x (λ r e. cover r (or-left (has_number (named_registers x) r) (names_in xs r) e)) (All-head (IsTransfer s.temps IsGivenRegister) x xs h),
  all-may-transfer s xs (λ r e. cover r (or-right (has_number (named_registers x) r) (names_in xs r) e)) (All-tail (IsTransfer s.temps IsGivenRegister) x xs h),
)

all-may-hold : (s : FrameShape) (rs : List ℕ) → ((r : ℕ) → has_number rs r ≡ true → s.saves r ≡ true) → All IsGivenRegister rs → AllMayHold s rs
all-may-hold s [] cover h = tt
all-may-hold s (r ∷ rs) cover h = (
  may-hold s r (All-head IsGivenRegister r rs h) (cover r (number-here r rs)),
  all-may-hold s rs (λ q e. cover q (or-right (r == q) (has_number rs q) e)) (All-tail IsGivenRegister r rs h),
)

-- ---- a plan

transfers-fit : (a : Plan) → HasLists a → (block at : ℕ) → AllMayTransfer (shape_of a) (transfers_at a block at)
transfers-fit a h block at = ⊎_elim
    (λ lt. all-may-transfer (shape_of a) (transfers_at a block at)
    (λ r e. or-left (list_any (λ xs. names_in xs r) a.at) (list_any (λ rs. has_number rs r) a.regs || list_any (λ z. names_in z.code r) a.edges) (any-at (λ xs. names_in xs r) a.at n [] lt e))
    (h.transfers n [] lt))
    (λ le. subst (AllMayTransfer (shape_of a)) (sym (index-past a.at n [] le)) tt)
    (cases_lt n (length a.at))
  where
    n : ℕ
    n = linear_number a.function.blocks block at

registers-fit : (a : Plan) → HasLists a → (block at : ℕ) → AllMayHold (shape_of a) (registers_at a block at)
registers-fit a h block at = ⊎_elim
    (λ lt. all-may-hold (shape_of a) (registers_at a block at)
    (λ r e. or-right (list_any (λ xs. names_in xs r) a.at) (list_any (λ rs. has_number rs r) a.regs || list_any (λ z. names_in z.code r) a.edges) (or-left (list_any (λ rs. has_number rs r) a.regs) (list_any (λ z. names_in z.code r) a.edges) (any-at (λ rs. has_number rs r) a.regs n [] lt e)))
    (h.given n [] lt))
    (λ le. subst (AllMayHold (shape_of a)) (sym (index-past a.regs n [] le)) tt)
    (cases_lt n (length a.regs))
  where
    n : ℕ
    n = linear_number a.function.blocks block at

pub plans_fit : (a : Plan) → HasLists a → PlanFits a
plans_fit a h = record {
  points = λ block at x e. record {
    transfers = transfers-fit a h block at;
    stated = record { count = h.stated block at x e; may_hold = registers-fit a h block at };
  };
  widest = omega arith;
}
