-- Before each instruction values stand in usable registers alone.
use Rattle.std.proofs.Common.{◌≡◌, ℕ, zero, suc, ◌≤◌, Bool, true, false, List, [], ◌∷◌, ◌++◌, Option, Some, None, length, map, if◌then◌else◌, refl, sym, subst, arith, ⊎_elim}
use Rattle.std.specs.Prelude.{◌==◌, slice_index_or, drop, min, find, All, Contains}
use Rattle.std.proofs.lemmas.Bool.{cases_lt}
use Rattle.std.proofs.lemmas.List.Elements.{All-from_recursion, All-take, All-head, All-tail, All-contains}
use Rattle.pass_core.specs.Functions.{insn_at}
use Rattle.temp_ir.specs.declared.operation.Service.TheVariants.{End, PutByte, GetByte, Trap}
use Rattle.temp_ir.specs.declared.insn.FixedRegister.{FixedRegister}
use Rattle.temp_ir.specs.declared.insn.FixedRegister.TheVariants.{Value, Argument0, Argument1, Argument2, Argument3, Argument4, Argument5, Dividend, Divisor, Answer}
use Rattle.temp_ir.specs.declared.insn.TempInsn.{TempInsn}
use Rattle.temp_ir.specs.declared.insn.TempInsn.TheVariants as i
use Rattle.temp_ir.specs.Insns.{reads_of}
use Rattle.temp_ir.specs.Fixed.{register_number, argument_registers}
use Rattle.alloc_model.specs.declared.allocation.Loc.{Loc}
use Rattle.alloc_model.specs.declared.allocation.Loc.TheVariants as loc
use Rattle.alloc_model.specs.declared.allocation.TempPlace.{TempPlace}
use Rattle.alloc_model.specs.declared.allocation.Transfer.{Transfer}
use Rattle.alloc_model.specs.declared.allocation.Transfer.TheVariants.{Store, Load, Shift}
use Rattle.alloc_model.specs.Effect.{Holder, Temp, Fixed, Incoming, Outgoing, holders_written, others_written}
use Rattle.alloc_model.specs.Places.{Place, Reg, Slot, In, Out, home_of, places_written_at, ends_place, transfer_target, moved_temp, Plan, linear_number, transfers_at, registers_at}
use Rattle.alloc_model.specs.Needs.{top_place, named_place}
use Rattle.alloc_model.specs.Faithful.{HolderPlaces, stands, forget, end_all, write_all, move_all, behind_insn, at_top, at_entry, at_start, held_before, given_registers, IsGivenRegister, IsOwnPlace, IsStanding, IsTransfer, HasLists}
use Rattle.frame_steps.specs.function_items.InstructionItemsLaws.{is_usable}

-- ---- lists and tests

pub either : {X : Type 0} (P : X → Type 0) (b : Bool) (x y : X) → P x → P y → P (if b then x else y)
either P true x y h k = h
either P false x y h k = k

index-past : {X : Type 0} (xs : List X) (n : ℕ) (d : X) → length xs ≤ n → slice_index_or xs n d ≡ d
index-past [] n d le = refl
index-past (x ∷ xs) zero d le = absurd (omega (arith, le))
index-past (x ∷ xs) (suc n) d le = index-past xs n d (omega (arith, le))

all-at : {X : Type 0} (P : X → Type 0) (xss : List (List X)) (n : ℕ) → All (All P) xss → All P (slice_index_or xss n [])
all-at P xss n h = ⊎_elim
    (λ lt. h n [] lt)
    (λ le. subst (All P) (sym (index-past xss n [] le)) (All-from_recursion P [] tt))
    (cases_lt n (length xss))

-- ---- usable registers

all-usable : All (λ r. is_usable r ≡ true) given_registers
all-usable = All-from_recursion (λ r. is_usable r ≡ true) given_registers (refl, (refl, (refl, (refl, (refl, (refl, (refl, (refl, (refl, (refl, (refl, (refl, (refl, (refl, (refl, (refl, (refl, (refl, (refl, (refl, (refl, (refl, (refl, (refl, (refl, (refl, tt))))))))))))))))))))))))))

given-usable : (r : ℕ) → IsGivenRegister r → is_usable r ≡ true
given-usable r h = All-contains (λ q. is_usable q ≡ true) given_registers r all-usable h

argument-usable : (count r : ℕ) → Contains (argument_registers count) r → is_usable r ≡ true
argument-usable count r h = All-contains (λ q. is_usable q ≡ true) (argument_registers count) r
    (All-take (λ q. is_usable q ≡ true) (min count 6) (16 ∷ 17 ∷ 18 ∷ 19 ∷ 20 ∷ 21 ∷ [])
    (All-from_recursion (λ q. is_usable q ≡ true) (16 ∷ 17 ∷ 18 ∷ 19 ∷ 20 ∷ 21 ∷ []) (refl, (refl, (refl, (refl, (refl, (refl, tt))))))))
    h

number-usable : (f : FixedRegister) → is_usable (register_number f) ≡ true
number-usable Value = refl
number-usable Argument0 = refl
number-usable Argument1 = refl
number-usable Argument2 = refl
number-usable Argument3 = refl
number-usable Argument4 = refl
number-usable Argument5 = refl
number-usable Dividend = refl
number-usable Divisor = refl
number-usable Answer = refl

-- ---- sets in which values stand in known registers

abbrev pub known_place : (known : ℕ → Bool) → Place → Bool
known_place known (Reg r) = known r
known_place known (Slot t) = true
known_place known (In k) = true
known_place known (Out k) = true

abbrev pub Knows : (known : ℕ → Bool) → HolderPlaces → Type 0
Knows known h = (n : Holder) (q : Place) → h n q → known_place known q ≡ true

pub knows-stands : (known : ℕ → Bool) (n : Holder) (p : Place) (h : HolderPlaces) → Knows known h → known_place known p ≡ true → Knows known (stands n p h)
knows-stands known n p h knows is m q e = ⊎_elim (λ l. knows m q l.0) (λ r. subst (λ z. known_place known z ≡ true) (sym r.1) is) e

abbrev AllKnown : List Place → Type 0
AllKnown [] = Unit {0}
AllKnown (p ∷ ps) = (known_place is_usable p ≡ true) × AllKnown ps

knows-written : (ns : List Holder) (ps : List Place) (h : HolderPlaces) → AllKnown ps → Knows is_usable h → Knows is_usable (write_all ns ps h)
knows-written [] ps h all knows = knows
knows-written (n ∷ ns) [] h all knows = knows
knows-written (n ∷ ns) (p ∷ ps) h all knows = knows-written ns ps (stands n p (forget n h)) all.1 (knows-stands is_usable n p (forget n h) (λ m q e. knows m q e.0) all.0)

target-known : (temps : ℕ) (x : Transfer) → IsTransfer temps IsGivenRegister x → known_place is_usable (transfer_target x) ≡ true
target-known temps (Store t r) h = refl
target-known temps (Load t r) h = given-usable r (All-head IsGivenRegister r [] h.1)
target-known temps (Shift t from to) h = given-usable to (All-head IsGivenRegister to [] (All-tail IsGivenRegister from (to ∷ []) h.1))

knows-moved : (temps : ℕ) (xs : List Transfer) (h : HolderPlaces) → All (IsTransfer temps IsGivenRegister) xs → Knows is_usable h → Knows is_usable (move_all xs h)
knows-moved temps [] h all knows = knows
knows-moved temps (x ∷ xs) h all knows = knows-moved temps xs (stands (Temp (moved_temp x)) (transfer_target x) h)
    (All-tail (IsTransfer temps IsGivenRegister) x xs all)
    (knows-stands is_usable (Temp (moved_temp x)) (transfer_target x) h knows (target-known temps x (All-head (IsTransfer temps IsGivenRegister) x xs all)))

-- ---- behind an instruction

known-append : (ps qs : List Place) → AllKnown ps → AllKnown qs → AllKnown (ps ++ qs)
known-append [] qs h k = k
known-append (p ∷ ps) qs h k = (h.0, known-append ps qs h.1 k)

known-registers : (n : ℕ) (rs : List ℕ) → All IsGivenRegister rs → AllKnown (map Reg (drop n rs))
known-registers zero [] all = tt
known-registers zero (r ∷ rs) all = (given-usable r (All-head IsGivenRegister r rs all), known-registers zero rs (All-tail IsGivenRegister r rs all))
known-registers (suc n) [] all = tt
known-registers (suc n) (r ∷ rs) all = known-registers n rs (All-tail IsGivenRegister r rs all)

others-known : (x : TempInsn) → AllKnown (map home_of (others_written x))
others-known (i.Address op destination base plus) = tt
others-known (i.ObjectAddress destination place plus) = tt
others-known (i.Load op destination pointer plus) = tt
others-known (i.Store op value pointer plus) = tt
others-known (i.Operate op destination left right) = tt
others-known (i.Extend op destination source) = tt
others-known (i.ToFixed register source) = (number-usable register, tt)
others-known (i.FromFixed destination register) = tt
others-known (i.SetFixed register number) = (number-usable register, tt)
others-known (i.WriteArgument number source) = (refl, tt)
others-known (i.ReadArgument destination number) = tt
others-known (i.Branch op source block) = tt
others-known (i.Jump block) = tt
others-known (i.Call function arguments) = (refl, tt)
others-known (i.Divide routine) = (refl, tt)
others-known (i.Serve End) = tt
others-known (i.Serve PutByte) = tt
others-known (i.Serve GetByte) = (refl, tt)
others-known (i.Serve Trap) = tt
others-known (i.Return with_value) = tt
others-known i.Mark = tt

knows-behind : (a : Plan) → HasLists a → (block at : ℕ) (o : Option TempInsn) (h : HolderPlaces) → Knows is_usable h → Knows is_usable (behind_insn (transfers_at a block at) (registers_at a block at) o h)
knows-behind a l block at None h knows = knows
knows-behind a l block at (Some x) h knows = knows-written (holders_written x) (places_written_at rs x) (end_all (ends_place x) (move_all (transfers_at a block at) h))
    (known-append (map Reg (drop (length (reads_of x)) rs)) (map home_of (others_written x))
    (known-registers (length (reads_of x)) rs (all-at IsGivenRegister a.regs (linear_number a.function.blocks block at) l.given))
    (others-known x))
    (λ m q e. knows-moved a.temps (transfers_at a block at) h (all-at (IsTransfer a.temps IsGivenRegister) a.at (linear_number a.function.blocks block at) l.transfers) knows m q e.0)
  where
    rs : List ℕ
    rs = registers_at a block at

-- ---- at the top of a block

knows-entry : (a : Plan) → Knows is_usable (at_entry a)
knows-entry a (Temp t) q e = subst (λ z. known_place is_usable z ≡ true) (sym e) refl
knows-entry a (Fixed r) q e = subst (λ z. known_place is_usable z ≡ true) (sym e.1) (argument-usable a.params r e.0)
knows-entry a (Incoming k) q e = absurd e
knows-entry a (Outgoing k) q e = absurd e

place-usable : (t : ℕ) (p : Loc) → IsOwnPlace t p → known_place is_usable (top_place p) ≡ true
place-usable t (loc.Reg r) h = given-usable r h
place-usable t (loc.Slot k) h = refl

named-usable : (temps t : ℕ) (ss : List TempPlace) → All (IsStanding temps) ss → known_place is_usable (named_place t (find (λ s. s.temp == t) ss)) ≡ true
named-usable temps t [] all = refl
named-usable temps t (s ∷ ss) all = let head = All-head (IsStanding temps) s ss all in either (λ o. known_place is_usable (named_place t o) ≡ true) (s.temp == t) (Some s) (find (λ z. z.temp == t) ss)
    (place-usable s.temp s.place head.1)
    (named-usable temps t ss (All-tail (IsStanding temps) s ss all))

knows-top : (a : Plan) → HasLists a → (block : ℕ) → Knows is_usable (at_top a block)
knows-top a l block (Temp t) q e = ⊎_elim
    (λ x. subst (λ z. known_place is_usable z ≡ true) (sym x.1) (named-usable a.temps t (slice_index_or a.top block []) (all-at (IsStanding a.temps) a.top block l.standing.0)))
    (λ x. subst (λ z. known_place is_usable z ≡ true) (sym x.1) refl)
    e
knows-top a l block (Fixed r) q e = absurd e
knows-top a l block (Incoming k) q e = absurd e
knows-top a l block (Outgoing k) q e = absurd e

knows-start : (a : Plan) → HasLists a → (block : ℕ) → Knows is_usable (at_start a block)
knows-start a l zero = knows-entry a
knows-start a l (suc block) = knows-top a l (suc block)

pub knows-before : (a : Plan) → HasLists a → (block at : ℕ) → Knows is_usable (held_before a block at)
knows-before a l block zero = knows-start a l block
knows-before a l block (suc at) = knows-behind a l block at (insn_at a.function.blocks block at) (held_before a block at) (knows-before a l block at)
