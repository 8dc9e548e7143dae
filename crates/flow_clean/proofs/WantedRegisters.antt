-- A run without instructions whose writes nothing reads lags behind the run with them.
use Rattle.std.proofs.Common.{◌≡◌, ◌⊎◌, ℕ, zero, suc, ◌-◌, ◌<◌, ◌≤◌, ◌==◌, ◌&&◌, not, Bool, true, false, List, [], ◌∷◌, length, take, drop, map, Some, refl, sym, ap, ◌∙◌, subst, inl, inr, ⊎_elim, arith}
use Rattle.std.specs.Prelude.{slice_get, Contains, if◌then◌else◌}
use Rattle.std.specs.List.{list_any}
use Rattle.std.proofs.lemmas.Bool.{eq-eqb, eqb-true, and_parts}
use Rattle.std.proofs.lemmas.List.Elements.{Contains-append_left, Contains-append_right}
use Rattle.std.proofs.lemmas.Option.{slice_get_within, get_or_from_slice_get}
use Rattle.mem_model.specs.declared.value.Value.{Value}
use Rattle.mem_model.specs.World.{Outer}
use Rattle.machine_model.specs.Code.{Writes}
use Rattle.pass_core.specs.Functions.{insn_in, insn_at, EndsLate, IsStraight, front_of, last_of, successors_of, successors_after}
use Rattle.pass_core.specs.Live.{Live}
use Rattle.pass_core.specs.Live.Live.{IsRead, Passes}
use Rattle.bitvector_flow.specs.Flows.{has_at}
use Rattle.bitvector_flow.specs.Lives.{has_register, AreLive}
use Rattle.bitvector_flow.proofs.Lives.{either, or_cases, and_left, and_right, or_neither, neither_made, of_names, none_of, drop_first, drop_none}
use Rattle.suifvm_ir.specs.declared.insn.VmInsn.{VmInsn}
use Rattle.suifvm_ir.specs.Insns.{reads_of, writes_of, targets_of, flows_on_of}
use Rattle.suifvm_meaning.specs.Effect.{does}
use Rattle.suifvm_meaning.specs.Behave.{Registers, set_register, set_registers, first_or_unset}
use Rattle.flow_clean.specs.Dead.{may_drop, is_self_move, is_wanted, is_dead_write, cleaned}
use Rattle.flow_clean.proofs.SelfMoves.{self_drops, self_reads, self_stays}

-- ---- registers

not_equal : (a b : ℕ) → (a == b) ≡ false → (b == a) ≡ false
not_equal a b e = by_value (b == a) refl
  where
    by_value : (c : Bool) → (b == a) ≡ c → c ≡ false
    by_value true is = let clash : true ≡ false = sym (eq-eqb a b (sym (eqb-true b a is))) ∙ e in let never : ⊥ = cc in absurd never
    by_value false is = refl

-- a register that is not written stays
pub stays : (ws : List ℕ) (vs : List Value) (r : Registers) (k : ℕ) → has_register ws k ≡ false → set_registers ws vs r k ≡ r k
stays [] vs r k e = refl
stays (w ∷ ws) vs r k e =
    let parts = or_neither (w == k) (has_register ws k) e in
    stays ws (drop 1 vs) (set_register w (first_or_unset vs) r) k parts.1
    ∙ ap (λ b. if b then first_or_unset vs else r k) (not_equal w k parts.0)

-- one that is written, or was the same, is the same
pub same_behind : (ws : List ℕ) (vs : List Value) (r s : Registers) (k : ℕ) → (has_register ws k ≡ false → s k ≡ r k) → set_registers ws vs s k ≡ set_registers ws vs r k
same_behind [] vs r s k h = h refl
same_behind (w ∷ ws) vs r s k h =
    same_behind ws (drop 1 vs) (set_register w (first_or_unset vs) r) (set_register w (first_or_unset vs) s) k
    (λ none. by_value (k == w) refl (λ e. h (neither_made (w == k) (has_register ws k) (not_equal k w e) none)))
  where
    by_value : (c : Bool) → (k == w) ≡ c → ((k == w) ≡ false → s k ≡ r k) → (if c then first_or_unset vs else s k) ≡ (if c then first_or_unset vs else r k)
    by_value true is g = refl
    by_value false is g = g is

pub read_same : (rs : List ℕ) (r s : Registers) → ((k : ℕ) → has_register rs k ≡ true → s k ≡ r k) → map s rs ≡ map r rs
read_same [] r s h = refl
read_same (x ∷ rs) r s h =
    ap (λ v. v ∷ map s rs) (h x (either (x == x) (has_register rs x) (inl (eq-eqb x x refl))))
    ∙ ap (λ l. r x ∷ l) (read_same rs r s (λ k e. h k (either (x == k) (has_register rs k) (inr e))))

-- ---- what is wanted

none_wanted : (p : ℕ → Bool) (ws : List ℕ) (k : ℕ) → list_any p ws ≡ false → has_register ws k ≡ true → p k ≡ false
none_wanted p [] k e h = let never : ⊥ = cc in absurd never
none_wanted p (w ∷ ws) k e h =
    let parts = or_neither (p w) (list_any p ws) e in
    ⊎_elim (λ here. sym (ap p (eqb-true w k here)) ∙ parts.0) (λ there. none_wanted p ws k parts.1 there) (or_cases (w == k) (has_register ws k) h)

not_true : (b : Bool) → not b ≡ true → b ≡ false
not_true true e = sym e
not_true false e = refl

module _ (bottom : ℕ → Bool) (i : VmInsn) (xs : List VmInsn) where
  pub is_cleaned : (d : Bool) → is_dead_write bottom i (cleaned bottom xs) ≡ d → cleaned bottom (i ∷ xs) ≡ (if d then cleaned bottom xs else i ∷ cleaned bottom xs)
  is_cleaned d e = ap (λ b. if b then cleaned bottom xs else i ∷ cleaned bottom xs) e

  -- nothing wants what it writes
  abbrev Unread : Type 0
  Unread = (may_drop i && not (list_any (is_wanted bottom (cleaned bottom xs)) (writes_of i))) ≡ true

  -- what is dead is a move of a register to itself, or nothing wants what it writes
  self_or_unread : is_dead_write bottom i (cleaned bottom xs) ≡ true → (is_self_move i ≡ true) ⊎ Unread
  self_or_unread dead = or_cases (is_self_move i) (may_drop i && not (list_any (is_wanted bottom (cleaned bottom xs)) (writes_of i))) dead

  unwritten : Unread → (k : ℕ) → is_wanted bottom (cleaned bottom xs) k ≡ true → has_register (writes_of i) k ≡ false
  unwritten dead k wanted = by_value (has_register (writes_of i) k) refl
    where
      by_value : (b : Bool) → has_register (writes_of i) k ≡ b → b ≡ false
      by_value false e = refl
      by_value true e =
          let parts = and_parts (may_drop i) (not (list_any (is_wanted bottom (cleaned bottom xs)) (writes_of i))) dead in
          let none = none_wanted (is_wanted bottom (cleaned bottom xs)) (writes_of i) k (not_true (list_any (is_wanted bottom (cleaned bottom xs)) (writes_of i)) parts.1) e in
          absurd (let clash : true ≡ false = sym wanted ∙ none in cc)

  pub droppable : is_dead_write bottom i (cleaned bottom xs) ≡ true → may_drop i ≡ true
  droppable dead = ⊎_elim
      (λ self. self_drops i self)
      (λ unread. (and_parts (may_drop i) (not (list_any (is_wanted bottom (cleaned bottom xs)) (writes_of i))) unread).0)
      (self_or_unread dead)

  -- what is wanted is not written by one that is dead, or read by it
  pub unwritten_or_read : is_dead_write bottom i (cleaned bottom xs) ≡ true → (k : ℕ) → is_wanted bottom (cleaned bottom xs) k ≡ true → (has_register (writes_of i) k ≡ false) ⊎ (has_register (reads_of i) k ≡ true)
  unwritten_or_read dead k wanted = ⊎_elim (λ self. by_value self (has_register (writes_of i) k) refl) (λ unread. inl (unwritten unread k wanted)) (self_or_unread dead)
    where
      by_value : is_self_move i ≡ true → (b : Bool) → has_register (writes_of i) k ≡ b → (has_register (writes_of i) k ≡ false) ⊎ (has_register (reads_of i) k ≡ true)
      by_value self false e = inl e
      by_value self true e = inr (ap (λ ks. has_register ks k) (self_reads i self) ∙ e)

  -- and holds behind it what it held before it
  pub unchanged : is_dead_write bottom i (cleaned bottom xs) ≡ true → (own : ℕ) (r : Registers) (o after : Outer) (vs : List Value) → does i own (map r (reads_of i)) o ≡ Writes vs after →
      (k : ℕ) → is_wanted bottom (cleaned bottom xs) k ≡ true → set_registers (writes_of i) vs r k ≡ r k
  unchanged dead own r o after vs e k wanted = ⊎_elim
      (λ self. self_stays i self own r o after vs e k)
      (λ unread. stays (writes_of i) vs r k (unwritten unread k wanted))
      (self_or_unread dead)

-- ---- what is wanted is live

module _ (blocks : List (List VmInsn)) (temps : ℕ) (tops bottoms : List (List Bool)) (are : AreLive reads_of writes_of targets_of flows_on_of blocks temps tops bottoms)
    (block : ℕ) (insns : List VmInsn) (block_is : slice_get blocks block ≡ Some insns) (k : ℕ) where
  pub wanted_live : (at : ℕ) (xs : List VmInsn) → drop at insns ≡ xs → at ≤ length insns → is_wanted (has_at bottoms block) (cleaned (has_at bottoms block) xs) k ≡ true →
      Live reads_of writes_of targets_of flows_on_of blocks k block at
  wanted_live at [] e few h =
      let past = drop_none insns at e in
      subst (Live reads_of writes_of targets_of flows_on_of blocks k block) (let same : length insns ≡ at = omega (arith, past, few) in same)
      ((are.live_at_bottom k block insns block_is).0 h)
  wanted_live at (i ∷ xs) e few h =
      by_dead (λ wanted. wanted_live (suc at) xs (drop_first insns at i xs e).1 (let inside = (drop_first insns at i xs e).2 in omega (arith, inside)) wanted)
      (is_dead_write (has_at bottoms block) i (cleaned (has_at bottoms block) xs)) refl
    where
      d : (slice_get insns at ≡ Some i) × (drop (suc at) insns ≡ xs) × (at < length insns)
      d = drop_first insns at i xs e

      there : insn_at blocks block at ≡ Some i
      there = ap (λ b. insn_in b at) block_is ∙ d.0

      by_dead : (is_wanted (has_at bottoms block) (cleaned (has_at bottoms block) xs) k ≡ true → Live reads_of writes_of targets_of flows_on_of blocks k block (suc at)) →
          (b : Bool) → is_dead_write (has_at bottoms block) i (cleaned (has_at bottoms block) xs) ≡ b → Live reads_of writes_of targets_of flows_on_of blocks k block at
      by_dead later true dead =
          let wanted : is_wanted (has_at bottoms block) (cleaned (has_at bottoms block) xs) k ≡ true =
          sym (ap (λ l. is_wanted (has_at bottoms block) l k) (is_cleaned (has_at bottoms block) i xs true dead)) ∙ h in
          ⊎_elim (λ none. Passes i there (none_of (writes_of i) k none) (later wanted))
          (λ read. IsRead i there (of_names (reads_of i) k read))
          (unwritten_or_read (has_at bottoms block) i xs dead k wanted)
      by_dead later false kept =
          let wanted : is_wanted (has_at bottoms block) (i ∷ cleaned (has_at bottoms block) xs) k ≡ true =
          sym (ap (λ l. is_wanted (has_at bottoms block) l k) (is_cleaned (has_at bottoms block) i xs false kept)) ∙ h in
          ⊎_elim (λ read. IsRead i there (of_names (reads_of i) k read))
          (λ rest. Passes i there (none_of (writes_of i) k (and_left (has_register (writes_of i) k) (is_wanted (has_at bottoms block) (cleaned (has_at bottoms block) xs) k) rest))
          (later (and_right (has_register (writes_of i) k) (is_wanted (has_at bottoms block) (cleaned (has_at bottoms block) xs) k) rest)))
          (or_cases (has_register (reads_of i) k) (not (has_register (writes_of i) k) && is_wanted (has_at bottoms block) (cleaned (has_at bottoms block) xs) k) wanted)

-- ---- the end of a block

module _ (insns : List VmInsn) (at : ℕ) (i : VmInsn) where
  pub last_is : drop at insns ≡ i ∷ [] → last_of insns ≡ Some i
  last_is e =
      let d = drop_first insns at i [] e in
      let past = drop_none insns (suc at) d.1 in
      let inside = d.2 in
      ap (slice_get insns) (let same : length insns - 1 ≡ at = omega (arith, past, inside) in same) ∙ d.0

  take_there : (n : ℕ) (ys : List VmInsn) → n < length ys → (m : ℕ) → m < n → slice_get (take n ys) m ≡ slice_get ys m
  take_there n [] w m v = absurd (omega (arith, w))
  take_there zero (y ∷ ys) w m v = absurd (omega (arith, v))
  take_there (suc n) (y ∷ ys) w zero v = refl
  take_there (suc n) (y ∷ ys) w (suc m) v = take_there n ys (omega (arith, w)) m (omega (arith, v))

  -- what has a target stands last
  pub stands_last : (xs : List VmInsn) → drop at insns ≡ i ∷ xs → EndsLate targets_of flows_on_of insns → (k block : ℕ) → slice_get (targets_of i) k ≡ Some block → xs ≡ []
  stands_last [] e late k block is = refl
  stands_last (y ∷ xs) e late k block is =
      let d = drop_first insns at i (y ∷ xs) e in
      let next = drop_first insns (suc at) y xs d.1 in
      let inside = next.2 in
      let there : slice_get (front_of insns) at ≡ Some i = take_there (length insns - 1) insns (omega (arith, inside)) at (omega (arith, inside)) ∙ d.0 in
      let straight : IsStraight targets_of flows_on_of i = subst (IsStraight targets_of flows_on_of) (get_or_from_slice_get (front_of insns) at i i there) (late at i (slice_get_within (front_of insns) at i there)) in
      let none = straight.0 in
      let some = slice_get_within (targets_of i) k block is in
      absurd (omega (arith, none, some))

pub target_follows : (insns : List VmInsn) (i : VmInsn) (here k block : ℕ) → last_of insns ≡ Some i → slice_get (targets_of i) k ≡ Some block → Contains (successors_of targets_of flows_on_of here insns) block
target_follows insns i here k block last is =
    subst (λ o. Contains (successors_after targets_of flows_on_of here o) block) (sym last)
    (Contains-append_left (targets_of i) (if flows_on_of i then suc here ∷ [] else []) block (k, slice_get_within (targets_of i) k block is, get_or_from_slice_get (targets_of i) k block block is))

pub next_follows : (insns : List VmInsn) (i : VmInsn) (here : ℕ) → last_of insns ≡ Some i → flows_on_of i ≡ true → Contains (successors_of targets_of flows_on_of here insns) (suc here)
next_follows insns i here last flows =
    subst (λ o. Contains (successors_after targets_of flows_on_of here o) (suc here)) (sym last)
    (Contains-append_right (targets_of i) (if flows_on_of i then suc here ∷ [] else []) (suc here)
    (subst (λ b. Contains (if b then suc here ∷ [] else []) (suc here)) (sym flows) (0, omega arith, refl)))
