-- What is held where while a block is scanned.
use Rattle.std.proofs.Common.{◌≡◌, ◌≢◌, ℕ, suc, ◌<◌, ◌&&◌, List, Bool, true, false, Some, None, refl, sym, ap, ◌∙◌, subst, length, arith}
use Rattle.pass_core.specs.Functions.{insn_at}
use Rattle.temp_ir.specs.Insns.{writes_of}
use Rattle.temp_ir.specs.Fixed.{has_number}
use Rattle.alloc_model.specs.declared.allocation.Transfer.{Transfer}
use Rattle.alloc_model.specs.Effect.{Temp, Fixed}
use Rattle.alloc_model.specs.Places.{Reg, Slot, Plan}
use Rattle.alloc_model.specs.Needs.{is_live_at, UsesSlot, IsRelied}
use Rattle.alloc_model.specs.Faithful.{HolderPlaces}
use Rattle.binpack_blocks.specs.declared.held.Held.{Held}
use Rattle.binpack_blocks.specs.declared.held.SlotCopy.{SlotCopy}
use Rattle.binpack_blocks.specs.declared.held.SlotCopy.TheVariants.{Own, Twice, Lent}
use Rattle.binpack_blocks.specs.model.Bins.{Bins, held_in, has_temp, IsNowhere, IsOnce, AreInside, is_unsaved, lives, must_store, Leaves}
use Rattle.binpack_blocks.specs.model.Steps.{Site, MayGet, MayStore}
use Rattle.binpack_blocks.proofs.Holders.{not_both, held_of}

-- the slot of a temporary that stands in a register holds it, where one that was lent needs it
abbrev pub InSlot : (need : Type 0) → SlotCopy → Type 0
InSlot need Own = ⊥
InSlot need Twice = Unit {0}
InSlot need (Lent saved) = need

-- what is live is where the registers say, and fixed values stand in the registers that are claimed
pub record Has (live need : ℕ → Type 0) (claims : ℕ → Bool) (bins : Bins) (h : HolderPlaces) : Type 0 where
  pub reg : (r t : ℕ) → has_temp (held_in bins r) t ≡ true → live t → h (Temp t) (Reg r)
  pub away : (t : ℕ) → IsNowhere bins t → live t → h (Temp t) (Slot t)
  pub copied : (r : ℕ) (k : Held) → held_in bins r ≡ Some k → live k.temp → InSlot (need k.temp) k.copy →
      h (Temp k.temp) (Slot k.temp)
  pub fixed : (r : ℕ) → claims r ≡ true → h (Fixed r) (Reg r)

pub record Sound (temps : ℕ) (claims : ℕ → Bool) (bins : Bins) : Type 0 where
  pub many : length bins ≡ 26
  pub once : IsOnce bins
  pub inside : AreInside temps bins
  pub free : (r : ℕ) → claims r ≡ true → held_in bins r ≡ None

-- what uses the slot of a temporary that was lent, from here on, is what the block relies on
pub record Handed (a : Plan) (b at : ℕ) (xs : List Transfer) (bins : Bins) : Type 0 where
  pub each : (r : ℕ) (k : Held) (saved : Bool) → held_in bins r ≡ Some k → k.copy ≡ Lent saved →
      is_live_at a k.temp b at → UsesSlot a k.temp b at xs r → IsRelied a k.temp b

-- the tests of a site say what is so at a place of a block
pub record IsSite (a : Plan) (b at : ℕ) (s : Site) (claims : ℕ → Bool) : Type 0 where
  pub there : insn_at a.function.blocks b at ≡ Some s.insn
  pub temps : s.temps ≡ a.temps
  pub before : (t : ℕ) → is_live_at a t b at → s.before t ≡ true
  pub is_before : (t : ℕ) → s.before t ≡ true → is_live_at a t b at
  pub stored : (t : ℕ) → MayStore s t → is_live_at a t b at
  pub behind : (t : ℕ) → is_live_at a t b (suc at) → s.behind t ≡ true
  pub flows : (t : ℕ) → is_live_at a t b (suc at) → has_number (writes_of s.insn) t ≡ false → is_live_at a t b at
  pub claim : (r : ℕ) → MayGet s r → claims r ≡ false

-- ---- leaving

-- what leaves while it is live is in its slot
pub copy_held : (need : Type 0) (copy : SlotCopy) → (true && is_unsaved copy) ≡ false → (copy ≡ Lent true → need) → InSlot need copy
copy_held need Own saved relies = absurd (cc)
copy_held need Twice saved relies = tt
copy_held need (Lent true) saved relies = relies refl
copy_held need (Lent false) saved relies = absurd (cc)

pub left_in_slot : (live need : ℕ → Type 0) (claims : ℕ → Bool) (test : ℕ → Bool) (bins : Bins) (h : HolderPlaces) (r t : ℕ) (old new : List Bool) →
    (live t → test t ≡ true) → Leaves test (held_in bins r) old new → ((k : Held) → held_in bins r ≡ Some k → k.copy ≡ Lent true → live k.temp → need k.temp) →
    Has live need claims bins h → has_temp (held_in bins r) t ≡ true → live t → h (Temp t) (Slot t)
left_in_slot live need claims test bins h r t old new tests leaves relies has is lv =
    let k = held_of (held_in bins r) t is in
    let lk : live k.0.temp = subst live (sym k.2) lv in
    let tk : test k.0.temp ≡ true = ap test k.2 ∙ tests lv in
    let saved : (true && is_unsaved k.0.copy) ≡ false = ap (λ b. b && is_unsaved k.0.copy) (sym tk) ∙ sym (ap (λ o. must_store (lives test o) o) k.1) ∙ leaves.saved in
    subst (λ u. h (Temp u) (Slot u)) k.2 (has.copied r k.0 k.1 lk (copy_held (need k.0.temp) k.0.copy saved (λ e. relies k.0 k.1 e lk)))

-- ---- a register that can be had is none that is claimed

pub given_within : (temps : ℕ) (claims : ℕ → Bool) (bins : Bins) (s : Site) (r : ℕ) → Sound temps claims bins → MayGet s r → r < length bins
given_within temps claims bins s r sound may = let many = sound.many in let low = may.given in omega (arith, many, low)

pub unclaimed_apart : (claims : ℕ → Bool) (r q : ℕ) → claims r ≡ false → claims q ≡ true → q ≢ r
unclaimed_apart claims r q free claimed e = not_both (claims q) claimed (ap claims e ∙ free)
