-- What is held where behind the transfers before an instruction.
use Rattle.std.proofs.Common.{◌≡◌, ◌≢◌, ◌⊎◌, ℕ, ◌<◌, List, [], ◌∷◌, ◌++◌, Bool, true, false, Option, Some, None, refl, sym, ap, ◌∙◌, inl, inr, subst, ⊎_elim, length, arith, append_assoc}
use Rattle.std.specs.Prelude.{◌==◌, slice_set}
use Rattle.std.proofs.lemmas.Bool.{eqb-true}
use Rattle.alloc_model.specs.declared.allocation.Transfer.{Transfer}
use Rattle.alloc_model.specs.declared.allocation.Transfer.TheVariants.{Store, Load, Shift}
use Rattle.alloc_model.specs.Effect.{Temp}
use Rattle.alloc_model.specs.Places.{Reg, Slot, Plan, source_of, transfer_target, moved_temp}
use Rattle.alloc_model.specs.Needs.{is_live_at, UsesSlot, IsNeeded}
use Rattle.alloc_model.specs.Needs.UsesSlot.{LeavesByMove, IsShifted, PassesMove}
use Rattle.alloc_model.specs.Needs.IsNeeded.{Relied}
use Rattle.alloc_model.specs.Faithful.{HolderPlaces, stands, move_all, MovesAsk}
use Rattle.alloc_rules.specs.Visits.{fixes}
use Rattle.binpack_blocks.specs.declared.held.Held.{Held}
use Rattle.binpack_blocks.specs.declared.held.SlotCopy.TheVariants.{Twice, Lent}
use Rattle.binpack_blocks.specs.model.Bins.{Bins, held_in, has_temp, held, IsNowhere, is_unsaved, Leaves}
use Rattle.binpack_blocks.specs.model.Steps.{Site, State, MayGet, Step, Steps}
use Rattle.binpack_blocks.specs.model.Steps.Step.{Stores, Shifts, Loads}
use Rattle.binpack_blocks.specs.model.Steps.Steps.{Start, More}
use Rattle.binpack_blocks.proofs.Holders.{same_or_not, test_or_not, not_both, set_same, set_other, set_length, held_within, temp_held, other_temp, came, came_held, cleared_held, cleared_temp, nowhere_before, nowhere_or, not_where_it_came, marked_temp, once_marked, once_came, once_cleared, inside_came, inside_cleared}
use Rattle.binpack_scan.proofs.Claims.{Has, Sound, Handed, IsSite, left_in_slot, given_within, unclaimed_apart}

pub slot_no_register : (a b : ℕ) → Slot a ≢ Reg b
slot_no_register a b e = cc

pub register_no_slot : (a b : ℕ) → Reg a ≢ Slot b
register_no_slot a b e = cc

pub other_registers : (a b : ℕ) → a ≢ b → Reg a ≢ Reg b
other_registers a b ne e = ne (cc)

pub other_slots : (a b : ℕ) → a ≢ b → Slot a ≢ Slot b
other_slots a b ne e = ne (cc)

-- ---- one list of transfers behind another

pub moves_in_turn : (xs ys : List Transfer) (h : HolderPlaces) → move_all (xs ++ ys) h ≡ move_all ys (move_all xs h)
moves_in_turn [] ys h = refl
moves_in_turn (x ∷ xs) ys h = moves_in_turn xs ys _

pub asks_in_turn : (xs ys : List Transfer) (h : HolderPlaces) → MovesAsk xs h → MovesAsk ys (move_all xs h) → MovesAsk (xs ++ ys) h
asks_in_turn [] ys h a b = b
asks_in_turn (x ∷ xs) ys h a b = (a.0, asks_in_turn xs ys _ a.1 b)

one_held : (o : Option Held) (h k : Held) → o ≡ Some h → o ≡ Some k → h ≡ k
one_held o h k e f = cc

module _ (a : Plan) (b at : ℕ) (s : Site) (claims : ℕ → Bool) (site : IsSite a b at s claims) where
  abbrev live : ℕ → Type 0
  live t = is_live_at a t b at

  abbrev need : ℕ → Type 0
  need t = IsNeeded a t b

  abbrev behind_move : Transfer → HolderPlaces → HolderPlaces
  behind_move x h = stands (Temp (moved_temp x)) (transfer_target x) h

  -- what is so where some transfers are left
  record Ready (bins : Bins) (h : HolderPlaces) (left : List Transfer) : Type 0 where
    has : Has live need claims bins h
    sound : Sound s.temps claims bins
    handed : Handed a b at left bins

  record Stepped (bins : Bins) (h : HolderPlaces) (x : Transfer) (left : List Transfer) : Type 0 where
    asks : h (Temp (moved_temp x)) (source_of x)
    ready : Ready bins (behind_move x h) left

  -- ---- a store

  module _ (v : Bins) (h : HolderPlaces) (left : List Transfer) (r : ℕ) (k : Held) (is : held_in v r ≡ Some k) (unsaved : is_unsaved k.copy ≡ true) (lv : live k.temp) (ready : Ready v h (Store k.temp r ∷ left)) where
    abbrev stored : Bins
    stored = slice_set v r (Some (held k.temp Twice))

    within : r < length v
    within = held_within v r k is

    stores : Stepped stored h (Store k.temp r) left
    stores = record {
      asks = ready.has.reg r k.temp (temp_held (held_in v r) k is) lv;
      ready = record {
        has = record {
          reg = λ q t e l. inl (ready.has.reg q t (sym (marked_temp v r k Twice is q t) ∙ e) l, register_no_slot q k.temp);
          away = λ t none l. inl (ready.has.away t (λ q. sym (marked_temp v r k Twice is q t) ∙ none q) l, other_slots t k.temp (λ e. not_where_it_came v r t (held k.temp Twice) within none (sym e)));
          copied = λ q m e l slot. ⊎_elim
              (λ (x : (q ≡ r) × (m ≡ held k.temp Twice)). inr (ap (λ (j : Held). Temp j.temp) x.1, ap (λ (j : Held). Slot j.temp) x.1))
              (λ (x : (q ≢ r) × (held_in v q ≡ Some m)). inl (ready.has.copied q m x.1 l slot, other_slots m.temp k.temp (apart q m x.0 x.1)))
              (came_held v r q (held k.temp Twice) m within e);
          fixed = λ q c. inl (ready.has.fixed q c, register_no_slot q k.temp);
        };
        sound = record {
          many = set_length v r _ ∙ ready.sound.many;
          once = once_marked v r k Twice is ready.sound.once;
          inside = λ q t e. ready.sound.inside q t (sym (marked_temp v r k Twice is q t) ∙ e);
          free = λ q c. set_other v r q _ (λ e. none_some (ready.sound.free q c) (ap (held_in v) e ∙ is)) ∙ ready.sound.free q c;
        };
        handed = record {
          each = λ q m saved e c l used. ⊎_elim
              (λ (x : (q ≡ r) × (m ≡ held k.temp Twice)). absurd (not_lent saved (sym (ap (λ (j : Held). j.copy) x.1) ∙ c)))
              (λ (x : (q ≢ r) × (held_in v q ≡ Some m)). ready.handed.each q m saved x.1 c l (PassesMove (Store k.temp r) left (λ e. apart q m x.0 x.1 (sym e)) (slot_no_register k.temp q) used))
              (came_held v r q (held k.temp Twice) m within e);
        };
      };
    }
      where
        apart : (q : ℕ) (m : Held) → q ≢ r → held_in v q ≡ Some m → m.temp ≢ k.temp
        apart q m ne e same = ne (ready.sound.once m.temp q r (temp_held (held_in v q) m e) (ap (has_temp (held_in v r)) same ∙ temp_held (held_in v r) k is))

        none_some : {o : Option Held} {j : Held} → o ≡ None → o ≡ Some j → ⊥
        none_some e f = cc

        not_lent : (saved : Bool) → Twice ≡ Lent saved → ⊥
        not_lent saved e = cc

  -- ---- a load

  -- what stands in the register that something else takes is in its slot
  leaving : (v : Bins) (h : HolderPlaces) (x : Transfer) (left : List Transfer) (r t : ℕ) (old new : List Bool) → transfer_target x ≡ Reg r →
      has_temp (held_in v r) (moved_temp x) ≡ false → Leaves s.before (held_in v r) old new → Ready v h (x ∷ left) → has_temp (held_in v r) t ≡ true → live t → h (Temp t) (Slot t)
  leaving v h x left r t old new target apart leaves ready is lv =
      left_in_slot live need claims s.before v h r t old new (site.before t) leaves
      (λ m e c l. Relied (ready.handed.each r m true e c l (LeavesByMove x left (λ same. not_both (has_temp (held_in v r) (moved_temp x)) (ap (has_temp (held_in v r)) same ∙ temp_held (held_in v r) m e) apart) target l)))
      ready.has is lv

  module _ (v : Bins) (h : HolderPlaces) (left : List Transfer) (t r : ℕ) (none : IsNowhere v t) (lv : live t) (low : t < s.temps) (may : MayGet s r) (old new : List Bool) (leaves : Leaves s.before (held_in v r) old new) (ready : Ready v h (Load t r ∷ left)) where
    abbrev loaded : Bins
    loaded = slice_set v r (Some (held t Twice))

    inside_them : r < length v
    inside_them = given_within s.temps claims v s r ready.sound may

    loads : Stepped loaded h (Load t r) left
    loads = record {
      asks = ready.has.away t none lv;
      ready = record {
        has = record {
          reg = λ q u e l. ⊎_elim
              (λ (x : (q ≡ r) × (t ≡ u)). inr (ap Temp (sym x.1), ap Reg x.0))
              (λ (x : (q ≢ r) × (has_temp (held_in v q) u ≡ true)). inl (ready.has.reg q u x.1 l, other_registers q r x.0))
              (came v r q (held t Twice) u inside_them e);
          away = λ u gone l. inl (
            ⊎_elim
                (λ (x : IsNowhere v u). ready.has.away u x l)
                (λ (x : has_temp (held_in v r) u ≡ true). leaving v h (Load t r) left r u old new refl (none r) leaves ready x l)
                (nowhere_or v r u (nowhere_before v r u (Some (held t Twice)) gone)),
            slot_no_register u r,
          );
          copied = λ q m e l slot. inl (
            ⊎_elim
                (λ (x : (q ≡ r) × (m ≡ held t Twice)). subst (λ (j : Held). h (Temp j.temp) (Slot j.temp)) (sym x.1) (ready.has.away t none lv))
                (λ (x : (q ≢ r) × (held_in v q ≡ Some m)). ready.has.copied q m x.1 l slot)
                (came_held v r q (held t Twice) m inside_them e),
            slot_no_register m.temp r,
          );
          fixed = λ q c. inl (ready.has.fixed q c, other_registers q r (unclaimed_apart claims r q (site.claim r may) c));
        };
        sound = record {
          many = set_length v r _ ∙ ready.sound.many;
          once = once_came v r (held t Twice) inside_them (λ q e. not_both (has_temp (held_in v q) t) e (none q)) ready.sound.once;
          inside = inside_came s.temps v r (held t Twice) inside_them low ready.sound.inside;
          free = λ q c. set_other v r q _ (unclaimed_apart claims r q (site.claim r may) c) ∙ ready.sound.free q c;
        };
        handed = record {
          each = λ q m saved e c l used. ⊎_elim
              (λ (x : (q ≡ r) × (m ≡ held t Twice)). absurd (twice_lent saved (sym (ap (λ (j : Held). j.copy) x.1) ∙ c)))
              (λ (x : (q ≢ r) × (held_in v q ≡ Some m)). ready.handed.each q m saved x.1 c l (PassesMove (Load t r) left (λ e. other_temp v t m q none x.1 (sym e)) (λ e. other_registers r q (λ f. x.0 (sym f)) e) used))
              (came_held v r q (held t Twice) m inside_them e);
        };
      };
    }
      where
        twice_lent : (saved : Bool) → Twice ≡ Lent saved → ⊥
        twice_lent saved e = cc

  -- ---- a shift

  module _ (v : Bins) (h : HolderPlaces) (left : List Transfer) (r q : ℕ) (k : Held) (is : held_in v r ≡ Some k) (fixed_there : fixes s.insn r ≡ true) (lv : live k.temp) (may : MayGet s q) (old new : List Bool) (leaves : Leaves s.before (held_in v q) old new) (ready : Ready v h (Shift k.temp r q ∷ left)) where
    abbrev cleared : Bins
    cleared = slice_set v r None

    abbrev shifted : Bins
    shifted = slice_set (slice_set v r None) q (Some k)

    r_within : r < length v
    r_within = held_within v r k is

    q_within : q < length (slice_set v r None)
    q_within = let size = set_length v r None in let low = given_within s.temps claims v s q ready.sound may in omega (arith, size, low)

    apart_registers : q ≢ r
    apart_registers e = not_both (fixes s.insn r) fixed_there (ap (fixes s.insn) (sym e) ∙ may.unfixed)

    only_there : (p : ℕ) → has_temp (held_in v p) k.temp ≡ true → p ≡ r
    only_there p e = ready.sound.once k.temp p r e (temp_held (held_in v r) k is)

    not_in_target : has_temp (held_in v q) k.temp ≡ false
    not_in_target = ⊎_elim (λ e. absurd (apart_registers (only_there q e))) (λ e. e) (test_or_not (has_temp (held_in v q) k.temp))

    still : (p : ℕ) (m : Held) → p ≢ q → held_in (slice_set v r None) p ≡ Some m → (p ≢ r) × (held_in v p ≡ Some m)
    still p m ne e = cleared_held v r p m r_within e

    -- what stands nowhere behind the shift
    gone_or : (u : ℕ) → IsNowhere (slice_set (slice_set v r None) q (Some k)) u → IsNowhere v u ⊎ (has_temp (held_in v q) u ≡ true)
    gone_or u gone = nowhere_or v q u (λ p ne. ⊎_elim
        (λ (e : p ≡ r). ap (λ x. has_temp (held_in v x) u) e ∙ ap (λ o. has_temp o u) is ∙ no_temp (k.temp == u) (λ f. not_where_it_came (slice_set v r None) q u k q_within gone (eqb-true k.temp u f)))
        (λ (n : p ≢ r). ap (λ o. has_temp o u) (sym (set_other v r p None n)) ∙ nowhere_before (slice_set v r None) q u (Some k) gone p ne)
        (same_or_not p r))
      where
        no_temp : (c : Bool) → (c ≡ true → ⊥) → c ≡ false
        no_temp true f = absurd (f refl)
        no_temp false f = refl

    shifts : Stepped shifted h (Shift k.temp r q) left
    shifts = record {
      asks = ready.has.reg r k.temp (temp_held (held_in v r) k is) lv;
      ready = record {
        has = record {
          reg = λ p u e l. ⊎_elim
              (λ (x : (p ≡ q) × (k.temp ≡ u)). inr (ap Temp (sym x.1), ap Reg x.0))
              (λ (x : (p ≢ q) × (has_temp (held_in (slice_set v r None) p) u ≡ true)). inl (ready.has.reg p u (cleared_temp v r p u r_within x.1).1 l, other_registers p q x.0))
              (came (slice_set v r None) q p k u q_within e);
          away = λ u gone l. inl (
            ⊎_elim
                (λ (x : IsNowhere v u). ready.has.away u x l)
                (λ (x : has_temp (held_in v q) u ≡ true). leaving v h (Shift k.temp r q) left q u old new refl not_in_target leaves ready x l)
                (gone_or u gone),
            slot_no_register u q,
          );
          copied = λ p m e l slot. inl (
            ⊎_elim
                (λ (x : (p ≡ q) × (m ≡ k)). ready.has.copied r m (is ∙ ap Some (sym x.1)) l slot)
                (λ (x : (p ≢ q) × (held_in (slice_set v r None) p ≡ Some m)). ready.has.copied p m (still p m x.0 x.1).1 l slot)
                (came_held (slice_set v r None) q p k m q_within e),
            slot_no_register m.temp q,
          );
          fixed = λ p c. inl (ready.has.fixed p c, other_registers p q (unclaimed_apart claims q p (site.claim q may) c));
        };
        sound = record {
          many = set_length (slice_set v r None) q _ ∙ set_length v r None ∙ ready.sound.many;
          once = once_came (slice_set v r None) q k q_within (λ p e. absurd (let was = cleared_temp v r p k.temp r_within e in was.0 (only_there p was.1))) (once_cleared v r r_within ready.sound.once);
          inside = inside_came s.temps (slice_set v r None) q k q_within (ready.sound.inside r k.temp (temp_held (held_in v r) k is)) (inside_cleared s.temps v r r_within ready.sound.inside);
          free = λ p c. set_other (slice_set v r None) q p _ (unclaimed_apart claims q p (site.claim q may) c) ∙ free_still p (ready.sound.free p c);
        };
        handed = record {
          each = λ p m saved e c l used. ⊎_elim
              (λ (x : (p ≡ q) × (m ≡ k)). ready.handed.each r m saved (is ∙ ap Some (sym x.1)) c l
              (subst (λ (j : Held). UsesSlot a m.temp b at (Shift j.temp r q ∷ left) r) x.1 (IsShifted r q left (subst (λ y. UsesSlot a m.temp b at left y) x.0 used))))
              (λ (x : (p ≢ q) × (held_in (slice_set v r None) p ≡ Some m)).
              let was = still p m x.0 x.1 in
              ready.handed.each p m saved was.1 c l (PassesMove (Shift k.temp r q) left (λ same. was.0 (only_there p (ap (has_temp (held_in v p)) same ∙ temp_held (held_in v p) m was.1))) (λ f. other_registers q p (λ g. x.0 (sym g)) f) used))
              (came_held (slice_set v r None) q p k m q_within e);
        };
      };
    }
      where
        free_still : (p : ℕ) → held_in v p ≡ None → held_in (slice_set v r None) p ≡ None
        free_still p e = ⊎_elim
            (λ (same : p ≡ r). ap (held_in (slice_set v r None)) same ∙ set_same v r None r_within)
            (λ (ne : p ≢ r). set_other v r p None ne ∙ e) (same_or_not p r)

  -- ---- all of them

  -- what is so behind the transfers of a state, where some are left
  pub record IsReady (h : HolderPlaces) (v : State) (left : List Transfer) : Type 0 where
    pub asks : MovesAsk v.made h
    pub has : Has live need claims v.bins (move_all v.made h)
    pub sound : Sound s.temps claims v.bins
    pub handed : Handed a b at left v.bins

  one_more : (h : HolderPlaces) (v w : State) (bins : Bins) (x : Transfer) (left : List Transfer) → w.made ≡ v.made ++ x ∷ [] → w.bins ≡ bins →
      MovesAsk v.made h → Stepped bins (move_all v.made h) x left → IsReady h w left
  one_more h v w bins x left made are asks stepped =
      let behind : move_all w.made h ≡ behind_move x (move_all v.made h) = ap (λ xs. move_all xs h) made ∙ moves_in_turn v.made (x ∷ []) h in
      record {
        asks = subst (λ xs. MovesAsk xs h) (sym made) (asks_in_turn v.made (x ∷ []) h asks (stepped.asks, tt));
        has = subst (λ g. Has live need claims w.bins g) (sym behind) (subst (λ z. Has live need claims z (behind_move x (move_all v.made h))) (sym are) stepped.ready.has);
        sound = subst (λ z. Sound s.temps claims z) (sym are) stepped.ready.sound;
        handed = subst (λ z. Handed a b at left z) (sym are) stepped.ready.handed;
      }

  pub steps_lead : (h : HolderPlaces) (u v : State) (left : List Transfer) → u.made ≡ [] → Steps s u v →
      Has live need claims u.bins h → Sound s.temps claims u.bins → Handed a b at (v.made ++ left) u.bins → IsReady h v left
  steps_lead h u v left none Start has sound handed = record {
    asks = subst (λ xs. MovesAsk xs h) (sym none) tt;
    has = subst (λ xs. Has live need claims u.bins (move_all xs h)) (sym none) has;
    sound = sound;
    handed = subst (λ xs. Handed a b at (xs ++ left) u.bins) none handed;
  }
  steps_lead h u w left none (More {v} steps step) has sound handed =
      by step (λ x e. steps_lead h u v (x ∷ left) none steps has sound (subst (λ xs. Handed a b at xs u.bins) (ap (λ xs. xs ++ left) e ∙ append_assoc v.made (x ∷ []) left) handed))
    where
      ready_of : (x : Transfer) → IsReady h v (x ∷ left) → Ready v.bins (move_all v.made h) (x ∷ left)
      ready_of x r = record { has = r.has; sound = r.sound; handed = r.handed }

      by : Step s v w → ((x : Transfer) → w.made ≡ v.made ++ x ∷ [] → IsReady h v (x ∷ left)) → IsReady h w left
      by (Stores r k is unsaved may are made relied) before =
          let now = before (Store k.temp r) made in
          one_more h v w _ (Store k.temp r) left made are now.asks (stores v.bins (move_all v.made h) left r k is unsaved (site.stored k.temp may) (ready_of _ now))
      by (Shifts r q k is there lv may leaves are made) before =
          let now = before (Shift k.temp r q) made in
          one_more h v w _ (Shift k.temp r q) left made are now.asks (shifts v.bins (move_all v.made h) left r q k is there (site.is_before k.temp lv) may v.relied w.relied leaves (ready_of _ now))
      by (Loads t r none lv low may leaves are made) before =
          let now = before (Load t r) made in
          one_more h v w _ (Load t r) left made are now.asks (loads v.bins (move_all v.made h) left t r none (site.is_before t lv) low may v.relied w.relied leaves (ready_of _ now))
