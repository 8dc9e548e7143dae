-- What is held where behind an instruction.
use Rattle.std.proofs.Common.{◌≡◌, ◌≢◌, ◌⊎◌, ℕ, zero, suc, ◌<◌, ◌==◌, ◌&&◌, ◌||◌, List, [], ◌∷◌, ◌++◌, Bool, true, false, Option, Some, None, refl, sym, ap, ◌∙◌, inl, inr, subst, ⊎_elim, length, map, arith}
use Rattle.std.specs.Prelude.{slice_set, Contains}
use Rattle.std.proofs.Math.Logic.{∥∥₁_elim}
use Rattle.std.proofs.lemmas.Bool.{eqb-true, eq-eqb, ne_eqb}
use Rattle.temp_ir.specs.Insns.{writes_of}
use Rattle.temp_ir.specs.Fixed.{has_number, fixed_writes_of, ended_of}
use Rattle.alloc_model.specs.Effect.{Holder, Temp, Fixed, Outgoing, others_written, places_written}
use Rattle.alloc_model.specs.Places.{Place, Reg, Slot, Out, Plan, home_of, places_written_at, ends_place, transfers_at, registers_at}
use Rattle.alloc_model.specs.Needs.{is_live_at, UsesSlot, IsRelied, IsNeeded, takes_register}
use Rattle.alloc_model.specs.Needs.UsesSlot.{LeavesByInsn, PassesInsn}
use Rattle.alloc_model.specs.Needs.IsNeeded.{Relied}
use Rattle.alloc_model.specs.Faithful.{HolderPlaces, stands, forget, end_all, write_all}
use Rattle.alloc_rules.specs.Visits.{takes_away}
use Rattle.binpack_blocks.specs.declared.held.Held.{Held}
use Rattle.binpack_blocks.specs.declared.held.SlotCopy.TheVariants.{Own, Lent}
use Rattle.binpack_blocks.specs.model.Bins.{Bins, held_in, has_temp, held, IsNowhere, is_unsaved, lives, must_store}
use Rattle.binpack_blocks.specs.model.Steps.{Site, State, Empties, Ends}
use Rattle.binpack_blocks.specs.model.Steps.Empties.{Begin, Next}
use Rattle.binpack_blocks.proofs.Holders.{same_or_not, test_or_not, not_both, set_other, set_length, held_within, temp_held, held_of, came, came_held, cleared_held, nowhere_before, nowhere_or, not_where_it_came, once_came, inside_came}
use Rattle.binpack_scan.proofs.Claims.{InSlot, Has, Sound, Handed, IsSite, copy_held}
use Rattle.binpack_scan.proofs.Moves.{slot_no_register, other_registers}
use Rattle.binpack_blocks.proofs.Tables.{WritesOne, places_are}

-- ---- what is written besides temporaries

temp_no_fixed : (t r : ℕ) → Temp t ≢ Fixed r
temp_no_fixed t r e = cc

temp_no_outgoing : (t k : ℕ) → Temp t ≢ Outgoing k
temp_no_outgoing t k e = cc

fixed_no_outgoing : (r k : ℕ) → Fixed r ≢ Outgoing k
fixed_no_outgoing r k e = cc

fixed_no_temp : (r t : ℕ) → Fixed r ≢ Temp t
fixed_no_temp r t e = cc

other_temps : (a b : ℕ) → a ≢ b → Temp a ≢ Temp b
other_temps a b ne e = ne (cc)

other_fixed : (a b : ℕ) → a ≢ b → Fixed a ≢ Fixed b
other_fixed a b ne e = ne (cc)

register_no_out : (r k : ℕ) → Reg r ≢ Out k
register_no_out r k e = cc

slot_no_out : (t k : ℕ) → Slot t ≢ Out k
slot_no_out t k e = cc

has_first : (f : ℕ) (fs : List ℕ) → has_number (f ∷ fs) f ≡ true
has_first f fs = ap (λ b. b || has_number fs f) (eq-eqb f f refl)

has_rest : (f q : ℕ) (fs : List ℕ) → has_number fs q ≡ true → has_number (f ∷ fs) q ≡ true
has_rest f q fs e = go (f == q)
  where
    go : (b : Bool) → (b || has_number fs q) ≡ true
    go true = refl
    go false = e

pub temp_kept : (fs : List ℕ) (ps : List Holder) (h : HolderPlaces) (t : ℕ) (p : Place) → ((f : ℕ) → has_number fs f ≡ true → p ≢ Reg f) → ((k : ℕ) → p ≢ Out k) →
    (ps ≡ []) ⊎ ((k : ℕ) × (ps ≡ Outgoing k ∷ [])) → h (Temp t) p → write_all (map Fixed fs ++ ps) (map home_of (map Fixed fs ++ ps)) h (Temp t) p
temp_kept (f ∷ fs) ps h t p apart out are k =
    temp_kept fs ps _ t p (λ g e. apart g (has_rest f g fs e)) out are (inl ((k, temp_no_fixed t f), apart f (has_first f fs)))
temp_kept [] ps h t p apart out are k = ⊎_elim
    (λ (e : ps ≡ []). subst (λ os. write_all os (map home_of os) h (Temp t) p) (sym e) k)
    (λ (e : (k : ℕ) × (ps ≡ Outgoing k ∷ [])). subst (λ os. write_all os (map home_of os) h (Temp t) p) (sym e.1) (inl ((k, temp_no_outgoing t e.0), out e.0)))
    are

pub fixed_kept : (fs : List ℕ) (ps : List Holder) (h : HolderPlaces) (r : ℕ) →
    (ps ≡ []) ⊎ ((k : ℕ) × (ps ≡ Outgoing k ∷ [])) → h (Fixed r) (Reg r) → write_all (map Fixed fs ++ ps) (map home_of (map Fixed fs ++ ps)) h (Fixed r) (Reg r)
fixed_kept (f ∷ fs) ps h r are k =
    fixed_kept fs ps _ r are (⊎_elim (λ (e : r ≡ f). inr (ap Fixed e, ap Reg e)) (λ (ne : r ≢ f). inl ((k, other_fixed r f ne), other_registers r f ne)) (same_or_not r f))
fixed_kept [] ps h r are k = ⊎_elim
    (λ (e : ps ≡ []). subst (λ os. write_all os (map home_of os) h (Fixed r) (Reg r)) (sym e) k)
    (λ (e : (k : ℕ) × (ps ≡ Outgoing k ∷ [])). subst (λ os. write_all os (map home_of os) h (Fixed r) (Reg r)) (sym e.1) (inl ((k, fixed_no_outgoing r e.0), register_no_out r e.0)))
    are

pub fixed_there : (fs : List ℕ) (ps : List Holder) (h : HolderPlaces) (r : ℕ) →
    (ps ≡ []) ⊎ ((k : ℕ) × (ps ≡ Outgoing k ∷ [])) → has_number fs r ≡ true → write_all (map Fixed fs ++ ps) (map home_of (map Fixed fs ++ ps)) h (Fixed r) (Reg r)
fixed_there [] ps h r are is = absurd (cc)
fixed_there (f ∷ fs) ps h r are is =
    ⊎_elim (λ (e : (f == r) ≡ true). let same = eqb-true f r e in fixed_kept fs ps _ r are (inr (ap Fixed (sym same), ap Reg (sym same))))
    (λ (e : (f == r) ≡ false). fixed_there fs ps _ r are (subst (λ b. (b || has_number fs r) ≡ true) e is))
    (test_or_not (f == r))

-- ---- what an instruction takes away

or_parts : (b c : Bool) → (b || c) ≡ false → (b ≡ false) × (c ≡ false)
or_parts true c e = absurd (cc)
or_parts false c e = (refl, e)

or_left : (b c : Bool) → b ≡ true → (b || c) ≡ true
or_left true c e = refl
or_left false c e = absurd (cc)

or_right : (b c : Bool) → c ≡ true → (b || c) ≡ true
or_right true c e = refl
or_right false c e = e

none_some : {o : Option Held} {j : Held} → o ≡ None → o ≡ Some j → ⊥
none_some e f = cc

none_unless : (o : Option Held) → ((k : Held) → o ≡ Some k → ⊥) → o ≡ None
none_unless None f = refl
none_unless (Some k) f = absurd (f k refl)

-- what a register has behind that, it had before
pub empties_kept : (s : Site) (u w : State) → Empties s u w → (q : ℕ) (k : Held) → held_in w.bins q ≡ Some k → held_in u.bins q ≡ Some k
empties_kept s u w Begin q k e = e
empties_kept s u w (Next {v} before r takes leaves are) q k e = empties_kept s u v before q k (here (same_or_not q r))
  where
    now : held_in (slice_set v.bins r None) q ≡ Some k
    now = ap (λ z. held_in z q) (sym are) ∙ e

    here : (q ≡ r) ⊎ (q ≢ r) → held_in v.bins q ≡ Some k
    here (inl same) =
        let size = set_length v.bins r None in
        let low = held_within (slice_set v.bins r None) q k now in
        (cleared_held v.bins r q k (omega (arith, size, low, same)) now).1
    here (inr ne) = sym (set_other v.bins r q None ne) ∙ now

-- and what it had, it has, or it left
pub empties_or : (s : Site) (u w : State) → Empties s u w → (q : ℕ) (k : Held) → held_in u.bins q ≡ Some k →
    (held_in w.bins q ≡ Some k) ⊎ ((takes_away s.insn q ≡ true) × (must_store (s.behind k.temp) (Some k) ≡ false))
empties_or s u w Begin q k e = inl e
empties_or s u w (Next {v} before r takes leaves are) q k e = ⊎_elim
    (λ (is : held_in v.bins q ≡ Some k). ⊎_elim
    (λ (same : q ≡ r). inr (ap (takes_away s.insn) same ∙ takes, ap (λ o. must_store (lives s.behind o) o) (sym is ∙ ap (held_in v.bins) same) ∙ leaves.saved))
    (λ (ne : q ≢ r). inl (ap (λ z. held_in z q) are ∙ set_other v.bins r q None ne ∙ is))
    (same_or_not q r))
    (λ x. inr x)
    (empties_or s u v before q k e)

pub empties_length : (s : Site) (u w : State) → Empties s u w → length w.bins ≡ length u.bins
empties_length s u w Begin = refl
empties_length s u w (Next {v} before r takes leaves are) = ap (λ z. length z) are ∙ set_length v.bins r None ∙ empties_length s u v before

-- nothing leaves where nothing is taken away
pub empties_nothing : (s : Site) (u w : State) → ((r : ℕ) → takes_away s.insn r ≡ false) → Empties s u w → (w.bins ≡ u.bins) × (w.relied ≡ u.relied)
empties_nothing s u w none Begin = (refl, refl)
empties_nothing s u w none (Next {v} before r takes leaves are) = absurd (not_both (takes_away s.insn r) takes (none r))

-- a temporary stands nowhere, or in some register
pub nowhere_or_somewhere : (bins : Bins) (t : ℕ) → IsNowhere bins t ⊎ ((q : ℕ) × (has_temp (held_in bins q) t ≡ true))
nowhere_or_somewhere [] t = inl (λ r. refl)
nowhere_or_somewhere (o ∷ bins) t = ⊎_elim
    (λ (e : has_temp o t ≡ true). inr (0, e))
    (λ (e : has_temp o t ≡ false). ⊎_elim
    (λ (none : IsNowhere bins t). inl (λ r. by_place e none r))
    (λ (some : (q : ℕ) × (has_temp (held_in bins q) t ≡ true)). inr (suc some.0, some.1))
    (nowhere_or_somewhere bins t))
    (test_or_not (has_temp o t))
  where
    by_place : has_temp o t ≡ false → IsNowhere bins t → (r : ℕ) → has_temp (held_in (o ∷ bins) r) t ≡ false
    by_place e none zero = e
    by_place e none (suc r) = none r

-- ---- an instruction at a place

not_written : (ws : List ℕ) (t : ℕ) → has_number ws t ≡ false → ¬ Contains ws t
not_written [] t e (k, within, is) = omega (arith, within)
not_written (w ∷ ws) t e (zero, within, is) = not_both (has_number (w ∷ ws) t) (ap (λ v. has_number (v ∷ ws) t) is ∙ has_first t ws) e
not_written (w ∷ ws) t e (suc k, within, is) = not_written ws t (or_parts (w == t) (has_number ws t) e).1 (k, omega (arith, within), is)

module _ (a : Plan) (b at : ℕ) (s : Site) (claims : ℕ → Bool) (site : IsSite a b at s claims)
    (next : (r : ℕ) → s.stands r ≡ true → (has_number (fixed_writes_of s.insn) r ≡ true) ⊎ ((takes_away s.insn r ≡ false) × (claims r ≡ true)))
    (left_live : (t : ℕ) → is_live_at a t b (suc at) → has_number (writes_of s.insn) t ≡ false → is_live_at a t b at) where
  abbrev live : ℕ → Type 0
  live t = is_live_at a t b at

  abbrev behind : ℕ → Type 0
  behind t = is_live_at a t b (suc at)

  abbrev need : ℕ → Type 0
  need t = IsNeeded a t b

  -- where registers are taken away while what stands there is live behind, its slot is relied on
  relied_by_insn : (v : Bins) (q : ℕ) (k : Held) → Handed a b at [] v → held_in v q ≡ Some k → k.copy ≡ Lent true → behind k.temp → has_number (writes_of s.insn) k.temp ≡ false →
      takes_register (registers_at a b at) q s.insn → need k.temp
  relied_by_insn v q k handed is e lv unwritten takes =
      Relied (handed.each q k true is e (left_live k.temp lv unwritten) (LeavesByInsn s.insn site.there (not_written (writes_of s.insn) k.temp unwritten) takes lv))

  passes : (v : Bins) (q : ℕ) (k : Held) (saved : Bool) → Handed a b at [] v → held_in v q ≡ Some k → k.copy ≡ Lent saved → behind k.temp → has_number (writes_of s.insn) k.temp ≡ false →
      ¬ takes_register (registers_at a b at) q s.insn → UsesSlot a k.temp b (suc at) (transfers_at a b (suc at)) q → IsRelied a k.temp b
  passes v q k saved handed is e lv unwritten takes used =
      handed.each q k saved is e (left_live k.temp lv unwritten) (PassesInsn s.insn site.there (not_written (writes_of s.insn) k.temp unwritten) takes used)

  pub record IsBehind (bins : Bins) (h : HolderPlaces) : Type 0 where
    pub has : Has behind need s.stands bins h
    pub sound : Sound s.temps s.stands bins
    pub handed : Handed a b (suc at) (transfers_at a b (suc at)) bins

  -- ---- no temporary is written

  module _ (v m : State) (h : HolderPlaces) (none : writes_of s.insn ≡ []) (places : places_written_at (registers_at a b at) s.insn ≡ map home_of (others_written s.insn))
      (ends : Ends s v m) (has : Has live need claims v.bins h) (sound : Sound s.temps claims v.bins) (handed : Handed a b at [] v.bins) where
    unwritten : (t : ℕ) → has_number (writes_of s.insn) t ≡ false
    unwritten t = ap (λ ws. has_number ws t) none

    still : (q : ℕ) (k : Held) → held_in m.bins q ≡ Some k → held_in v.bins q ≡ Some k
    still q k e = empties_kept s v m ends.empties q k e

    -- a register that still has something is not taken away
    not_taken : (q : ℕ) (k : Held) → held_in m.bins q ≡ Some k → takes_away s.insn q ≡ false
    not_taken q k e = ⊎_elim (λ (y : takes_away s.insn q ≡ true). absurd (none_some (ends.clear q y) e)) (λ n. n) (test_or_not (takes_away s.insn q))

    behind_set : HolderPlaces
    behind_set = write_all (others_written s.insn) (map home_of (others_written s.insn)) (end_all (ends_place s.insn) h)

    in_slot : (t : ℕ) → h (Temp t) (Slot t) → write_all (others_written s.insn) (map home_of (others_written s.insn)) (end_all (ends_place s.insn) h) (Temp t) (Slot t)
    in_slot t k = temp_kept (fixed_writes_of s.insn) (places_written s.insn) _ t (Slot t) (λ f e. slot_no_register t f) (λ k. slot_no_out t k) (places_are s.insn) (k, refl)

    in_register : (t q : ℕ) → takes_away s.insn q ≡ false → h (Temp t) (Reg q) → write_all (others_written s.insn) (map home_of (others_written s.insn)) (end_all (ends_place s.insn) h) (Temp t) (Reg q)
    in_register t q free k =
        let parts = or_parts (has_number (fixed_writes_of s.insn) q) (has_number (ended_of s.insn) q) free in
        temp_kept (fixed_writes_of s.insn) (places_written s.insn) _ t (Reg q)
        (λ f e. other_registers q f (λ same. not_both (has_number (fixed_writes_of s.insn) f) e (ap (has_number (fixed_writes_of s.insn)) (sym same) ∙ parts.0)))
        (λ k. register_no_out q k) (places_are s.insn) (k, parts.1)

    taken_is : (q : ℕ) → takes_away s.insn q ≡ true → takes_register (registers_at a b at) q s.insn
    taken_is q takes = ⊎_elim
        (λ (y : has_number (fixed_writes_of s.insn) q ≡ true). ∣ inr (subst (λ ps. Contains ps (Reg q)) (sym places) (written_there (fixed_writes_of s.insn) (places_written s.insn) q y)) ∣₁)
        (λ (n : has_number (fixed_writes_of s.insn) q ≡ false). ∣ inl (ap (λ c. c || has_number (ended_of s.insn) q) (sym n) ∙ takes) ∣₁)
        (test_or_not (has_number (fixed_writes_of s.insn) q))
      where
        written_there : (fs : List ℕ) (ps : List Holder) (q : ℕ) → has_number fs q ≡ true → Contains (map home_of (map Fixed fs ++ ps)) (Reg q)
        written_there [] ps q e = absurd (cc)
        written_there (f ∷ fs) ps q e = ⊎_elim
            (λ (same : (f == q) ≡ true). (0, omega arith, ap Reg (eqb-true f q same)))
            (λ (other : (f == q) ≡ false). let rest = written_there fs ps q (subst (λ c. (c || has_number fs q) ≡ true) other e) in (suc rest.0, (let w = rest.1 in omega (arith, w)), rest.2))
            (test_or_not (f == q))

    not_taking : (q : ℕ) → takes_away s.insn q ≡ false → ¬ takes_register (registers_at a b at) q s.insn
    not_taking q free takes = ∥∥₁_elim takes (λ x y. absurd x) (λ either. ⊎_elim
        (λ (e : ends_place s.insn (Reg q) ≡ true). not_both (has_number (ended_of s.insn) q) e (or_parts (has_number (fixed_writes_of s.insn) q) (has_number (ended_of s.insn) q) free).1)
        (λ (c : Contains (places_written_at (registers_at a b at) s.insn) (Reg q)). not_both (has_number (fixed_writes_of s.insn) q) (found (fixed_writes_of s.insn) (places_written s.insn) (places_are s.insn) (subst (λ ps. Contains ps (Reg q)) places c)) (or_parts (has_number (fixed_writes_of s.insn) q) (has_number (ended_of s.insn) q) free).0)
        either)
      where
        found : (fs : List ℕ) (ps : List Holder) → (ps ≡ []) ⊎ ((k : ℕ) × (ps ≡ Outgoing k ∷ [])) → Contains (map home_of (map Fixed fs ++ ps)) (Reg q) → has_number fs q ≡ true
        found [] ps are c = absurd (⊎_elim
            (λ (e : ps ≡ []). none_there (subst (λ os. Contains (map home_of os) (Reg q)) e c))
            (λ (e : (k : ℕ) × (ps ≡ Outgoing k ∷ [])). out_only e.0 (subst (λ os. Contains (map home_of os) (Reg q)) e.1 c))
            are)
          where
            none_there : Contains (map home_of (let none : List Holder = [] in none)) (Reg q) → ⊥
            none_there (k, within, is) = omega (arith, within)

            out_only : (k : ℕ) → Contains (Out k ∷ []) (Reg q) → ⊥
            out_only k (zero, within, is) = register_no_out q k (sym is)
            out_only k (suc j, within, is) = omega (arith, within)
        found (f ∷ fs) ps are (zero, within, is) = ap (λ v. has_number (v ∷ fs) q) (reg_is f q is) ∙ has_first q fs
          where
            reg_is : (f q : ℕ) → Reg f ≡ Reg q → f ≡ q
            reg_is f q e = cc
        found (f ∷ fs) ps are (suc k, within, is) = has_rest f q fs (found fs ps are (k, omega (arith, within), is))

    -- what stood in a register that was taken away is in its slot
    was_left : (t q : ℕ) → IsNowhere m.bins t → behind t → has_temp (held_in v.bins q) t ≡ true → h (Temp t) (Slot t)
    was_left t q gone lv is =
        let k = held_of (held_in v.bins q) t is in
        let lk : behind k.0.temp = subst behind (sym k.2) lv in
        ⊎_elim
        (λ (e : held_in m.bins q ≡ Some k.0). absurd (not_both (has_temp (held_in m.bins q) t) (ap (λ o. has_temp o t) (e ∙ sym k.1) ∙ is) (gone q)))
        (λ (e : (takes_away s.insn q ≡ true) × (must_store (s.behind k.0.temp) (Some k.0) ≡ false)).
        let saved : (true && is_unsaved k.0.copy) ≡ false = ap (λ c. c && is_unsaved k.0.copy) (sym (site.behind k.0.temp lk)) ∙ e.1 in
        subst (λ u. h (Temp u) (Slot u)) k.2 (has.copied q k.0 k.1 (left_live k.0.temp lk (unwritten k.0.temp))
        (copy_held (need k.0.temp) k.0.copy saved (λ c. relied_by_insn v.bins q k.0 handed k.1 c lk (unwritten k.0.temp) (taken_is q e.0)))))
        (empties_or s v m ends.empties q k.0 k.1)

    pub nothing_written : IsBehind m.bins (write_all (others_written s.insn) (map home_of (others_written s.insn)) (end_all (ends_place s.insn) h))
    nothing_written = record {
      has = record {
        reg = λ q t e l.
            let k = held_of (held_in m.bins q) t e in
            in_register t q (not_taken q k.0 k.1) (has.reg q t (ap (λ o. has_temp o t) (still q k.0 k.1 ∙ sym k.1) ∙ e) (left_live t l (unwritten t)));
        away = λ t gone l. in_slot t (⊎_elim
            (λ (x : IsNowhere v.bins t). has.away t x (left_live t l (unwritten t)))
            (λ (x : (q : ℕ) × (has_temp (held_in v.bins q) t ≡ true)). was_left t x.0 gone l x.1)
            (nowhere_or_somewhere v.bins t));
        copied = λ q k e l slot. in_slot k.temp (has.copied q k (still q k e) (left_live k.temp l (unwritten k.temp)) slot);
        fixed = λ q c. ⊎_elim
            (λ (x : has_number (fixed_writes_of s.insn) q ≡ true). fixed_there (fixed_writes_of s.insn) (places_written s.insn) _ q (places_are s.insn) x)
            (λ (x : (takes_away s.insn q ≡ false) × (claims q ≡ true)). fixed_kept (fixed_writes_of s.insn) (places_written s.insn) _ q (places_are s.insn)
            (has.fixed q x.1, (or_parts (has_number (fixed_writes_of s.insn) q) (has_number (ended_of s.insn) q) x.0).1))
            (next q c);
      };
      sound = record {
        many = empties_length s v m ends.empties ∙ sound.many;
        once = λ t p q x y. sound.once t p q (was_there t p x) (was_there t q y);
        inside = λ q t x. sound.inside q t (was_there t q x);
        free = λ q c. ⊎_elim
            (λ (x : has_number (fixed_writes_of s.insn) q ≡ true). ends.clear q (or_left (has_number (fixed_writes_of s.insn) q) (has_number (ended_of s.insn) q) x))
            (λ (x : (takes_away s.insn q ≡ false) × (claims q ≡ true)). none_unless (held_in m.bins q) (λ k e. none_some (sound.free q x.1) (still q k e)))
            (next q c);
      };
      handed = record {
        each = λ q k saved e c l used. passes v.bins q k saved handed (still q k e) c l (unwritten k.temp) (not_taking q (not_taken q k e)) used;
      };
    }
      where
        was_there : (t q : ℕ) → has_temp (held_in m.bins q) t ≡ true → has_temp (held_in v.bins q) t ≡ true
        was_there t q x = let k = held_of (held_in m.bins q) t x in ap (λ o. has_temp o t) (still q k.0 k.1 ∙ sym k.1) ∙ x

  -- ---- one temporary is written, and nothing else

  module _ (v : Bins) (h : HolderPlaces) (t r : ℕ) (one : WritesOne s.insn) (is_one : writes_of s.insn ≡ t ∷ []) (places : places_written_at (registers_at a b at) s.insn ≡ Reg r ∷ [])
      (within : r < length v) (alone : (q : ℕ) → has_temp (held_in v q) t ≡ true → q ≡ r) (low : t < s.temps) (unclaimed : s.stands r ≡ false)
      (leaves : (k : Held) → held_in v r ≡ Some k → k.temp ≢ t → behind k.temp → must_store true (Some k) ≡ false)
      (has : Has live need claims v h) (sound : Sound s.temps claims v) (handed : Handed a b at [] v) where
    unwritten_other : (u : ℕ) → t ≢ u → has_number (writes_of s.insn) u ≡ false
    unwritten_other u ne = ap (λ ws. has_number ws u) is_one ∙ ap (λ c. c || false) (ne_eqb t u ne)

    takes_nothing : (q : ℕ) → takes_away s.insn q ≡ false
    takes_nothing q = ap (λ fs. has_number fs q || has_number (ended_of s.insn) q) one.fixed ∙ ap (λ es. has_number es q) one.ended

    ends_nothing : (q : ℕ) → ends_place s.insn (Reg q) ≡ false
    ends_nothing q = ap (λ es. has_number es q) one.ended

    claimed : (q : ℕ) → s.stands q ≡ true → claims q ≡ true
    claimed q c = ⊎_elim
        (λ (x : has_number (fixed_writes_of s.insn) q ≡ true). absurd (not_both (has_number (fixed_writes_of s.insn) q) x (ap (λ fs. has_number fs q) one.fixed)))
        (λ (x : (takes_away s.insn q ≡ false) × (claims q ≡ true)). x.1)
        (next q c)

    claimed_apart : (q : ℕ) → s.stands q ≡ true → q ≢ r
    claimed_apart q c same = not_both (s.stands q) c (ap s.stands same ∙ unclaimed)

    abbrev now : HolderPlaces
    now = stands (Temp t) (Reg r) (forget (Temp t) (end_all (ends_place s.insn) h))

    in_other_register : (u q : ℕ) → t ≢ u → q ≢ r → h (Temp u) (Reg q) → stands (Temp t) (Reg r) (forget (Temp t) (end_all (ends_place s.insn) h)) (Temp u) (Reg q)
    in_other_register u q ne apart k = inl (((k, ends_nothing q), other_temps u t (λ e. ne (sym e))), other_registers q r apart)

    in_own_slot : (u : ℕ) → t ≢ u → h (Temp u) (Slot u) → stands (Temp t) (Reg r) (forget (Temp t) (end_all (ends_place s.insn) h)) (Temp u) (Slot u)
    in_own_slot u ne k = inl (((k, refl), other_temps u t (λ e. ne (sym e))), slot_no_register u r)

    takes_it : takes_register (registers_at a b at) r s.insn
    takes_it = ∣ inr (subst (λ ps. Contains ps (Reg r)) (sym places) (0, omega arith, refl)) ∣₁

    takes_no_other : (q : ℕ) → q ≢ r → ¬ takes_register (registers_at a b at) q s.insn
    takes_no_other q ne takes = ∥∥₁_elim takes (λ x y. absurd x) (λ either. ⊎_elim
        (λ (e : ends_place s.insn (Reg q) ≡ true). not_both (ends_place s.insn (Reg q)) e (ends_nothing q))
        (λ (c : Contains (places_written_at (registers_at a b at) s.insn) (Reg q)). only_it (subst (λ ps. Contains ps (Reg q)) places c))
        either)
      where
        only_it : Contains (Reg r ∷ []) (Reg q) → ⊥
        only_it (zero, inside, is) = other_registers r q (λ e. ne (sym e)) is
        only_it (suc k, inside, is) = omega (arith, inside)

    -- what stood in the register is in its slot
    was_there : (u : ℕ) → t ≢ u → behind u → has_temp (held_in v r) u ≡ true → h (Temp u) (Slot u)
    was_there u ne lv is =
        let k = held_of (held_in v r) u is in
        let lk : behind k.0.temp = subst behind (sym k.2) lv in
        let apart : k.0.temp ≢ t = λ e. ne (sym e ∙ k.2) in
        let free = unwritten_other k.0.temp (λ e. apart (sym e)) in
        subst (λ u. h (Temp u) (Slot u)) k.2 (has.copied r k.0 k.1 (left_live k.0.temp lk free)
        (copy_held (need k.0.temp) k.0.copy (leaves k.0 k.1 apart lk) (λ c. relied_by_insn v r k.0 handed k.1 c lk free takes_it)))

    pub one_written : IsBehind (slice_set v r (Some (held t Own))) (stands (Temp t) (Reg r) (forget (Temp t) (end_all (ends_place s.insn) h)))
    one_written = record {
      has = record {
        reg = λ q u e l. ⊎_elim
            (λ (x : (q ≡ r) × (t ≡ u)). inr (ap Temp (sym x.1), ap Reg x.0))
            (λ (x : (q ≢ r) × (has_temp (held_in v q) u ≡ true)).
            let ne : t ≢ u = λ same. x.0 (alone q (ap (has_temp (held_in v q)) same ∙ x.1)) in
            in_other_register u q ne x.0 (has.reg q u x.1 (left_live u l (unwritten_other u ne))))
            (came v r q (held t Own) u within e);
        away = λ u gone l.
            let ne : t ≢ u = not_where_it_came v r u (held t Own) within gone in
            in_own_slot u ne (⊎_elim
            (λ (x : IsNowhere v u). has.away u x (left_live u l (unwritten_other u ne)))
            (λ (x : has_temp (held_in v r) u ≡ true). was_there u ne l x)
            (nowhere_or v r u (nowhere_before v r u (Some (held t Own)) gone)));
        copied = λ q m e l slot. ⊎_elim
            (λ (x : (q ≡ r) × (m ≡ held t Own)). absurd (own_not (need m.temp) (subst (λ c. InSlot (need m.temp) c) (ap (λ (j : Held). j.copy) x.1) slot)))
            (λ (x : (q ≢ r) × (held_in v q ≡ Some m)).
            let ne : t ≢ m.temp = λ same. x.0 (alone q (ap (has_temp (held_in v q)) same ∙ temp_held (held_in v q) m x.1)) in
            in_own_slot m.temp ne (has.copied q m x.1 (left_live m.temp l (unwritten_other m.temp ne)) slot))
            (came_held v r q (held t Own) m within e);
        fixed = λ q c. inl (((has.fixed q (claimed q c), ends_nothing q), fixed_no_temp q t), other_registers q r (claimed_apart q c));
      };
      sound = record {
        many = set_length v r _ ∙ sound.many;
        once = once_came v r (held t Own) within alone sound.once;
        inside = inside_came s.temps v r (held t Own) within low sound.inside;
        free = λ q c. set_other v r q _ (claimed_apart q c) ∙ sound.free q (claimed q c);
      };
      handed = record {
        each = λ q m saved e c l used. ⊎_elim
            (λ (x : (q ≡ r) × (m ≡ held t Own)). absurd (own_lent saved (sym (ap (λ (j : Held). j.copy) x.1) ∙ c)))
            (λ (x : (q ≢ r) × (held_in v q ≡ Some m)).
            let ne : t ≢ m.temp = λ same. x.0 (alone q (ap (has_temp (held_in v q)) same ∙ temp_held (held_in v q) m x.1)) in
            passes v q m saved handed x.1 c l (unwritten_other m.temp ne) (takes_no_other q x.0) used)
            (came_held v r q (held t Own) m within e);
      };
    }
      where
        own_not : (n : Type 0) → InSlot n Own → ⊥
        own_not n k = k

        own_lent : (saved : Bool) → Own ≡ Lent saved → ⊥
        own_lent saved e = cc
