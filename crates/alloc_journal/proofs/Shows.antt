-- The places that a table shows, behind transfers and instructions.
use Rattle.std.proofs.Common.{◌≡◌, ◌≢◌, ◌⊎◌, ℕ, zero, suc, ◌+◌, ◌<◌, ◌≤◌, ◌==◌, nat_lt, List, [], ◌∷◌, Bool, true, false, Option, Some, None, if◌then◌else◌, refl, sym, ap, ◌∙◌, inl, inr, subst, ⊎_elim, length, arith}
use Rattle.std.specs.Prelude.{All, replicate, zip, slice_set}
use Rattle.std.proofs.lemmas.Bool.{eq-eqb, ne_eqb, ltb-true, ltb-false}
use Rattle.std.proofs.lemmas.Option.{none-some, same_Some}
use Rattle.std.proofs.lemmas.List.{get_or-set_same, get_or-set_other, length-set}
use Rattle.temp_ir.specs.declared.insn.TempInsn.{TempInsn}
use Rattle.alloc_model.specs.declared.allocation.Transfer.{Transfer}
use Rattle.alloc_model.specs.declared.allocation.Transfer.TheVariants.{Store, Load, Shift}
use Rattle.alloc_model.specs.Faithful.{IsGivenRegister, named_registers}
use Rattle.alloc_model.specs.Places.{Place, Reg, Slot, place_eq}
use Rattle.alloc_rules.specs.Visits.{Homes, comes_to, homes_behind_move, homes_behind_moves, takes_away, place_left, homes_left, all_come_to, register_in_place}
use Rattle.binpack_blocks.proofs.Holders.{same_or_not, test_or_not, not_both}
use Rattle.alloc_journal.specs.model.Holders.{Holders, holder_in, register_in, without, comes, behind_move, behind_moves, cleared, left_below, all_come}
use Rattle.alloc_journal.specs.model.Tables.{ShowsHomes}
use Rattle.alloc_journal.proofs.Tables.{register_has, register_none, first_low, second_low, given_low}
use Rattle.alloc_journal.proofs.Loops.{all_rest, none_past, left_length}

-- ---- what a table shows

some_some : (t u : ℕ) → (let o : Option ℕ = Some t in o) ≡ Some u → t ≡ u
some_some t u e = same_Some t u e

same_register : (q r : ℕ) → Reg q ≡ Reg r → q ≡ r
same_register q r e = cc

-- a temporary has a register, or none
has_or_not : (hs : Holders) (t : ℕ) → ((r : ℕ) × (r < length hs) × (holder_in hs r ≡ Some t)) ⊎ ((r : ℕ) → ¬ (holder_in hs r ≡ Some t))
has_or_not hs t = by (register_in hs t) refl
  where
    by : (o : Option ℕ) → register_in hs t ≡ o → ((r : ℕ) × (r < length hs) × (holder_in hs r ≡ Some t)) ⊎ ((r : ℕ) → ¬ (holder_in hs r ≡ Some t))
    by None e = inr (register_none hs t e)
    by (Some r) e = let has = register_has hs t r e in inl (r, has.0, has.1)

pub shown_register : (hs : Holders) (homes : Homes) (t : ℕ) → ShowsHomes hs homes → register_in_place (homes t) ≡ register_in hs t
shown_register hs homes t shows = by (register_in hs t) refl
  where
    by : (o : Option ℕ) → register_in hs t ≡ o → register_in_place (homes t) ≡ register_in hs t
    by None e = ap register_in_place (shows.nowhere t (register_none hs t e)) ∙ sym e
    by (Some r) e = ap register_in_place (shows.there r t (register_has hs t r e).1) ∙ sym e

pub shows_same : (hs : Holders) (homes others : Homes) → ((t : ℕ) → others t ≡ homes t) → ShowsHomes hs homes → ShowsHomes hs others
shows_same hs homes others same shows = record {
  many = shows.many;
  there = λ r t e. same t ∙ shows.there r t e;
  nowhere = λ t none. same t ∙ shows.nowhere t none;
}

pub none_empty : (n r t : ℕ) → ¬ (holder_in (replicate n None) r ≡ Some t)
none_empty zero r t e = none-some t e
none_empty (suc n) zero t e = none-some t e
none_empty (suc n) (suc r) t e = none_empty n r t e

empty_length : (n : ℕ) → length (let hs : Holders = replicate n None in hs) ≡ n
empty_length zero = refl
empty_length (suc n) = ap suc (empty_length n)

pub shows_slots : ShowsHomes (replicate 26 None) (λ t. Slot t)
shows_slots = record {
  many = empty_length 26;
  there = λ r t e. absurd (none_empty 26 r t e);
  nowhere = λ t none. refl;
}

-- ---- a temporary comes to a register

module _ (hs : Holders) (homes : Homes) (r t : ℕ) (low : r < 26) (shows : ShowsHomes hs homes) where
  without_length : (o : Option ℕ) → length (without o hs) ≡ length hs
  without_length None = refl
  without_length (Some p) = length-set hs p None

  before_length : length (without (register_in hs t) hs) ≡ 26
  before_length = without_length (register_in hs t) ∙ shows.many

  came_there : holder_in (comes r t hs) r ≡ Some t
  came_there =
      let size = before_length in
      get_or-set_same (without (register_in hs t) hs) r (Some t) None (let within : r < length (without (register_in hs t) hs) = omega (arith, size, low) in within)

  came_beside : (q : ℕ) → q ≢ r → holder_in (comes r t hs) q ≡ holder_in (without (register_in hs t) hs) q
  came_beside q ne = get_or-set_other (without (register_in hs t) hs) r q (Some t) None ne

  -- what is there beside it was there, and is another one
  was_other : (o : Option ℕ) → register_in hs t ≡ o → (q u : ℕ) → holder_in (without o hs) q ≡ Some u → (holder_in hs q ≡ Some u) × (u ≢ t)
  was_other None none q u e = (e, (λ same. register_none hs t none q (e ∙ ap Some same)))
  was_other (Some p) found q u e =
      let has = register_has hs t p found in
      let ne : q ≢ p = (λ same. none-some u (sym (get_or-set_same hs p None None has.0) ∙ ap (holder_in (slice_set hs p None)) (sym same) ∙ e)) in
      let was = sym (get_or-set_other hs p q None None ne) ∙ e in
      (was, (λ same. ne (same_register q p (sym (shows.there q t (was ∙ ap Some same)) ∙ shows.there p t has.1))))

  -- and another one stays
  other_stays : (o : Option ℕ) → register_in hs t ≡ o → (q u : ℕ) → u ≢ t → holder_in hs q ≡ Some u → holder_in (without o hs) q ≡ Some u
  other_stays None none q u ne e = e
  other_stays (Some p) found q u ne e =
      let has = register_has hs t p found in
      get_or-set_other hs p q None None (λ same. ne (some_some u t (sym e ∙ ap (holder_in hs) same ∙ has.1))) ∙ e

  come_there : (q u : ℕ) → holder_in (comes r t hs) q ≡ Some u → comes_to r t homes u ≡ Reg q
  come_there q u e = ⊎_elim
      (λ (same : q ≡ r).
      let is : t ≡ u = some_some t u (sym came_there ∙ ap (holder_in (comes r t hs)) (sym same) ∙ e) in
      ap (λ b. if b then Reg r else (if place_eq (homes u) (Reg r) then Slot u else homes u)) (eq-eqb u t (sym is)) ∙ ap Reg (sym same))
      (λ (ne : q ≢ r).
      let was = was_other (register_in hs t) refl q u (sym (came_beside q ne) ∙ e) in
      let home = shows.there q u was.0 in
      ap (λ b. if b then Reg r else (if place_eq (homes u) (Reg r) then Slot u else homes u)) (ne_eqb u t was.1)
      ∙ ap (λ p. if place_eq p (Reg r) then Slot u else p) home
      ∙ ap (λ b. if b then Slot u else Reg q) (ne_eqb q r ne))
      (same_or_not q r)

  come_nowhere : (u : ℕ) → ((q : ℕ) → ¬ (holder_in (comes r t hs) q ≡ Some u)) → comes_to r t homes u ≡ Slot u
  come_nowhere u none =
      ap (λ b. if b then Reg r else (if place_eq (homes u) (Reg r) then Slot u else homes u)) (ne_eqb u t other)
      ∙ ⊎_elim
      (λ (has : (p : ℕ) × (p < length hs) × (holder_in hs p ≡ Some u)).
      ap (λ p. if place_eq p (Reg r) then Slot u else p) (shows.there has.0 u has.2)
      ∙ ap (λ b. if b then Slot u else Reg has.0) (eq-eqb has.0 r (there has.0 has.2)))
      (λ (free : (p : ℕ) → ¬ (holder_in hs p ≡ Some u)). ap (λ p. if place_eq p (Reg r) then Slot u else p) (shows.nowhere u free))
      (has_or_not hs u)
    where
      other : u ≢ t
      other same = none r (came_there ∙ ap Some (sym same))

      there : (p : ℕ) → holder_in hs p ≡ Some u → p ≡ r
      there p e = ⊎_elim (λ same. same)
          (λ (ne : p ≢ r). absurd (none p (came_beside p ne ∙ other_stays (register_in hs t) refl p u other e)))
          (same_or_not p r)

  pub come_shows : ShowsHomes (comes r t hs) (comes_to r t homes)
  come_shows = record {
    many = length-set (without (register_in hs t) hs) r (Some t) ∙ before_length;
    there = come_there;
    nowhere = come_nowhere;
  }

-- ---- transfers

move_shows : (x : Transfer) (hs : Holders) (homes : Homes) → All IsGivenRegister (named_registers x) → ShowsHomes hs homes → ShowsHomes (behind_move x hs) (homes_behind_move x homes)
move_shows (Store t r) hs homes given shows = shows
move_shows (Load t r) hs homes given shows = come_shows hs homes r t (first_low r [] given) shows
move_shows (Shift t from to) hs homes given shows = come_shows hs homes to t (second_low from to [] given) shows

pub moves_show : (xs : List Transfer) (hs : Holders) (homes : Homes) → All (λ x. All IsGivenRegister (named_registers x)) xs → ShowsHomes hs homes → ShowsHomes (behind_moves xs hs) (homes_behind_moves xs homes)
moves_show [] hs homes given shows = shows
moves_show (x ∷ xs) hs homes given shows =
    moves_show xs (behind_move x hs) (homes_behind_move x homes) (all_rest (λ y. All IsGivenRegister (named_registers y)) x xs given)
    (move_shows x hs homes (given 0 x (omega arith)) shows)

-- ---- what an instruction takes away

-- a register that is not taken away keeps its temporary
left_kept : (x : TempInsn) (n : ℕ) (hs : Holders) (q : ℕ) → takes_away x q ≡ false → holder_in (left_below x n hs) q ≡ holder_in hs q
unfolding left_below
left_kept x zero hs q f = refl
left_kept x (suc n) hs q f = by (takes_away x n) refl (left_kept x n hs q f)
  where
    by : (c : Bool) → takes_away x n ≡ c → holder_in (left_below x n hs) q ≡ holder_in hs q → holder_in (cleared c n (left_below x n hs)) q ≡ holder_in hs q
    by true e rest = get_or-set_other (left_below x n hs) n q None None (λ same. not_both (takes_away x q) (ap (takes_away x) same ∙ e) f) ∙ rest
    by false e rest = rest

-- and one that is has none
left_none : (x : TempInsn) (n : ℕ) (hs : Holders) (q : ℕ) → takes_away x q ≡ true → q < n → n ≤ length hs → holder_in (left_below x n hs) q ≡ None
unfolding left_below
left_none x zero hs q f low few = absurd (omega (arith, low))
left_none x (suc n) hs q f low few = ⊎_elim
    (λ (same : q ≡ n).
    let size = left_length x n hs in
    ap (λ c. holder_in (cleared c n (left_below x n hs)) q) (ap (takes_away x) (sym same) ∙ f)
    ∙ ap (holder_in (slice_set (left_below x n hs) n None)) same
    ∙ get_or-set_same (left_below x n hs) n None None (omega (arith, size, few)))
    (λ (ne : q ≢ n). by ne (takes_away x n) (left_none x n hs q f (omega (arith, low, ne)) (omega (arith, few))))
    (same_or_not q n)
  where
    by : q ≢ n → (c : Bool) → holder_in (left_below x n hs) q ≡ None → holder_in (cleared c n (left_below x n hs)) q ≡ None
    by ne true rest = get_or-set_other (left_below x n hs) n q None None ne ∙ rest
    by ne false rest = rest

pub left_shows : (x : TempInsn) (hs : Holders) (homes : Homes) → ShowsHomes hs homes → ShowsHomes (left_below x 26 hs) (homes_left x homes)
left_shows x hs homes shows = record {
  many = left_length x 26 hs ∙ shows.many;
  there = λ q t e. ⊎_elim
      (λ (taken : takes_away x q ≡ true). absurd (none-some t (sym (gone q taken) ∙ e)))
      (λ (kept : takes_away x q ≡ false).
      ap (place_left x t) (shows.there q t (sym (left_kept x 26 hs q kept) ∙ e)) ∙ ap (λ b. if b then Slot t else Reg q) kept)
      (test_or_not (takes_away x q));
  nowhere = λ t none. ⊎_elim
      (λ (has : (p : ℕ) × (p < length hs) × (holder_in hs p ≡ Some t)).
      ap (place_left x t) (shows.there has.0 t has.2)
      ∙ ap (λ b. if b then Slot t else Reg has.0) (taken_from has.0 t none has.2))
      (λ (free : (p : ℕ) → ¬ (holder_in hs p ≡ Some t)). ap (place_left x t) (shows.nowhere t free))
      (has_or_not hs t);
}
  where
    gone : (q : ℕ) → takes_away x q ≡ true → holder_in (left_below x 26 hs) q ≡ None
    gone q taken = by (nat_lt q 26) refl
      where
        by : (c : Bool) → nat_lt q 26 ≡ c → holder_in (left_below x 26 hs) q ≡ None
        by true e = left_none x 26 hs q taken (ltb-true q 26 e) (let many = shows.many in omega (arith, many))
        by false e =
            let past = ltb-false q 26 e in
            let size = left_length x 26 hs in
            let many = shows.many in
            none_past (left_below x 26 hs) q (omega (arith, past, size, many))

    taken_from : (p t : ℕ) → ((q : ℕ) → ¬ (holder_in (left_below x 26 hs) q ≡ Some t)) → holder_in hs p ≡ Some t → takes_away x p ≡ true
    taken_from p t none e = ⊎_elim (λ taken. taken)
        (λ (kept : takes_away x p ≡ false). absurd (none p (left_kept x 26 hs p kept ∙ e)))
        (test_or_not (takes_away x p))

-- ---- what it writes

pub written_show : (ts rs : List ℕ) (hs : Holders) (homes : Homes) → All IsGivenRegister rs → ShowsHomes hs homes → ShowsHomes (all_come (zip ts rs) hs) (all_come_to rs ts homes)
written_show [] [] hs homes given shows = shows
written_show [] (r ∷ rs) hs homes given shows = shows
written_show (t ∷ ts) [] hs homes given shows = shows
written_show (t ∷ ts) (r ∷ rs) hs homes given shows =
    written_show ts rs (comes r t hs) (comes_to r t homes) (all_rest IsGivenRegister r rs given)
    (come_shows hs homes r t (given_low r (given 0 r (omega arith))) shows)
