-- What is held where at the top of a block.
use Rattle.std.proofs.Common.{◌≡◌, ◌≢◌, ℕ, zero, suc, ◌+◌, ◌==◌, List, [], ◌∷◌, ◌++◌, Bool, true, false, Option, Some, None, if◌then◌else◌, refl, sym, ap, ◌∙◌, inl, inr, subst, ⊎_elim, arith}
use Rattle.std.specs.Prelude.{find, slice_index_or}
use Rattle.std.proofs.lemmas.Bool.{eq-eqb, ne_eqb}
use Rattle.alloc_model.specs.declared.allocation.Loc.TheVariants as loc
use Rattle.alloc_model.specs.declared.allocation.TempPlace.{TempPlace}
use Rattle.alloc_model.specs.Places.{Reg, Slot, Plan, transfers_at}
use Rattle.alloc_model.specs.Needs.{is_live_at, IsNeeded, named_place, place_at_top}
use Rattle.alloc_model.specs.Faithful.{at_top}
use Rattle.binpack_blocks.specs.declared.held.Held.{Held}
use Rattle.binpack_blocks.specs.declared.held.SlotCopy.{SlotCopy}
use Rattle.binpack_blocks.specs.declared.held.SlotCopy.TheVariants.{Own, Twice, Lent}
use Rattle.binpack_blocks.specs.model.Bins.{Bins, held_in, has_temp, IsNowhere, IsOnce, lent, lent_copy}
use Rattle.binpack_blocks.specs.model.Tops.{entry, places_from}
use Rattle.binpack_blocks.proofs.Holders.{test_or_not, not_both, temp_held, temp_is}
use Rattle.binpack_scan.proofs.Claims.{InSlot, Has, Handed}

-- ---- the map of a block's top

found : (t r : ℕ) (ss : List TempPlace) → find (λ (s : TempPlace). s.temp == t) (record { temp = t; place = loc.Reg r } ∷ ss) ≡ Some (record { temp = t; place = loc.Reg r })
found t r ss = ap (λ c. if c then Some (record { temp = t; place = loc.Reg r }) else find (λ (s : TempPlace). s.temp == t) ss) (eq-eqb t t refl)

passed : (t u r : ℕ) (ss : List TempPlace) → u ≢ t → find (λ (s : TempPlace). s.temp == t) (record { temp = u; place = loc.Reg r } ∷ ss) ≡ find (λ (s : TempPlace). s.temp == t) ss
passed t u r ss ne = ap (λ c. if c then Some (record { temp = u; place = loc.Reg r }) else find (λ (s : TempPlace). s.temp == t) ss) (ne_eqb u t ne)

-- what another temporary has is passed by
entry_passed : (live : ℕ → Bool) (t r : ℕ) (o : Option Held) (ss : List TempPlace) → has_temp o t ≡ false → find (λ (s : TempPlace). s.temp == t) (entry live r o ++ ss) ≡ find (λ (s : TempPlace). s.temp == t) ss
entry_passed live t r None ss e = refl
entry_passed live t r (Some h) ss e = by (live h.temp) refl
  where
    by : (c : Bool) → live h.temp ≡ c → find (λ (s : TempPlace). s.temp == t) ((if live h.temp then record { temp = h.temp; place = loc.Reg r } ∷ [] else []) ++ ss) ≡ find (λ (s : TempPlace). s.temp == t) ss
    by true f = ap (λ c. find (λ (s : TempPlace). s.temp == t) ((if c then record { temp = h.temp; place = loc.Reg r } ∷ [] else []) ++ ss)) f
        ∙ passed t h.temp r ss (λ same. not_both (h.temp == t) (eq-eqb h.temp t same) e)
    by false f = ap (λ c. find (λ (s : TempPlace). s.temp == t) ((if c then record { temp = h.temp; place = loc.Reg r } ∷ [] else []) ++ ss)) f

entry_found : (live : ℕ → Bool) (t r : ℕ) (o : Option Held) (ss : List TempPlace) → has_temp o t ≡ true → live t ≡ true → find (λ (s : TempPlace). s.temp == t) (entry live r o ++ ss) ≡ Some (record { temp = t; place = loc.Reg r })
entry_found live t r None ss e lv = absurd (cc)
entry_found live t r (Some h) ss e lv =
    let same : h.temp ≡ t = temp_is h t e in
    ap (λ c. find (λ (s : TempPlace). s.temp == t) ((if c then record { temp = h.temp; place = loc.Reg r } ∷ [] else []) ++ ss)) (ap live same ∙ lv)
    ∙ ap (λ u. find (λ (s : TempPlace). s.temp == t) (record { temp = u; place = loc.Reg r } ∷ ss)) same ∙ found t r ss

-- a live temporary in a register is named with it
pub named_there : (live : ℕ → Bool) (t : ℕ) (bins : Bins) (r q : ℕ) → IsOnce bins → has_temp (held_in bins q) t ≡ true → live t ≡ true →
    find (λ (s : TempPlace). s.temp == t) (places_from live r bins) ≡ Some (record { temp = t; place = loc.Reg (r + q) })
named_there live t [] r q once is lv = absurd (cc)
named_there live t (o ∷ bins) r zero once is lv = entry_found live t r o (places_from live (suc r) bins) is lv ∙ ap (λ n. Some (record { temp = t; place = loc.Reg n })) (let e : r ≡ r + 0 = omega arith in e)
named_there live t (o ∷ bins) r (suc q) once is lv =
    entry_passed live t r o (places_from live (suc r) bins) not_first
    ∙ named_there live t bins (suc r) q (λ u p s a b. let same = once u (suc p) (suc s) a b in omega (arith, same)) is lv
    ∙ ap (λ n. Some (record { temp = t; place = loc.Reg n })) (let e : suc r + q ≡ r + suc q = omega arith in e)
  where
    not_first : has_temp o t ≡ false
    not_first = ⊎_elim (λ (e : has_temp o t ≡ true). absurd (let same = once t 0 (suc q) e is in omega (arith, same))) (λ e. e) (test_or_not (has_temp o t))

-- and one that stands in none is not named
pub not_named : (live : ℕ → Bool) (t : ℕ) (bins : Bins) (r : ℕ) → IsNowhere bins t → find (λ (s : TempPlace). s.temp == t) (places_from live r bins) ≡ None
not_named live t [] r none = refl
not_named live t (o ∷ bins) r none = entry_passed live t r o (places_from live (suc r) bins) (none 0) ∙ not_named live t bins (suc r) (λ q. none (suc q))

-- ---- what is held there

pub lent_temp : (o : Option Held) (t : ℕ) → has_temp (lent o) t ≡ has_temp o t
lent_temp None t = refl
lent_temp (Some h) t = refl

pub lent_only : (o : Option Held) (k : Held) → lent o ≡ Some k → (saved : Bool) × (k.copy ≡ Lent saved)
lent_only None k e = absurd (cc)
lent_only (Some h) k e =
    let same : k.copy ≡ lent_copy h.copy = one h k e in
    let c = is_lent h.copy in (c.0, same ∙ c.1)
  where
    one : (h k : Held) → Some (record { temp = h.temp; copy = lent_copy h.copy }) ≡ Some k → k.copy ≡ lent_copy h.copy
    one h k e = cc

    is_lent : (c : SlotCopy) → (saved : Bool) × (lent_copy c ≡ Lent saved)
    is_lent Own = (false, refl)
    is_lent Twice = (true, refl)
    is_lent (Lent saved) = (saved, refl)

module _ (a : Plan) (b : ℕ) (live : ℕ → Bool) (bins : Bins) (lives : (t : ℕ) → is_live_at a t (suc b) 0 → live t ≡ true)
    (top : slice_index_or a.top (suc b) [] ≡ places_from live 0 bins) (once : IsOnce bins) where
  top_in_register : (t r : ℕ) → has_temp (held_in bins r) t ≡ true → is_live_at a t (suc b) 0 → place_at_top a (suc b) t ≡ Reg r
  top_in_register t r is lv = ap (λ ss. named_place t (find (λ (s : TempPlace). s.temp == t) ss)) top ∙ ap (named_place t) (named_there live t bins 0 r once is (lives t lv)) ∙ ap Reg (let e : 0 + r ≡ r = omega arith in e)

  top_in_slot : (t : ℕ) → IsNowhere bins t → place_at_top a (suc b) t ≡ Slot t
  top_in_slot t none = ap (λ ss. named_place t (find (λ (s : TempPlace). s.temp == t) ss)) top ∙ ap (named_place t) (not_named live t bins 0 none)

  -- at the top of a block other than the first, with what was lent to it
  pub has_at_top : (claims : ℕ → Bool) → ((r : ℕ) → claims r ≡ false) → ((r : ℕ) (k : Held) → held_in bins r ≡ Some k → (saved : Bool) × (k.copy ≡ Lent saved)) →
      Has (λ t. is_live_at a t (suc b) 0) (λ t. IsNeeded a t (suc b)) claims bins (at_top a (suc b))
  has_at_top claims free all_lent = record {
    reg = λ r t is lv. inl (lv, sym (top_in_register t r is lv));
    away = λ t none lv. inl (lv, sym (top_in_slot t none));
    copied = λ r k e lv slot. let c = all_lent r k e in inr (subst (InSlot (IsNeeded a k.temp (suc b))) c.1 slot, refl);
    fixed = λ r c. not_both (claims r) c (free r);
  }

  pub handed_at_top : Handed a (suc b) 0 (transfers_at a (suc b) 0) bins
  handed_at_top = record {
    each = λ r k saved e c lv used. record { register = r; stands = top_in_register k.temp r (temp_held (held_in bins r) k e) lv; used = used };
  }
