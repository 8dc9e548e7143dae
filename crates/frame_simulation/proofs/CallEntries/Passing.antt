-- What a called function holds at its start.
use Rattle.std.proofs.Common.{◌≡◌, ℕ, zero, suc, ◌+◌, ◌-◌, ◌<◌, ◌≤◌, ◌⊎◌, Bool, true, false, List, [], ◌∷◌, ◌++◌, map, length, take, drop, refl, sym, ap, ◌∙◌, subst, arith, inl, inr}
use Rattle.std.specs.Prelude.{min, if◌then◌else◌}
use Rattle.std.specs.List.{range_with_len}
use Rattle.std.proofs.lemmas.Bool.{eqb-true}
use Rattle.temp_ir.specs.Fixed.{argument_registers}
use Rattle.alloc_model.specs.Contents.{Content, unset_content}
use Rattle.alloc_model.specs.Stores.{empty, put, put_all, first_or_unset}
use Rattle.alloc_model.specs.Effect.{Fixed, Incoming, Outgoing, entry_holders}
use Rattle.alloc_model.specs.Places.{Places, Place, Reg, Slot, In, Out, place_eq, home_of}
use Rattle.frame_simulation.specs.call_entries.Entering.{call_contents, entry_places}

place-true : (p q : Place) → place_eq p q ≡ true → p ≡ q
place-true (Reg a) (Reg b) e = ap Reg (eqb-true a b e)
place-true (Slot a) (Slot b) e = ap Slot (eqb-true a b e)
place-true (In a) (In b) e = ap In (eqb-true a b e)
place-true (Out a) (Out b) e = ap Out (eqb-true a b e)
place-true p q e = absurd (cc)

-- what is given at a place: a register's content, or that of an argument place of the caller
abbrev pub IsGivenAt : (held : Places) → (count : ℕ) → Place → Content → Type 0
IsGivenAt held count (Reg r) c = c ≡ held (Reg r)
IsGivenAt held count (In k) c = (k < count) × (c ≡ held (Out k))
IsGivenAt held count (Slot t) c = ⊥
IsGivenAt held count (Out k) c = ⊥

abbrev pub GivenOrUnset : (held : Places) → (count : ℕ) → Place → Content → Type 0
GivenOrUnset held count q c = (c ≡ unset_content) ⊎ IsGivenAt held count q c

-- lists of places with what they are given
abbrev AllGiven : (held : Places) → (count : ℕ) → List Place → List Content → Type 0
AllGiven held count [] cs = Unit {0}
AllGiven held count (p ∷ ps) cs = IsGivenAt held count p (first_or_unset cs) × AllGiven held count ps (drop 1 cs)

put-given : (held : Places) (count : ℕ) (p : Place) (c : Content) (s : Places) → IsGivenAt held count p c → ((q : Place) → GivenOrUnset held count q (s q)) → (q : Place) → GivenOrUnset held count q (put place_eq p c s q)
put-given held count p c s is h q = by_test (place_eq q p) refl
  where
    by_test : (b : Bool) → place_eq q p ≡ b → GivenOrUnset held count q (if b then c else s q)
    by_test true e = inr (subst (λ z. IsGivenAt held count z c) (sym (place-true q p e)) is)
    by_test false e = h q

all-given : (held : Places) (count : ℕ) (ps : List Place) (cs : List Content) (s : Places) → AllGiven held count ps cs → ((q : Place) → GivenOrUnset held count q (s q)) → (q : Place) → GivenOrUnset held count q (put_all place_eq ps cs s q)
all-given held count [] cs s is h q = h q
all-given held count (p ∷ ps) cs s is h q = all-given held count ps (drop 1 cs) (put place_eq p (first_or_unset cs) s) is.1 (λ z. put-given held count p (first_or_unset cs) s is.0 h z) q

-- ---- the lists of a call

places-given : (held : Places) (count : ℕ) (from n : ℕ) → from + n ≤ count → AllGiven held count (map home_of (map Incoming (range_with_len from n))) (map held (map home_of (map Outgoing (range_with_len from n))))
places-given held count from zero le = tt
places-given held count from (suc n) le = ((omega (arith, le), refl), places-given held count (from + 1) n (omega (arith, le)))

both-given : (held : Places) (count : ℕ) (rs : List ℕ) (n : ℕ) → n ≤ count → AllGiven held count (map home_of (map Fixed rs ++ map Incoming (range_with_len 0 n))) (map held (map home_of (map Fixed rs ++ map Outgoing (range_with_len 0 n))))
both-given held count [] n le = places-given held count 0 n (omega (arith, le))
both-given held count (r ∷ rs) n le = (refl, both-given held count rs n le)

range-length : (held : Places) (from n : ℕ) → length (map held (map home_of (map Outgoing (range_with_len from n)))) ≡ n
range-length held from zero = refl
range-length held from (suc n) = ap suc (range-length held (from + 1) n)

lists-length : (held : Places) (rs : List ℕ) (n : ℕ) → length (map held (map home_of (map Fixed rs ++ map Outgoing (range_with_len 0 n)))) ≡ length rs + n
lists-length held [] n = range-length held 0 n ∙ (let e : n ≡ 0 + n = omega arith in e)
lists-length held (r ∷ rs) n = ap suc (lists-length held rs n) ∙ (let e : suc (length rs + n) ≡ suc (length rs) + n = omega arith in e)

registers-length : (n : ℕ) → length (argument_registers n) + (n - 6) ≡ n
registers-length zero = refl
registers-length (suc zero) = refl
registers-length (suc (suc zero)) = refl
registers-length (suc (suc (suc zero))) = refl
registers-length (suc (suc (suc (suc zero)))) = refl
registers-length (suc (suc (suc (suc (suc zero))))) = refl
registers-length (suc (suc (suc (suc (suc (suc n)))))) =
    let count = suc (suc (suc (suc (suc (suc n))))) in
    let six : min count 6 ≡ 6 = omega arith in
    let all : 6 + (count - 6) ≡ count = omega arith in
    let registers : List ℕ = 16 ∷ 17 ∷ 18 ∷ 19 ∷ 20 ∷ 21 ∷ [] in
    ap (λ m. length (take m registers) + (count - 6)) six ∙ all

pub passed-length : (function n : ℕ) (held : Places) → length (call_contents function n held) ≡ n
passed-length function n held = lists-length held (argument_registers n) (n - 6) ∙ registers-length n

-- each place holds nothing, or what the caller gives there
pub entry-given : (function n : ℕ) (held : Places) (q : Place) → GivenOrUnset held (n - 6) q (entry_places (call_contents function n held) q)
entry-given function n held q =
    subst (λ m. GivenOrUnset held (n - 6) q (put_all place_eq (map home_of (entry_holders m)) (call_contents function n held) empty q)) (sym (passed-length function n held))
    (all-given held (n - 6) (map home_of (entry_holders n)) (call_contents function n held) empty (both-given held (n - 6) (argument_registers n) (n - 6) (omega arith)) (λ z. inl refl) q)
