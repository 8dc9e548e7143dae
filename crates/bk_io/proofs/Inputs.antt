-- What a source gives, call after call.
use Rattle.std.proofs.Common.{◌≡◌, ℕ, ◌<◌, List, All, [], ◌∷◌, ◌++◌, drop, Option, Some, None, IfSome, Result, Ok, Err, option_map, refl, sym, ap, ◌∙◌, subst, append_assoc}
use Rattle.std.specs.Prelude.{slice_get, IsSome, IfOk, unwrap_or}
use Rattle.std.proofs.lemmas.List.Elements.{All-nil, All-cons}
use Rattle.bk_io.specs.Outside.{left_after, given, given_by, MayGive, Gives, OnInput}

-- ---- one call

byte_is : (byte : ℕ) (left : List ℕ) → Some byte ≡ slice_get left 0 → left ≡ byte ∷ drop 1 left
byte_is byte [] e = cc
byte_is byte (x ∷ xs) e = let same : byte ≡ x = cc in ap (λ y. y ∷ xs) (sym same)

none_is : (left : List ℕ) → None ≡ slice_get left 0 → left ≡ []
none_is [] e = refl
none_is (x ∷ xs) e = cc

-- a byte that was given stands before what may follow
behind_byte : (byte : ℕ) (old : Option (List ℕ)) → byte < 256 → IfSome old (λ left. Some byte ≡ slice_get left 0) → (rest : List ℕ) → MayGive (option_map (drop 1) old) rest → MayGive old (byte ∷ rest)
behind_byte byte None small first rest may = All-cons (λ b. b < 256) byte rest small may
behind_byte byte (Some left) small first rest may = ap (λ r. byte ∷ r) may ∙ sym (byte_is byte left first)

-- where the end is found, nothing may be given
behind_end : (old : Option (List ℕ)) → IfSome old (λ left. None ≡ slice_get left 0) → (rest : List ℕ) → rest ≡ [] → MayGive old rest
behind_end None first rest may = subst (All (λ b. b < 256)) (sym may) (All-nil (λ b. b < 256))
behind_end (Some left) first rest may = may ∙ sym (none_is left first)

tells_on : (left : Option (List ℕ)) → IfSome left (λ _. IsSome left)
tells_on None = tt
tells_on (Some left) = refl

tells_rest : (left : Option (List ℕ)) → IfSome left (λ _. IsSome (option_map (drop 1) left))
tells_rest None = tt
tells_rest (Some left) = refl

tells_none : (left : Option (List ℕ)) → IfSome left (λ _. IsSome {T = List ℕ} (Some []))
tells_none None = tt
tells_none (Some left) = refl

-- nothing was given
pub gives_nothing : (left : Option (List ℕ)) → Gives [] left left
gives_nothing left = record { behind = λ rest may. may; tells = tells_on left }

gives_after : {E : Type 0} (r : Result (Option ℕ) E) (old : Option (List ℕ)) → IfOk r (λ byte. IfSome byte (λ b. b < 256)) → IfOk r (λ byte. IfSome old (λ left. byte ≡ slice_get left 0)) → Gives (given_by r) old (left_after r old)
gives_after (Ok (Some byte)) old small first = record { behind = behind_byte byte old small first; tells = tells_rest old }
gives_after (Ok None) old small first = record { behind = behind_end old first; tells = tells_none old }
gives_after (Err e) old small first = gives_nothing old

pub call_gives : {E : Type 0} (r : Result (Option ℕ) E) (old new : Option (List ℕ)) → IfOk r (λ byte. IfSome byte (λ b. b < 256)) → IfOk r (λ byte. IfSome old (λ left. byte ≡ slice_get left 0)) → new ≡ left_after r old → Gives (given_by r) old new
call_gives r old new small first is = subst (Gives (given_by r) old) (sym is) (gives_after r old small first)

-- what was given is the first of the input, and what may follow is the rest of it
pub given_first : (byte : Option ℕ) (old new : Option (List ℕ)) (rest : List ℕ) → new ≡ left_after {E = Unit {0}} (Ok byte) old → MayGive new rest → (byte ≡ slice_get (given byte ++ rest) 0) × (drop 1 (given byte ++ rest) ≡ rest)
given_first (Some byte) old new rest is may = (refl, refl)
given_first None old new rest is may =
    let none : rest ≡ [] = subst (λ left. MayGive left rest) is may in
    (ap (λ r. slice_get r 0) (sym none), ap (drop 1) none ∙ sym none)

-- ---- call after call

pub gives_both : (xs ys : List ℕ) (old mid new : Option (List ℕ)) → Gives xs old mid → Gives ys mid new → Gives (xs ++ ys) old new
gives_both xs ys old mid new first second = record {
  behind = λ rest may. subst (MayGive old) (sym (append_assoc xs ys rest)) (first.behind (ys ++ rest) (second.behind rest may));
  tells = both_tell old mid new first.tells second.tells;
}
  where
    both_tell : (a b c : Option (List ℕ)) → IfSome a (λ _. IsSome b) → IfSome b (λ _. IsSome c) → IfSome a (λ _. IsSome c)
    both_tell None b c p q = tt
    both_tell (Some x) None c p q = cc
    both_tell (Some x) (Some y) c p q = q

-- what holds where nothing was given
pub on_nothing : (left : Option (List ℕ)) (P : (input rest : List ℕ) → Type 0) → ((rest : List ℕ) → MayGive left rest → P rest rest) → OnInput left left P
on_nothing left P holds = ([], gives_nothing left, holds)

-- what holds after more calls
pub on_both : (old mid new : Option (List ℕ)) (P Q R : (input rest : List ℕ) → Type 0) → ((input between rest : List ℕ) → P input between → Q between rest → R input rest) → OnInput old mid P → OnInput mid new Q → OnInput old new R
on_both old mid new P Q R join first second = (
  first.0 ++ second.0,
  gives_both first.0 second.0 old mid new first.1 second.1,
  λ rest may. subst (λ input. R input rest) (sym (append_assoc first.0 second.0 rest))
      (join (first.0 ++ (second.0 ++ rest)) (second.0 ++ rest) rest (first.2 (second.0 ++ rest) (second.1.behind rest may)) (second.2 rest may)),
)

-- what holds of every input and its rest
pub on_same : (old new : Option (List ℕ)) (P Q : (input rest : List ℕ) → Type 0) → ((input rest : List ℕ) → P input rest → Q input rest) → OnInput old new P → OnInput old new Q
on_same old new P Q holds on = (on.0, on.1, λ rest may. holds (on.0 ++ rest) rest (on.2 rest may))

-- ---- a source that tells what is left

some_rest : (left : Option (List ℕ)) → MayGive left (unwrap_or left [])
some_rest None = All-nil (λ b. b < 256)
some_rest (Some left) = refl

told_rest : (left : Option (List ℕ)) → IsSome left → left ≡ Some (unwrap_or left [])
told_rest None e = cc
told_rest (Some left) e = refl

-- the input is what it told
pub on_told : (old new : Option (List ℕ)) (P : (input rest : List ℕ) → Type 0) (input : List ℕ) → old ≡ Some input → OnInput old new P → (rest : List ℕ) × (new ≡ Some rest) × P input rest
on_told old new P input told on =
    let rest : List ℕ = unwrap_or new [] in
    let whole : on.0 ++ rest ≡ input = subst (λ o. MayGive o (on.0 ++ rest)) told (on.1.behind rest (some_rest new)) in
    (rest, told_rest new (subst (λ o. IfSome o (λ _. IsSome new)) told on.1.tells), subst (λ i. P i rest) whole (on.2 rest (some_rest new)))
