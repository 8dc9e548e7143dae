-- The texts of functions, one behind the other.
use Rattle.std.proofs.Common.{◌≡◌, ℕ, zero, suc, ◌+◌, ◌<◌, ◌≤◌, List, [], ◌∷◌, ◌++◌, length, get_or, drop, refl, sym, ap, ◌∙◌, subst, append_assoc, append-nil, add-one, arith}
use Rattle.temp_ir.specs.Programs.{TempFn}
use Rattle.alloc_live_lines.specs.Lives.{IsLiveText, AreLiveTexts}
use Rattle.alloc_live_lines.specs.model.Puts.{Puts}

-- what was put, and that the texts of the functions from one on complete it
pub record AreSoFar (functions : List TempFn) (at : ℕ) (old new : List ℕ) : Type 0 where
  pub shown : List ℕ
  pub is : new ≡ old ++ shown
  pub completed : (rest : List ℕ) → AreLiveTexts (drop at functions) rest → AreLiveTexts functions (shown ++ rest)

pub none_so_far : (functions : List TempFn) (old : List ℕ) → AreSoFar functions 0 old old
none_so_far functions old = record { shown = []; is = sym (append-nil old); completed = λ rest texts. texts }

-- the functions from one on are that one and those behind it
one_on : (functions : List TempFn) (at : ℕ) (f d : TempFn) (own rest : List ℕ) → at < length functions → f ≡ get_or functions at d → IsLiveText f own → AreLiveTexts (drop (suc at) functions) rest → AreLiveTexts (drop at functions) (own ++ rest)
one_on [] at f d own rest within is text texts = absurd (omega (arith, within))
one_on (g ∷ functions) zero f d own rest within is text texts = (own, rest, subst (λ h. IsLiveText h own) is text, texts, refl)
one_on (g ∷ functions) (suc at) f d own rest within is text texts = one_on functions at f d own rest (omega (arith, within)) is text texts

pub one_more : (functions : List TempFn) (at : ℕ) (f d : TempFn) (old mid new : List ℕ) → at < length functions → f ≡ get_or functions at d → AreSoFar functions at old mid → Puts (IsLiveText f) mid new → AreSoFar functions (at + 1) old new
one_more functions at f d old mid new within is so_far puts = record {
  shown = so_far.shown ++ puts.0;
  is = puts.2 ∙ ap (λ x. x ++ puts.0) so_far.is ∙ append_assoc old so_far.shown puts.0;
  completed = λ rest texts.
      subst (AreLiveTexts functions) (sym (append_assoc so_far.shown puts.0 rest))
      (so_far.completed (puts.0 ++ rest) (one_on functions at f d puts.0 rest within is puts.1 (subst (λ k. AreLiveTexts (drop k functions) rest) (add-one at) texts)));
}

all_dropped : (functions : List TempFn) (at : ℕ) → length functions ≤ at → drop at functions ≡ []
all_dropped [] zero past = refl
all_dropped [] (suc at) past = refl
all_dropped (f ∷ functions) zero past = absurd (omega (arith, past))
all_dropped (f ∷ functions) (suc at) past = all_dropped functions at (omega (arith, past))

pub all_put : (functions : List TempFn) (at : ℕ) (old new : List ℕ) → length functions ≤ at → AreSoFar functions at old new → Puts (AreLiveTexts functions) old new
all_put functions at old new past so_far =
    let none : AreLiveTexts (drop at functions) [] = subst (λ fs. AreLiveTexts fs []) (sym (all_dropped functions at past)) refl in
    (so_far.shown, subst (AreLiveTexts functions) (append-nil so_far.shown) (so_far.completed [] none), so_far.is)
