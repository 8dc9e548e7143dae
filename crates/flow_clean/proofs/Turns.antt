-- Turns of the loops over functions, and what holds of those that are made by their numbers.
use Rattle.std.proofs.Common.{◌≡◌, ℕ, ◌+◌, ◌<◌, List, [], ◌∷◌, ◌++◌, length, take, get_or, All, sym, ap, ◌∙◌, subst, arith}
use Rattle.std.specs.List.{AllZip}
use Rattle.std.proofs.lemmas.List.{append_assoc, append-nil}
use Rattle.std.proofs.lemmas.List.Elements.{All-nil, All-cons, All-head, All-tail, all_zip_more}
use Rattle.suifvm_ir.specs.Programs.{VmFunction}

-- those that are ready, with what the rest becomes behind them, are what all become
pub record AreReady (needs : VmFunction → Type 0) (gives : VmFunction → VmFunction → Type 0) (all rest ready : List VmFunction) : Type 0 where
  pub whole : (others : List VmFunction) → AllZip gives rest others → AllZip gives all (ready ++ others)
  pub left : All needs rest

module _ (needs : VmFunction → Type 0) (gives : VmFunction → VmFunction → Type 0) where
  pub ready_needs : (all left rest ready : List VmFunction) (f : VmFunction) → AreReady needs gives all left ready → left ≡ f ∷ rest → needs f
  ready_needs all left rest ready f so is = All-head needs f rest (subst (All needs) is so.left)

  pub ready_more : (all left rest ready new : List VmFunction) (f g : VmFunction) → AreReady needs gives all left ready → left ≡ f ∷ rest → gives f g → new ≡ ready ++ g ∷ [] → AreReady needs gives all rest new
  ready_more all left rest ready new f g so is one put = record {
    whole = λ others h.
        subst (AllZip gives all) (sym (append_assoc ready (g ∷ []) others) ∙ ap (λ l. l ++ others) (sym put))
        (so.whole (g ∷ others) (subst (λ l. AllZip gives l (g ∷ others)) (sym is) (one, h)));
    left = All-tail needs f rest (subst (All needs) is so.left);
  }

  pub ready_end : (all left ready : List VmFunction) → AreReady needs gives all left ready → length left ≡ 0 → AllZip gives all ready
  ready_end all [] ready so none = subst (AllZip gives all) (append-nil ready) (so.whole [] tt)
  ready_end all (f ∷ left) ready so none = absurd (omega (arith, none))

module _ (gives : VmFunction → VmFunction → Type 0) where
  -- a turn over functions that stay
  pub turn_more : (all made new : List VmFunction) (at : ℕ) (f g : VmFunction) → at < length all → f ≡ get_or all at f → AllZip gives (take at all) made → gives f g → new ≡ made ++ g ∷ [] →
      AllZip gives (take (at + 1) all) new
  turn_more all made new at f g within is so one put = subst (AllZip gives (take (at + 1) all)) (sym put) (all_zip_more gives all made at f g within is so one)

  -- what follows for each
  pub each_gives : (Q : VmFunction → VmFunction → Type 0) → ((f g : VmFunction) → gives f g → Q f g) → (fs gs : List VmFunction) → AllZip gives fs gs → AllZip Q fs gs
  each_gives Q follows [] [] h = tt
  each_gives Q follows [] (g ∷ gs) h = absurd h
  each_gives Q follows (f ∷ fs) [] h = absurd h
  each_gives Q follows (f ∷ fs) (g ∷ gs) h = (follows f g h.0, each_gives Q follows fs gs h.1)

  pub all_give : (P Q : VmFunction → Type 0) → ((f g : VmFunction) → gives f g → P f → Q g) → (fs gs : List VmFunction) → AllZip gives fs gs → All P fs → All Q gs
  all_give P Q follows [] [] h all = All-nil Q
  all_give P Q follows [] (g ∷ gs) h all = absurd h
  all_give P Q follows (f ∷ fs) [] h all = absurd h
  all_give P Q follows (f ∷ fs) (g ∷ gs) h all =
      All-cons Q g gs (follows f g h.0 (All-head P f fs all)) (all_give P Q follows fs gs h.1 (All-tail P f fs all))
