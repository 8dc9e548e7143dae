-- Turns of the loop over functions, and what holds of those that are made by their numbers.
use Rattle.std.proofs.Common.{◌≡◌, List, [], ◌∷◌, ◌++◌, length, All, sym, ap, ◌∙◌, subst, arith}
use Rattle.std.specs.List.{AllZip}
use Rattle.std.proofs.lemmas.List.{append_assoc, append-nil}
use Rattle.std.proofs.lemmas.List.Elements.{All-nil, All-cons, All-head, All-tail}
use Rattle.temp_ir.specs.Programs.{TempFn}
use Rattle.block_passes.specs.model.Limits.{CanBeSplit}

-- those that are ready, with what the rest becomes behind them, are what all become
pub record AreReady (gives : TempFn → TempFn → Type 0) (all rest ready : List TempFn) : Type 0 where
  pub whole : (others : List TempFn) → AllZip gives rest others → AllZip gives all (ready ++ others)
  pub small : All CanBeSplit rest

module _ (gives : TempFn → TempFn → Type 0) where
  pub ready_first : (all rest ready : List TempFn) → rest ≡ all → ready ≡ [] → All CanBeSplit all → AreReady gives all rest ready
  ready_first all rest ready same none small = record {
    whole = λ others h. subst (λ l. AllZip gives all (l ++ others)) (sym none) (subst (λ l. AllZip gives l others) same h);
    small = subst (All CanBeSplit) (sym same) small;
  }

  pub ready_small : (all left rest ready : List TempFn) (f : TempFn) → AreReady gives all left ready → left ≡ f ∷ rest → CanBeSplit f
  ready_small all left rest ready f so is = All-head CanBeSplit f rest (subst (All CanBeSplit) is so.small)

  pub ready_more : (all left rest ready new : List TempFn) (f g : TempFn) → AreReady gives all left ready → left ≡ f ∷ rest → gives f g → new ≡ ready ++ g ∷ [] → AreReady gives all rest new
  ready_more all left rest ready new f g so is one put = record {
    whole = λ others h.
        subst (AllZip gives all) (sym (append_assoc ready (g ∷ []) others) ∙ ap (λ l. l ++ others) (sym put))
        (so.whole (g ∷ others) (subst (λ l. AllZip gives l (g ∷ others)) (sym is) (one, h)));
    small = All-tail CanBeSplit f rest (subst (All CanBeSplit) is so.small);
  }

  pub ready_end : (all left ready : List TempFn) → AreReady gives all left ready → length left ≡ 0 → AllZip gives all ready
  ready_end all [] ready so none = subst (AllZip gives all) (append-nil ready) (so.whole [] tt)
  ready_end all (f ∷ left) ready so none = absurd (omega (arith, none))

  -- what follows for each
  pub each_gives : (Q : TempFn → TempFn → Type 0) → ((f g : TempFn) → gives f g → Q f g) → (fs gs : List TempFn) → AllZip gives fs gs → AllZip Q fs gs
  each_gives Q follows [] [] h = tt
  each_gives Q follows [] (g ∷ gs) h = absurd h
  each_gives Q follows (f ∷ fs) [] h = absurd h
  each_gives Q follows (f ∷ fs) (g ∷ gs) h = (follows f g h.0, each_gives Q follows fs gs h.1)

  pub all_give : (P Q : TempFn → Type 0) → ((f g : TempFn) → gives f g → P f → Q g) → (fs gs : List TempFn) → AllZip gives fs gs → All P fs → All Q gs
  all_give P Q follows [] [] h all = All-nil Q
  all_give P Q follows [] (g ∷ gs) h all = absurd h
  all_give P Q follows (f ∷ fs) [] h all = absurd h
  all_give P Q follows (f ∷ fs) (g ∷ gs) h all =
      All-cons Q g gs (follows f g h.0 (All-head P f fs all)) (all_give P Q follows fs gs h.1 (All-tail P f fs all))
