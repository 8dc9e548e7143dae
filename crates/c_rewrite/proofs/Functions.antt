-- The functions that were rewritten so far, with what the rest becomes behind them, are what all become.
use Rattle.std.proofs.Common.{◌≡◌, List, [], ◌∷◌, ◌++◌, length, sym, ap, ◌∙◌, subst, arith}
use Rattle.std.specs.List.{AllZip}
use Rattle.std.proofs.lemmas.List.{append_assoc, append-nil}
use Rattle.c_typed_tree.specs.declared.units.TypedFn.{TypedFn}
use Rattle.c_rewrite.specs.Rewritten.{IsRewrittenFn}

pub record AreRewritten (all rest made : List TypedFn) : Type 0 where
  pub whole : (others : List TypedFn) → AllZip IsRewrittenFn rest others → AllZip IsRewrittenFn all (made ++ others)

pub rewritten_first : (all rest made : List TypedFn) → rest ≡ all → made ≡ [] → AreRewritten all rest made
rewritten_first all rest made same none = record {
  whole = λ others h. subst (λ l. AllZip IsRewrittenFn all (l ++ others)) (sym none) (subst (λ l. AllZip IsRewrittenFn l others) same h);
}

pub rewritten_more : (all left rest made new : List TypedFn) (f g : TypedFn) → AreRewritten all left made → left ≡ f ∷ rest → IsRewrittenFn f g
    → new ≡ made ++ g ∷ [] → AreRewritten all rest new
rewritten_more all left rest made new f g so is one put = record {
  whole = λ others h.
      subst (AllZip IsRewrittenFn all) (sym (append_assoc made (g ∷ []) others) ∙ ap (λ l. l ++ others) (sym put))
      (so.whole (g ∷ others) (subst (λ l. AllZip IsRewrittenFn l (g ∷ others)) (sym is) (one, h)));
}

pub rewritten_all : (all left made : List TypedFn) → AreRewritten all left made → length left ≡ 0 → AllZip IsRewrittenFn all made
rewritten_all all [] made so none = subst (AllZip IsRewrittenFn all) (append-nil made) (so.whole [] tt)
rewritten_all all (f ∷ left) made so none = absurd (omega (arith, none))
