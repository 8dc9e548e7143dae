use Rattle.std.proofs.Common.{◌≡◌, ℕ, ◌+◌, List, ◌++◌, take, drop, length, ◌∙◌, sym, ap, subst, append_assoc, length-drop, ◌-◌, arith, Option, Some, None}
use Rattle.std.proofs.Math.Seq.{take-add}
use Rattle.std.proofs.lemmas.List.{take_all}
use Rattle.std.specs.Io.KnownBytes.{Appends}
use Rattle.bk_io.proofs.host.write_all.Goals as goal

-- what is written twice is written once
appends_both : (old mid new : Option (List ℕ)) (xs ys : List ℕ) → Appends old mid xs → Appends mid new ys → Appends old new (xs ++ ys)
appends_both None mid new xs ys first second = tt
appends_both (Some a) None new xs ys first second = elim first [ ]
appends_both (Some a) (Some b) None xs ys first second = elim second [ ]
appends_both (Some a) (Some b) (Some c) xs ys first second = second ∙ ap (λ front. front ++ ys) first ∙ append_assoc a xs ys

-- a further front of the rest, which was cut at its length
front_on : (at n : ℕ) (xs : List ℕ) → take at xs ++ take n (take (length xs - at) (drop at xs)) ≡ take (at + n) xs
front_on at n xs =
    ap (λ rest. take at xs ++ take n rest) (take_all (length xs - at) (drop at xs) (omega (arith, length-drop at xs)))
    ∙ sym (take-add at n xs)

pub loop-turn-preserved : goal.loop-turn-preserved
loop-turn-preserved g c = record {
  within = omega (arith, c.in_ok-at.ensures);
  more = omega (arith, c.in_ok-at.ensures, c.loop-turn.invariant.more);
  written = subst (λ front. Appends (g.W.Write.contents c.args.writer.now) (g.W.Write.contents c.write_some.new.writer) front) (front_on c.loop-turn.at c.in_ok-at.field-0 c.args.bytes.now)
      (appends_both _ _ _ _ _ c.loop-turn.invariant.written c.in_ok-at.ensures.2);
}
