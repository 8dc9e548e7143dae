use Rattle.std.proofs.Common.{rules, arith, ◌≡◌, false, get_or, sym, ◌∙◌}
use Rattle.std.proofs.lemmas.Bool.{leb-true, leb-false, ltb-false}
use Rattle.alpha_items.specs.Layout.{is_far}
use Rattle.alpha_asm.proofs.Places.{rest-most}
use Rattle.alpha_asm.proofs.Judge.{on_true, on_false, branch_at, too_far_forth, near_forth}
use Rattle.alpha_asm.proofs.far.is_too_far_forth.Goals as goal

pub overflow_add-result : goal.overflow_add-result
overflow_add-result c =
    let in_text = c.requires.targets.inside c.args.i c.requires.inside in
    let there = c.requires.swept.at (get_or c.args.targets.now c.args.i 0) (omega (arith, c.if-i-target.true)) (omega (arith, in_text)) in
    let few = rest-most c.args.items.now c.args.far.now (get_or c.args.targets.now c.args.i 0) in
    omega (arith, there, few)

pub returns-then-i-target-clause-yes : goal.returns-then-i-target-clause-yes
returns-then-i-target-clause-yes c =
    let short : is_far c.args.far.now c.args.i ≡ false = search rules in
    let at = branch_at c.args.items.now c.args.far.now c.args.targets.now c.args.i c.index-items-i.result c.requires.targets c.requires.inside c.index-items-i.is (sym c.is_branch.ensures ∙ c.if-not-is_branch.false) short in
    let in_text = c.requires.targets.inside c.args.i c.requires.inside in
    on_true _ _ (λ h. too_far_forth _ _ _ _ _ c.requires.inside in_text c.requires.swept at c.if-i-target.true (leb-true _ _ h))

pub returns-then-i-target-clause-no : goal.returns-then-i-target-clause-no
returns-then-i-target-clause-no c =
    let short : is_far c.args.far.now c.args.i ≡ false = search rules in
    let at = branch_at c.args.items.now c.args.far.now c.args.targets.now c.args.i c.index-items-i.result c.requires.targets c.requires.inside c.index-items-i.is (sym c.is_branch.ensures ∙ c.if-not-is_branch.false) short in
    let in_text = c.requires.targets.inside c.args.i c.requires.inside in
    on_false _ _ (λ h. near_forth _ _ _ _ _ c.requires.inside in_text c.requires.swept at (λ _. leb-false _ _ h))

pub returns-else-i-target-clause-no : goal.returns-else-i-target-clause-no
returns-else-i-target-clause-no c =
    let short : is_far c.args.far.now c.args.i ≡ false = search rules in
    let at = branch_at c.args.items.now c.args.far.now c.args.targets.now c.args.i c.index-items-i.result c.requires.targets c.requires.inside c.index-items-i.is (sym c.is_branch.ensures ∙ c.if-not-is_branch.false) short in
    let in_text = c.requires.targets.inside c.args.i c.requires.inside in
    on_false _ _ (λ h. near_forth _ _ _ _ _ c.requires.inside in_text c.requires.swept at (λ before. absurd (omega (arith, before, ltb-false _ _ h))))
