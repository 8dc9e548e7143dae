use Rattle.std.proofs.Common.{rules, arith, ◌≡◌, false, get_or, sym, ◌∙◌}
use Rattle.std.proofs.lemmas.Bool.{ltb-true, ltb-false, leb-false}
use Rattle.alpha_items.specs.Layout.{is_far}
use Rattle.alpha_asm.proofs.Places.{place-most}
use Rattle.alpha_asm.proofs.Judge.{on_true, on_false, branch_at, too_far_back, near_back}
use Rattle.alpha_asm.proofs.far.is_too_far_back.Goals as goal

pub overflow_add-result : goal.overflow_add-result
overflow_add-result c =
    let there = c.requires.swept.at (get_or c.args.targets.now c.args.i 0) c.if-target-i.true in
    let few = place-most c.args.items.now c.args.far.now (get_or c.args.targets.now c.args.i 0) in
    omega (arith, there, few)

pub overflow_add-result-then-target-i : goal.overflow_add-result-then-target-i
overflow_add-result-then-target-i c =
    let here = c.requires.swept.at c.args.i (omega arith) in
    let few = place-most c.args.items.now c.args.far.now c.args.i in
    omega (arith, here, few)

pub returns-then-target-i-clause-yes : goal.returns-then-target-i-clause-yes
returns-then-target-i-clause-yes c =
    let short : is_far c.args.far.now c.args.i ≡ false = search rules in
    let at = branch_at c.args.items.now c.args.far.now c.args.targets.now c.args.i c.index-items-i.result c.requires.targets c.requires.inside c.index-items-i.is (sym c.is_branch.ensures ∙ c.if-not-is_branch.false) short in
    on_true _ _ (λ h. too_far_back _ _ _ _ _ c.requires.swept at c.if-target-i.true (ltb-true _ _ h))

pub returns-then-target-i-clause-no : goal.returns-then-target-i-clause-no
returns-then-target-i-clause-no c =
    let short : is_far c.args.far.now c.args.i ≡ false = search rules in
    let at = branch_at c.args.items.now c.args.far.now c.args.targets.now c.args.i c.index-items-i.result c.requires.targets c.requires.inside c.index-items-i.is (sym c.is_branch.ensures ∙ c.if-not-is_branch.false) short in
    on_false _ _ (λ h. near_back _ _ _ _ _ c.requires.swept at (λ _. ltb-false _ _ h))

pub returns-else-target-i-clause-no : goal.returns-else-target-i-clause-no
returns-else-target-i-clause-no c =
    let short : is_far c.args.far.now c.args.i ≡ false = search rules in
    let at = branch_at c.args.items.now c.args.far.now c.args.targets.now c.args.i c.index-items-i.result c.requires.targets c.requires.inside c.index-items-i.is (sym c.is_branch.ensures ∙ c.if-not-is_branch.false) short in
    on_false _ _ (λ h. near_back _ _ _ _ _ c.requires.swept at (λ before. absurd (omega (arith, before, leb-false _ _ h))))
