use Rattle.std.proofs.Common.{rules, arith, ◌≡◌, false, sym, ◌∙◌}
use Rattle.std.proofs.lemmas.Bool.{leb-true}
use Rattle.alpha_items.specs.Layout.{is_far}
use Rattle.alpha_asm.proofs.Judge.{on_true, branch_at}
use Rattle.alpha_asm.proofs.Growth.{ahead_far, back_far}
use Rattle.alpha_asm.proofs.spread.is_too_far.Goals as goal

pub returns-then-i-target-clause-forced : goal.returns-then-i-target-clause-forced
returns-then-i-target-clause-forced c =
    let short : is_far c.args.far.now c.args.i ≡ false = search rules in
    let at = branch_at c.args.items.now c.args.far.now c.args.targets.now c.args.i c.index-items-i.result c.requires.targets c.requires.inside c.index-items-i.is (sym c.is_branch.ensures ∙ c.if-not-is_branch.false) short in
    let in_text = c.requires.targets.inside c.args.i c.requires.inside in
    let between = c.words_between.ensures c.args.items.now c.args.far.now c.requires.sums c.requires.far (omega (arith, c.if-i-target.true)) (omega (arith, in_text)) in
    on_true _ _ (λ h. ahead_far _ _ _ _ c.words_between.result at c.requires.far c.requires.inside c.if-i-target.true between (leb-true _ _ h))

pub returns-else-i-target-clause-forced : goal.returns-else-i-target-clause-forced
returns-else-i-target-clause-forced c =
    let short : is_far c.args.far.now c.args.i ≡ false = search rules in
    let at = branch_at c.args.items.now c.args.far.now c.args.targets.now c.args.i c.index-items-i.result c.requires.targets c.requires.inside c.index-items-i.is (sym c.is_branch.ensures ∙ c.if-not-is_branch.false) short in
    let between = c.words_between-else-i-target.ensures c.args.items.now c.args.far.now c.requires.sums c.requires.far c.if-i-target.false (omega (arith, c.requires.inside)) in
    on_true _ _ (λ h. back_far _ _ _ _ c.words_between-else-i-target.result at c.requires.far c.requires.inside c.if-i-target.false between (leb-true _ _ h))
