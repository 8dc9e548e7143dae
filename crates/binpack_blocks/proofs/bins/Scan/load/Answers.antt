use Rattle.std.proofs.Common.{sym, ap, ◌∙◌, subst, ◌≡◌, ◌++◌, ◌∷◌, [], false, Some, slice_set, ◌<◌}
use Rattle.alloc_model.specs.declared.allocation.Transfer.TheVariants.{Load}
use Rattle.binpack_blocks.specs.declared.held.SlotCopy.TheVariants.{Twice}
use Rattle.binpack_blocks.specs.model.Bins.{held_in, held, must_store, relied_behind}
use Rattle.binpack_blocks.specs.model.Steps.Step.{Loads}
use Rattle.binpack_blocks.specs.model.Steps.Steps.{More}
use Rattle.binpack_blocks.proofs.bins.Scan.load.Goals as goal

pub returns-clause-steps : goal.returns-clause-steps
returns-clause-steps c s u may temps wanted lv before =
    More before (Loads c.args.temp c.args.r c.requires.nowhere wanted (subst (λ n. c.args.temp < n) (sym temps) c.requires.low) may
    (record {
      saved = subst (λ l. must_store l (held_in c.args.self.now.bins.items c.args.r) ≡ false) lv c.requires.saved;
      relied = c.put.ensures.relied ∙ c.rely.ensures.relied ∙ ap (λ l. relied_behind l (held_in c.args.self.now.bins.items c.args.r) c.args.self.now.relied) lv;
    })
    (c.put.ensures.bins ∙ ap (λ v. slice_set v.items c.args.r (Some (held c.args.temp Twice))) c.rely.ensures.bins)
    (ap (λ v. v.items) c.put.ensures.made ∙ c.in_ok-push.ensures.items ∙ ap (λ v. v.items ++ Load c.args.temp c.args.r ∷ []) c.rely.ensures.made))
