use Rattle.std.proofs.Common.{refl, ◌∙◌, arith}
use Rattle.std.specs.List.{AllZip}
use Rattle.block_passes.specs.Keeps.{KeepsFunction}
use Rattle.block_passes.specs.model.Walks.{KeepsWalks}
use Rattle.block_passes.proofs.Turns.{each_gives}
use Rattle.block_passes.proofs.Lawful.{same_length, same_mains, all_lawful}
use Rattle.block_passes.proofs.Whole.{walks_keep, parts_keep, parts_reached}
use Rattle.block_passes.proofs.programs.remove_unreachable_blocks.Goals as goal

pub invariant_of-result : goal.invariant_of-result
invariant_of-result c =
    let p = c.args.program in
    let gs = c.in_ok-functions.functions in
    let all : AllZip (KeepsFunction 0) p.functions gs = each_gives (KeepsWalks 0) (KeepsFunction 0) (λ f g k. k.keeps) p.functions gs (parts_keep p.functions gs c.in_ok-functions.ensures) in
    let few = p.few_functions in
    record {
      few_functions = omega (arith, same_length 0 p.functions gs all, few);
      globals_lawful = p.globals_lawful;
      one_main = same_mains 0 p.functions gs all ∙ p.one_main;
      functions_lawful = all_lawful 0 p.functions gs p.globals all p.functions_lawful;
    }

pub returns-clause-keeps : goal.returns-clause-keeps
returns-clause-keeps c =
    walks_keep 0 c.args.program _ (parts_keep c.args.program.functions c.in_ok-functions.functions c.in_ok-functions.ensures) refl

pub returns-clause-reached : goal.returns-clause-reached
returns-clause-reached c = parts_reached c.args.program.functions c.in_ok-functions.functions c.in_ok-functions.ensures
