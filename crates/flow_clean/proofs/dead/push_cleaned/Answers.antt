use Rattle.std.proofs.Common.{◌≡◌, rules, sym, ap, ◌∙◌, subst, length, All}
use Rattle.pass_core.specs.Functions.{UsesRegisters}
use Rattle.bk_ilist.specs.Listing.{items}
use Rattle.suifvm_ir.specs.Insns.{reads_of, writes_of}
use Rattle.flow_clean.proofs.dead.push_cleaned.Goals as goal

pub clean_list-requires-clause-inside : goal.clean_list-requires-clause-inside
clean_list-requires-clause-inside c =
    let same : items c.block.inside.insns.pairs ≡ c.args.block.now = search rules in
    let size : length c.copy_from.new.self ≡ length c.args.wanted.now = ap length c.copy_from.ensures ∙ c.requires.bottom in
    subst (λ n. All (UsesRegisters reads_of writes_of n) (items c.block.inside.insns.pairs)) (sym size)
    (subst (All (UsesRegisters reads_of writes_of (length c.args.wanted.now))) (sym same) c.requires.inside)
