use Rattle.std.proofs.Common.{◌≡◌, ◌++◌, drop}
use Rattle.cfg.specs.cfg_text.Text.{followers_text}
use Rattle.cfg.proofs.cfg_text.graphs.put_followers.Given as goal

abbrev pub invariant-loop-block : goal.invariant-loop-block
invariant-loop-block l =
    l.out.items ++ followers_text (drop l.block-index l.followers) ≡ l.initial.out.items ++ followers_text l.followers
