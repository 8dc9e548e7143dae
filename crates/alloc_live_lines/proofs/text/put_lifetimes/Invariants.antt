-- What was put, with the text of what is left behind it, is the whole.
use Rattle.std.proofs.Common.{◌≡◌, ◌++◌, drop}
use Rattle.alloc_live_lines.specs.Text.{lifetimes_text}
use Rattle.alloc_live_lines.proofs.text.put_lifetimes.Given as goal

abbrev pub invariant-loop-temp : goal.invariant-loop-temp
invariant-loop-temp l =
    l.out.items ++ lifetimes_text l.temp (drop l.temp l.lists) ≡ l.initial.out.items ++ lifetimes_text 0 l.lists
