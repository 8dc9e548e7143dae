use Rattle.binpack_scan.proofs.crossing.put_moves.Goals as goal

pub returns : goal.returns
returns c = (c.hold_all.new.holders, c.hold_all.ensures, c.in_ok-put_shifts.ensures)
