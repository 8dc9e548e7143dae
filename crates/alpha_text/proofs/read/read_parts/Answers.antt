-- Each part reaches what stands behind it, and a fault of a part is that of the text.
use Rattle.std.proofs.Common.{[]}
use Rattle.alpha_text.specs.Wrong.{Data}
use Rattle.alpha_text.specs.Read.{IsTextFault}
use Rattle.alpha_text.proofs.Joined.{fault_from, raised_fault, behind_head, behind_items, behind_bytes, head_fault, items_fault, none_at}
use Rattle.alpha_text.proofs.read.read_parts.Goals as goal

pub returns-in_err-read_head-clause-fault : goal.returns-in_err-read_head-clause-fault
returns-in_err-read_head-clause-fault c =
    let text = c.args.text.now in
    let f = c.in_err-read_head.field-0.0 in
    raised_fault (IsTextFault text) c.from_residual-in_err-read_head.result f (head_fault text c.new-lines.result f c.new-lines.ensures c.in_err-read_head.ensures.fault) c.from_residual-in_err-read_head.ensures.1

pub returns-in_err-items-clause-fault : goal.returns-in_err-items-clause-fault
returns-in_err-items-clause-fault c =
    let text = c.args.text.now in
    let f = c.in_err-items.field-0.0 in
    let head = behind_head text c.new-lines.result c.read_head.new.lines c.new-lines.ensures c.in_ok-read_head.ensures.read in
    raised_fault (IsTextFault text) c.from_residual-in_err-items.result f (items_fault text c.in_ok-survey.survey.text.now c.read_head.new.lines f c.in_ok-survey.ensures.text head c.in_err-items.ensures.fault) c.from_residual-in_err-items.ensures.1

pub returns-in_err-bytes-clause-fault : goal.returns-in_err-bytes-clause-fault
returns-in_err-bytes-clause-fault c =
    let text = c.args.text.now in
    let f = c.in_err-bytes.field-0.0 in
    let items = c.in_ok-items.items.items in
    let n = c.in_ok-items.count in
    let head = behind_head text c.new-lines.result c.read_head.new.lines c.new-lines.ensures c.in_ok-read_head.ensures.read in
    let body = behind_items text c.in_ok-survey.survey.text.now items n c.read_head.new.lines c.read_items.new.lines c.in_ok-survey.ensures.text head c.in_ok-items.ensures.read in
    raised_fault (IsTextFault text) c.from_residual-in_err-bytes.result f (fault_from text (Data items n [] []) c.read_items.new.lines f body (c.in_err-bytes.ensures.fault _ items)) c.from_residual-in_err-bytes.ensures.1

pub returns-in_err-fixes-clause-fault : goal.returns-in_err-fixes-clause-fault
returns-in_err-fixes-clause-fault c =
    let text = c.args.text.now in
    let f = c.in_err-fixes.field-0.0 in
    let items = c.in_ok-items.items.items in
    let n = c.in_ok-items.count in
    let bytes = c.in_ok-bytes.bytes.items in
    let head = behind_head text c.new-lines.result c.read_head.new.lines c.new-lines.ensures c.in_ok-read_head.ensures.read in
    let body = behind_items text c.in_ok-survey.survey.text.now items n c.read_head.new.lines c.read_items.new.lines c.in_ok-survey.ensures.text head c.in_ok-items.ensures.read in
    let rows = behind_bytes text items n bytes c.read_items.new.lines c.read_bytes.new.lines body c.in_ok-bytes.ensures.read.1 in
    raised_fault (IsTextFault text) c.from_residual-in_err-fixes.result f (fault_from text (Data items n bytes []) c.read_bytes.new.lines f rows (c.in_err-fixes.ensures.fault _ items bytes c.in_ok-bytes.ensures.read.0)) c.from_residual-in_err-fixes.ensures.1

pub returns-clause-read : goal.returns-clause-read
returns-clause-read c =
    let text = c.args.text.now in
    let items = c.in_ok-items.items.items in
    let n = c.in_ok-items.count in
    let bytes = c.in_ok-bytes.bytes.items in
    let head = behind_head text c.new-lines.result c.read_head.new.lines c.new-lines.ensures c.in_ok-read_head.ensures.read in
    let body = behind_items text c.in_ok-survey.survey.text.now items n c.read_head.new.lines c.read_items.new.lines c.in_ok-survey.ensures.text head c.in_ok-items.ensures.read in
    let rows = behind_bytes text items n bytes c.read_items.new.lines c.read_bytes.new.lines body c.in_ok-bytes.ensures.read.1 in
    none_at text items n bytes c.in_ok-fixes.fixes.items c.read_bytes.new.lines rows c.in_ok-bytes.ensures.read.0 c.in_ok-fixes.ensures.read
