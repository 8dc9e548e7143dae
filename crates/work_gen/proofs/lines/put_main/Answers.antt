use Rattle.std.proofs.Common.{string_bytes, codes, flat_map}
use Rattle.std.specs.List.{range_with_len}
use Rattle.work_gen.specs.Generator.{call_statement}
use Rattle.work_gen.proofs.Loops.{three_pieces}
use Rattle.work_gen.proofs.lines.put_main.Goals as goal

pub returns : goal.returns
returns c =
    three_pieces (string_bytes c.args.text.now)
    (codes "int main(void){unsigned x;int i;x=1;for(i=0;i<4;i++){")
    (flat_map call_statement (range_with_len 0 c.args.size))
    (codes "}putchar(x&127);return x>>25;}\n")
    (string_bytes c.push_str.new.self) (string_bytes c.put_calls.new.text) (string_bytes c.push_str-2.new.self)
    c.in_ok-push_str.ensures.bytes c.in_ok-put_calls.ensures c.in_ok-push_str-2.ensures.bytes
