use Rattle.std.proofs.Common.{rules}
use Rattle.rv_gdb.proofs.Talking.{ran_on}
use Rattle.rv_gdb.proofs.talk.Talk.take_part.Goals as goal

pub returns : goal.returns
returns c =
    ran_on c.end_part-2.result c.args.most c.args.self.now _ c.end_part-2.new.self c.in_ok-end.end c.in_ok-goes_on.goes_on
    c.take_part.new.self c.args.sent.now.items c.end_part.new.out.items c.end_part-2.new.sent.items
    (first_of (search rules, cc)) c.in_ok-goes_on.ensures.says c.in_ok-goes_on.ensures.more
    (first_of (search rules, cc)) c.end_part-2.ensures.state c.end_part-2.ensures.text
