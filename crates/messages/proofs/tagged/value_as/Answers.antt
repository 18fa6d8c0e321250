use Rattle.std.proofs.Common.{sym, ◌∙◌, take, drop}
use Rattle.wire.proofs.ListLaws.{length_part}
use Rattle.messages.proofs.TaggedPlacedLaws.{not_one}
use Rattle.messages.proofs.tagged.value_as.Goals as goal

pub returns-in_default-4 : goal.returns-in_default-4
returns-in_default-4 c =
    let s = c.args in
    let long = length_part s.body.now s.start s.len c.requires in
    rw c.in-Boolean.is (sym (not_one (take s.len (drop s.start s.body.now)) (λ e. c.if-len-eq1.false (sym long ∙ e))), tt)
