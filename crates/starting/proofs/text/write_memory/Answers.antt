use Rattle.starting.proofs.TextLaws.{bill_wrote, always_written}
use borrow.Author.Rules.{rules}
use Rattle.starting.proofs.text.write_memory.Goals as goal

pub returns-in-Ok : goal.returns-in-Ok
returns-in-Ok c =
    let (room, connected, registered) = c.requires in
    bill_wrote _ _ _ _ room connected registered c.write_bill.ensures _ c.in-Ok.is

pub returns-in_default : goal.returns-in_default
returns-in_default c =
    let (room, connected, registered) = c.requires in
    absurd (always_written _ _ _ _ room connected registered c.write_bill.ensures c.in_default.not-Ok)
