use Rattle.wire.proofs.BufferLaws.{wrote_on}
use Rattle.messages.proofs.WriteLaws.{key_body_lem}
use Rattle.messages.proofs.write.write_key_body.Goals as goal

pub returns : goal.returns
returns c = rw key_body_lem (wrote_on (wrote_on c.write_bytes-first.ensures.0 c.write_bytes-second.ensures.0) c.write_key_numbers-third.ensures.0)
