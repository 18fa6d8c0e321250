use Rattle.wire.proofs.BufferLaws.{wrote_on}
use Rattle.messages.proofs.WriteLaws.{verify_body}
use Rattle.messages.proofs.write.write_verify_body.Goals as goal

pub returns : goal.returns
returns c = rw verify_body (wrote_on (wrote_on c.write_bytes-name_size.ensures.0 c.write_bytes-hash_size.ensures.0) c.write_bytes-signature_size.ensures.0)
