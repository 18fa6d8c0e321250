use Rattle.std.proofs.Common.{refl}
use Rattle.wire.specs.Numbers.{little_endian_of}
use Rattle.wire.specs.Response.{response_header}
use Rattle.wire.proofs.response.response_header.Goals as goal

pub returns : goal.returns
unfolding response_header little_endian_of
returns c =
    rw (
      c.put-8.ensures.0,
      c.put-7.ensures.0,
      c.put-6.ensures.0,
      c.put-5.ensures.0,
      c.put-4.ensures.0,
      c.put-3.ensures.0,
      c.put-2.ensures.0,
      c.put.ensures.0,
      c.bytes_of_u32.ensures,
      c.bytes_of_u16.ensures,
      c.bytes_of_u64.ensures,
      c.bytes_of_u32-2.ensures,
      c.bytes_of_u16-2.ensures,
      c.bytes_of_u16-3.ensures,
    )
    refl
