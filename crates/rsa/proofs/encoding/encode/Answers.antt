use Rattle.std.proofs.Common.{length, refl}
use Rattle.rsa.proofs.EncodedLaws.{written}
use Rattle.rsa.proofs.encoding.encode.Goals as goal

pub returns : goal.returns
returns c =
    rw (c.write_whole.ensures, c.copy_from_slice.ensures.after, c.fill.ensures.after (λ y h. h))
    (written (length c.args.em.now) c.args.hash.now c.requires.1 c.requires.0 _ _ refl refl)
